-- What holds at each turn of the loops of `Worker::wait_on`.
use Rattle.std.specs.Prelude.{IfErr, IfOk, IfSome, OnOk}
use Rattle.cb_worker.specs.Steps.{Begun, Comes, RefusesToBegin, StopsOr}
use Rattle.cb_worker.specs.Waiting.{IsServed}
use Rattle.cb_worker.specs.Workers.{WorkerState}
use Rattle.cb_worker.specs.Moving.{IsStill}
use Rattle.cb_worker.proofs.worker.Worker.wait_on.Given as goal

-- it stays the same worker, no transaction begins, and of it as it is the last step told; what was begun goes on
abbrev pub invariant-loop : goal.invariant-loop
invariant-loop g l =
    (goal.iterator-loop g).can_next l.iterator' × (goal.iterator-loop g).is_finite l.iterator'
    × IsStill l.fn.self l.self × IfOk l.came (λ came. IfSome came (Comes l.fn.awaited l.self)) × OnOk l.came (IsServed l.self)
    × IfErr l.came (StopsOr l.self (RefusesToBegin l.fn.awaited l.self))
    × ((before : WorkerState) → OnOk l.fn.first (Begun l.fn.awaited before l.fn.self) → OnOk l.came (Begun l.fn.awaited before l.self))
