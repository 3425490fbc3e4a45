-- What holds at each turn of the loops of `Worker::wait_to_enter`.
use Rattle.std.specs.Prelude.{IfErr, IfOk, IfSome, OnOk}
use Rattle.cb_worker.specs.Admitting.{WasLetIn}
use Rattle.cb_worker.specs.Refusals.{StopsServing}
use Rattle.cb_worker.specs.Waiting.{IsServed}
use Rattle.cb_worker.specs.Moving.{IsStill}
use Rattle.cb_worker.proofs.worker.Worker.wait_to_enter.Given as goal

-- it stays the same worker, no transaction begins, and of it as it is the last step told
abbrev pub invariant-loop : goal.invariant-loop
invariant-loop g l =
    (goal.iterator-loop g).can_next l.iterator' × (goal.iterator-loop g).is_finite l.iterator'
    × IsStill l.fn.self l.self × OnOk l.entered (IsServed l.self)
    × IfErr l.entered (StopsServing l.self) × IfOk l.entered (λ ticket. IfSome ticket (WasLetIn l.self))
