-- Goals of `Worker::wait_on`.
use Rattle.std.proofs.Common.{◌∙◌, refl, sym}
use Rattle.cb_worker.proofs.Staying.{after, same}
use Rattle.cb_worker.proofs.Steps.{begun_on, came_so, refused_so, stops_so, where_ok}
use Rattle.cb_worker.specs.Steps.{Comes, RefusesToBegin, StopsOr}
use Rattle.cb_worker.proofs.worker.Worker.wait_on.Goals as goal

pub loop-init : goal.loop-init
loop-init g c =
    (tt, tt, same c.args.self.now c.args.self.now refl, c.requires.comes, c.requires.served, c.requires.refused, λ before begun. begun)

pub returns-in-Some-transpose-clause-comes : goal.returns-in-Some-transpose-clause-comes
returns-in-Some-transpose-clause-comes g c =
    came_so (Comes c.args.awaited.now c.loop.self) c.loop.came c.in-Some-transpose.answer (sym c.transpose.ensures ∙ c.in-Some-transpose.is) c.loop.invariant.3

pub returns-in-Some-transpose-clause-served : goal.returns-in-Some-transpose-clause-served
returns-in-Some-transpose-clause-served g c =
    where_ok _ c.loop.came c.in-Some-transpose.answer (sym c.transpose.ensures ∙ c.in-Some-transpose.is) c.loop.invariant.4

pub returns-in-Some-transpose-clause-still : goal.returns-in-Some-transpose-clause-still
returns-in-Some-transpose-clause-still g c = c.loop.invariant.2

pub returns-in-Some-transpose-clause-refused : goal.returns-in-Some-transpose-clause-refused
returns-in-Some-transpose-clause-refused g c =
    refused_so (StopsOr c.loop.self (RefusesToBegin c.args.awaited.now c.loop.self)) c.loop.came c.in-Some-transpose.answer (sym c.transpose.ensures ∙ c.in-Some-transpose.is) c.loop.invariant.5

pub loop-preserved : goal.loop-preserved
loop-preserved g c = (
  tt,
  tt,
  after c.args.self.now c.loop.self c.go_on-came.new.self c.loop.invariant.2 c.go_on-came.ensures.still,
  c.go_on-came.ensures.comes,
  c.go_on-came.ensures.served,
  stops_so c.go_on-came.new.self (RefusesToBegin c.args.awaited.now c.go_on-came.new.self) c.go_on-came.result c.go_on-came.ensures.refused,
  λ before begun. begun_on c.args.awaited.now before c.loop.self c.go_on-came.new.self c.loop.came c.go_on-came.result (sym c.transpose.ensures ∙ c.in_default.is) (c.loop.invariant.6 before begun) c.go_on-came.ensures.still.keeps c.go_on-came.ensures.goes,
)

pub returns-in-Some-transpose-clause-begun : goal.returns-in-Some-transpose-clause-begun
returns-in-Some-transpose-clause-begun g c = λ before begun.
    where_ok _ c.loop.came c.in-Some-transpose.answer (sym c.transpose.ensures ∙ c.in-Some-transpose.is) (c.loop.invariant.6 before begun)
