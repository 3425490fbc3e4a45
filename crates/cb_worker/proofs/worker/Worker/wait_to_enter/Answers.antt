-- Goals of `Worker::wait_to_enter`.
use Rattle.std.proofs.Common.{◌∙◌, refl, sym}
use Rattle.cb_worker.proofs.Staying.{after, same}
use Rattle.cb_worker.proofs.Steps.{came_so, refused_so, where_ok}
use Rattle.cb_worker.specs.Admitting.{WasLetIn}
use Rattle.cb_worker.specs.Refusals.{StopsServing}
use Rattle.cb_worker.proofs.worker.Worker.wait_to_enter.Goals as goal

pub loop-init : goal.loop-init
loop-init g c = (tt, tt, same c.args.self.now c.args.self.now refl, c.requires.served, c.requires.refused, c.requires.let_in)

pub returns-in-Some-transpose-clause-let_in : goal.returns-in-Some-transpose-clause-let_in
returns-in-Some-transpose-clause-let_in g c =
    came_so (WasLetIn c.loop.self) c.loop.entered c.in-Some-transpose.answer (sym c.transpose.ensures ∙ c.in-Some-transpose.is) c.loop.invariant.5

pub returns-in-Some-transpose-clause-served : goal.returns-in-Some-transpose-clause-served
returns-in-Some-transpose-clause-served g c =
    where_ok _ c.loop.entered c.in-Some-transpose.answer (sym c.transpose.ensures ∙ c.in-Some-transpose.is) c.loop.invariant.3

pub returns-in-Some-transpose-clause-still : goal.returns-in-Some-transpose-clause-still
returns-in-Some-transpose-clause-still g c = c.loop.invariant.2

pub returns-in-Some-transpose-clause-refused : goal.returns-in-Some-transpose-clause-refused
returns-in-Some-transpose-clause-refused g c =
    refused_so (StopsServing c.loop.self) c.loop.entered c.in-Some-transpose.answer (sym c.transpose.ensures ∙ c.in-Some-transpose.is) c.loop.invariant.4

pub loop-preserved : goal.loop-preserved
loop-preserved g c = (
  tt,
  tt,
  after c.args.self.now c.loop.self c.enter_at-entered.new.self c.loop.invariant.2 c.enter_at-entered.ensures.still,
  c.enter_at-entered.ensures.served,
  c.enter_at-entered.ensures.refused,
  c.enter_at-entered.ensures.let_in,
)
