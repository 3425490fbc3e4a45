-- Goals of `Worker::make_turns`.
use Rattle.std.proofs.Common.{◌≡◌, inl, inr, Err, true, false, refl, sym, ◌∙◌, rules}
use Rattle.cb_worker.proofs.Keeping.{as_it_was, then_keeps}
use Rattle.cb_worker.proofs.Knowing.{turn_knows}
use Rattle.cb_worker.proofs.Refusing.{no_halt}
use Rattle.cb_worker.proofs.Serving.{ends, halted_stays, more, none, stopped, stops, unturned}
use Rattle.cb_worker.proofs.Staying.{after, same, turned}
use Rattle.cb_worker.proofs.Going.{goes_same, then_goes}
use Rattle.cb_worker.proofs.Using.{turn_goes, turn_keeps}
use Rattle.cb_worker.specs.Turns.{Turns}
use Rattle.cb_worker.specs.Workers.{seen_by}
use Rattle.cb_worker.specs.declared.worker_fault.WorkerFault.TheVariants as worker
use Rattle.cb_worker.proofs.worker.Worker.make_turns.Goals as goal

pub loop-init : goal.loop-init
loop-init g c = (tt, tt, same c.args.self.now c.args.self.now refl, refl, none Turns c.args.self.now c.args.station.now, inl (refl, refl), as_it_was (seen_by c.args.self.now), goes_same (seen_by c.args.self.now), c.requires)

pub returns-then-is_halted-clause-served : goal.returns-then-is_halted-clause-served
returns-then-is_halted-clause-served g c = tt

pub returns-then-is_halted-clause-still : goal.returns-then-is_halted-clause-still
returns-then-is_halted-clause-still g c = c.loop.invariant.2

pub returns-then-is_halted-clause-halted : goal.returns-then-is_halted-clause-halted
returns-then-is_halted-clause-halted g c = (λ e. sym c.loop.invariant.3 ∙ sym c.if-is_halted.ensures, λ h. refl)

pub returns-in_err-turned-clause-still : goal.returns-in_err-turned-clause-still
returns-in_err-turned-clause-still g c =
    after c.args.self.now c.loop.self c.turn_knowing.new.self c.loop.invariant.2 (turned c.loop.self c.turn_knowing.new.self _ _ _ c.turn_knowing.ensures)

pub returns-in_err-turned-clause-halted : goal.returns-in_err-turned-clause-halted
returns-in_err-turned-clause-halted g c =
    let is : c.from_residual.result ≡ Err c.in_err-turned.field-0.0 = search rules in (
      λ e. absurd (no_halt c.loop.self c.turn_knowing.new.self _ _ c.in_err-turned.field-0.0 c.in_err-turned.ensures (let z : Err c.in_err-turned.field-0.0 ≡ Err worker.Halted = sym is ∙ e in cc)),
      λ h. absurd (let z : false ≡ true = c.if-is_halted.ensures ∙ c.loop.invariant.3 ∙ h in cc),
    )

pub returns-then-not-turned-clause-still : goal.returns-then-not-turned-clause-still
returns-then-not-turned-clause-still g c =
    after c.args.self.now c.loop.self c.turn_knowing.new.self c.loop.invariant.2 (turned c.loop.self c.turn_knowing.new.self _ _ _ c.turn_knowing.ensures)

pub returns-then-not-turned-clause-halted : goal.returns-then-not-turned-clause-halted
returns-then-not-turned-clause-halted g c = (λ e. absurd cc, λ h. absurd (let z : false ≡ true = c.if-is_halted.ensures ∙ c.loop.invariant.3 ∙ h in cc))

pub loop-preserved : goal.loop-preserved
loop-preserved g c =
    (tt, tt, after c.args.self.now c.loop.self c.turn_knowing.new.self c.loop.invariant.2 (turned c.loop.self c.turn_knowing.new.self _ _ _ c.turn_knowing.ensures), halted_stays c.loop.self c.turn_knowing.new.self _ _ _ c.turn_knowing.ensures ∙ c.loop.invariant.3, more Turns c.args.self.now c.loop.self c.turn_knowing.new.self c.args.station.now c.loop.station c.turn_knowing.new.station c.in_ok-turned.turned c.if-not-turned.false c.loop.invariant.4 c.in_ok-turned.ensures, inr (sym c.loop.invariant.3 ∙ sym c.if-is_halted.ensures), then_keeps (seen_by c.args.self.now) (seen_by c.loop.self) (seen_by c.turn_knowing.new.self) c.loop.invariant.6 (turn_keeps c.loop.self c.turn_knowing.new.self _ _ _ c.turn_knowing.ensures), then_goes (seen_by c.args.self.now) (seen_by c.loop.self) (seen_by c.turn_knowing.new.self) c.loop.invariant.7 (turn_goes c.loop.self c.turn_knowing.new.self _ _ _ c.turn_knowing.ensures), turn_knows c.args.known c.loop.self c.turn_knowing.new.self _ _ _ c.loop.invariant.8 c.turn_knowing.ensures)

pub returns-then-is_halted-clause-known : goal.returns-then-is_halted-clause-known
returns-then-is_halted-clause-known g c = c.loop.invariant.8

pub returns-in_err-turned-clause-known : goal.returns-in_err-turned-clause-known
returns-in_err-turned-clause-known g c = turn_knows c.args.known c.loop.self c.turn_knowing.new.self _ _ _ c.loop.invariant.8 c.turn_knowing.ensures

pub returns-then-not-turned-clause-known : goal.returns-then-not-turned-clause-known
returns-then-not-turned-clause-known g c = turn_knows c.args.known c.loop.self c.turn_knowing.new.self _ _ _ c.loop.invariant.8 c.turn_knowing.ensures

pub returns-then-is_halted-clause-serves : goal.returns-then-is_halted-clause-serves
returns-then-is_halted-clause-serves g c = unturned _ c.loop.invariant.5 (c.if-is_halted.ensures ∙ c.loop.invariant.3)

pub returns-in_err-turned-clause-serves : goal.returns-in_err-turned-clause-serves
returns-in_err-turned-clause-serves g c =
    let is : c.from_residual.result ≡ Err c.in_err-turned.field-0.0 = search rules in
    rw is (stops c.args.self.now c.loop.self c.turn_knowing.new.self c.args.station.now c.loop.station c.turn_knowing.new.station c.in_err-turned.field-0.0 c.loop.invariant.4 c.in_err-turned.ensures)

pub returns-then-not-turned-clause-serves : goal.returns-then-not-turned-clause-serves
returns-then-not-turned-clause-serves g c =
    ends c.args.self.now c.loop.self c.turn_knowing.new.self c.args.station.now c.loop.station c.turn_knowing.new.station c.in_ok-turned.turned c.if-not-turned.true c.loop.invariant.4 c.in_ok-turned.ensures

pub returns-in_err-turned-clause-refused : goal.returns-in_err-turned-clause-refused
returns-in_err-turned-clause-refused g c =
    let is : c.from_residual.result ≡ Err c.in_err-turned.field-0.0 = search rules in
    rw is (stopped c.args.self.now c.loop.self c.turn_knowing.new.self c.args.station.now c.loop.station c.turn_knowing.new.station c.in_err-turned.field-0.0 c.history-known.ensures.sound c.loop.invariant.4 c.in_err-turned.ensures)

pub returns-then-is_halted-clause-used : goal.returns-then-is_halted-clause-used
returns-then-is_halted-clause-used g c = c.loop.invariant.6

pub returns-in_err-turned-clause-used : goal.returns-in_err-turned-clause-used
returns-in_err-turned-clause-used g c =
    then_keeps (seen_by c.args.self.now) (seen_by c.loop.self) (seen_by c.turn_knowing.new.self) c.loop.invariant.6 (turn_keeps c.loop.self c.turn_knowing.new.self _ _ _ c.turn_knowing.ensures)

pub returns-then-not-turned-clause-used : goal.returns-then-not-turned-clause-used
returns-then-not-turned-clause-used g c =
    then_keeps (seen_by c.args.self.now) (seen_by c.loop.self) (seen_by c.turn_knowing.new.self) c.loop.invariant.6 (turn_keeps c.loop.self c.turn_knowing.new.self _ _ _ c.turn_knowing.ensures)

pub returns-then-is_halted-clause-goes : goal.returns-then-is_halted-clause-goes
returns-then-is_halted-clause-goes g c = c.loop.invariant.7

pub returns-in_err-turned-clause-goes : goal.returns-in_err-turned-clause-goes
returns-in_err-turned-clause-goes g c =
    then_goes (seen_by c.args.self.now) (seen_by c.loop.self) (seen_by c.turn_knowing.new.self) c.loop.invariant.7 (turn_goes c.loop.self c.turn_knowing.new.self _ _ _ c.turn_knowing.ensures)

pub returns-then-not-turned-clause-goes : goal.returns-then-not-turned-clause-goes
returns-then-not-turned-clause-goes g c =
    then_goes (seen_by c.args.self.now) (seen_by c.loop.self) (seen_by c.turn_knowing.new.self) c.loop.invariant.7 (turn_goes c.loop.self c.turn_knowing.new.self _ _ _ c.turn_knowing.ensures)
