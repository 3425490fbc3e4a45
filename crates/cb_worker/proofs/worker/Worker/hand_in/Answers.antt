-- Goals of `Worker::hand_in`.
use Rattle.std.proofs.Common.{◌≡◌, ◌∙◌, ◌∷◌, Ok, Err, Result, true, ap, drop, refl, subst, sym}
use Rattle.std.specs.Option.{option_copied}
use Rattle.std.specs.Prelude.{⊤}
use Rattle.cb_station.specs.declared.office_fault.OfficeFault.{OfficeFault}
use Rattle.cb_worker.proofs.Kept.{none_first, oldest_first}
use Rattle.cb_worker.proofs.Turning.{hands_in}
use Rattle.cb_station.specs.Calls.{Took}
use Rattle.cb_worker.specs.declared.worker_fault.WorkerFault.TheVariants as worker
use Rattle.cb_worker.proofs.worker.Worker.hand_in.Goals as goal

pub returns-in-Err-clause-turns : goal.returns-in-Err-clause-turns
returns-in-Err-clause-turns g c =
    let took : Took c.args.station.now c.in-Some.frame.now c.args.self.now.hand c.take_if_known.result c.take_if_known.new.self c.take_if_known.new.hand = rw (← c.self.view_is) c.take_if_known.ensures in
    let first : c.args.self.now.said ≡ c.in-Some.frame.now ∷ drop 1 c.args.self.now.said = rw (← c.self.view_is) (oldest_first c.self.inside.said c.in-Some.frame.now (ap option_copied (sym c.in-Some.is) ∙ c.oldest.ensures)) in
    hands_in c.args.self.now _ c.args.station.now c.take_if_known.new.self c.in-Some.frame.now (drop 1 c.args.self.now.said) (Err (worker.Office c.in-Err.fault)) first (record {
      answer = Err c.in-Err.fault;
      answered = refl;
      took = subst (λ (r : Result ⊤ OfficeFault). Took c.args.station.now c.in-Some.frame.now c.args.self.now.hand r c.take_if_known.new.self c.take_if_known.new.hand) c.in-Err.is took;
      left = rw c.in-Err.ensures.err.1 c.self.view_is;
    })

pub returns-in-Ok-clause-turns : goal.returns-in-Ok-clause-turns
returns-in-Ok-clause-turns g c =
    let took : Took c.args.station.now c.in-Some.frame.now c.args.self.now.hand c.take_if_known.result c.take_if_known.new.self c.take_if_known.new.hand = rw (← c.self.view_is) c.take_if_known.ensures in
    let first : c.args.self.now.said ≡ c.in-Some.frame.now ∷ c.remove_oldest.new.self = rw (c.remove_oldest.ensures, ← c.self.view_is) (oldest_first c.self.inside.said c.in-Some.frame.now (ap option_copied (sym c.in-Some.is) ∙ c.oldest.ensures)) in
    hands_in c.args.self.now _ c.args.station.now c.take_if_known.new.self c.in-Some.frame.now c.remove_oldest.new.self (Ok true) first (record {
      answer = Ok c.in-Ok.field-0;
      answered = refl;
      took = subst (λ (r : Result ⊤ OfficeFault). Took c.args.station.now c.in-Some.frame.now c.args.self.now.hand r c.take_if_known.new.self c.take_if_known.new.hand) c.in-Ok.is took;
      left = rw (← c.self.view_is) refl;
    })

pub unreachable-requires : goal.unreachable-requires
unreachable-requires g c =
    c.requires.said (rw (← c.self.view_is) (none_first c.self.inside.said (ap option_copied (sym c.in_default.is) ∙ c.oldest.ensures)))
