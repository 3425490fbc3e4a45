-- Goals of `Worker::collect`.
use Rattle.std.proofs.Common.{◌≡◌, ◌∙◌, Some, None, Ok, Result, ap, refl, subst}
use Rattle.std.proofs.Common.{Option}
use Rattle.cb_frame.specs.declared.frame.Frame.{Frame}
use Rattle.cb_station.specs.declared.office_fault.OfficeFault.{OfficeFault}
use Rattle.cb_worker.proofs.Turning.{collects_some}
use Rattle.cb_station.specs.Calls.{Collected}
use Rattle.cb_worker.proofs.worker.Worker.collect.Goals as goal

pub returns-in-Ok-None : goal.returns-in-Ok-None
returns-in-Ok-None g c =
    let all : Collected c.args.station.now c.args.self.now.hand c.collect_if_known.result c.collect_if_known.new.self c.collect_if_known.new.hand = rw (← c.self.view_is) c.collect_if_known.ensures in
    let is : c.collect_if_known.result ≡ Ok None = c.in-Ok-None.is ∙ ap Ok c.in-Ok-None.field-0-is in
    let same : c.collect_if_known.new.hand ≡ c.self.inside.hand = rw c.in-Ok-None.field-0-is at c.in-Ok-None.ensures.moved in
    record {
      answer = Ok None;
      collected = subst (λ (r : Result (Option Frame) OfficeFault). Collected c.args.station.now c.args.self.now.hand r c.collect_if_known.new.self c.collect_if_known.new.hand) is all;
      taken = (refl, rw same c.self.view_is);
    }

pub returns-in-Ok-Some : goal.returns-in-Ok-Some
returns-in-Ok-Some g c =
    let all : Collected c.args.station.now c.args.self.now.hand c.collect_if_known.result c.collect_if_known.new.self c.collect_if_known.new.hand = rw (← c.self.view_is) c.collect_if_known.ensures in
    let is : c.collect_if_known.result ≡ Ok (Some c.in-Ok-Some.frame) = c.in-Ok-Some.is ∙ ap Ok c.in-Ok-Some.field-0-is in
    collects_some c.args.self.now c.take_collected.new.self c.args.station.now c.collect_if_known.new.self c.collect_if_known.new.hand c.in-Ok-Some.frame c.take_collected.result
    (subst (λ (r : Result (Option Frame) OfficeFault). Collected c.args.station.now c.args.self.now.hand r c.collect_if_known.new.self c.collect_if_known.new.hand) is all)
    (rw (← c.self.view_is) c.take_collected.ensures)
