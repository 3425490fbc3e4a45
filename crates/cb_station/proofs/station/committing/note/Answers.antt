-- Goals of `note`.
use Rattle.std.proofs.Common.{◌∙◌, ap}
use Rattle.cb_hands.specs.Hands.{HandState}
use Rattle.cb_station.proofs.Following.{follow_then}
use Rattle.cb_station.proofs.Keeping.{restamped_client}
use Rattle.cb_station.proofs.station.committing.note.Goals as goal

pub returns-clause-stored : goal.returns-clause-stored
returns-clause-stored c = follow_then c.args.hands.now c.restamp.new.hands c.end_permissions.new.self c.args.hand.now c.restamp.new.hand c.end_permissions.new.hand c.restamp.ensures.stored c.end_permissions.ensures.stored
    (ap (λ (h : HandState). h.client) c.restamp.ensures.hand ∙ restamped_client c.args.hand.now c.as_slice.result.now c.version.result)
