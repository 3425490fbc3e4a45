-- Goals of `restamp`.
use Rattle.std.proofs.Common.{◌∙◌, ap, length}
use Rattle.std.proofs.lemmas.List.{length-set}
use Rattle.cb_hands.specs.Hands.{HandState, at_version, held_at}
use Rattle.cb_station.proofs.Following.{follow_then, restamp_left}
use Rattle.cb_station.proofs.station.committing.restamp.Goals as goal

pub loop-page-preserved : goal.loop-page-preserved
loop-page-preserved c = record {
  left = restamp_left c.loop-page.hand c.restamp.new.hand _ c.args.pages.now c.loop-page.page-index c.args.version c.page-item.result c.loop-page-test.true c.page-item.is c.restamp.ensures.hand c.loop-page.invariant.left;
  follow = follow_then c.args.hands.now c.loop-page.hands c.restamp.new.self c.args.hand.now c.loop-page.hand c.restamp.new.hand c.loop-page.invariant.follow c.restamp.ensures.stored c.loop-page.invariant.client;
  client = ap (λ (h : HandState). h.client) c.restamp.ensures.hand ∙ c.loop-page.invariant.client;
  size = ap (λ (h : HandState). length h.held) c.restamp.ensures.hand
      ∙ length-set c.loop-page.hand.held c.page-item.result (at_version c.args.version (held_at c.loop-page.hand.held c.page-item.result)) ∙ c.loop-page.invariant.size;
}
