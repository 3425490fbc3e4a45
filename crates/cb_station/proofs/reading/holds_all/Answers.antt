-- Goals of `holds_all`.
use Rattle.std.proofs.Common.{rules}
use Rattle.cb_hands.specs.Hands.{held_at}
use Rattle.cb_station.proofs.PagesRead.{holds_next, not_none}
use Rattle.cb_station.proofs.reading.holds_all.Goals as goal

pub loop-page-preserved : goal.loop-page-preserved
loop-page-preserved c =
    rw c.index-from.ensures.value (holds_next c.args.hand.now c.args.pages.now c.loop-page.from c.in-Some.page c.loop-page.invariant c.in-Some.ensures.2
    (not_none (held_at c.args.hand.now.held c.in-Some.page) c.held.result c.held.ensures (search rules)))
