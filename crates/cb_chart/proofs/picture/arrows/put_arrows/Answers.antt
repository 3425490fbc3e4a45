-- Goals of `put_arrows`.
use Rattle.cb_chart.specs.Signs.{arrow_text}
use Rattle.cb_chart.proofs.Printing.{prints_more}
use Rattle.cb_chart.proofs.picture.arrows.put_arrows.Goals as goal

pub loop-arrow-preserved : goal.loop-arrow-preserved
loop-arrow-preserved g c =
    prints_more (arrow_text c.args.layout.now c.args.chart.now.arrows.items) _ _ _ c.arrows-arrow-items.result.now c.loop-arrow.arrow-index c.arrow-item.result c.loop-arrow-test.true c.arrow-item.is
    c.loop-arrow.invariant c.in_ok-put_arrow.ensures
