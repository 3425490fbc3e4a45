-- Goals of `put_bars`.
use Rattle.cb_chart.specs.Signs.{bar_text}
use Rattle.cb_chart.proofs.Printing.{prints_more}
use Rattle.cb_chart.proofs.picture.bars.put_bars.Goals as goal

pub loop-placed-preserved : goal.loop-placed-preserved
loop-placed-preserved g c =
    prints_more (bar_text c.args.layout.now) _ _ _ c.bars-placed-items.result.now c.loop-placed.placed-index c.placed-item.result c.loop-placed-test.true c.placed-item.is
    c.loop-placed.invariant c.in_ok-put_bar.ensures
