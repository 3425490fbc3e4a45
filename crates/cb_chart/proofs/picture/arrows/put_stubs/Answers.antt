-- Goals of `put_stubs`.
use Rattle.cb_chart.specs.Signs.{lost_text}
use Rattle.cb_chart.proofs.Printing.{prints_more}
use Rattle.cb_chart.proofs.picture.arrows.put_stubs.Goals as goal

pub loop-sending-preserved : goal.loop-sending-preserved
loop-sending-preserved g c =
    prints_more (lost_text c.args.layout.now c.args.chart.now.arrows.items) _ _ _ c.sendings-sending-items.result.now c.loop-sending.sending-index c.sending-item.result c.loop-sending-test.true c.sending-item.is
    c.loop-sending.invariant c.in_ok-put_lost.ensures
