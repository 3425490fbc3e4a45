-- Goals of `put_stub_way`.
use Rattle.cb_chart.proofs.picture.arrows.put_stub_way.Goals as goal

pub returns : goal.returns
returns g c = rw (← c.stub_end-to.ensures.value, ← c.source-from.ensures.value, ← c.row-top.ensures.value) c.write.ensures.bytes
