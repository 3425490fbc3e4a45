-- Goals of `put_way`.
use Rattle.cb_chart.proofs.picture.arrows.put_way.Goals as goal

pub returns : goal.returns
returns g c = rw (← c.source-from.ensures.value, ← c.row-top.ensures.value, ← c.target-to.ensures.value, ← c.row-bottom.ensures.value) c.write.ensures.bytes
