-- Goals of `put_bar`.
use Rattle.cb_chart.proofs.picture.bars.put_bar.Goals as goal

pub returns : goal.returns
returns g c =
    rw (← c.shade_of-class.ensures, ← c.bar-x.ensures.value, ← c.row-y.ensures.value, ← c.height_of-height.ensures)
    c.write.ensures.bytes
