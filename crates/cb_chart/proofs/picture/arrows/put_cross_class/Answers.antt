-- Goals of `put_cross_class`.
use Rattle.cb_chart.proofs.picture.arrows.put_cross_class.Goals as goal

pub returns : goal.returns
returns g c = rw (← c.family-class.ensures) c.write.ensures.bytes
