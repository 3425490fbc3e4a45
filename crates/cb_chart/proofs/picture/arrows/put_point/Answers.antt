-- Goals of `put_point`.
use Rattle.cb_chart.proofs.picture.arrows.put_point.Goals as goal

pub returns : goal.returns
returns g c = rw (← c.family-class.ensures) c.write.ensures.bytes
