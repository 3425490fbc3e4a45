-- Goals of `put_class`.
use Rattle.cb_chart.proofs.picture.arrows.put_class.Goals as goal

pub returns : goal.returns
returns g c = rw (← c.family-class.ensures, ← c.again_text-again.ensures) c.write.ensures.bytes
