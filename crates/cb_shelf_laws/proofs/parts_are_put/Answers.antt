-- Goals of `parts_are_put`.
use Rattle.cb_shelf_laws.proofs.Putting.{part_puts}
use Rattle.cb_shelf_laws.proofs.parts_are_put.Goals as goal

pub returns : goal.returns
returns g c = record { law = λ older. part_puts older g.S.Store }
