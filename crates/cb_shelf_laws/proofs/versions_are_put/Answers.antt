-- Goals of `versions_are_put`.
use Rattle.cb_shelf_laws.proofs.Putting.{page_puts}
use Rattle.cb_shelf_laws.proofs.versions_are_put.Goals as goal

pub returns : goal.returns
returns g c = record { law = λ older. page_puts older g.S.Store }
