-- Goals of `stores_are_laid`.
use Rattle.cb_shelf_laws.proofs.Laying.{store_laid}
use Rattle.cb_shelf_laws.proofs.stores_are_laid.Goals as goal

pub returns : goal.returns
returns g c = record { law = store_laid g.S.Store }
