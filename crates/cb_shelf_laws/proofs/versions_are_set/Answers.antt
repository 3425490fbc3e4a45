-- Goals of `versions_are_set`.
use Rattle.cb_shelf_laws.proofs.Setting.{page_sets}
use Rattle.cb_shelf_laws.proofs.versions_are_set.Goals as goal

pub returns : goal.returns
returns g c = record { law = λ older. page_sets older g.S.Store }
