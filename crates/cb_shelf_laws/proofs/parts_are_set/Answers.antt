-- Goals of `parts_are_set`.
use Rattle.cb_shelf_laws.proofs.Setting.{part_sets}
use Rattle.cb_shelf_laws.proofs.parts_are_set.Goals as goal

pub returns : goal.returns
returns g c = record { law = λ older. part_sets older g.S.Store }
