-- Goals of `numbers_are_set`.
use Rattle.cb_shelf_laws.proofs.Marking.{mark_sets}
use Rattle.cb_shelf_laws.proofs.numbers_are_set.Goals as goal

pub returns : goal.returns
returns g c = record { law = λ older. mark_sets older g.S.Store }
