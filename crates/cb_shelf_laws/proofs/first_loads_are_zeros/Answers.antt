-- Goals of `first_loads_are_zeros`.
use Rattle.cb_shelf_laws.proofs.Following.{first_load}
use Rattle.cb_shelf_laws.proofs.first_loads_are_zeros.Goals as goal

pub returns : goal.returns
returns g c = record { law = first_load g.S.Store }
