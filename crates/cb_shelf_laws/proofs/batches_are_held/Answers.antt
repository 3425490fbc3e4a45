-- Goals of `batches_are_held`.
use Rattle.cb_shelf_laws.proofs.Holding.{batch_held}
use Rattle.cb_shelf_laws.proofs.batches_are_held.Goals as goal

pub returns : goal.returns
returns g c = record { law = λ older. batch_held older g.S.Store }
