-- Goals of `batches_are_written`.
use Rattle.cb_shelf_laws.proofs.Paging.{writes_batch}
use Rattle.cb_shelf_laws.proofs.batches_are_written.Goals as goal

pub returns : goal.returns
returns g c = record { law = λ older. writes_batch older g.S.Store }
