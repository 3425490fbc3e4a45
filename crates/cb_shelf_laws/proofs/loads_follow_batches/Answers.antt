-- Goals of `loads_follow_batches`.
use Rattle.cb_shelf_laws.proofs.Following.{load_follows}
use Rattle.cb_shelf_laws.proofs.loads_follow_batches.Goals as goal

pub returns : goal.returns
returns g c = record { law = load_follows g.S.Store }
