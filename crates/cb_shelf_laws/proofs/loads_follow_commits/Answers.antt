-- Goals of `loads_follow_commits`.
use Rattle.cb_shelf_laws.proofs.Stopping.{loads_follow}
use Rattle.cb_shelf_laws.proofs.loads_follow_commits.Goals as goal

pub returns : goal.returns
returns g c = record { law = loads_follow g.S.Store }
