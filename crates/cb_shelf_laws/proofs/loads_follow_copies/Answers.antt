-- Goals of `loads_follow_copies`.
use Rattle.cb_shelf_laws.proofs.Following.{load_follows_copy}
use Rattle.cb_shelf_laws.proofs.loads_follow_copies.Goals as goal

pub returns : goal.returns
returns g c = record { law = load_follows_copy g.S.Store }
