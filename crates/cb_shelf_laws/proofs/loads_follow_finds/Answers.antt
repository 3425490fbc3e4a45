-- Goals of `loads_follow_finds`.
use Rattle.cb_shelf_laws.proofs.Following.{load_follows_find}
use Rattle.cb_shelf_laws.proofs.loads_follow_finds.Goals as goal

pub returns : goal.returns
returns g c = record { law = load_follows_find g.S.Store }
