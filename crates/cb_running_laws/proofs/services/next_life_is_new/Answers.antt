-- Goals of `next_life_is_new`.
use Rattle.cb_running_laws.proofs.Keeping.{next_is_new}
use Rattle.cb_running_laws.proofs.services.next_life_is_new.Goals as goal

pub returns : goal.returns
returns g c = record { law = next_is_new g.S.Store }
