-- Goals of `lives_begin_as_servers_do`.
use Rattle.cb_laws.proofs.LifeBegins.{lives_are_reached}
use Rattle.cb_laws.proofs.lives_begin_as_servers_do.Goals as goal

pub returns : goal.returns
returns c = record { reached = lives_are_reached }
