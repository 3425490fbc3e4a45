-- Goals of `services_are_lives`.
use Rattle.cb_running_laws.proofs.RoundSteps.{are_steps, lives_follow}
use Rattle.cb_running_laws.proofs.ServicesFollow.{dones_stand, services_restart}
use Rattle.cb_running_laws.proofs.services.services_are_lives.Goals as goal

pub returns : goal.returns
returns g c = record {
  restart = services_restart g.S.Store;
  stand = dones_stand g.S.Store;
  rounds = are_steps g.S.Store;
  follow = lives_follow g.S.Store;
}
