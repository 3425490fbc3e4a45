-- Goals of `processes_are_worlds`.
use Rattle.cb_running_laws.proofs.ProcessesStand.{are_serial, copies_agree, go_along}
use Rattle.cb_running_laws.proofs.ProcessesStand.{keep_the_promise, are_served, writers_are_alone}
use Rattle.cb_running_laws.proofs.services.processes_are_worlds.Goals as goal

pub returns : goal.returns
returns g c = record {
  along = go_along g.S.Store;
  promise = keep_the_promise g.S.Store;
  serial = are_serial g.S.Store;
  agree = copies_agree g.S.Store;
  alone = writers_are_alone g.S.Store;
  served = are_served g.S.Store;
}
