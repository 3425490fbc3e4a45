-- Goals of `calls_are_steps`.
use Rattle.cb_running_laws.proofs.ByContracts.{begins_are_steps, commits_are_steps}
use Rattle.cb_running_laws.proofs.ByContracts.{flushes_are_steps, forgets_are_steps, hits_are_steps}
use Rattle.cb_running_laws.proofs.ByContracts.{joins_are_steps, leaves_are_steps}
use Rattle.cb_running_laws.proofs.ByContracts.{new_stations_have_opened, refusals_are_steps}
use Rattle.cb_running_laws.proofs.ByContracts.{restarts_are_steps, resumed_stations_have_opened}
use Rattle.cb_running_laws.proofs.ByContracts.{tells_are_steps, turns_are_steps, writes_are_steps}
use Rattle.cb_running_laws.proofs.threads.calls_are_steps.Goals as goal

pub returns-clause-opens : goal.returns-clause-opens
returns-clause-opens c = new_stations_have_opened

pub returns-clause-resumes : goal.returns-clause-resumes
returns-clause-resumes c = resumed_stations_have_opened

pub returns-clause-joins : goal.returns-clause-joins
returns-clause-joins c = joins_are_steps

pub returns-clause-restarts : goal.returns-clause-restarts
returns-clause-restarts c = restarts_are_steps

pub returns-clause-leaves : goal.returns-clause-leaves
returns-clause-leaves c = leaves_are_steps

pub returns-clause-turns : goal.returns-clause-turns
returns-clause-turns c = turns_are_steps

pub returns-clause-commits : goal.returns-clause-commits
returns-clause-commits c = commits_are_steps

pub returns-clause-begins : goal.returns-clause-begins
returns-clause-begins c = begins_are_steps

pub returns-clause-writes : goal.returns-clause-writes
returns-clause-writes c = writes_are_steps

pub returns-clause-hits : goal.returns-clause-hits
returns-clause-hits c = hits_are_steps

pub returns-clause-flushes : goal.returns-clause-flushes
returns-clause-flushes c = flushes_are_steps

pub returns-clause-forgets : goal.returns-clause-forgets
returns-clause-forgets c = forgets_are_steps

pub returns-clause-tells : goal.returns-clause-tells
returns-clause-tells c = tells_are_steps

pub returns-clause-refusals : goal.returns-clause-refusals
returns-clause-refusals c = refusals_are_steps
