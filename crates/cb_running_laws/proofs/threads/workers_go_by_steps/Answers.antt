-- Goals of `workers_go_by_steps`.
use Rattle.cb_running_laws.proofs.Lending.{fetches_lend}
use Rattle.cb_running_laws.proofs.Moves.{calls_are_runs, calls_go_by_steps, workers_join_by_steps}
use Rattle.cb_running_laws.proofs.Moves.{workers_leave_by_steps, workers_restart_by_steps}
use Rattle.cb_running_laws.proofs.Worlds.{workers_have_the_limits}
use Rattle.cb_running_laws.proofs.threads.workers_go_by_steps.Goals as goal

pub returns-clause-joins : goal.returns-clause-joins
returns-clause-joins c = workers_join_by_steps

pub returns-clause-restarts : goal.returns-clause-restarts
returns-clause-restarts c = workers_restart_by_steps

pub returns-clause-leaves : goal.returns-clause-leaves
returns-clause-leaves c = workers_leave_by_steps

pub returns-clause-calls : goal.returns-clause-calls
returns-clause-calls c = calls_go_by_steps

pub returns-clause-runs : goal.returns-clause-runs
returns-clause-runs c = calls_are_runs

pub returns-clause-lends : goal.returns-clause-lends
returns-clause-lends c = fetches_lend

pub returns-clause-limits : goal.returns-clause-limits
returns-clause-limits c = workers_have_the_limits
