-- Goals of `run_on_watched`.
use Rattle.std.proofs.Common.{Ok, Err}
use Rattle.cb_office.proofs.running.run_on_watched.Goals as goal

pub returns-in_ok-status-in-Ok-clause-prints : goal.returns-in_ok-status-in-Ok-clause-prints
returns-in_ok-status-in-Ok-clause-prints g c = record { outcome = Ok c.in-Ok.counted; prints = c.in_ok-status-in-Ok.ensures; counts = c.in-Ok.ensures.counted }

pub returns-in_ok-status-in-Err-clause-prints : goal.returns-in_ok-status-in-Err-clause-prints
returns-in_ok-status-in-Err-clause-prints g c = record { outcome = Err c.in-Err.ending; prints = c.in_ok-status-in-Err.ensures; counts = tt }
