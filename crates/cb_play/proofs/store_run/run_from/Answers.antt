-- Goals of `run_from`.
use Rattle.cb_play.proofs.Told.{told_ending}
use Rattle.cb_play.proofs.store_run.run_from.Goals as goal

pub returns-in-Err : goal.returns-in-Err
returns-in-Err g c = told_ending _ c.in-Err.ending _ _ _ _ _ c.refuse.ensures.prints
