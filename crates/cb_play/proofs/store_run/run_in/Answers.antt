-- Goals of `run_in`.
use Rattle.cb_play.proofs.Told.{told_read, told_refusal}
use Rattle.cb_play.proofs.store_run.run_in.Goals as goal

pub returns-in-Ok-read-clause-prints : goal.returns-in-Ok-read-clause-prints
returns-in-Ok-read-clause-prints g c = told_read _ _ c.run_from.result _ _ _ _ c.in-Ok-read.ensures.read c.run_from.ensures

pub returns-in-Err-clause-prints : goal.returns-in-Err-clause-prints
returns-in-Err-clause-prints g c = told_refusal _ _ c.in-Err.fault c.of_shelf.result c.refuse.result _ _ _ _ c.in-Err.ensures.refused c.of_shelf.ensures c.refuse.ensures.prints

pub returns-in-Err-read-clause-prints : goal.returns-in-Err-read-clause-prints
returns-in-Err-read-clause-prints g c = told_refusal _ _ c.in-Err-read.fault c.of_shelf-in-Err-read.result c.refuse-in-Err-read.result _ _ _ _ c.in-Err-read.ensures.refused c.of_shelf-in-Err-read.ensures c.refuse-in-Err-read.ensures.prints
