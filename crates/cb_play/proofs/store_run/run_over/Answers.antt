-- Goals of `run_over`.
use Rattle.cb_play.proofs.Told.{told_refusal}
use Rattle.cb_play.proofs.store_run.run_over.Goals as goal

pub returns-in-Err-clause-prints : goal.returns-in-Err-clause-prints
returns-in-Err-clause-prints g c = told_refusal _ _ c.in-Err.fault c.of_shelf.result c.refuse.result _ _ _ _ c.in-Err.ensures.refused c.of_shelf.ensures c.refuse.ensures.prints
