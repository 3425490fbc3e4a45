-- Goals of `has_number`.
use Rattle.cb_shelf.proofs.Answering.{same_if, other_if}
use Rattle.cb_shelf.proofs.reading.has_number.Goals as goal

pub returns-in-Ok : goal.returns-in-Ok
returns-in-Ok c = same_if _ _ _ c.in-Ok.ensures.ok

pub returns-in-Err : goal.returns-in-Err
returns-in-Err c = other_if _ _ c.in-Err.ensures.err
