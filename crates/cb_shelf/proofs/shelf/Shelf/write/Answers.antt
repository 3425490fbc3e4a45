-- Goals of `Shelf::write`.
use Rattle.std.proofs.Common.{rules}
use Rattle.cb_shelf.proofs.shelf.Shelf.write.Goals as goal

pub returns-clause-fits : goal.returns-clause-fits
returns-clause-fits g c = search rules

pub returns-clause-shape : goal.returns-clause-shape
returns-clause-shape g c = search rules
