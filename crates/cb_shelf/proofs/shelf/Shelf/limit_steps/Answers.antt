-- Goals of `Shelf::limit_steps`.
use Rattle.std.proofs.Common.{arith}
use Rattle.std.proofs.lemmas.Grind.{common_steps}
use Rattle.cb_shelf.proofs.shelf.Shelf.limit_steps.Goals as goal

pub returns : goal.returns
returns g c = grind (arith, common_steps)
