-- Goals of `Shelf::close`.
use Rattle.std.proofs.Common.{rules}
use Rattle.cb_shelf.proofs.shelf.Shelf.close.Goals as goal

pub returns : goal.returns
returns g c = search rules
