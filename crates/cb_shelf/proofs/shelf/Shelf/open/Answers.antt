-- Goals of `Shelf::open`.
use Rattle.std.proofs.Common.{◌≡◌, refl}
use Rattle.cb_shelf.specs.declared.fault.ShelfFault.TheVariants.{Shape}
use Rattle.cb_shelf.proofs.shelf.Shelf.open.Goals as goal

pub returns-in-Err-clause-shape : goal.returns-in-Err-clause-shape
returns-in-Err-clause-shape g c clean is = let same : c.in-Err.fault ≡ Shape = is in c.in-Err.ensures.shape clean (rw same refl)
