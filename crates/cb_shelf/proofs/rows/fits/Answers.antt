-- Goals of `fits`.
use Rattle.std.proofs.Common.{rules}
use Rattle.cb_shelf.proofs.rows.fits.Goals as goal

pub returns : goal.returns
returns c = search rules
