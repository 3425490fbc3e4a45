-- Goals of `Copies::place`.
use Rattle.std.proofs.Common.{rules}
use Rattle.cb_pool.proofs.copies.Copies.place.Goals as goal

pub returns : goal.returns
returns c = search rules
