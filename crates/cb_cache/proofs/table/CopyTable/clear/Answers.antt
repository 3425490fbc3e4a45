-- Goals of `CopyTable::clear`.
use Rattle.std.proofs.Common.{rules}
use Rattle.cb_cache.proofs.Known.{known_cleared}
use Rattle.cb_cache.proofs.table.CopyTable.clear.Goals as goal

pub invariant_of-self : goal.invariant_of-self
invariant_of-self c = known_cleared _ _ _ _ c.self.invariant (search rules) (search rules)
