-- Goals of `Store::copy`.
use Rattle.std.proofs.Common.{rules}
use Rattle.cb_commit.proofs.store.Store.copy.Goals as goal

pub invariant_of-result : goal.invariant_of-result
invariant_of-result c = search rules

pub returns : goal.returns
returns c = search rules
