-- Goals of `Store::zeros`.
use Rattle.std.proofs.Common.{rules}
use Rattle.cb_commit.proofs.store.Store.zeros.Goals as goal

pub returns : goal.returns
returns c = search rules
