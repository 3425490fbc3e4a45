-- Goals of `Store::is_of`.
use Rattle.std.proofs.Common.{rules}
use Rattle.cb_commit.proofs.store.Store.is_of.Goals as goal

pub returns-then-len-pages : goal.returns-then-len-pages
returns-then-len-pages c = search rules

pub returns-else-len-pages : goal.returns-else-len-pages
returns-else-len-pages c = search rules
