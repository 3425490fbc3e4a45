-- Goals of `is_permission_alone`.
use Rattle.std.proofs.Common.{rules}
use Rattle.cb_cache.proofs.page_end.is_permission_alone.Goals as goal

pub returns-then-not-goes : goal.returns-then-not-goes
returns-then-not-goes c = search rules
