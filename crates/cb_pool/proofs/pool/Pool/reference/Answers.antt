-- Goals of `Pool::reference`.
use Rattle.std.proofs.Common.{rules}
use Rattle.cb_pool.proofs.pool.Pool.reference.Goals as goal

pub returns-then-here : goal.returns-then-here
returns-then-here g c = search rules
