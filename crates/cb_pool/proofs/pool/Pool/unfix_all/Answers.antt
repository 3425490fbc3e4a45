-- Goals of `Pool::unfix_all`.
use Rattle.std.proofs.Common.{rules}
use Rattle.cb_pool.proofs.pool.Pool.unfix_all.Goals as goal

pub returns : goal.returns
returns g c = search rules
