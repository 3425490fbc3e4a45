-- Goals of `Pool::new`.
use Rattle.std.proofs.Common.{rules}
use Rattle.cb_pool.proofs.pool.Pool.new.Goals as goal

pub returns : goal.returns
returns g c = search rules
