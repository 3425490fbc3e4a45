-- Goals of `Cache::next_written`.
use Rattle.std.proofs.Common.{rules}
use Rattle.cb_cache.proofs.cache.Cache.next_written.Goals as goal

pub returns : goal.returns
returns g c = search rules
