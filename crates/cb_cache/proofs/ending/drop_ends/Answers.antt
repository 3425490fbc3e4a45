-- Goals of `drop_ends`.
use Rattle.std.proofs.Common.{rules}
use Rattle.cb_cache.proofs.Ends.{drops}
use Rattle.cb_cache.proofs.ending.drop_ends.Goals as goal

pub returns-clause-ok : goal.returns-clause-ok
returns-clause-ok g c = λ outcome.
    drops c.args.copies.now _ _ c.args.locks.now _ outcome c.args.said _ _ c.end_pages.ensures.does (c.abandon.ensures.by_table outcome) (search rules) c.requires.client c.requires.incarnation c.end_pages.ensures.says c.end_pages.ensures.locks
