-- What holds at each turn of the loops of `takes_all`.
use Rattle.std.proofs.Common.{◌≡◌, length}
use Rattle.cb_layer_tests.proofs.pool.calls.takes_all.Given as goal

abbrev pub invariant-loop-page : goal.invariant-loop-page
invariant-loop-page g l = (length l.pool.fixed ≡ 4096) × (l.pool.page_size ≡ 16)
