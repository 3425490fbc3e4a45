-- What holds at each turn of the loops of `are_recorded`.
use Rattle.std.proofs.Common.{◌≡◌, ◌≤◌, length}
use Rattle.cb_layer_tests.proofs.pool.calls.are_recorded.Given as goal

abbrev pub invariant-loop-turn : goal.invariant-loop-turn
invariant-loop-turn g l = (8 ≤ length l.pool.fixed) × (l.pool.page_size ≡ 16)
