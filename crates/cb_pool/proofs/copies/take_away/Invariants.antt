-- What holds at each turn of the loops of `take_away`.
use Rattle.std.proofs.Common.{◌≡◌, ◌<◌, ◌+◌, ◌-◌, ℕ, length, None, slice_index_or}
use Rattle.cb_pool.specs.PoolState.{HasNoneBut}
use Rattle.cb_pool.proofs.copies.take_away.Given as goal

-- no page below is here, nor any that isn't to go
abbrev pub invariant-loop-page : goal.invariant-loop-page
invariant-loop-page l = record {
  count : length l.pages.items ≡ length l.initial.pages.items;
  below : (p : ℕ) → p < l.from → slice_index_or l.pages.items p None ≡ None;
  others : HasNoneBut l.pages.items l.gone;
}

abbrev pub decreases-loop-page : goal.decreases-loop-page
decreases-loop-page l = length l.gone + 1 - l.from
