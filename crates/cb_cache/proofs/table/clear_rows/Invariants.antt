-- What holds at each turn of the loops of `clear_rows`.
use Rattle.std.proofs.Common.{◌≡◌, ◌<◌, ◌+◌, ◌-◌, ℕ, false, length}
use Rattle.cb_page.specs.Flags.{has}
use Rattle.cb_cache.specs.Rows.{no_copy, row_at}
use Rattle.cb_cache.proofs.table.clear_rows.Given as goal

-- of no page below a grant came, nor of any that isn't known
abbrev pub invariant-loop-page : goal.invariant-loop-page
invariant-loop-page l = record {
  count : length l.rows.items ≡ length l.initial.rows.items;
  below : (p : ℕ) → p < l.from → row_at l.rows.items p ≡ no_copy;
  others : (p : ℕ) → has l.known p ≡ false → row_at l.rows.items p ≡ no_copy;
}

abbrev pub decreases-loop-page : goal.decreases-loop-page
decreases-loop-page l = length l.known + 1 - l.from
