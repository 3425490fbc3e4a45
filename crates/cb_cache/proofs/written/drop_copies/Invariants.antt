-- What holds at each turn of the loops of `drop_copies`.
use Rattle.std.proofs.Common.{◌≡◌, ◌<◌, ◌≤◌, ◌+◌, ◌-◌, ℕ, length, None, if◌then◌else◌}
use Rattle.cb_page.specs.Flags.{has}
use Rattle.cb_pool.specs.PoolState.{copy_of}
use Rattle.cb_twoq.specs.Calls.{references_in}
use Rattle.cb_cache.specs.Rows.{row_at}
use Rattle.cb_cache.proofs.written.drop_copies.Given as goal

-- the pages below are dropped, the others as they were
abbrev pub invariant-loop-page : goal.invariant-loop-page
invariant-loop-page g l = record {
  count : length l.table ≡ length l.initial.table;
  seen : (p : ℕ) → (row_at l.table p).seen ≡ (row_at l.initial.table p).seen;
  version : (p : ℕ) → (row_at l.table p).version ≡ (row_at l.initial.table p).version;
  tag : (p : ℕ) → (row_at l.table p).tag ≡ (row_at l.initial.table p).tag;
  held_below : (p : ℕ) → p < l.from → (row_at l.table p).held ≡ (if has l.pages p then None else (row_at l.initial.table p).held);
  held_above : (p : ℕ) → l.from ≤ p → (row_at l.table p).held ≡ (row_at l.initial.table p).held;
  slots : l.pool.slots ≡ l.initial.pool.slots;
  page_size : l.pool.page_size ≡ l.initial.pool.page_size;
  fixed : l.pool.fixed ≡ l.initial.pool.fixed;
  pool_count : length l.pool.pages ≡ length l.initial.pool.pages;
  below : (p : ℕ) → p < l.from → copy_of l.pool p ≡ (if has l.pages p then None else copy_of l.initial.pool p);
  above : (p : ℕ) → l.from ≤ p → copy_of l.pool p ≡ copy_of l.initial.pool p;
  references : references_in l.pool.calls ≡ references_in l.initial.pool.calls;
}

abbrev pub decreases-loop-page : goal.decreases-loop-page
decreases-loop-page g l = length l.pages + 1 - l.from
