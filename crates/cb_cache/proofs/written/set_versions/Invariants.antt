-- What holds at each turn of the loops of `set_versions`.
use Rattle.std.proofs.Common.{◌≡◌, ◌<◌, ◌≤◌, ◌+◌, ◌-◌, ℕ, length, if◌then◌else◌}
use Rattle.cb_page.specs.Flags.{has}
use Rattle.cb_cache.specs.Rows.{row_at}
use Rattle.cb_cache.proofs.written.set_versions.Given as goal

-- the pages below have the version, the others are as they were
abbrev pub invariant-loop-page : goal.invariant-loop-page
invariant-loop-page l = record {
  count : length l.table ≡ length l.initial.table;
  seen : (p : ℕ) → (row_at l.table p).seen ≡ (row_at l.initial.table p).seen;
  held : (p : ℕ) → (row_at l.table p).held ≡ (row_at l.initial.table p).held;
  tag : (p : ℕ) → (row_at l.table p).tag ≡ (row_at l.initial.table p).tag;
  below : (p : ℕ) → p < l.from → (row_at l.table p).version ≡ (if has l.pages p then l.version else (row_at l.initial.table p).version);
  above : (p : ℕ) → l.from ≤ p → (row_at l.table p).version ≡ (row_at l.initial.table p).version;
}

abbrev pub decreases-loop-page : goal.decreases-loop-page
decreases-loop-page l = length l.pages + 1 - l.from
