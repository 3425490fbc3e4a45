-- What holds at each turn of the loops of `writes_of`.
use Rattle.std.proofs.Common.{◌≡◌, ◌+◌, ◌-◌, ◌*◌, ◌++◌, ◌≤◌, length, true, vec_len, vec_capacity}
use Rattle.std.specs.List.{list_all}
use Rattle.cb_frame.specs.Checks.{writes_at, is_write}
use Rattle.cb_frame.proofs.decoding.entries.writes_of.Given as goal

-- there is room for what is still to be read, which fits; what was read and what is still to be read is all
abbrev pub invariant-loop : goal.invariant-loop
invariant-loop l = record {
  len : length l.rest ≡ (l.count - l.counter) * l.size;
  fit : list_all (is_write l.limits) (writes_at l.version l.limits.page_size (l.count - l.counter) l.rest) ≡ true;
  room : vec_len l.writes + (l.count - l.counter) ≤ vec_capacity l.writes;
  so_far : l.writes.items ++ writes_at l.version l.limits.page_size (l.count - l.counter) l.rest ≡ writes_at l.version l.limits.page_size l.count l.entries;
}
