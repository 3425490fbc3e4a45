-- What holds at each turn of the loops of `numbers_fit`.
use Rattle.std.proofs.Common.{◌≡◌, ◌-◌, ◌*◌, length}
use Rattle.std.specs.List.{list_all}
use Rattle.cb_frame.specs.Checks.{is_write, writes_at}
use Rattle.cb_frame.proofs.decoding.entries.numbers_fit.Given as goal

-- what is left decides
abbrev pub invariant-loop : goal.invariant-loop
invariant-loop l = record {
  len : length l.rest ≡ (l.count - l.counter) * l.size;
  so_far : list_all (is_write l.limits) (writes_at l.fn.version l.limits.page_size (l.count - l.counter) l.rest) ≡ list_all (is_write l.limits) (writes_at l.fn.version l.limits.page_size l.count l.entries);
}
