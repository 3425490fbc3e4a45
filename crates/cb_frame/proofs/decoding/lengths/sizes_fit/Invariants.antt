-- What holds at each turn of the loops of `sizes_fit`.
use Rattle.std.proofs.Common.{◌≡◌, ◌-◌, ◌*◌, length}
use Rattle.cb_frame.specs.Checks.{sizes_fit}
use Rattle.cb_frame.proofs.decoding.lengths.sizes_fit.Given as goal

abbrev pub invariant-loop : goal.invariant-loop
invariant-loop l = record {
  len : length l.rest ≡ (l.count - l.counter) * l.size;
  so_far : sizes_fit l.version l.page_size (l.count - l.counter) l.rest ≡ sizes_fit l.version l.page_size l.count l.entries;
}
