-- What holds at each turn of the loops of `pages_rise`.
use Rattle.std.proofs.Common.{◌≡◌, ◌-◌, ◌*◌, length, map, true}
use Rattle.std.specs.List.{list_all}
use Rattle.cb_page.specs.Rising.{rises_from, is_rising}
use Rattle.cb_frame.specs.Checks.{is_write, writes_at}
use Rattle.cb_frame.specs.Grammar.{page_of}
use Rattle.cb_frame.proofs.decoding.entries.pages_rise.Given as goal

-- what is left decides
abbrev pub invariant-loop : goal.invariant-loop
invariant-loop l = record {
  len : length l.rest ≡ (l.count - l.counter) * l.size;
  fit : list_all (is_write l.limits) (writes_at l.fn.version l.limits.page_size (l.count - l.counter) l.rest) ≡ true;
  so_far : rises_from l.least (map page_of (writes_at l.fn.version l.limits.page_size (l.count - l.counter) l.rest)) ≡ is_rising (map page_of (writes_at l.fn.version l.limits.page_size l.count l.entries));
}
