-- What holds at each turn of the loops of `Marks::clear`.
use Rattle.std.proofs.Common.{◌≡◌, ◌-◌, ◌<◌, ◌≤◌, ◌==◌, false, ℕ, length}
use Rattle.cb_asks.specs.Marks.{is_in_use}
use Rattle.cb_asks.proofs.marks.Marks.clear.Given as goal

-- the pages before this place are done, the others as they were
abbrev pub invariant-loop-page : goal.invariant-loop-page
invariant-loop-page l = record {
  done : (page : ℕ) → page < l.from → is_in_use l.self l.client page ≡ false;
  rest : (page : ℕ) → l.from ≤ page → is_in_use l.self l.client page ≡ is_in_use l.initial.self l.client page;
  others : (other page : ℕ) → (other == l.client) ≡ false → is_in_use l.self other page ≡ is_in_use l.initial.self other page;
  clients : length l.self.by_client ≡ length l.initial.self.by_client;
  pages : length l.self.by_page ≡ length l.initial.self.by_page;
  within : l.from ≤ length l.self.by_page;
}

abbrev pub decreases-loop-page : goal.decreases-loop-page
decreases-loop-page l = length l.self.by_page - l.from
