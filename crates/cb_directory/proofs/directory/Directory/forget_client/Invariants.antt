-- What holds at each turn of the loops of `Directory::forget_client`.
use Rattle.std.proofs.Common.{◌≡◌, ◌-◌, ◌<◌, ◌≤◌, ◌==◌, None, false, ℕ, length}
use Rattle.cb_directory.specs.RowTables as tables
use Rattle.cb_directory.specs.Directories.{row, holder, tag}
use Rattle.cb_directory.proofs.directory.Directory.forget_client.Given as goal

-- the pages before this place are done, the others as they were
abbrev pub invariant-loop-page : goal.invariant-loop-page
invariant-loop-page l = record {
  done : (page : ℕ) → page < l.from → row l.self l.client page ≡ None;
  rest : (page : ℕ) → l.from ≤ page → row l.self l.client page ≡ row l.initial.self l.client page;
  others : (other page : ℕ) → (other == l.client) ≡ false → row l.self other page ≡ row l.initial.self other page;
  holders : (page : ℕ) → holder l.self page ≡ holder l.initial.self page;
  tags : (page : ℕ) → tag l.self page ≡ tag l.initial.self page;
  next : l.self.next_grant ≡ l.initial.self.next_grant;
  size : tables.IsAsLarge l.initial.self.tables l.self.tables;
  within : l.from ≤ length l.self.tables.pages;
}

abbrev pub decreases-loop-page : goal.decreases-loop-page
decreases-loop-page l = length l.self.tables.pages - l.from
