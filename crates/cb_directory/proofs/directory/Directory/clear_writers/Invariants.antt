-- What holds at each turn of the loops of `Directory::clear_writers`.
use Rattle.std.proofs.Common.{◌≡◌, ◌-◌, ◌<◌, ◌≤◌, ℕ, length}
use Rattle.cb_directory.specs.RowTables as tables
use Rattle.cb_directory.specs.Directories.{row, holder, tag, without_holder}
use Rattle.cb_directory.proofs.directory.Directory.clear_writers.Given as goal

-- the pages before this place are done, the others as they were
abbrev pub invariant-loop-page : goal.invariant-loop-page
invariant-loop-page l = record {
  rows : (client page : ℕ) → row l.self client page ≡ row l.initial.self client page;
  tags : (page : ℕ) → tag l.self page ≡ tag l.initial.self page;
  done : (page : ℕ) → page < l.from → holder l.self page ≡ without_holder (holder l.initial.self page) l.client;
  rest : (page : ℕ) → l.from ≤ page → holder l.self page ≡ holder l.initial.self page;
  next : l.self.next_grant ≡ l.initial.self.next_grant;
  size : tables.IsAsLarge l.initial.self.tables l.self.tables;
  within : l.from ≤ length l.self.tables.pages;
}

abbrev pub decreases-loop-page : goal.decreases-loop-page
decreases-loop-page l = length l.self.tables.pages - l.from
