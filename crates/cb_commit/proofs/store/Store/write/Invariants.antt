-- What holds at each turn of the loops of `Store::write`.
use Rattle.std.proofs.Common.{◌≡◌, take, length}
use Rattle.std.specs.List.{All}
use Rattle.cb_commit.specs.Stores.{IsStored}
use Rattle.cb_commit.specs.History.{rewritten}
use Rattle.cb_commit.proofs.store.Store.write.Given as goal

-- the pages so far are written
abbrev pub invariant-loop-write : goal.invariant-loop-write
invariant-loop-write l = record {
  pages : l.self-inside.pages.items ≡ rewritten l.number l.initial.self-inside.pages.items (take l.write-index l.writes);
  count : length l.self-inside.pages.items ≡ length l.initial.self-inside.pages.items;
  size : l.self-inside.page_size ≡ l.initial.self-inside.page_size;
  stored : All (IsStored l.self-inside.page_size l.number) l.self-inside.pages.items;
}
