-- What holds at each turn of the loops of `copy_pages`.
use Rattle.std.proofs.Common.{◌≡◌, take}
use Rattle.cb_commit.proofs.store.copy_pages.Given as goal

abbrev pub invariant-loop-page : goal.invariant-loop-page
invariant-loop-page l = l.copies.items ≡ take l.page-index l.pages
