-- What holds at each turn of the loops of `zero_pages`.
use Rattle.std.proofs.Common.{◌≡◌, replicate}
use Rattle.cb_commit.specs.Stores.{zero_page}
use Rattle.cb_commit.proofs.store.zero_pages.Given as goal

abbrev pub invariant-loop : goal.invariant-loop
invariant-loop l = l.pages.items ≡ replicate l.counter (zero_page l.page_size)
