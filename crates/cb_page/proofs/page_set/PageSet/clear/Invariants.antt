-- What holds at each turn of the loops of `PageSet::clear`.
use Rattle.std.proofs.Common.{◌≡◌, ◌^◌, ◌<◌, length}
use Rattle.cb_page.specs.Words.{Summarizes}
use Rattle.cb_page.proofs.page_set.PageSet.clear.Given as goal

abbrev pub invariant-loop-at : goal.invariant-loop-at
invariant-loop-at l = record {
  length : length l.self-inside.words.items ≡ length l.initial.self-inside.words.items;
  pages : l.self-inside.pages ≡ l.initial.self-inside.pages;
  fits : l.self-inside.filled < 2 ^ 64;
  summary : Summarizes l.self-inside.filled l.self-inside.words.items;
}

abbrev pub decreases-loop-at : goal.decreases-loop-at
decreases-loop-at l = l.self-inside.filled
