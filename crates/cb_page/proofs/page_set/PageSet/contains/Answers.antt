-- Goals of `PageSet::contains`.
use Rattle.std.proofs.Common.{◌≡◌, sym, arith, nat_lt, false}
use Rattle.cb_page.proofs.Words.{flag-test, has_past}
use Rattle.std.proofs.lemmas.Bool.{le-ltb}
use Rattle.cb_page.proofs.page_set.PageSet.contains.Goals as goal

pub returns-then-page-self : goal.returns-then-page-self
returns-then-page-self c =
    rw (← c.index-page.ensures.value, ← c.self.view_is) (flag-test c.self.inside.words.items c.self.inside.pages c.index-page.result c.index.result.now c.if-page-self.true (omega (arith, c.if-page-self.true, c.self.invariant)) c.index.ensures)

pub returns-else-page-self : goal.returns-else-page-self
returns-else-page-self c = let no : nat_lt c.index-page.result c.self.inside.pages ≡ false = le-ltb _ _ c.if-page-self.false in
    rw (← c.index-page.ensures.value, ← c.self.view_is, no) (sym (has_past c.self.inside.words.items c.self.inside.pages c.index-page.result c.if-page-self.false))
