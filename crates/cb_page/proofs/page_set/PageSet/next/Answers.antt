-- Goals of `PageSet::next`.
use Rattle.std.proofs.Common.{arith, inl, inr, ◌∙◌}
use Rattle.std.proofs.lemmas.Bool.{cases_lt}
use Rattle.cb_page.proofs.Words.{has-flags_of, has_past, not_in}
use Rattle.cb_page.proofs.page_set.PageSet.next.Goals as goal

pub returns-in_err-page : goal.returns-in_err-page
returns-in_err-page c =
    let set = c.self.inside in
    rw (c.from_residual.ensures, ← c.self.view_is) (λ k from. not_in set.words.items set.pages k (rw c.deref.ensures.value at (c.in_err-page.ensures k from)))

pub returns-then-page-self : goal.returns-then-page-self
returns-then-page-self c =
    let set = c.self.inside in
    let found = rw c.deref.ensures.value at c.in_ok-page.ensures in
    rw (c.new.ensures, ← c.self.view_is) (
      found.0,
      has-flags_of set.words.items set.pages c.in_ok-page.page c.if-page-self.true ∙ found.1,
      λ k from lt. not_in set.words.items set.pages k (found.2 k from lt),
    )

pub returns-else-page-self : goal.returns-else-page-self
returns-else-page-self c k from =
    let set = c.self.inside in
    rw (← c.self.view_is) (elim (cases_lt k c.in_ok-page.page) [
      | inl lt ↦ not_in set.words.items set.pages k (rw c.deref.ensures.value at (c.in_ok-page.ensures.2 k from lt))
      | inr le ↦ has_past set.words.items set.pages k (omega (arith, le, c.if-page-self.false))
    ])
