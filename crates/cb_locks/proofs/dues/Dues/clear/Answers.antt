-- Goals of `Dues::clear`.
use Rattle.std.proofs.Common.{◌≡◌, ℕ, List, length, replicate, ap, sym, ◌∙◌, inl, inr, get_or}
use Rattle.std.proofs.lemmas.Bool.{cases_lt}
use Rattle.std.proofs.lemmas.List.{ext_get_or, get_or-replicate, length-replicate}
use Rattle.cb_locks.specs.declared.dues.PageDue.{PageDue}
use Rattle.cb_locks.specs.Dues.{nothing_due}
use Rattle.cb_locks.proofs.dues.Dues.clear.Goals as goal

-- nothing is due of any page
all_none : (dues : List PageDue) → ((k : ℕ) → get_or dues k nothing_due ≡ nothing_due) → dues ≡ replicate (length dues) nothing_due
all_none dues none =
    ext_get_or nothing_due dues (replicate (length dues) nothing_due) (sym (length-replicate (length dues) nothing_due)) (λ i lt. none i ∙ sym (get_or-replicate (length dues) i nothing_due nothing_due lt))

pub returns : goal.returns
returns c =
    let held = c.loop-page.invariant in
    let none : (k : ℕ) → get_or c.loop-page.self k nothing_due ≡ nothing_due = λ k. elim (cases_lt k c.loop-page.from) [ inl early ↦ held.done k early | inr late ↦ c.in_default.ensures k late ] in
    all_none c.loop-page.self none ∙ ap (λ n. replicate n nothing_due) held.size
