-- Goals of `Commits::changed_pages`.
use Rattle.std.proofs.Common.{◌<◌, ◌∙◌, arith, sym, length, false, inl, inr}
use Rattle.std.proofs.lemmas.Bool.{cases_lt}
use Rattle.std.proofs.lemmas.List.{get_or_past}
use Rattle.cb_commit.proofs.Changed.{changed_step, changed_end}
use Rattle.cb_commit.proofs.commits.Commits.changed_pages.Goals as goal

pub loop-page-preserved : goal.loop-page-preserved
loop-page-preserved c =
    let inv = c.loop-page.invariant in
    let flags = c.self.invariant.1.flags in
    let step = c.in-Some.ensures in
    let there : c.in-Some.page < length c.self.inside.changed = elim (cases_lt c.in-Some.page (length c.self.inside.changed)) [
      | inl lt ↦ lt
      | inr le ↦ absurd (let none = get_or_past c.self.inside.changed c.in-Some.page false le in let is = step.1 in cc)
    ] in
    let next = changed_step c.self.inside.flushed c.self.inside.store.pages c.loop-page.from c.in-Some.page step.0
    (λ k le lt. sym (flags k) ∙ step.2 k le lt) (sym (flags c.in-Some.page) ∙ step.1) in
    record {
      taken = rw (c.index-from.ensures.value, ← c.self.view_is) (c.in_ok-push.ensures.items ∙ rw (c.version.ensures.value, c.in_ok-copy_of.ensures, c.bytes.ensures.value, inv.taken, ← c.self.view_is) (sym next));
      within = rw (← c.self.view_is) (omega (arith, c.index-from.ensures.value, there, c.self.invariant.1.size));
    }

pub returns : goal.returns
returns c =
    let inv = c.loop-page.invariant in
    let flags = c.self.invariant.1.flags in
    inv.taken ∙ rw (← c.self.view_is) (changed_end c.self.inside.flushed c.self.inside.store.pages c.loop-page.from (rw (← c.self.view_is) at inv.within) (λ k le. sym (flags k) ∙ c.in_default.ensures k le))
