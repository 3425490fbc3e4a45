-- Goals of `Marks::new`.
use Rattle.std.proofs.Common.{◌≡◌, ℕ, false, replicate, rules, sym, subst}
use Rattle.cb_asks.specs.Marks.{IsMarks, MarksState, is_in_use}
use Rattle.cb_asks.proofs.Marking.{new_marks, new_none}
use Rattle.cb_asks.proofs.marks.Marks.new.Goals as goal

pub invariant_of-result : goal.invariant_of-result
invariant_of-result c =
    let lists : c.in_ok-empty_sets.field-0.items ≡ replicate c.args.limits.now.clients (replicate c.args.limits.now.pages false) = search rules in
    let sets : c.in_ok-vec.field-0.items ≡ replicate c.args.limits.now.pages c.empty.result = search rules in
    subst IsMarks (λ i. record { by_client = sym lists i; by_page = sym sets i })
    (new_marks c.args.limits.now.clients c.args.limits.now.pages c.empty.result c.empty.ensures c.pages-pages.ensures.in_range.clients c.pages-pages.ensures.in_range.pages)

pub returns-clause-none : goal.returns-clause-none
returns-clause-none c =
    let lists : c.in_ok-empty_sets.field-0.items ≡ replicate c.args.limits.now.clients (replicate c.args.limits.now.pages false) = search rules in
    let sets : c.in_ok-vec.field-0.items ≡ replicate c.args.limits.now.pages c.empty.result = search rules in
    subst (λ (marks : MarksState). (client page : ℕ) → is_in_use marks client page ≡ false) (λ i. record { by_client = sym lists i; by_page = sym sets i })
    (new_none c.args.limits.now.clients c.args.limits.now.pages c.empty.result c.empty.ensures)
