-- Goals of `Copies::say_of_each_as`.
use Rattle.std.proofs.Common.{◌≡◌, ◌≢◌, length, refl, sym, ap, ◌∙◌, true≢false, arith, rules}
use Rattle.cb_hands.specs.Hands.{held_at}
use Rattle.cb_hands.proofs.Packing.{said_of_all, said_of_one_more}
use Rattle.cb_hands.proofs.copies.Copies.say_of_each_as.Goals as goal

pub returns-then-ne : goal.returns-then-ne
returns-then-ne c = (
  λ f. absurd (true≢false (sym f)),
  λ e. let apart : c.at_place.result ≢ c.at_place-in-loop-page.result = search rules in
      absurd (apart (c.at_place.ensures ∙ ap (λ held. held_at held c.loop-page.page) e ∙ sym c.at_place-in-loop-page.ensures)),
)

pub loop-page-preserved : goal.loop-page-preserved
loop-page-preserved c = let here : held_at c.args.self.now c.loop-page.page ≡ held_at c.args.others.now c.loop-page.page = search rules in said_of_one_more _ _ _ c.loop-page.invariant here

pub returns : goal.returns
returns c =
    let size : length c.args.self.now ≡ length c.args.others.now = search rules in
    let past = c.loop-page-test.false in let end = c.pages-page-end.ensures in
    (λ _. said_of_all c.args.self.now c.args.others.now c.loop-page.page size c.loop-page.invariant (omega (arith, past, end)), λ _. refl)
