-- Goals of `bring_in`.
use Rattle.std.proofs.Common.{◌≡◌, List, Err, rules, refl, sym, ◌∙◌, subst}
use Rattle.cb_twoq.specs.Queues.{TwoQState, page_of}
use Rattle.cb_twoq.specs.Indexed.{queues_of}
use Rattle.cb_twoq.specs.Places.{ArePlaces, ComesIn, Place}
use Rattle.cb_twoq.specs.declared.chooser.ChooseFault.TheVariants as fault
use Rattle.cb_twoq.proofs.Referred.{off_both}
use Rattle.cb_twoq.proofs.Indexing.{now_slot, referred_newcomer, newcomer_not_full, newcomer_refused}
use Rattle.cb_twoq.proofs.Placing.{as_they_are, entered_places}
use Rattle.cb_twoq.proofs.twoq.newcomers.bring_in.Goals as goal

pub returns-in_default-clause-full : goal.returns-in_default-clause-full
returns-in_default-clause-full c = (
  λ _. newcomer_refused c.args.fixed.now _ _ c.args.page c.requires.queues c.requires.out (as_they_are _ c.args.page c.requires.out)
      (let none = c.in_default.is in search rules),
  λ _. refl,
)

pub enter-requires-clause-slot : goal.enter-requires-clause-slot
enter-requires-clause-slot c =
    now_slot c.args.fixed.now _ _ c.args.page c.requires.queues c.requires.out (as_they_are _ c.args.page c.requires.out) c.in-Some.slot (sym c.in-Some.ensures)

pub returns-in_err-gone-clause-full : goal.returns-in_err-gone-clause-full
returns-in_err-gone-clause-full c = (
  λ e. let memory : c.from_residual.result ≡ Err fault.Memory = search rules in let no : Err fault.Memory ≡ Err fault.Full = sym memory ∙ e in absurd (cc),
  λ f. absurd (newcomer_not_full c.args.fixed.now (queues_of c.args.queues.now) _ c.args.page c.requires.queues c.requires.out (as_they_are _ c.args.page c.requires.out)
      c.in-Some.slot (sym c.in-Some.ensures) f),
)

pub returns-clause-ok : goal.returns-clause-ok
returns-clause-ok c =
    (referred_newcomer c.args.fixed.now _ _ c.args.page c.requires.queues c.requires.out (as_they_are _ c.args.page c.requires.out)
    c.in-Some.slot _ _ (sym c.in-Some.ensures) c.in_ok-gone.ensures.ok c.in_ok-gone.ensures.gone).chooses

pub returns-clause-full : goal.returns-clause-full
returns-clause-full c = (
  λ e. absurd (cc),
  λ f. absurd (newcomer_not_full c.args.fixed.now (queues_of c.args.queues.now) _ c.args.page c.requires.queues c.requires.out (as_they_are _ c.args.page c.requires.out)
      c.in-Some.slot (sym c.in-Some.ensures) f),
)

pub returns-clause-queues : goal.returns-clause-queues
returns-clause-queues c =
    (referred_newcomer c.args.fixed.now _ _ c.args.page c.requires.queues c.requires.out (as_they_are _ c.args.page c.requires.out)
    c.in-Some.slot _ _ (sym c.in-Some.ensures) c.in_ok-gone.ensures.ok c.in_ok-gone.ensures.gone).are

pub returns-clause-places : goal.returns-clause-places
returns-clause-places c =
    let off = off_both _ _ c.requires.out in
    let slot = now_slot c.args.fixed.now _ _ c.args.page c.requires.queues c.requires.out (as_they_are _ c.args.page c.requires.out) c.in-Some.slot (sym c.in-Some.ensures) in
    subst (λ (q : TwoQState). ArePlaces c.come_in.new.places.items q) (sym c.in_ok-gone.ensures.ok)
    (entered_places (queues_of c.args.queues.now) c.args.page c.requires.queues c.args.queues.now.places.items c.come_in.new.places.items c.requires.places off.0 off.1
    c.in-Some.slot slot
    (subst (λ b. ComesIn c.args.queues.now.places.items c.args.page b (page_of c.in-Some.slot) c.come_in.new.places.items) c.is_in-was_remembered.ensures
    (subst (λ g. ComesIn c.args.queues.now.places.items c.args.page c.is_in-was_remembered.result g c.come_in.new.places.items) c.in_ok-gone.ensures.gone
    (subst (λ (l : List Place). ComesIn l c.args.page c.is_in-was_remembered.result c.in_ok-gone.gone c.come_in.new.places.items) c.in_ok-gone.ensures.places c.come_in.ensures))))
