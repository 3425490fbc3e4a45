-- Goals of `PlainTwoQChooser::reference`.
use Rattle.std.proofs.Common.{refl, sym, ◌∙◌}
use Rattle.cb_twoq.proofs.Referred.{as_member, as_newcomer, as_refused}
use Rattle.cb_twoq.proofs.plain.PlainTwoQChooser.reference.Goals as goal

pub invariant_of-self : goal.invariant_of-self
invariant_of-self c = rw c.renew.ensures.queues (as_member c.args.fixed.now _ c.args.page c.self.invariant (sym c.renew.ensures.there ∙ c.if-renew.true)).keeps.0

pub returns-then-renew-clause-ok : goal.returns-then-renew-clause-ok
returns-then-renew-clause-ok c =
    rw (c.renew.ensures.queues, ← c.self.view_is) (as_member c.args.fixed.now _ c.args.page c.self.invariant (sym c.renew.ensures.there ∙ c.if-renew.true)).keeps.1

pub returns-then-renew-clause-within : goal.returns-then-renew-clause-within
returns-then-renew-clause-within c =
    rw c.renew.ensures.queues (as_member c.args.fixed.now _ c.args.page c.self.invariant (sym c.renew.ensures.there ∙ c.if-renew.true)).within

pub enter-requires : goal.enter-requires
enter-requires c =
    (as_newcomer c.args.fixed.now _ _ c.args.page c.self.invariant (sym c.renew.ensures.there ∙ c.if-renew.false) c.renew.ensures.queues c.in-Some.slot (sym c.in-Some.ensures)).keeps.0

pub invariant_of-self-in-Some : goal.invariant_of-self-in-Some
invariant_of-self-in-Some c =
    rw c.enter.ensures.queues (as_newcomer c.args.fixed.now _ _ c.args.page c.self.invariant (sym c.renew.ensures.there ∙ c.if-renew.false) c.renew.ensures.queues c.in-Some.slot (sym c.in-Some.ensures)).keeps.0

pub returns-in-Some-clause-ok : goal.returns-in-Some-clause-ok
returns-in-Some-clause-ok c =
    rw (c.enter.ensures.queues, c.enter.ensures.gone, ← c.self.view_is)
    (as_newcomer c.args.fixed.now _ _ c.args.page c.self.invariant (sym c.renew.ensures.there ∙ c.if-renew.false) c.renew.ensures.queues c.in-Some.slot (sym c.in-Some.ensures)).keeps.1

pub returns-in-Some-clause-full : goal.returns-in-Some-clause-full
returns-in-Some-clause-full c =
    let n = as_newcomer c.args.fixed.now _ _ c.args.page c.self.invariant (sym c.renew.ensures.there ∙ c.if-renew.false) c.renew.ensures.queues c.in-Some.slot (sym c.in-Some.ensures) in
    (λ e. absurd (cc), rw (← c.self.view_is) (λ f. absurd (n.not_full f)))

pub returns-in-Some-clause-within : goal.returns-in-Some-clause-within
returns-in-Some-clause-within c =
    rw c.enter.ensures.queues (as_newcomer c.args.fixed.now _ _ c.args.page c.self.invariant (sym c.renew.ensures.there ∙ c.if-renew.false) c.renew.ensures.queues c.in-Some.slot (sym c.in-Some.ensures)).within

pub returns-in-None-clause-full : goal.returns-in-None-clause-full
returns-in-None-clause-full c =
    let f = as_refused c.args.fixed.now _ _ c.args.page c.self.invariant (sym c.renew.ensures.there ∙ c.if-renew.false) c.renew.ensures.queues (sym c.in-None.ensures) in
    (rw (← c.self.view_is) (λ _. f), λ _. refl)
