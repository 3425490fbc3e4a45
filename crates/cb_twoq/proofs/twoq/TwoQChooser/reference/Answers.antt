-- Goals of `TwoQChooser::reference`.
use Rattle.std.proofs.Common.{List, None, sym, ◌∙◌, subst, arith}
use Rattle.cb_twoq.specs.Law.{Chooses}
use Rattle.cb_twoq.specs.Queues.{TwoQState, members_of}
use Rattle.cb_twoq.specs.Indexed.{queues_of}
use Rattle.cb_twoq.specs.Places.{ArePlaces, Place}
use Rattle.cb_twoq.proofs.Indexing.{referred_member}
use Rattle.cb_twoq.proofs.Placing.{renewed_places}
use Rattle.cb_twoq.proofs.twoq.TwoQChooser.reference.Goals as goal

pub invariant_of-self : goal.invariant_of-self
invariant_of-self c = (
  (referred_member c.args.fixed.now _ _ c.args.page c.self.invariant.0 (sym c.renew.ensures.there ∙ c.if-renew.true) c.renew.ensures.queues).are,
  let cap = c.renew.ensures.cap in let slots = c.renew.ensures.slots in let was = c.self.invariant.1 in omega arith,
  subst (λ (l : List Place). ArePlaces l (queues_of c.renew.new.self)) (sym c.renew.ensures.places)
      (renewed_places _ _ _ c.args.page c.self.invariant.2 c.renew.ensures.queues),
)

pub returns-then-renew-clause-ok : goal.returns-then-renew-clause-ok
returns-then-renew-clause-ok c =
    subst (λ (q : TwoQState). Chooses q.slots c.args.fixed.now (members_of q) c.args.page None (members_of (queues_of c.renew.new.self))) c.self.view_is
    (referred_member c.args.fixed.now _ _ c.args.page c.self.invariant.0 (sym c.renew.ensures.there ∙ c.if-renew.true) c.renew.ensures.queues).chooses

pub returns-then-renew-clause-within : goal.returns-then-renew-clause-within
returns-then-renew-clause-within c =
    (referred_member c.args.fixed.now _ _ c.args.page c.self.invariant.0 (sym c.renew.ensures.there ∙ c.if-renew.true) c.renew.ensures.queues).within
