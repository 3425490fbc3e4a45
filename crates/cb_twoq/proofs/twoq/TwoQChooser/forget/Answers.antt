-- Goals of `TwoQChooser::forget`.
use Rattle.std.proofs.Common.{List, rules, sym, subst, arith}
use Rattle.cb_twoq.specs.Law.{Forgets}
use Rattle.cb_twoq.specs.Queues.{TwoQState, AreQueues, forget, members_of}
use Rattle.cb_twoq.specs.Indexed.{queues_of}
use Rattle.cb_twoq.specs.Places.{ArePlaces, Place}
use Rattle.cb_twoq.proofs.Placing.{forgotten_places}
use Rattle.cb_twoq.proofs.Forgotten.{forgotten, forgotten_queues}
use Rattle.cb_twoq.proofs.twoq.TwoQChooser.forget.Goals as goal

pub forget-requires-clause-place : goal.forget-requires-clause-place
forget-requires-clause-place c = search rules

pub invariant_of-self : goal.invariant_of-self
invariant_of-self c = (
  subst AreQueues (sym c.forget.ensures.queues) (forgotten_queues _ c.args.page c.self.invariant.0),
  let cap = c.forget.ensures.cap in let slots = c.forget.ensures.slots in let was = c.self.invariant.1 in omega arith,
  subst (λ (q : TwoQState). ArePlaces c.put_place.new.places.items q) (sym c.forget.ensures.queues)
      (forgotten_places _ c.args.page c.self.invariant.0 _ _
      (subst (λ (l : List Place). ArePlaces l (queues_of c.self.inside.queues)) (sym c.forget.ensures.places) c.self.invariant.2) c.put_place.ensures),
)

pub returns-clause-forgets : goal.returns-clause-forgets
returns-clause-forgets c =
    subst (λ (q : TwoQState). Forgets (members_of c.args.self.now) c.args.page (members_of q)) (sym c.forget.ensures.queues)
    (subst (λ (q : TwoQState). Forgets (members_of q) c.args.page (members_of (forget c.args.page (queues_of c.self.inside.queues)))) c.self.view_is
    (forgotten (queues_of c.self.inside.queues) c.args.page c.self.invariant.0))
