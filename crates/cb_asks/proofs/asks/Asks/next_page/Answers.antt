-- Goals of `Asks::next_page`.
use Rattle.std.proofs.Common.{◌≡◌, ◌⊎◌, ◌≢◌, ℕ, true, sym, ◌∙◌, ap, subst, inl, inr, if◌then◌else◌, ◌≤◌, Option, Some, [], IfSome}
use Rattle.std.proofs.lemmas.Bool.{cases_eq}
use Rattle.cb_page.specs.Clients.{Clients, has}
use Rattle.cb_asks.specs.Asks.{AsksState, HasPage, IsAsks, queue_at}
use Rattle.cb_asks.specs.Places.{IsUpTo, place_of}
use Rattle.cb_asks.proofs.Steps.{apart_is, if_found, in_difference, next_found, not_in_difference}
use Rattle.cb_asks.proofs.asks.Asks.next_page.Goals as goal

pub loop-client-smaller : goal.loop-client-smaller
loop-client-smaller c = c.insert.ensures.grows (in_difference _ _ _ (c.difference.ensures c.in-Some.client) c.in-Some.ensures.here)

pub loop-client-preserved : goal.loop-client-preserved
loop-client-preserved c = record {
  least = λ client page is at le. near client page is at le (cases_eq client c.in-Some.client);
  found = found c.nearer-next.ensures.one;
}
  where
    state : AsksState
    state = c.args.self.now

    is_asks : IsAsks state
    is_asks = rw (← c.self.view_is) c.self.invariant.0

    own : c.get.result ≡ place_of state.places c.in-Some.client
    own = rw (← c.self.view_is) c.get.ensures

    Found : Option ℕ → Type 0
    Found next = IfSome next (λ page. (c.args.from ≤ page) × HasPage state page × (queue_at state page ≢ []))

    near : (client page : ℕ) → has c.insert.new.self client ≡ true → place_of state.places client ≡ Some page → c.args.from ≤ page → (client ≡ c.in-Some.client) ⊎ (client ≢ c.in-Some.client) → IsUpTo c.nearer-next.result page
    near client page is at le (inl here) = c.nearer-next.ensures.place page (own ∙ ap (place_of state.places) (sym here) ∙ at) le
    near client page is at le (inr apart) =
        c.nearer-next.ensures.best page (c.loop-client.invariant.least client page
        (sym (c.insert.ensures.members client ∙ ap (λ b. if b then true else has c.loop-client.followed client) (apart_is client c.in-Some.client apart)) ∙ is) at le)

    found : (c.nearer-next.result ≡ c.loop-client.next) ⊎ ((c.nearer-next.result ≡ c.get.result) × IfSome c.get.result (λ page. c.args.from ≤ page))
        → IfSome c.nearer-next.result (λ page. (c.args.from ≤ page) × HasPage state page × (queue_at state page ≢ []))
    found (inl same) = subst Found (sym same) c.loop-client.invariant.found
    found (inr new) = subst Found (sym new.0) (if_found state is_asks c.args.from c.in-Some.client c.get.result own new.1)

pub returns : goal.returns
returns c = next_found c.args.self.now (rw (← c.self.view_is) c.self.invariant.0) c.args.from c.loop-client.next
    (λ client page waits at le. c.loop-client.invariant.least client page
    (not_in_difference _ _ _ (c.difference.ensures client) (c.in_default.ensures client) (ap (λ (set : Clients). has set client) same ∙ waits)) at le)
    c.loop-client.invariant.found
  where
    same : c.waiting.result ≡ c.args.self.now.places.waiting
    same = rw (← c.self.view_is) c.waiting.ensures
