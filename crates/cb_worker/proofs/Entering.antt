-- Why a client doesn't join, and of what hand a worker is.
use Rattle.std.proofs.Common.{◌≡◌, ◌≤◌, inl, inr, ℕ, None, [], Result, Ok, Err, refl, sym, ◌∙◌, ap, subst}
use Rattle.std.specs.Prelude.{IfErr, IfOk, ◌⊎◌}
use Rattle.cb_client.specs.declared.client_fault.ClientFault.TheVariants as client
use Rattle.cb_client_core.specs.ClientState.{ClientState, new_state}
use Rattle.cb_hands.specs.Hands.{HandState}
use Rattle.cb_page.specs.Bounds.{Bounds}
use Rattle.cb_station.specs.Stations.{StationState}
use Rattle.cb_station.specs.declared.office_fault.OfficeFault.{OfficeFault}
use Rattle.cb_station.specs.declared.office_fault.OfficeFault.TheVariants as office
use Rattle.cb_worker.proofs.Staying.{same}
use Rattle.cb_worker.specs.Entering.{HasLimits, JoinsAndTells, JoinsSome, JoinsWith, RestartsSome, TriesToLeave}
use Rattle.cb_worker.specs.Moving.{HasJoined, HasRestarted, IsStill, new_worker}
use Rattle.cb_worker.specs.Refusals.{RefusesJoin, StopsServing}
use Rattle.cb_worker.specs.Workers.{WorkerState}
use Rattle.cb_worker.specs.declared.worker_fault.WorkerFault.{WorkerFault}
use Rattle.cb_worker.specs.declared.worker_fault.WorkerFault.TheVariants as worker

-- these limits haven't got it
pub not_here : (limits : Bounds) (n : ℕ) → limits.clients ≤ n → RefusesJoin limits n (worker.Office office.Foreign)
not_here limits n e = inl (inl (refl, e))

-- the station refused it
pub not_let_in : (limits : Bounds) (n : ℕ) (f : OfficeFault) → JoinsSome limits n (Err f) → RefusesJoin limits n (worker.Office f)
not_let_in limits n f j = inl (inr j)

-- what a station that lets a client in says of its hand
module _ (limits : Bounds) (n : ℕ) (hand : HandState) (joins : JoinsSome limits n (Ok hand)) where
  let_in : HasLimits joins.0 limits × JoinsAndTells joins.0 n (Ok hand) joins.1
  let_in = by joins.3
    where
      by : JoinsWith joins.0 limits n (Ok hand) joins.1 → HasLimits joins.0 limits × JoinsAndTells joins.0 n (Ok hand) joins.1
      by (inl let_so) = let_so
      by (inr refused) = absurd (let e = refused.1 in cc)

  is_client : hand.client ≡ n
  is_client = ap (λ (h : HandState). h.client) let_in.1.1.hand

-- there was no memory for it
pub unmade : (limits : Bounds) (n : ℕ) (hand : HandState) → JoinsSome limits n (Ok hand) → TriesToLeave hand → RefusesJoin limits n (worker.Client client.Memory)
unmade limits n hand joins leaves = inr (record {
  last = new_worker hand limits;
  joined = record { hand = hand; joins = joins; still = same (new_worker hand limits) (new_worker hand limits) refl };
  leaves = leaves;
  why = inl refl;
})

-- the worker that was made of a hand is the new one of it
pub made_of : (limits : Bounds) (n : ℕ) (hand : HandState) (made : ClientState) (w : WorkerState) → JoinsSome limits n (Ok hand) → made ≡ new_state n hand.incarnation limits
    → w ≡ record { client = made; hand = hand; collected = None; said = [] } → w ≡ new_worker hand limits
made_of limits n hand made w joins e is =
    is ∙ (λ j. record { client = (e ∙ (λ k. new_state (sym (is_client limits n hand joins) k) hand.incarnation limits)) j; hand = hand; collected = None; said = [] })

pub has_joined : (limits : Bounds) (n : ℕ) (hand : HandState) (made : ClientState) (w last : WorkerState) → JoinsSome limits n (Ok hand) → made ≡ new_state n hand.incarnation limits
    → w ≡ record { client = made; hand = hand; collected = None; said = [] } → IsStill w last → HasJoined limits n last
has_joined limits n hand made w last joins e is still = record {
  hand = hand;
  joins = joins;
  still = subst (λ (x : WorkerState). IsStill x last) (made_of limits n hand made w joins e is) still;
}

-- its Welcome didn't come
pub unwelcomed : (limits : Bounds) (n : ℕ) (last : WorkerState) (f : WorkerFault) → HasJoined limits n last → TriesToLeave last.hand → StopsServing last f → RefusesJoin limits n f
unwelcomed limits n last f joined leaves stops = inr (record { last = last; joined = joined; leaves = leaves; why = inr stops })

-- a worker that began another incarnation is what that of its hand became
module _ (old : WorkerState) (i : ℕ) (hand : HandState) (renewed : ClientState) (w : WorkerState) (began : RestartsSome old.hand i (Ok hand)) (made : renewed ≡ new_state old.hand.client i old.client.copies.limits)
    (is : w ≡ record { client = renewed; hand = hand; collected = None; said = [] }) where
  empty : (hand.client ≡ old.hand.client) × (hand.incarnation ≡ i)
  empty = let e = began.3.1.next in (ap (λ (h : HandState). h.client) e, ap (λ (h : HandState). h.incarnation) e)

  is_new : w ≡ new_worker hand old.client.copies.limits
  is_new = is ∙ (λ j. record { client = (made ∙ (λ k. new_state (sym empty.0 k) (sym empty.1 k) old.client.copies.limits)) j; hand = hand; collected = None; said = [] })

  pub has_restarted : (new : WorkerState) → IsStill w new → HasRestarted old i new
  has_restarted new still = record { hand = hand; restarts = began; still = subst (λ (x : WorkerState). IsStill x new) is_new still }

  -- where it is welcomed, and where it isn't
  pub restarted_ok : {E : Type 0} (r : Result WorkerState E) → IfOk r (λ worker. IsStill w worker) → IfOk r (HasRestarted old i)
  restarted_ok (Ok new) still = has_restarted new still
  restarted_ok (Err e) still = tt

  pub restarted_err : {A : Type 0} (r : Result A (WorkerFault × WorkerState)) → IfErr r (λ refused. IsStill w refused.1) → IfErr r (λ refused. (refused.1 ≡ old) ⊎ HasRestarted old i refused.1)
  restarted_err (Ok a) still = tt
  restarted_err (Err refused) still = inr (has_restarted refused.1 still)
