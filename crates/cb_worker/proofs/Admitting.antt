-- A client that enters was let in, as it asked in its own name.
use Rattle.std.proofs.Common.{◌≡◌, inl, inr, ℕ, Option, Some, None, Result, Ok, Err, IfSome, subst}
use Rattle.std.specs.Prelude.{IfOk}
use Rattle.cb_admission.specs.declared.window.TryEnd.{TryEnd}
use Rattle.cb_station.specs.Stations.{IsStation, StationState}
use Rattle.cb_worker.specs.Admitting.{AsksAgainAndTells, AsksAndTells, EntersAgainAt, EntersAt, WasLetIn}
use Rattle.cb_worker.specs.Serving.{ServesAndTells}
use Rattle.cb_worker.specs.Workers.{WorkerState}
use Rattle.cb_worker.specs.declared.worker_fault.WorkerFault.{WorkerFault}

module _ {A : Type 0} (old new : WorkerState) (before served after : StationState) where
  -- it served, and asked
  pub asked : (client : ℕ) (ticket : Option A) → client ≡ old.hand.client → ServesAndTells old before (Ok tt) new served → AsksAndTells served client ticket after → EntersAt old before (Ok ticket) new after
  asked client ticket own serves asks = (served, serves, subst (λ (n : ℕ). AsksAndTells served n ticket after) own asks)

  pub asked_again : (client : ℕ) (end : TryEnd) (ticket : Option A) → client ≡ old.hand.client → ServesAndTells old before (Ok tt) new served → AsksAgainAndTells served end client ticket after
      → EntersAgainAt old before end (Ok ticket) new after
  asked_again client end ticket own serves asks = (served, serves, subst (λ (n : ℕ). AsksAgainAndTells served end n ticket after) own asks)

module _ {A : Type 0} (old new : WorkerState) (before after : StationState) (sound : IsStation before) where
  -- who was let in was so by asking
  pub by_asking : (r : Result (Option A) WorkerFault) → EntersAt old before r new after → IfOk r (λ ticket. IfSome ticket (WasLetIn new))
  by_asking (Ok (Some ticket)) enters = (old, before, after, sound, inl enters)
  by_asking (Ok None) enters = tt
  by_asking (Err fault) enters = tt

  pub by_asking_again : (end : TryEnd) (r : Result (Option A) WorkerFault) → EntersAgainAt old before end r new after → IfOk r (λ ticket. IfSome ticket (WasLetIn new))
  by_asking_again end (Ok (Some ticket)) enters = (old, before, after, sound, inr (end, enters))
  by_asking_again end (Ok None) enters = tt
  by_asking_again end (Err fault) enters = tt
