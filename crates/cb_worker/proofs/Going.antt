-- An open transaction goes on by messages, or is aborted by one.
use Rattle.std.proofs.Common.{◌≡◌, ◌⊎◌, ◌&&◌, inl, inr, ℕ, Bool, true, false, if◌then◌else◌, List, [], ◌∷◌, Option, refl, sym, ◌∙◌, ap}
use Rattle.std.specs.Prelude.{⊤}
use Rattle.cb_protocol.proofs.ClientReady.{Plain, plain_pages}
use Rattle.cb_protocol.specs.Basics.{Limits, is_exactly}
use Rattle.cb_protocol.specs.Cache.{Abandon, Idle, Open, TakeDone, TakePermission, TakeWelcome, TransactionState, is_committing, is_open}
use Rattle.cb_protocol.specs.Client.{Aborted, ChangeCache, Client, ClientStep, Committed, EndTransaction, MarkDue, MarkDueDowngrade, MarkWanted, NoAsk, Say, SetAsk, after_client_step, asks_to_write, client_after}
use Rattle.cb_protocol.specs.ClientEnd.{drop_transaction, end_pages}
use Rattle.cb_protocol.specs.ClientMessages.{client_take, of_committing_txn, of_open_txn, take_callback, take_downgrade, take_granted, take_welcomed}
use Rattle.cb_protocol.specs.Messages.{AbortNow, Body, Callback, Done, Downgrade, Granted, MayWrite, Welcome}
use Rattle.cb_worker.proofs.Keeping.{AllOn, on_called, on_downgraded, on_granted, outcome_so, plain_status, stays_so}
use Rattle.cb_worker.specs.Keeping.{OpenOrAborted}

-- how the last one ended isn't changed by the pages that are given up at its end
plain_outcome : (keep_write : Bool) (k : Client) (steps : List ClientStep) → Plain steps → (client_after keep_write k steps).last_outcome ≡ k.last_outcome
plain_outcome keep_write k [] a = refl
plain_outcome keep_write k (ChangeCache m ∷ steps) a = plain_outcome keep_write (after_client_step keep_write k (ChangeCache m)) steps a.1
plain_outcome keep_write k (Say b ∷ steps) a = plain_outcome keep_write k steps a
plain_outcome keep_write k (SetAsk x ∷ steps) a = absurd a
plain_outcome keep_write k (MarkWanted p ∷ steps) a = absurd a
plain_outcome keep_write k (MarkDue p ∷ steps) a = absurd a
plain_outcome keep_write k (MarkDueDowngrade p y ∷ steps) a = absurd a
plain_outcome keep_write k (EndTransaction l ∷ steps) a = absurd a

left_out : (a b : Bool) → a ≡ false → (a && b) ≡ false
left_out true b e = absurd cc
left_out false b e = refl

-- no message is about a transaction that isn't there
not_committing : (k : Client) (t : ℕ) (s : TransactionState) → k.cache.status ≡ s → is_committing s ≡ false → of_committing_txn k t ≡ false
not_committing k t s e f = left_out _ _ (ap is_committing e ∙ f)

not_open : (k : Client) (t : ℕ) → k.cache.status ≡ Idle → of_open_txn k t ≡ false
not_open k t e = left_out _ _ (ap is_open e)

module _ (L : Limits) (k : Client) where
  -- where no step ends it
  quiet : (steps : List ClientStep) → AllOn (λ q. ⊤) steps → OpenOrAborted k (client_after L.keep_write k steps)
  quiet steps a = record {
    idle = λ e. (stays_so L.keep_write k (λ q. ⊤) steps a ∙ e, outcome_so L.keep_write k (λ q. ⊤) steps a);
    opened = λ e. inl (stays_so L.keep_write k (λ q. ⊤) steps a ∙ e);
  }

  aborts : (t : ℕ) → of_open_txn k t ≡ true → OpenOrAborted k (client_after L.keep_write k (drop_transaction L k Aborted))
  aborts t e = record {
    idle = λ i. absurd (let z : true ≡ false = sym e ∙ not_open k t i in cc);
    opened = λ o. inr (
      plain_status L.keep_write (client_after L.keep_write k (EndTransaction Aborted ∷ ChangeCache Abandon ∷ [])) (end_pages k true L.pages) (plain_pages k true L.pages),
      plain_outcome L.keep_write (client_after L.keep_write k (EndTransaction Aborted ∷ ChangeCache Abandon ∷ [])) (end_pages k true L.pages) (plain_pages k true L.pages),
    );
  }

  commits : (t : ℕ) (l : Client) → of_committing_txn k t ≡ true → OpenOrAborted k l
  commits t l e = record {
    idle = λ i. absurd (let z : true ≡ false = sym e ∙ not_committing k t Idle i refl in cc);
    opened = λ o. absurd (let z : true ≡ false = sym e ∙ not_committing k t Open o refl in cc);
  }

  module _ (let_go : Option ℕ) where
    by_welcomed : (b : Body) → OpenOrAborted k (client_after L.keep_write k (take_welcomed L k b let_go))
    by_welcomed (Granted p g x b) = quiet (take_granted k p g x b let_go (k.cache.held p)) (on_granted k (λ q. ⊤) (λ q e. tt) (λ q e. tt) (λ q e. tt) p g x b let_go (λ f q e. tt))
    by_welcomed (MayWrite t p g) = go (of_open_txn k t && asks_to_write k.ask p && is_exactly (k.cache.held p) g)
      where
        go : (r : Bool) → OpenOrAborted k (client_after L.keep_write k (if r then SetAsk NoAsk ∷ ChangeCache (TakePermission p) ∷ [] else []))
        go true = quiet (SetAsk NoAsk ∷ ChangeCache (TakePermission p) ∷ []) ((λ q. refl), (tt, tt))
        go false = quiet [] tt
    by_welcomed (Callback p g) = quiet (take_callback k p g) (on_called k (λ q. ⊤) (λ q e. tt) (λ q e. tt) (λ q e. tt) p g)
    by_welcomed (Done t m) = go (of_committing_txn k t) refl
      where
        go : (r : Bool) → of_committing_txn k t ≡ r → OpenOrAborted k (client_after L.keep_write k (if r then EndTransaction (Committed m) ∷ ChangeCache (TakeDone m) ∷ end_pages k false L.pages else []))
        go true e = commits t _ e
        go false e = quiet [] tt
    by_welcomed (AbortNow t) = go (of_open_txn k t) refl
      where
        go : (r : Bool) → of_open_txn k t ≡ r → OpenOrAborted k (client_after L.keep_write k (if r then drop_transaction L k Aborted else []))
        go true e = aborts t e
        go false e = quiet [] tt
    by_welcomed (Downgrade p g t) = go L.keep_write
      where
        go : (r : Bool) → OpenOrAborted k (client_after L.keep_write k (if r then take_downgrade k p g t else []))
        go true = quiet (take_downgrade k p g t) (on_downgraded k (λ q. ⊤) (λ q e. tt) (λ q e. tt) (λ q e. tt) p g t)
        go false = quiet [] tt
    by_welcomed _ = quiet [] tt

    pub take_goes : (b : Body) → OpenOrAborted k (client_after L.keep_write k (client_take L k b let_go))
    unfolding client_take
    take_goes Welcome = quiet (ChangeCache TakeWelcome ∷ []) (tt, tt)
    take_goes b = go k.cache.welcomed
      where
        go : (r : Bool) → OpenOrAborted k (client_after L.keep_write k (if r then take_welcomed L k b let_go else []))
        go true = by_welcomed b
        go false = quiet [] tt

pub goes_same : (k : Client) → OpenOrAborted k k
goes_same k = record { idle = λ e. (e, refl); opened = λ e. inl e }

pub then_goes : (one two three : Client) → OpenOrAborted one two → OpenOrAborted two three → OpenOrAborted one three
then_goes one two three p q = record {
  idle = λ e. let a = p.idle e in let b = q.idle a.0 in (b.0, b.1 ∙ a.1);
  opened = λ e. by (p.opened e);
}
  where
    by : (two.cache.status ≡ Open) ⊎ ((two.cache.status ≡ Idle) × (two.last_outcome ≡ Aborted)) → (three.cache.status ≡ Open) ⊎ ((three.cache.status ≡ Idle) × (three.last_outcome ≡ Aborted))
    by (inl o) = q.opened o
    by (inr over) = let b = q.idle over.0 in inr (b.0, b.1 ∙ over.1)
