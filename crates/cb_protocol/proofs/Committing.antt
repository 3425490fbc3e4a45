-- A client's committing transaction: what a step of the machine leaves of it until it is applied.
use Rattle.std.proofs.Common.{Bool, None, Some, arith, false, if◌then◌else◌, inl, inr, refl, subst, sym, true, ℕ, ◌==◌, ◌≡◌, ◌≢◌, ◌⊎◌}
use Rattle.cb_protocol.proofs.Invariant.{Invariant, MessageFact}
use Rattle.cb_protocol.proofs.Machine.{ClientChanges, ClientMayChange, ClientRestarts, ClientSays, Machine, MachineMay, MachineStep, ServerChanges, ServerSends, WasSent, happens, present_cache}
use Rattle.cb_protocol.proofs.MachineSteps.{mover_current, present_now}
use Rattle.cb_protocol.specs.Cache.{Abandon, Begin, Cache, CacheChange, Committing, Fill, Finish, Install, LetGo, Lock, MakeBare, Read, RefuseGrant, TakeDone, TakePermission, TakeWelcome, WriteBytes, YieldPermission, cache_after}
use Rattle.cb_protocol.specs.Messages.{Body, Done}
use Rattle.cb_protocol.specs.Session.{Session, Store, store_after}

-- the client's transaction x is committing
abbrev pub Awaits : Cache → ℕ → Type 0
Awaits k x = (k.status ≡ Committing) × (k.number ≡ x)

-- page p is locked, by a copy with grant g, read at version v
pub record Locks (k : Cache) (p g v : ℕ) : Type 0 where
  pub locked : k.locked p ≡ true
  pub held : k.held p ≡ Some g
  pub version : k.version p ≡ v

-- it goes on committing, with the same pages locked
pub record GoesOn (k l : Cache) (x : ℕ) : Type 0 where
  pub awaits : Awaits l x
  pub locks : (p g v : ℕ) → Locks k p g v → Locks l p g v

-- a change of the client is its Done, or it goes on
goes_on : (c : ℕ) (s : Store) (t : Session) (k : Cache) (Came : Body → Type 0) (m : CacheChange) (x : ℕ) → ((y : Body) → Came y → MessageFact c s t k y) → ClientMayChange Came k m → Awaits k x
    → (s.commit_number c t.current x ≢ None) ⊎ GoesOn k (cache_after s.keep_write k m) x
goes_on c s t k Came TakeWelcome x f a l = inr (grind arith)
goes_on c s t k Came Begin x f a l = inr (grind arith)
goes_on c s t k Came (Lock q) x f a l = inr (grind arith)
goes_on c s t k Came (Read q b) x f a l = inr (grind arith)
goes_on c s t k Came (TakePermission q) x f a l = inr (grind arith)
goes_on c s t k Came (WriteBytes q b) x f a l = inr (grind arith)
goes_on c s t k Came Finish x f a l = inr (grind arith)
goes_on c s t k Came Abandon x f a l = inr (grind arith)
goes_on c s t k Came (TakeDone n) x f a l = let d = f (Done k.number n) a.2 in inl (grind arith)
goes_on c s t k Came (Install q h u b) x f a l = inr (grind arith)
goes_on c s t k Came (Fill q h b) x f a l = inr (grind arith)
goes_on c s t k Came (RefuseGrant q h) x f a l = inr (grind arith)
goes_on c s t k Came (LetGo q) x f a l = inr (grind arith)
goes_on c s t k Came (MakeBare q) x f a l = inr (grind arith)
goes_on c s t k Came (YieldPermission q) x f a l = inr (grind arith)

-- what was applied stays so
pub stays_applied : (w : Machine) (e : MachineStep) (c i x : ℕ) → w.store.commit_number c i x ≢ None → (happens w e).store.commit_number c i x ≢ None
stays_applied w (ClientChanges d m) c i x n = n
stays_applied w (ClientSays d y) c i x n = n
stays_applied w (ServerChanges d m) c i x n = kept w.store (w.session d) n
  where
    kept : (s : Store) (t : Session) → s.commit_number c i x ≢ None → (store_after s d t m).commit_number c i x ≢ None
    kept s t o = grind arith
stays_applied w (ServerSends d j y) c i x n = n
stays_applied w (ClientRestarts d) c i x n = n

-- so at a step of the machine, also of an incarnation that ended
pub still_committing : (w : Machine) (e : MachineStep) (c i x : ℕ) → Invariant w → MachineMay w e → Awaits (w.client c i) x
    → ((happens w e).store.commit_number c i x ≢ None) ⊎ GoesOn (w.client c i) ((happens w e).client c i) x
still_committing w (ClientChanges d m) c i x h a l = go (c == d) refl (i == w.incarnation d) refl
  where
    k : Cache
    k = cache_after w.store.keep_write (present_cache w d) m

    same : (b n : ℕ) → (b == n) ≡ true → b ≡ n
    same b n e = grind arith

    now : (w.session d).current ≡ w.incarnation d
    now = mover_current w d m h a

    Claim : ℕ → ℕ → Type 0
    Claim b j = (w.store.commit_number b j x ≢ None) ⊎ GoesOn (w.client b j) k x

    mine : Awaits (present_cache w d) x → Claim d (w.incarnation d)
    mine r = subst (λ (j : ℕ). (w.store.commit_number d j x ≢ None) ⊎ GoesOn (present_cache w d) k x) now
        (goes_on d w.store (w.session d) (present_cache w d) (WasSent w d (w.incarnation d)) m x (λ y. present_now w d y h now) a r)

    there : c ≡ d → i ≡ w.incarnation d → Claim c i
    there e f = subst (λ (b : ℕ). Claim b i) (sym e) (subst (λ (j : ℕ). Claim d j) (sym f)
        (mine (subst (λ (j : ℕ). Awaits (w.client d j) x) f (subst (λ (b : ℕ). Awaits (w.client b i) x) e l))))

    go : (b : Bool) → (c == d) ≡ b → (q : Bool) → (i == w.incarnation d) ≡ q → (w.store.commit_number c i x ≢ None) ⊎ GoesOn (w.client c i) (if b then (if q then k else w.client c i) else w.client c i) x
    go true e true f = there (same c d e) (same i (w.incarnation d) f)
    go true e false f = inr (record { awaits = l; locks = λ p g v z. z })
    go false e q f = inr (record { awaits = l; locks = λ p g v z. z })
still_committing w (ClientSays d y) c i x h a l = inr (record { awaits = l; locks = λ p g v z. z })
still_committing w (ServerChanges d m) c i x h a l = inr (record { awaits = l; locks = λ p g v z. z })
still_committing w (ServerSends d j y) c i x h a l = inr (record { awaits = l; locks = λ p g v z. z })
still_committing w (ClientRestarts d) c i x h a l = inr (record { awaits = l; locks = λ p g v z. z })
