-- What holds of the clients of the present life, those from its floor on, in the world's own words.
use Rattle.std.proofs.Common.{List, None, Option, Some, arith, refl, subst, sym, true, ℕ, ◌<◌, ◌∙◌, ◌≡◌, ◌≢◌, ◌≤◌}
use Rattle.cb_laws.proofs.WrittenMarks.{AllMarks, MarksExact}
use Rattle.cb_laws.specs.WrittenPages.{operations_so_far}
use Rattle.cb_protocol.proofs.Invariant.{SessionFacts}
use Rattle.cb_protocol.proofs.LifeImage.{Image, Life}
use Rattle.cb_protocol.proofs.LifeOperations.{life_transaction}
use Rattle.cb_protocol.proofs.Machine.{Machine, present_cache}
use Rattle.cb_protocol.proofs.MachineSteps.{present_good}
use Rattle.cb_protocol.proofs.ReadVersions.{AllRead, ReadFacts}
use Rattle.cb_protocol.specs.Basics.{Bytes, Limits}
use Rattle.cb_protocol.specs.Cache.{Cache, Idle, new_cache}
use Rattle.cb_protocol.specs.Serial.{PerformedOperation, transaction_operations}
use Rattle.cb_protocol.specs.Session.{Session, Store}
use Rattle.cb_protocol.specs.Transcript.{transcript_operations}
use Rattle.cb_protocol.specs.World.{World}

-- a client's cache as it is
abbrev pub cache_now : World → ℕ → Cache
cache_now v c = (v.client c).cache

-- it has something: it is of the server's current incarnation
abbrev pub IsCurrent : World → ℕ → Type 0
IsCurrent v c = (v.server.session c).current ≡ v.incarnation c

pub record Present (floor : ℕ) (v : World) : Type 0 where
  pub good : (c : ℕ) → floor ≤ v.incarnation c → IsCurrent v c → SessionFacts c v.server.store (v.server.session c) (cache_now v c)
  pub read : (c : ℕ) → floor ≤ v.incarnation c → IsCurrent v c → ReadFacts c v.server.store (v.server.session c) (cache_now v c)
  pub marks : (c : ℕ) → floor ≤ v.incarnation c → MarksExact (cache_now v c)
  pub behind : (c : ℕ) → floor ≤ v.incarnation c → (v.server.session c).current ≤ v.incarnation c
  pub ahead : (c : ℕ) → floor ≤ v.incarnation c → (v.server.session c).current < v.incarnation c → cache_now v c ≡ new_cache
  pub operations : (c : ℕ) → floor ≤ v.incarnation c → (cache_now v c).status ≢ Idle → operations_so_far v c ≡ (cache_now v c).operations

-- a fact of the machine's store, session, incarnation and cache of a client is one of the world's
over : (L : Limits) (b : Life) (v : World) (w : Machine) (c : ℕ) (P : Store → Session → ℕ → Cache → Type 0) → Image L b v w → b.floor ≤ v.incarnation c → P w.store (w.session c) (w.incarnation c) (present_cache w c) → P v.server.store (v.server.session c) (v.incarnation c) (cache_now v c)
over L b v w c P m l p = subst (λ (s : Store). P s (v.server.session c) (v.incarnation c) (cache_now v c)) m.store
    (subst (λ (t : ℕ → Session). P w.store (t c) (v.incarnation c) (cache_now v c)) m.session
    (subst (λ (i : ℕ). P w.store (w.session c) i (cache_now v c)) (m.incarnation c l)
    (subst (λ (k : Cache). P w.store (w.session c) (w.incarnation c) k) (m.cache c l) p)))

read_now : (w : Machine) (c : ℕ) → AllRead w → (w.session c).current ≡ w.incarnation c → ReadFacts c w.store (w.session c) (present_cache w c)
read_now w c r e = subst (λ (i : ℕ). ReadFacts c w.store (w.session c) (w.client c i)) e (r c)

operations_are : (L : Limits) (b : Life) (v : World) (w : Machine) (c : ℕ) → Image L b v w → b.floor ≤ v.incarnation c → (cache_now v c).status ≢ Idle → operations_so_far v c ≡ (cache_now v c).operations
operations_are L b v w c m l s = sym (life_transaction b.floor (transcript_operations v.transcript) c (v.incarnation c) (cache_now v c).number l)
    ∙ subst (λ (x : List PerformedOperation). transaction_operations x c (v.incarnation c) (cache_now v c).number ≡ (cache_now v c).operations) m.performed
    (over L b v w c (λ t u i k. k.status ≢ Idle → transaction_operations w.performed c i k.number ≡ k.operations) m l (m.recorded.now c (w.incarnation c)) s)

pub present : (L : Limits) (b : Life) (v : World) (w : Machine) → Image L b v w → AllRead w → AllMarks w → Present b.floor v
present L b v w m r a = record {
  good = λ c l. over L b v w c (λ s t i k. t.current ≡ i → SessionFacts c s t k) m l (present_good w c m.safe);
  read = λ c l. over L b v w c (λ s t i k. t.current ≡ i → ReadFacts c s t k) m l (read_now w c r);
  marks = λ c l. over L b v w c (λ s t i k. MarksExact k) m l (a c (w.incarnation c));
  behind = λ c l. over L b v w c (λ s t i k. t.current ≤ i) m l (m.safe.behind c);
  ahead = λ c l. over L b v w c (λ s t i k. t.current < i → k ≡ new_cache) m l (m.safe.ahead c (w.incarnation c));
  operations = λ c l. operations_are L b v w c m l;
}

-- who holds a page, has its bytes, wrote it or has a transaction, is current
pub holder_current : (floor : ℕ) (v : World) (c p g : ℕ) → Present floor v → floor ≤ v.incarnation c → (cache_now v c).held p ≡ Some g → IsCurrent v c
holder_current floor v c p g r l e = grind (arith, r.behind c l, r.ahead c l)

pub reader_current : (floor : ℕ) (v : World) (c p : ℕ) (b : Bytes) → Present floor v → floor ≤ v.incarnation c → (cache_now v c).content p ≡ Some b → IsCurrent v c
reader_current floor v c p b r l e = grind (arith, r.behind c l, r.ahead c l)

pub writer_current : (floor : ℕ) (v : World) (c p : ℕ) → Present floor v → floor ≤ v.incarnation c → (cache_now v c).wrote p ≡ true → IsCurrent v c
writer_current floor v c p r l e = grind (arith, r.behind c l, r.ahead c l)

pub worker_current : (floor : ℕ) (v : World) (c : ℕ) → Present floor v → floor ≤ v.incarnation c → (cache_now v c).status ≢ Idle → IsCurrent v c
worker_current floor v c r l e = grind (arith, r.behind c l, r.ahead c l)

-- what is there is held by some grant
pub some_grant : (c : ℕ) (s : Store) (t : Session) (k : Cache) (p : ℕ) → k.held p ≢ None → (g : ℕ) × (k.held p ≡ Some g)
some_grant c s t k p n = go (k.held p) refl
  where
    go : (r : Option ℕ) → k.held p ≡ r → (g : ℕ) × (k.held p ≡ Some g)
    go None e = absurd (n e)
    go (Some g) e = (g, e)
