-- Restarts keep the image: of a client of the life, and of one below its floor, which may come to it by that.
use Rattle.std.proofs.Common.{[], ap, arith, refl, subst, ℕ, ◌+◌, ◌<◌, ◌∙◌, ◌∷◌, ◌≡◌, ◌≢◌, ◌≤◌}
use Rattle.cb_protocol.proofs.ClientReady.{Ready, ready_more, ready_new}
use Rattle.cb_protocol.proofs.HistoryKept.{Kept, Recorded}
use Rattle.cb_protocol.proofs.Invariant.{Invariant}
use Rattle.cb_protocol.proofs.LifeImage.{Image, Life, SentBy, SentInLife, back, in_left, orderly_more, put_two}
use Rattle.cb_protocol.proofs.LifeMachine.{above_run}
use Rattle.cb_protocol.proofs.LifeOperations.{IsPast}
use Rattle.cb_protocol.proofs.Machine.{ClientRestarts, Machine, happens, present_cache}
use Rattle.cb_protocol.proofs.TranscriptKept.{all_kept}
use Rattle.cb_protocol.specs.Answers.{AnsweredOk}
use Rattle.cb_protocol.specs.Basics.{IsIn, Limits, update}
use Rattle.cb_protocol.specs.Cache.{new_cache}
use Rattle.cb_protocol.specs.Client.{new_client}
use Rattle.cb_protocol.specs.Server.{AppliedCommit}
use Rattle.cb_protocol.specs.Transcript.{incarnation_at, transaction_at}
use Rattle.cb_protocol.specs.World.{Restart, World, answer_with}

-- the world after a client restarted
abbrev pub restarted : World → ℕ → World
restarted v c = (answer_with v (Restart c) AnsweredOk [] (record v { client = update v.client c new_client; incarnation = update v.incarnation c (v.incarnation c + 1) })).world

here_restarts : (v : World) (c : ℕ) → incarnation_at v.transcript c ≡ v.incarnation c → incarnation_at (record { event = Restart c; word = AnsweredOk } ∷ v.transcript) c ≡ v.incarnation c + 1
here_restarts v c e = grind arith

there_restarts : (v : World) (c d : ℕ) → d ≢ c → incarnation_at v.transcript d ≡ v.incarnation d → incarnation_at (record { event = Restart c; word = AnsweredOk } ∷ v.transcript) d ≡ v.incarnation d
there_restarts v c d ne e = grind arith

here_begun : (v : World) (c : ℕ) → transaction_at (record { event = Restart c; word = AnsweredOk } ∷ v.transcript) c ≡ 0
here_begun v c = grind arith

there_begun : (v : World) (c d : ℕ) → d ≢ c → transaction_at v.transcript d ≡ (v.client d).cache.number → transaction_at (record { event = Restart c; word = AnsweredOk } ∷ v.transcript) d ≡ (v.client d).cache.number
there_begun v c d ne e = grind arith

-- what the transcript has of it
counts : (v : World) (c : ℕ) → ((d : ℕ) → incarnation_at v.transcript d ≡ v.incarnation d) → ((d : ℕ) → transaction_at v.transcript d ≡ (v.client d).cache.number)
    → (d : ℕ) → (incarnation_at (restarted v c).transcript d ≡ (restarted v c).incarnation d) × (transaction_at (restarted v c).transcript d ≡ ((restarted v c).client d).cache.number)
counts v c rs bg = put_two (λ d k n. (incarnation_at (restarted v c).transcript d ≡ n) × (transaction_at (restarted v c).transcript d ≡ k.cache.number)) v.client v.incarnation c new_client (v.incarnation c + 1)
    (here_restarts v c (rs c), here_begun v c) (λ d ne. (there_restarts v c d ne (rs d), there_begun v c d ne (bg d)))

-- a transaction of a former life stays past
past_restarts : (L : Limits) (b : Life) (v : World) (w : Machine) (c : ℕ) → Image L b v w → (x : AppliedCommit) → IsIn x b.former
    → (x.incarnation ≤ (restarted v c).incarnation x.client) × (x.incarnation ≡ (restarted v c).incarnation x.client → IsPast ((restarted v c).client x.client).cache x.txn)
past_restarts L b v w c m x i = put_two (λ d k n. x.client ≡ d → (x.incarnation ≤ n) × (x.incarnation ≡ n → IsPast k.cache x.txn)) v.client v.incarnation c new_client (v.incarnation c + 1)
    (λ q. let l = (m.past x i).0 in let e = ap v.incarnation q in (omega (arith, l, e), λ z. absurd (omega (arith, l, e, z))))
    (λ d ne q. subst (λ (d : ℕ). (x.incarnation ≤ v.incarnation d) × (x.incarnation ≡ v.incarnation d → IsPast (v.client d).cache x.txn)) q (m.past x i)) x.client refl

-- a client of the life restarts
pub client_restarts : (L : Limits) (b : Life) (v : World) (w : Machine) (c : ℕ) → Image L b v w → b.floor ≤ v.incarnation c → Image L b (restarted v c) (happens w (ClientRestarts c))
client_restarts L b v w c m near = record {
  safe = all.0;
  kept = all.1;
  recorded = all.2;
  above = above_run L.clients b.floor (ClientRestarts c ∷ []) w m.safe (tt, tt) m.above;
  leaves = m.leaves;
  store = m.store;
  session = m.session;
  names = m.names;
  keep_write = m.keep_write;
  clients = m.clients;
  nobody = m.nobody;
  orderly = orderly_more (SentInLife b.floor v) (SentInLife b.floor v') v.server (λ d i y j. (j.0, in_left _ v.packets [] j.1)) m.orderly;
  books = m.books;
  committed = m.committed;
  opened = m.opened;
  incarnation = λ d. (both d).0;
  cache = λ d. (both d).1;
  ready = put_two (λ d k n. b.floor ≤ n → Ready L (SentBy v' d n) k) v.client v.incarnation c new_client (v.incarnation c + 1) (λ l. ready_new L _)
      (λ d ne l. ready_more L (SentBy v d (v.incarnation d)) _ (v.client d) (λ y i. in_left _ v.packets [] i) (m.ready d l));
  waits = put_two (λ d k n. n < b.floor → (u.incarnation d ≡ b.floor) × (present_cache u d ≡ new_cache)) v.client v.incarnation c new_client (v.incarnation c + 1) (λ l. absurd (omega (arith, l, near)))
      (λ d ne l. (moved w.incarnation (w.incarnation c + 1) d ne ∙ (m.waits d l).0, elsewhere d ne ∙ (m.waits d l).1));
  packets = λ f l i. m.packets f l (back f v.packets i);
  sent = λ f i. in_left f v.packets [] (m.sent f i);
  addressed = λ f i. m.addressed f (back f v.packets i);
  dones = λ d i t n l x. m.dones d i t n l (back _ v.packets x);
  on_disk = λ d i t n x. m.on_disk d i t n (back _ v.packets x);
  performed = m.performed;
  restarts = λ d. (counts v c m.restarts m.begins d).0;
  begins = λ d. (counts v c m.restarts m.begins d).1;
  earlier = m.earlier;
  former_dones = λ d i t n l x. m.former_dones d i t n l (back _ v.packets x);
  past = past_restarts L b v w c m;
  told = m.told;
}
  where
    v' : World
    v' = restarted v c

    u : Machine
    u = happens w (ClientRestarts c)

    all : Invariant u × Kept b.opening.bytes u × Recorded u
    all = all_kept b.opening.bytes (ClientRestarts c ∷ []) w m.safe m.kept m.recorded (tt, tt)

    newer : (w.session c).current < w.incarnation c + 1
    newer = let y = m.safe.behind c in omega arith

    same : update w.incarnation c (w.incarnation c + 1) c ≡ w.incarnation c + 1
    same = grind arith

    moved : (f : ℕ → ℕ) (n d : ℕ) → d ≢ c → update f c n d ≡ f d
    moved f n d ne = grind arith

    elsewhere : (d : ℕ) → d ≢ c → present_cache u d ≡ present_cache w d
    elsewhere d ne = ap (w.client d) (moved w.incarnation (w.incarnation c + 1) d ne)

    both : (d : ℕ) → (b.floor ≤ v'.incarnation d → u.incarnation d ≡ v'.incarnation d) × (b.floor ≤ v'.incarnation d → present_cache u d ≡ (v'.client d).cache)
    both = put_two (λ d k n. (b.floor ≤ n → u.incarnation d ≡ n) × (b.floor ≤ n → present_cache u d ≡ k.cache)) v.client v.incarnation c new_client (v.incarnation c + 1)
        (λ l. same ∙ ap (λ (n : ℕ). n + 1) (m.incarnation c near), λ l. ap (w.client c) same ∙ m.safe.ahead c (w.incarnation c + 1) newer)
        (λ d ne. (λ l. moved w.incarnation (w.incarnation c + 1) d ne ∙ m.incarnation d l, λ l. elsewhere d ne ∙ m.cache d l))

-- a client below the floor restarts: the machine does nothing
pub stale_restarts : (L : Limits) (b : Life) (v : World) (w : Machine) (c : ℕ) → Image L b v w → v.incarnation c < b.floor → Image L b (restarted v c) w
stale_restarts L b v w c m far = record {
  safe = m.safe;
  kept = m.kept;
  recorded = m.recorded;
  above = m.above;
  leaves = m.leaves;
  store = m.store;
  session = m.session;
  names = m.names;
  keep_write = m.keep_write;
  clients = m.clients;
  nobody = m.nobody;
  orderly = orderly_more (SentInLife b.floor v) (SentInLife b.floor v') v.server (λ d i y j. (j.0, in_left _ v.packets [] j.1)) m.orderly;
  books = m.books;
  committed = m.committed;
  opened = m.opened;
  incarnation = λ d. (both d).0;
  cache = λ d. (both d).1;
  ready = put_two (λ d k n. b.floor ≤ n → Ready L (SentBy v' d n) k) v.client v.incarnation c new_client (v.incarnation c + 1) (λ l. ready_new L _)
      (λ d ne l. ready_more L (SentBy v d (v.incarnation d)) _ (v.client d) (λ y i. in_left _ v.packets [] i) (m.ready d l));
  waits = put_two (λ d k n. n < b.floor → (w.incarnation d ≡ b.floor) × (present_cache w d ≡ new_cache)) v.client v.incarnation c new_client (v.incarnation c + 1) (λ l. m.waits c far) (λ d ne l. m.waits d l);
  packets = λ f l i. m.packets f l (back f v.packets i);
  sent = λ f i. in_left f v.packets [] (m.sent f i);
  addressed = λ f i. m.addressed f (back f v.packets i);
  dones = λ d i t n l x. m.dones d i t n l (back _ v.packets x);
  on_disk = λ d i t n x. m.on_disk d i t n (back _ v.packets x);
  performed = m.performed;
  restarts = λ d. (counts v c m.restarts m.begins d).0;
  begins = λ d. (counts v c m.restarts m.begins d).1;
  earlier = m.earlier;
  former_dones = λ d i t n l x. m.former_dones d i t n l (back _ v.packets x);
  past = past_restarts L b v w c m;
  told = m.told;
}
  where
    v' : World
    v' = restarted v c

    at_floor : b.floor ≤ v.incarnation c + 1 → b.floor ≡ v.incarnation c + 1
    at_floor l = omega (arith, l, far)

    both : (d : ℕ) → (b.floor ≤ v'.incarnation d → w.incarnation d ≡ v'.incarnation d) × (b.floor ≤ v'.incarnation d → present_cache w d ≡ (v'.client d).cache)
    both = put_two (λ d k n. (b.floor ≤ n → w.incarnation d ≡ n) × (b.floor ≤ n → present_cache w d ≡ k.cache)) v.client v.incarnation c new_client (v.incarnation c + 1)
        (λ l. (m.waits c far).0 ∙ at_floor l, λ l. (m.waits c far).1) (λ d ne. (m.incarnation d, m.cache d))
