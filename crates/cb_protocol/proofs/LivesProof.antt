-- The promise of the world over all lives: each life's is that of its machine, and a restart of the server opens the next.
use Rattle.std.proofs.Common.{List, Option, Some, [], ap, arith, if◌then◌else◌, inl, inr, nat_lt, refl, subst, sym, ℕ, ◌++◌, ◌<◌, ◌∙◌, ◌∷◌, ◌≡◌, ◌≤◌}
use Rattle.cb_protocol.proofs.BackedCopies.{BackedBy, backed_by}
use Rattle.cb_protocol.proofs.HistoryKept.{history_operations}
use Rattle.cb_protocol.proofs.Invariant.{HasCommitNumber, SessionFacts, cache_at_session}
use Rattle.cb_protocol.proofs.InvariantKept.{agree, alone}
use Rattle.cb_protocol.proofs.LifeEvents.{event_follows, image_first, near_or_far}
use Rattle.cb_protocol.proofs.LifeImage.{Follows, Image, Life, in_append, in_left, in_right}
use Rattle.cb_protocol.proofs.LifeMachine.{above_at, books_at, hello_ahead, in_from_floor, kept_at, of_from_floor, orderly_at, recorded_at, safe_at, stands_at, start_at, waits_at}
use Rattle.cb_protocol.proofs.LifeOperations.{IsPast, in_life, life_transaction, none_of_life}
use Rattle.cb_protocol.proofs.LifeSends.{Spoken, event_sends, spoken_after}
use Rattle.cb_protocol.proofs.LivesHistory.{bytes_append, left_append, numbered_append, once_append, operations_append, operations_by, same_operations, serial_append, survived, survives, survivors_numbered, survivors_once, survivors_serial, survivors_sound, version_append}
use Rattle.cb_protocol.proofs.Machine.{Machine, WasSent, present_cache, run, start}
use Rattle.cb_protocol.proofs.MachineSteps.{present_good}
use Rattle.cb_protocol.proofs.TranscriptKept.{told_operations}
use Rattle.cb_protocol.specs.AnyMessages.{Numbered, bytes_after, committed_names, version_after}
use Rattle.cb_protocol.specs.Basics.{Bytes, IsIn, Limits}
use Rattle.cb_protocol.specs.Cache.{Cache, new_cache}
use Rattle.cb_protocol.specs.Headline.{SoundOpening}
use Rattle.cb_protocol.specs.HelloLaws.{OnlyGreeted}
use Rattle.cb_protocol.specs.Lives.{BackedOfLife, CommitWelcomed, DonesStand, IsOfLife, LivesKeepThePromise, LivesLedger, LivesPromise, WelcomedAlone, lives_history}
use Rattle.cb_protocol.specs.LivesWorld.{IsNewFloor, LeadsTo, Lives, LivesEvent, LivesEventAllowed, MayBeOnDisk, ServerRestarts, WithinLife, commits_on_disk, first_life, lives_step, restart_server, server_of_life, store_on_disk}
use Rattle.cb_protocol.specs.Messages.{Done, GiveBack, Hello, Message, Welcome}
use Rattle.cb_protocol.specs.Serial.{EachOnce, IsSerial, Operation, PerformedOperation, TransactionName, committed_operations, store_left, transaction_operations}
use Rattle.cb_protocol.specs.Server.{AppliedCommit, DeadlockTest}
use Rattle.cb_protocol.specs.Session.{Session, Store}
use Rattle.cb_protocol.specs.Transcript.{transcript_operations}
use Rattle.cb_protocol.specs.World.{Opening, World, step}

-- what the present life began with
abbrev pub life_of : Lives → (ℕ → ℕ → ℕ → List Operation) → Life
life_of lives told = record { floor = lives.floor; opening = lives.opening; former = lives.former; told = told }

-- what the former lives left
pub record Left (first : Opening) (b : Life) : Type 0 where
  pub sound : SoundOpening b.opening
  pub serial : IsSerial first.bytes (operations_by b.told b.former)
  pub leaves : (p : ℕ) → store_left first.bytes (operations_by b.told b.former) p ≡ b.opening.bytes p
  pub once : EachOnce (committed_names b.former)
  pub numbered : Numbered first.number b.former b.opening.number
  pub bytes : (p : ℕ) → b.opening.bytes p ≡ bytes_after first.bytes b.former p
  pub version : (p : ℕ) → b.opening.version p ≡ version_after first.version b.former p

-- the present life is a machine's, over what the former lives left
pub record Stands (L : Limits) (first : Opening) (lives : Lives) : Type 0 where
  pub told : ℕ → ℕ → ℕ → List Operation
  pub machine : Machine
  pub image : Image L (life_of lives told) lives.world machine
  pub left : Left first (life_of lives told)
  pub spoken : Spoken L.clients lives.floor lives.world

-- a transaction that committed at the session's incarnation performs nothing more
past_there : (c : ℕ) (s : Store) (t : Session) (k : Cache) (i x n : ℕ) → SessionFacts c s t k → HasCommitNumber s c i x n → i ≡ t.current → IsPast k x
past_there c s t k i x n h e q = (omega (arith, over, h.ended_by, h.begun), λ z o. (let l = h.lives o in omega (arith, over, l, z)))
  where
    over : x ≤ t.ended
    over = h.over x n (subst (λ (j : ℕ). HasCommitNumber s c j x n) q e)

-- of an incarnation that did nothing, none committed
none_there : (c : ℕ) (s : Store) (t : Session) (k : Cache) (i x n : ℕ) → SessionFacts c s t k → HasCommitNumber s c i x n → i ≡ t.current → k ≡ new_cache → 1 ≤ x → ⊥
none_there c s t k i x n h e q z l = let p = (past_there c s t k i x n h e q).0 in let y : k.number ≡ 0 = ap (λ (c : Cache). c.number) z in omega (arith, p, y, l)

-- a commit of the life is of an incarnation that its client has come to, and its transaction performs nothing more
present_commits : (L : Limits) (lives : Lives) (told : ℕ → ℕ → ℕ → List Operation) (w : Machine) → Image L (life_of lives told) lives.world w → (x : AppliedCommit) → IsIn x lives.world.server.commits
    → (x.incarnation ≤ lives.world.incarnation x.client) × (x.incarnation ≡ lives.world.incarnation x.client → IsPast (lives.world.client x.client).cache x.txn)
present_commits L lives told w m x i = elim (near_or_far lives.floor (v.incarnation x.client)) [
  | inl l ↦ (let y = reached x i in let e = m.incarnation x.client l in (omega (arith, y, e), λ q. near x i l q))
  | inr l ↦ absurd (far x i l)
]
  where
    v : World
    v = lives.world

    numbered : (x : AppliedCommit) → IsIn x v.server.commits → HasCommitNumber w.store x.client x.incarnation x.txn x.number
    numbered x i = ap (λ (s : Store). s.commit_number x.client x.incarnation x.txn) m.store ∙ m.books.listed x i

    in_session : (x : AppliedCommit) → IsIn x v.server.commits → x.incarnation ≤ (w.session x.client).current
    in_session x i = m.safe.commit_number x.client x.incarnation x.txn x.number (numbered x i)

    reached : (x : AppliedCommit) → IsIn x v.server.commits → x.incarnation ≤ w.incarnation x.client
    reached x i = let y = in_session x i in let z = m.safe.behind x.client in omega (arith, y, z)

    facts : (c : ℕ) → (w.session c).current ≡ w.incarnation c → SessionFacts c w.store (w.session c) (present_cache w c)
    facts c e = present_good w c m.safe e

    near : (x : AppliedCommit) → IsIn x v.server.commits → lives.floor ≤ v.incarnation x.client → x.incarnation ≡ v.incarnation x.client → IsPast (v.client x.client).cache x.txn
    near x i l q = let y = in_session x i in let z = m.safe.behind x.client in let e = m.incarnation x.client l in
        subst (λ (k : Cache). IsPast k x.txn) (m.cache x.client l) (past_there x.client w.store (w.session x.client) (present_cache w x.client) x.incarnation x.txn x.number (facts x.client (omega (arith, y, z, e, q))) (numbered x i) (omega (arith, y, z, e, q)))

    far : (x : AppliedCommit) → IsIn x v.server.commits → v.incarnation x.client < lives.floor → ⊥
    far x i l = let y = in_session x i in let z = m.safe.behind x.client in let e = m.waits x.client l in let o = m.above.made x.client x.incarnation x.txn x.number (numbered x i) in let p = e.0 in let u = o.0 in
        none_there x.client w.store (w.session x.client) (present_cache w x.client) x.incarnation x.txn x.number (facts x.client (omega (arith, y, z, p, u))) (numbered x i) (omega (arith, y, z, p, u)) e.1 o.1

-- At the end of a life: the server took nothing of the new floor or above, and clients that stand there sent Hellos alone.
pub record Ends (L : Limits) (lives : Lives) (told : ℕ → ℕ → ℕ → List Operation) (w : Machine) (floor : ℕ) : Type 0 where
  pub below : (c : ℕ) → (w.session c).current < floor
  pub sent : (f : Message) → IsIn f lives.world.packets → floor ≤ f.incarnation → f.body ≡ Hello
  pub operations : (o : PerformedOperation) → IsIn o (transcript_operations lives.world.transcript) → o.incarnation < floor
  pub fresh : (c : ℕ) → floor ≤ lives.world.incarnation c → (lives.world.client c).cache ≡ new_cache
  pub commits : (x : AppliedCommit) → IsIn x lives.world.server.commits → (lives.floor ≤ x.incarnation) × (x.incarnation < floor)
  pub past : (x : AppliedCommit) → IsIn x lives.world.server.commits → (x.incarnation ≤ lives.world.incarnation x.client) × (x.incarnation ≡ lives.world.incarnation x.client → IsPast (lives.world.client x.client).cache x.txn)

pub ends : (L : Limits) (lives : Lives) (told : ℕ → ℕ → ℕ → List Operation) (w : Machine) (floor : ℕ) → Image L (life_of lives told) lives.world w → IsNewFloor lives floor → Ends L lives told w floor
ends L lives told w floor m a = record {
  below = below;
  sent = λ f i l. hello_ahead f.client w.store (w.session f.client) (cache_at_session w f.client) (w.incarnation f.client) f.incarnation f.body (m.safe.fine f (m.packets f (near f.incarnation l) i)) (let z = below f.client in omega (arith, l, z));
  operations = λ o i. elim (near_or_far floor o.incarnation) [ inl l ↦ absurd (unwelcomed o.client o.incarnation l (m.above.performed o (subst (λ (ls : List PerformedOperation). IsIn o ls) (sym m.performed) (in_life lives.floor (transcript_operations v.transcript) o (near o.incarnation l) i)))) | inr l ↦ l ];
  fresh = λ c l. sym (m.cache c (near (v.incarnation c) l)) ∙ m.safe.ahead c (w.incarnation c) (let e = m.incarnation c (near (v.incarnation c) l) in let z = below c in omega (arith, e, l, z));
  commits = λ x i. ((m.above.made x.client x.incarnation x.txn x.number (numbered x i)).0, let y = in_session x i in let z = below x.client in omega (arith, y, z));
  past = present_commits L lives told w m;
}
  where
    v : World
    v = lives.world

    near : (i : ℕ) → floor ≤ i → lives.floor ≤ i
    near i l = let z = a.rises in omega (arith, l, z)

    below : (c : ℕ) → (w.session c).current < floor
    below c = subst (λ (t : ℕ → Session). (t c).current < floor) (sym m.session) (elim (near_or_far v.server.clients c) [
      | inl l ↦ (let e = m.nobody c (rw (sym m.clients) l) in let z = a.rises in omega (arith, e, z))
      | inr l ↦ a.admitted c l
    ])

    unwelcomed : (c i : ℕ) → floor ≤ i → WasSent w c i Welcome → ⊥
    unwelcomed c i l s = let k : (i ≤ (w.session c).current) × (i ≡ (w.session c).current → Unit {0}) = m.safe.fine _ s in let y = k.0 in let z = below c in omega (arith, y, z, l)

    numbered : (x : AppliedCommit) → IsIn x v.server.commits → HasCommitNumber w.store x.client x.incarnation x.txn x.number
    numbered x i = ap (λ (s : Store). s.commit_number x.client x.incarnation x.txn) m.store ∙ m.books.listed x i

    in_session : (x : AppliedCommit) → IsIn x v.server.commits → x.incarnation ≤ (w.session x.client).current
    in_session x i = m.safe.commit_number x.client x.incarnation x.txn x.number (numbered x i)

-- after a restart the operations of each transaction are as the transcript has them
abbrev told_after : Lives → ℕ → ℕ → ℕ → List Operation
told_after lives = transaction_operations (transcript_operations lives.world.transcript)

-- the commits of former lives and of the life that ended
ended_commits : (P : AppliedCommit → Type 0) (lives : Lives) (n : ℕ) → ((x : AppliedCommit) → IsIn x lives.world.server.commits → P x) → ((x : AppliedCommit) → IsIn x lives.former → P x)
    → (x : AppliedCommit) → IsIn x (commits_on_disk lives.world.server n ++ lives.former) → P x
ended_commits P lives n f g x i = elim (in_append x (commits_on_disk lives.world.server n) lives.former i) [ inl j ↦ f x (survived n lives.world.server.commits x j) | inr j ↦ g x j ]

-- their numbers, up to the one on disk
pub ended_numbers : (L : Limits) (lives : Lives) (told : ℕ → ℕ → ℕ → List Operation) (w : Machine) (n : ℕ) → Image L (life_of lives told) lives.world w → MayBeOnDisk lives.world.server n → Numbered lives.opening.number (commits_on_disk lives.world.server n) n
ended_numbers L lives told w n m d = survivors_numbered lives.opening.number n lives.world.server.store.last_commit lives.world.server.commits m.books.numbered (let a = m.opened in let b = d.reported in omega (arith, a, b)) d.made

ended_sound : (L : Limits) (lives : Lives) (told : ℕ → ℕ → ℕ → List Operation) (w : Machine) (n : ℕ) → Image L (life_of lives told) lives.world w → MayBeOnDisk lives.world.server n → SoundOpening lives.opening → SoundOpening (store_on_disk lives.opening lives.world.server n)
ended_sound L lives told w n m d s = survivors_sound lives.opening n (commits_on_disk lives.world.server n) s (ended_numbers L lives told w n m d)

-- the server restarts: the next life's machine is a new one, in which clients stand at the floor or above
image_restarts : (L : Limits) (lives : Lives) (told : ℕ → ℕ → ℕ → List Operation) (w : Machine) (floor n : ℕ) → Image L (life_of lives told) lives.world w → Spoken L.clients lives.floor lives.world → IsNewFloor lives floor → MayBeOnDisk lives.world.server n → SoundOpening lives.opening
    → Image L (life_of (restart_server L lives floor n) (told_after lives)) (restart_server L lives floor n).world (start_at L (store_on_disk lives.opening lives.world.server n) floor lives.world.incarnation lives.world.packets)
image_restarts L lives told w floor n m h a k s = record {
  safe = safe_at L o floor v.incarnation v.packets (ended_sound L lives told w n m k s) (λ f i l. (e.sent f i l, h.past f i));
  kept = kept_at L o floor v.incarnation v.packets;
  recorded = recorded_at L o floor v.incarnation v.packets;
  above = above_at L o floor v.incarnation v.packets;
  leaves = tt;
  store = refl;
  session = refl;
  names = refl;
  keep_write = refl;
  clients = refl;
  nobody = none_current;
  orderly = orderly_at _ L o floor;
  books = books_at L o floor;
  committed = omega arith;
  opened = omega arith;
  incarnation = λ c l. stands_at floor (v.incarnation c) l;
  cache = λ c l. sym (e.fresh c l);
  ready = λ c l. m.ready c (let z = a.rises in omega (arith, l, z));
  waits = λ c l. (waits_at floor (v.incarnation c) l, refl);
  packets = λ f l i. in_from_floor floor v.packets f l i;
  sent = λ f i. (of_from_floor floor v.packets f i).0;
  addressed = m.addressed;
  dones = λ c i t n l x. absurd (let z : Done t n ≡ Hello = e.sent _ x l in cc);
  on_disk = λ c i t x y. (let q = m.on_disk c i t x y in let r = k.reported in omega (arith, q, r));
  performed = sym (none_of_life floor (transcript_operations v.transcript) e.operations);
  restarts = m.restarts;
  begins = m.begins;
  earlier = ended_commits (λ x. x.incarnation < floor) lives n (λ x i. (e.commits x i).1) (λ x i. let l = m.earlier x i in let r = a.rises in omega (arith, l, r));
  former_dones = λ c i t y l x. elim (near_or_far lives.floor i) [
    | inl j ↦ (let d = m.books.known c i t y (m.dones c i t y j x) in (d.0, in_left d.0 (commits_on_disk v.server n) lives.former (survives n v.server.commits d.0 d.1 (let q = d.5 in let o = m.on_disk c i t y x in let r = k.reported in omega (arith, q, o, r))), d.2, d.3, d.4, d.5))
    | inr j ↦ (let d = m.former_dones c i t y j x in (d.0, in_right d.0 (commits_on_disk v.server n) lives.former d.1, d.2, d.3, d.4, d.5))
  ];
  past = ended_commits (λ x. (x.incarnation ≤ v.incarnation x.client) × (x.incarnation ≡ v.incarnation x.client → IsPast (v.client x.client).cache x.txn)) lives n e.past m.past;
  told = λ x i. refl;
}
  where
    v : World
    v = lives.world

    o : Opening
    o = store_on_disk lives.opening lives.world.server n

    e : Ends L lives told w floor
    e = ends L lives told w floor m a

    none_current : (c : ℕ) → L.clients ≤ c → (if nat_lt c L.clients then floor else 0) ≡ 0
    none_current c l = grind (arith, l)

-- a transaction of the life, by the transcript of all
of_present : (L : Limits) (lives : Lives) (told : ℕ → ℕ → ℕ → List Operation) (w : Machine) → Image L (life_of lives told) lives.world w
    → (x : AppliedCommit) → IsIn x lives.world.server.commits → transaction_operations w.performed x.client x.incarnation x.txn ≡ told_after lives x.client x.incarnation x.txn
of_present L lives told w m x i = ap (λ (ls : List PerformedOperation). transaction_operations ls x.client x.incarnation x.txn) m.performed
    ∙ life_transaction lives.floor (transcript_operations lives.world.transcript) x.client x.incarnation x.txn
    (m.above.made x.client x.incarnation x.txn x.number (ap (λ (s : Store). s.commit_number x.client x.incarnation x.txn) m.store ∙ m.books.listed x i)).0

-- A history over the former lives' and one over the store that they left are one.
joined : (L : Limits) (first : Opening) (lives : Lives) (told : ℕ → ℕ → ℕ → List Operation) (w : Machine) (xs : List AppliedCommit) (left : ℕ → Bytes) → Image L (life_of lives told) lives.world w → Left first (life_of lives told)
    → ((x : AppliedCommit) → IsIn x xs → IsIn x lives.world.server.commits) → IsSerial lives.opening.bytes (operations_by (transaction_operations w.performed) xs)
    → ((p : ℕ) → store_left lives.opening.bytes (operations_by (transaction_operations w.performed) xs) p ≡ left p)
    → IsSerial first.bytes (operations_by (told_after lives) (xs ++ lives.former)) × ((p : ℕ) → store_left first.bytes (operations_by (told_after lives) (xs ++ lives.former)) p ≡ left p)
joined L first lives told w xs left m h f s l = (
  subst (λ (y : List (List Operation)). IsSerial first.bytes y) (sym whole) (serial_append first.bytes earlier later h.serial (subst (λ (b : ℕ → Bytes). IsSerial b later) (sym opened) s)),
  λ p. ap (λ (y : List (List Operation)). store_left first.bytes y p) whole
      ∙ (ap (λ (g : ℕ → Bytes). g p) (left_append first.bytes earlier later) ∙ (ap (λ (b : ℕ → Bytes). store_left b later p) opened ∙ l p)),
)
  where
    earlier : List (List Operation)
    earlier = operations_by told lives.former

    later : List (List Operation)
    later = operations_by (transaction_operations w.performed) xs

    opened : store_left first.bytes earlier ≡ lives.opening.bytes
    opened = λ i p. h.leaves p i

    whole : operations_by (told_after lives) (xs ++ lives.former) ≡ earlier ++ later
    whole = operations_append (told_after lives) xs lives.former
        ∙ (ap (λ (y : List (List Operation)). y ++ operations_by (told_after lives) xs) (same_operations (told_after lives) told lives.former m.told)
        ∙ ap (λ (y : List (List Operation)). earlier ++ y) (sym (same_operations (transaction_operations w.performed) (told_after lives) xs (λ x i. of_present L lives told w m x (f x i)))))

-- writes over the life's opening store are writes over the first one
bytes_over : (first : Opening) (lives : Lives) (told : ℕ → ℕ → ℕ → List Operation) → Left first (life_of lives told) → (xs : List AppliedCommit) (p : ℕ) → bytes_after lives.opening.bytes xs p ≡ bytes_after first.bytes (xs ++ lives.former) p
bytes_over first lives told h xs p = ap (λ (b : ℕ → Bytes). bytes_after b xs p) (λ i q. h.bytes q i) ∙ sym (bytes_append first.bytes xs lives.former p)

version_over : (first : Opening) (lives : Lives) (told : ℕ → ℕ → ℕ → List Operation) → Left first (life_of lives told) → (xs : List AppliedCommit) (p : ℕ) → version_after lives.opening.version xs p ≡ version_after first.version (xs ++ lives.former) p
version_over first lives told h xs p = ap (λ (b : ℕ → ℕ). version_after b xs p) (λ i q. h.version q i) ∙ sym (version_append first.version xs lives.former p)

-- the server of a new life has nothing of anybody
pub nothing_of : (L : Limits) (o : Opening) (floor c : ℕ) → c < L.clients → OnlyGreeted (server_of_life L o floor) c floor
nothing_of L o floor c l = record {
  current = grind (arith, l);
  no_row = λ p. refl;
  no_permission = λ p e. absurd cc;
  no_mark = λ p. refl;
  no_ask = λ p h. h;
  not_doomed = refl;
  none_begun = refl;
  none_ended = refl;
  no_outcome = refl;
}

-- what the life that ended left, behind those before it
left_restarts : (L : Limits) (first : Opening) (lives : Lives) (told : ℕ → ℕ → ℕ → List Operation) (w : Machine) (floor n : ℕ) → Image L (life_of lives told) lives.world w → IsNewFloor lives floor → MayBeOnDisk lives.world.server n → Left first (life_of lives told)
    → Left first (life_of (restart_server L lives floor n) (told_after lives))
left_restarts L first lives told w floor n m a k h = record {
  sound = ended_sound L lives told w n m k h.sound;
  serial = both.0;
  leaves = both.1;
  once = once_append lives.floor (commits_on_disk v.server n) lives.former (survivors_once n v.server.commits m.books.once) h.once (λ x i. (e.commits x (survived n v.server.commits x i)).0) m.earlier;
  numbered = numbered_append first.number lives.opening.number n (commits_on_disk v.server n) lives.former (ended_numbers L lives told w n m k) h.numbered;
  bytes = λ p. bytes_over first lives told h (commits_on_disk v.server n) p;
  version = λ p. version_over first lives told h (commits_on_disk v.server n) p;
}
  where
    v : World
    v = lives.world

    e : Ends L lives told w floor
    e = ends L lives told w floor m a

    ended : IsSerial lives.opening.bytes (operations_by (transaction_operations w.performed) (commits_on_disk v.server n))
        × ((p : ℕ) → store_left lives.opening.bytes (operations_by (transaction_operations w.performed) (commits_on_disk v.server n)) p ≡ bytes_after lives.opening.bytes (commits_on_disk v.server n) p)
    ended = survivors_serial lives.opening.bytes w.performed n w.history v.server.commits m.leaves m.names (λ d i. (m.recorded.entries d i).0) m.kept.legal

    both : IsSerial first.bytes (operations_by (told_after lives) (commits_on_disk v.server n ++ lives.former))
        × ((p : ℕ) → store_left first.bytes (operations_by (told_after lives) (commits_on_disk v.server n ++ lives.former)) p ≡ bytes_after lives.opening.bytes (commits_on_disk v.server n) p)
    both = joined L first lives told w (commits_on_disk v.server n) (bytes_after lives.opening.bytes (commits_on_disk v.server n)) m h (λ x i. survived n v.server.commits x i) ended.0 ended.1

-- what holds of the commits of a life holds of its machine
serial_here : (L : Limits) (lives : Lives) (told : ℕ → ℕ → ℕ → List Operation) (w : Machine) → Image L (life_of lives told) lives.world w → operations_by (transaction_operations w.performed) lives.world.server.commits ≡ history_operations w.history
serial_here L lives told w m = ap (λ (ns : List TransactionName). committed_operations ns w.performed) (sym m.names) ∙ told_operations w m.recorded

-- the ledger over all lives
ledger_stands : (L : Limits) (first : Opening) (lives : Lives) (told : ℕ → ℕ → ℕ → List Operation) (w : Machine) → Image L (life_of lives told) lives.world w → Left first (life_of lives told) → LivesLedger first lives
ledger_stands L first lives told w m h = record {
  numbered = numbered_append first.number lives.opening.number lives.world.server.store.last_commit lives.world.server.commits lives.former m.books.numbered h.numbered;
  bytes = λ p. m.books.bytes p ∙ bytes_over first lives told h lives.world.server.commits p;
  version = λ p. m.books.version p ∙ version_over first lives told h lives.world.server.commits p;
}

-- the Dones of all lives
dones_stand : (L : Limits) (lives : Lives) (told : ℕ → ℕ → ℕ → List Operation) (w : Machine) → Image L (life_of lives told) lives.world w → DonesStand lives
dones_stand L lives told w m = record {
  committed = λ c i t n x. elim (near_or_far lives.floor i) [
    | inl l ↦ (let d = m.books.known c i t n (m.dones c i t n l x) in (d.0, in_left d.0 lives.world.server.commits lives.former d.1, d.2, d.3, d.4, d.5))
    | inr l ↦ (let d = m.former_dones c i t n l x in (d.0, in_right d.0 lives.world.server.commits lives.former d.1, d.2, d.3, d.4, d.5))
  ];
  on_disk = m.on_disk;
  disk = m.committed;
}

-- who commits was welcomed
commit_welcomed : (L : Limits) (lives : Lives) (told : ℕ → ℕ → ℕ → List Operation) (w : Machine) → Image L (life_of lives told) lives.world w → (x : AppliedCommit) → IsIn x lives.world.server.commits → CommitWelcomed lives x
commit_welcomed L lives told w m x i = record {
  of_life = (m.above.made x.client x.incarnation x.txn x.number numbered).0;
  come = (present_commits L lives told w m x i).0;
  welcomed = m.sent _ (m.above.committed x.client x.incarnation x.txn x.number numbered);
}
  where
    numbered : HasCommitNumber w.store x.client x.incarnation x.txn x.number
    numbered = ap (λ (s : Store). s.commit_number x.client x.incarnation x.txn) m.store ∙ m.books.listed x i

welcomed_alone : (L : Limits) (lives : Lives) (told : ℕ → ℕ → ℕ → List Operation) (w : Machine) → Image L (life_of lives told) lives.world w → Spoken L.clients lives.floor lives.world → WelcomedAlone lives
welcomed_alone L lives told w m h = record {
  current = λ c l. subst (λ (t : ℕ → Session). lives.floor ≤ (t c).current) m.session (m.above.current c (rw (sym m.clients) l));
  nothing = λ c l. h.nothing c (rw (sym m.clients) l);
  commits = commit_welcomed L lives told w m;
}

-- what the clients of the life hold, the server has
backed_of_life : (L : Limits) (lives : Lives) (told : ℕ → ℕ → ℕ → List Operation) (w : Machine) → Image L (life_of lives told) lives.world w → BackedOfLife lives
backed_of_life L lives told w m = record {
  row = λ c p g l e. subst (λ (t : ℕ → Session). (t c).row p ≡ Some g) m.session (b.row c p g (ap (λ (k : Cache). k.held p) (m.cache c l) ∙ e));
  never_back = λ c p g l e s. b.never_back c p g (ap (λ (k : Cache). k.held p) (m.cache c l) ∙ e) (subst (λ (j : ℕ). WasSent w c j (GiveBack p g)) (sym (m.incarnation c l)) (m.packets _ l s));
  permission = λ c p l x. subst (λ (s : Store). s.holder p ≡ Some c) m.store (b.permission c p (ap (λ (k : Cache). k.status) (m.cache c l) ∙ x.0) (ap (λ (k : Cache). k.may_write p) (m.cache c l) ∙ x.1));
  version = λ c p g l e f. sym (ap (λ (k : Cache). k.version p) (m.cache c l)) ∙ (b.version c p g (ap (λ (k : Cache). k.held p) (m.cache c l) ∙ e) (ap (λ (k : Cache). k.wrote p) (m.cache c l) ∙ f) ∙ ap (λ (s : Store). s.version p) m.store);
  bytes = λ c p y l e f. b.bytes c p y (ap (λ (k : Cache). k.content p) (m.cache c l) ∙ e) (ap (λ (k : Cache). k.wrote p) (m.cache c l) ∙ f) ∙ ap (λ (s : Store). s.bytes p) m.store;
}
  where
    b : BackedBy w
    b = backed_by w m.safe

-- a world over all lives that stands keeps the promise
pub promised : (L : Limits) (first : Opening) (lives : Lives) → Stands L first lives → LivesPromise first lives
promised L first lives r = record {
  agree = λ c d p x y near far a b. agree w m.safe c d p x y (there c p x near a) (there d p y far b);
  alone = λ c d p x near far a b. alone w m.safe c d p x (ap (λ (k : Cache). k.status) (m.cache c near) ∙ a.0, ap (λ (k : Cache). k.may_write p) (m.cache c near) ∙ a.1) (there d p x far b);
  serial = record { legal = history.0; leaves = history.1 };
  once = once_append lives.floor lives.world.server.commits lives.former m.books.once r.left.once (λ x i. (commit_welcomed L lives r.told w m x i).of_life) m.earlier;
  dones = dones_stand L lives r.told w m;
  packets = record { past = r.spoken.past; greeted = r.spoken.greeted };
  welcomed = welcomed_alone L lives r.told w m r.spoken;
  directory = record { sole = λ p c d g x y. sym (m.orderly.sole p d g c y x); distinct = m.books.distinct };
  ledger = ledger_stands L first lives r.told w m r.left;
  backed = backed_of_life L lives r.told w m;
}
  where
    w : Machine
    w = r.machine

    m : Image L (life_of lives r.told) lives.world r.machine
    m = r.image

    there : (c p : ℕ) (x : Bytes) → IsOfLife lives c → (lives.world.client c).cache.content p ≡ Some x → (present_cache r.machine c).content p ≡ Some x
    there c p x l a = ap (λ (k : Cache). k.content p) (m.cache c l) ∙ a

    here : operations_by (transaction_operations w.performed) lives.world.server.commits ≡ history_operations w.history
    here = serial_here L lives r.told w m

    history : IsSerial first.bytes (lives_history lives) × ((p : ℕ) → store_left first.bytes (lives_history lives) p ≡ lives.world.server.store.bytes p)
    history = joined L first lives r.told w lives.world.server.commits lives.world.server.store.bytes m r.left (λ x i. i) (subst (λ (h : List (List Operation)). IsSerial lives.opening.bytes h) (sym here) m.kept.legal)
        (λ p. ap (λ (h : List (List Operation)). store_left lives.opening.bytes h p) here ∙ (m.kept.leaves p ∙ ap (λ (s : Store). s.bytes p) m.store))

-- the first life
pub stands_first : (L : Limits) (first : Opening) → SoundOpening first → Stands L first (first_life L first)
stands_first L first s = record {
  told = λ c i t. [];
  machine = start L first;
  image = image_first L first s;
  left = record { sound = s; serial = tt; leaves = λ p. refl; once = tt; numbered = refl; bytes = λ p. refl; version = λ p. refl };
  spoken = record { past = λ f i. absurd i; greeted = λ c i j. absurd j; nothing = λ c l far. absurd (omega (arith, far)) };
}

-- each event
pub stands_after : (L : Limits) (cycle : DeadlockTest) (first : Opening) (lives : Lives) (e : LivesEvent) (let_go : Option ℕ) → LivesEventAllowed L lives e let_go → Stands L first lives → Stands L first (lives_step L cycle lives e let_go)
stands_after L cycle first lives (WithinLife e) let_go a r =
    let s : Follows L (life_of lives r.told) r.machine (step L cycle lives.world e let_go).world = event_follows L cycle (life_of lives r.told) lives.world r.machine e let_go r.image a in
    record {
      told = r.told;
      machine = run s.steps r.machine;
      image = s.image;
      left = r.left;
      spoken = spoken_after L.clients lives.floor lives.world _ (event_sends L cycle (life_of lives r.told) lives.world r.machine e let_go r.image r.spoken) r.spoken;
    }
stands_after L cycle first lives (ServerRestarts floor n) let_go a r = record {
  told = told_after lives;
  machine = start_at L (store_on_disk lives.opening lives.world.server n) floor lives.world.incarnation lives.world.packets;
  image = image_restarts L lives r.told r.machine floor n r.image r.spoken a.0 a.1 r.left.sound;
  left = left_restarts L first lives r.told r.machine floor n r.image a.0 a.1 r.left;
  spoken = record { past = r.spoken.past; greeted = r.spoken.greeted; nothing = λ c l far. nothing_of L (store_on_disk lives.opening lives.world.server n) floor c l };
}

pub stands_along : (L : Limits) (cycle : DeadlockTest) (first : Opening) (es : List LivesEvent) (lives after : Lives) → LeadsTo L cycle lives es after → Stands L first lives → Stands L first after
stands_along L cycle first [] lives after p r = subst (λ (x : Lives). Stands L first x) p r
stands_along L cycle first (e ∷ es) lives after p r = stands_along L cycle first es (lives_step L cycle lives e p.0) after p.2 (stands_after L cycle first lives e p.0 p.1 r)

-- the headline over all lives
pub lives_headline : LivesKeepThePromise
lives_headline L cycle first es lives s p = promised L first lives (stands_along L cycle first es (first_life L first) lives p (stands_first L first s))
