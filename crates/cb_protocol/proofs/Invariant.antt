-- What is kept: the facts of the invariant, and the two laws.
use Rattle.std.proofs.Common.{List, None, Some, [], false, if◌then◌else◌, true, ℕ, ◌<◌, ◌==◌, ◌∷◌, ◌≡◌, ◌≢◌, ◌≤◌, ◌⊎◌}
use Rattle.std.specs.Prelude.{⊤}
use Rattle.cb_protocol.proofs.Machine.{ListsWrites, Machine, present_cache}
use Rattle.cb_protocol.specs.Cache.{Cache, Committing, Idle, Open, new_cache}
use Rattle.cb_protocol.specs.Basics.{Bytes, IsIn}
use Rattle.cb_protocol.specs.Messages.{AskRead, AskWrite, Body, Commit, Done, Downgrade, Downgraded, Drop, Message, GiveBack, Granted, Hello, InUse, MayWrite}
use Rattle.cb_protocol.specs.Serial.{Operation, Put, Saw}
use Rattle.cb_protocol.specs.Session.{Session, Store}

-- the commit is in the list
abbrev pub HasCommitNumber : Store → ℕ → ℕ → ℕ → ℕ → Type 0
HasCommitNumber s c i x n = s.commit_number c i x ≡ Some n

-- page p after these operations, the newest first, where it was b before them
abbrev pub at_page : ℕ → Bytes → List Operation → Bytes
at_page p b [] = b
at_page p b (Saw q x ∷ os) = at_page p b os
at_page p b (Put q x ∷ os) = if p == q then x else at_page p b os

-- the operations with each read of page p as that page shows it
abbrev pub shown : ℕ → Bytes → List Operation → List Operation
shown p b [] = []
shown p b (Saw q x ∷ os) = Saw q (if p == q then at_page p b os else x) ∷ shown p b os
shown p b (Put q x ∷ os) = Put q x ∷ shown p b os

-- each read of page p saw what was there
abbrev pub LegalAt : ℕ → Bytes → List Operation → Type 0
LegalAt p b os = shown p b os ≡ os

-- What holds between the store, the server's session of client c, and that client's state at the session's incarnation.
pub record SessionFacts (c : ℕ) (s : Store) (t : Session) (k : Cache) : Type 0 where
  -- at the server
  pub ended_by : t.ended ≤ t.txn
  pub sole : (p g d : ℕ) → t.row p ≡ Some g → s.holder p ≡ Some d → d ≡ c
  pub over : (x n : ℕ) → HasCommitNumber s c t.current x n → x ≤ t.ended
  -- at the client
  pub shut : k.welcomed ≡ false → k ≡ new_cache
  pub calm : (p : ℕ) → k.wrote p ≡ true → k.status ≢ Idle
  pub may_held : (p : ℕ) → k.may_write p ≡ true → k.held p ≢ None
  pub dropped_by : k.dropped ≤ k.number
  pub lost : s.keep_write ≡ false → (p : ℕ) → k.may_write p ≡ true → k.status ≢ Idle
  pub tagged_by : (p : ℕ) → k.may_write p ≡ true → (k.dropped < k.tag p) × (k.tag p ≤ t.txn)
  pub wrote_may : (p : ℕ) → k.wrote p ≡ true → k.may_write p ≡ true
  pub wrote_locked : (p : ℕ) → k.wrote p ≡ true → k.locked p ≡ true
  pub wrote_some : (p : ℕ) → k.wrote p ≡ true → k.content p ≢ None
  pub kept : (p : ℕ) → k.held p ≡ None → k.content p ≡ None
  pub seen : (p g : ℕ) → k.held p ≡ Some g → g ≤ k.seen p
  pub resting : k.status ≡ Idle → k.operations ≡ []
  pub locked_held : (p : ℕ) → k.locked p ≡ true → k.held p ≢ None
  pub untouched : (p : ℕ) (b : Bytes) → k.locked p ≡ false → LegalAt p b k.operations × (at_page p b k.operations ≡ b)
  -- between the two
  pub begun : t.txn ≤ k.number
  pub lives : k.status ≡ Open → t.ended < k.number
  pub held : (p g : ℕ) → k.held p ≡ Some g → t.row p ≡ Some g
  pub may_write : (p : ℕ) → k.may_write p ≡ true → (t.ended < k.number) ⊎ (s.keep_write ≡ true) → (s.holder p ≡ Some c) × (s.tag p ≡ k.tag p)
  pub live : (p : ℕ) → k.may_write p ≡ true → t.ended < t.txn → t.txn ≡ k.number
  pub settled : (x : ℕ) → k.dropped < x → x < k.number → x ≤ t.ended
  pub rested : k.status ≡ Idle → k.dropped < k.number → k.number ≤ t.ended
  pub going : k.status ≢ Idle → k.dropped < k.number
  pub version : (p g : ℕ) → k.held p ≡ Some g → k.wrote p ≡ false → k.version p ≡ s.version p
  pub bytes : (p : ℕ) (b : Bytes) → k.content p ≡ Some b → k.wrote p ≡ false → b ≡ s.bytes p
  pub applied : (p : ℕ) (b : Bytes) → k.content p ≡ Some b → k.wrote p ≡ true → k.number ≤ t.ended → b ≡ s.bytes p
  pub numbered : (p n : ℕ) → HasCommitNumber s c t.current k.number n → k.wrote p ≡ true → s.version p ≡ n
  pub legal : (p : ℕ) → t.ended < k.number → LegalAt p (s.bytes p) k.operations
  pub clean : (p : ℕ) → t.ended < k.number → k.wrote p ≡ false → at_page p (s.bytes p) k.operations ≡ s.bytes p
  pub dirty : (p : ℕ) → t.ended < k.number → k.wrote p ≡ true → k.content p ≡ Some (at_page p (s.bytes p) k.operations)

-- What holds of a message of the session's incarnation, by its body.
abbrev pub MessageFact : ℕ → Store → Session → Cache → Body → Type 0
MessageFact c s t k (AskRead x p) = x ≤ k.number
MessageFact c s t k (AskWrite x p g) = (x ≤ k.number) × (x ≡ k.number → k.status ≡ Open → k.may_write p ≡ true → k.tag p ≡ x) × (x ≡ k.number → k.status ≢ Open → k.dropped ≡ x ⊎ (k.may_write p ≡ true → k.tag p ≡ x ⊎ x ≤ t.ended))
MessageFact c s t k (GiveBack p g) = (k.held p ≢ Some g) × (g ≤ k.seen p)
MessageFact c s t k (InUse x p g) = x ≤ k.number
MessageFact c s t k (Commit x ws) = (x ≤ t.ended) ⊎ ((x ≡ k.number) × (k.status ≡ Committing) × ListsWrites ws k)
MessageFact c s t k (Drop x) = (x ≤ k.number) × (x ≡ k.number → k.status ≡ Idle)
MessageFact c s t k (Granted p g v b) = (v ≤ s.last_commit) × (v ≡ s.version p → b ≡ s.bytes p) × (((t.row p ≡ Some g) × (v ≡ s.version p)) ⊎ (g ≤ k.seen p))
MessageFact c s t k (MayWrite x p g) = (x ≤ t.txn) × (x ≡ t.txn → t.ended < x → ((s.holder p ≡ Some c) × (s.tag p ≡ x) × (t.row p ≡ Some g)) ⊎ ((k.held p ≢ Some g) × (g ≤ k.seen p)))
MessageFact c s t k (Done x n) = HasCommitNumber s c t.current x n
MessageFact c s t k (Downgraded p g x) = (k.may_write p ≡ true → k.tag p ≢ x) × (x ≤ t.ended)
MessageFact c s t k (Downgrade p g x) = x ≤ t.ended
MessageFact c s t k _ = ⊤

-- What holds of a message of incarnation i: Hello may be ahead of the server, nothing else is.
abbrev pub MessageHolds : ℕ → Store → Session → Cache → ℕ → ℕ → Body → Type 0
MessageHolds c s t k last i Hello = i ≤ last
MessageHolds c s t k last i b = (i ≤ t.current) × (i ≡ t.current → MessageFact c s t k b)

abbrev pub cache_at_session : Machine → ℕ → Cache
cache_at_session w c = w.client c (w.session c).current

pub record Invariant (w : Machine) : Type 0 where
  pub behind : (c : ℕ) → (w.session c).current ≤ w.incarnation c
  pub ahead : (c i : ℕ) → (w.session c).current < i → w.client c i ≡ new_cache
  pub commit_number : (c i x n : ℕ) → HasCommitNumber w.store c i x n → i ≤ (w.session c).current
  pub versions : (p : ℕ) → w.store.version p ≤ w.store.last_commit
  pub good : (c : ℕ) → SessionFacts c w.store (w.session c) (cache_at_session w c)
  pub fine : (f : Message) → IsIn f w.packets → MessageHolds f.client w.store (w.session f.client) (cache_at_session w f.client) (w.incarnation f.client) f.incarnation f.body

-- client c has a readable copy of page p
abbrev pub HasCopy : Machine → ℕ → ℕ → Bytes → Type 0
HasCopy w c p b = (present_cache w c).content p ≡ Some b

-- client c may write page p
abbrev pub MayPut : Machine → ℕ → ℕ → Type 0
MayPut w c p = ((present_cache w c).status ≡ Open) × ((present_cache w c).may_write p ≡ true)

abbrev pub LoneWriter : Machine → Type 0
LoneWriter w = (c d p : ℕ) (b : Bytes) → MayPut w c p → HasCopy w d p b → d ≡ c

abbrev pub SameCopies : Machine → Type 0
SameCopies w = (c d p : ℕ) (b e : Bytes) → HasCopy w c p b → HasCopy w d p e → b ≡ e
