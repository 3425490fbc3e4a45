-- The numbers and bytes that a server keeps are in range, and what each of its steps needs to keep them so.
use Rattle.std.proofs.Common.{Bool, List, None, Option, Some, [], arith, false, if◌then◌else◌, inl, inr, refl, subst, true, ℕ, ◌++◌, ◌+◌, ◌<◌, ◌==◌, ◌∷◌, ◌≡◌, ◌≢◌, ◌≤◌, ◌⊎◌}
use Rattle.std.specs.Prelude.{⊤}
use Rattle.cb_protocol.specs.Basics.{Bytes, IsIn, Limits, max_number, update}
use Rattle.cb_protocol.specs.Messages.{PageWrite, write_of_page}
use Rattle.cb_protocol.specs.Ranges.{AllMessagesFit, IsNumber, IsPage, IsPageBytes, MessageFits, StoreFits, WritesFit}
use Rattle.cb_protocol.specs.Server.{AppliedCommit, MarkCalledBack, ServerStep, Doom, EnterQueue, SetFlushed, LeaveQueue, MarkInUse, ForgetTransaction, Server, Send, MarkDowngradeSent, ChangeSession, RemoveAsk, UnmarkInUse, WaitingAsk, new_server, after_first, after_server_step, set_called_back, set_downgrade_sent, without_client}
use Rattle.cb_protocol.specs.Session.{Admit, ApplyCommit, DropTransaction, GrantRow, BeginTransaction, PermitWrite, RemoveRow, SessionChange, EndPermission, new_bytes, new_version}
use Rattle.cb_protocol.specs.ServerMessages.{read_asks_below}
use Rattle.cb_protocol.specs.World.{Opening, messages_sent, opening_store}

-- client c is one that there is, of an incarnation
abbrev pub Here : Limits → Server → ℕ → Type 0
Here L s c = (c < L.clients) × IsNumber (s.session c).current

-- an ask that waits
abbrev pub AskFits : Limits → Server → ℕ → WaitingAsk → Type 0
AskFits L s p a = IsPage L p × Here L s a.client × IsNumber (s.session a.client).txn × ((g : ℕ) → a.write_grant ≡ Some g → IsNumber g)

abbrev pub AppliedFits : Limits → AppliedCommit → Type 0
AppliedFits L x = (x.client < L.clients) × IsNumber x.incarnation × IsNumber x.txn × IsNumber x.number

pub record Bounded (L : Limits) (s : Server) : Type 0 where
  pub clients : s.clients ≡ L.clients
  pub pages : s.pages ≡ L.pages
  pub next_grant : 1 ≤ s.next_grant
  pub last_commit : s.store.last_commit ≤ max_number
  pub version : (p : ℕ) → IsPage L p → s.store.version p ≤ max_number
  pub bytes : (p : ℕ) → IsPage L p → IsPageBytes L (s.store.bytes p)
  pub row : (c p g : ℕ) → (s.session c).row p ≡ Some g → Here L s c × IsPage L p × IsNumber g
  pub txn : (c : ℕ) → (s.session c).txn ≤ max_number
  pub tag : (p d : ℕ) → s.store.holder p ≡ Some d → IsNumber (s.store.tag p)
  pub asking : (p : ℕ) (a : WaitingAsk) → IsIn a (s.queue p) → AskFits L s p a
  pub doomed : (c : ℕ) → s.doomed c ≡ true → Here L s c × IsNumber (s.session c).txn
  pub outcome : (c n : ℕ) → s.outcome c ≡ Some n → IsNumber n
  pub commits : (x : AppliedCommit) → IsIn x s.commits → AppliedFits L x

-- a grant number is left for each read ask that waits
abbrev pub Room : Server → Type 0
Room s = s.next_grant + read_asks_below s s.pages ≤ max_number + 1

-- what a step needs
abbrev pub MoveOk : Limits → Server → ℕ → SessionChange → Type 0
MoveOk L s c (Admit i) = IsNumber i × ((p : ℕ) (a : WaitingAsk) → IsIn a (s.queue p) → a.client ≢ c) × (s.doomed c ≡ false)
MoveOk L s c (BeginTransaction x) = IsNumber x
MoveOk L s c (GrantRow p g) = Here L s c × IsPage L p × IsNumber g
MoveOk L s c (PermitWrite p g) = IsNumber (s.session c).txn
MoveOk L s c (ApplyCommit x ws) = Here L s c × WritesFit L ws × IsNumber x × (s.store.last_commit < max_number)
MoveOk L s c _ = ⊤

abbrev pub DoOk : Limits → Server → ServerStep → Type 0
DoOk L s (ChangeSession c m) = MoveOk L s c m
DoOk L s (Send c i b) = MessageFits L (record { client = c; incarnation = i; body = b })
DoOk L s (EnterQueue p a) = AskFits L s p a
DoOk L s (Doom c) = Here L s c × IsNumber (s.session c).txn
DoOk L s _ = ⊤

abbrev pub DoingsOk : Limits → Server → List ServerStep → Type 0
DoingsOk L s [] = ⊤
DoingsOk L s (d ∷ ds) = DoOk L s d × DoingsOk L (after_server_step s d) ds

-- writes have bytes of a page
find_fits : (L : Limits) (ws : List PageWrite) (p : ℕ) (x : PageWrite) → WritesFit L ws → write_of_page ws p ≡ Some x → IsPageBytes L x.bytes
find_fits L [] p x f e = absurd cc
find_fits L (y ∷ ws) p x f e = go (find_fits L ws p x f.2) (y.page == p) e
  where
    go : (write_of_page ws p ≡ Some x → IsPageBytes L x.bytes) → (r : Bool) → (if r then Some y else write_of_page ws p) ≡ Some x → IsPageBytes L x.bytes
    go g true q = let z : y ≡ x = cc in subst (λ (w : PageWrite). IsPageBytes L w.bytes) z f.0.2
    go g false q = g q

new_fits : (L : Limits) (ws : List PageWrite) (p : ℕ) (old : Bytes) → WritesFit L ws → IsPageBytes L old → IsPageBytes L (new_bytes (write_of_page ws p) old)
new_fits L ws p old f b = go (write_of_page ws p) refl
  where
    go : (r : Option PageWrite) → write_of_page ws p ≡ r → IsPageBytes L (new_bytes r old)
    go None e = b
    go (Some x) e = find_fits L ws p x f e

new_number : (r : Option PageWrite) (n old : ℕ) → n ≤ max_number → old ≤ max_number → new_version r n old ≤ max_number
new_number None n old a b = b
new_number (Some x) n old a b = a

bounded_turn : (L : Limits) (s : Server) (c : ℕ) (m : SessionChange) → Bounded L s → MoveOk L s c m → Bounded L (after_server_step s (ChangeSession c m))
bounded_turn L s c (Admit i) h f = record { clients = h.clients; pages = h.pages; next_grant = h.next_grant; last_commit = h.last_commit; version = h.version; bytes = h.bytes; row = λ d p g. grind (arith, h.row d p g, f.0); txn = λ d. grind (arith, h.txn d); tag = λ p d. grind (arith, h.tag p d); asking = λ p a j. grind (arith, h.asking p a j, f.1 p a j, f.0); doomed = λ d. grind (arith, h.doomed d, f.2); outcome = λ d n. grind (arith, h.outcome d n); commits = h.commits }
bounded_turn L s c (BeginTransaction x) h f = record { clients = h.clients; pages = h.pages; next_grant = h.next_grant; last_commit = h.last_commit; version = h.version; bytes = h.bytes; row = λ d p g. grind (arith, h.row d p g); txn = λ d. grind (arith, h.txn d, f); tag = λ p d. grind (arith, h.tag p d); asking = λ p a j. grind (arith, h.asking p a j, f); doomed = λ d. grind (arith, h.doomed d, f); outcome = λ d n. grind (arith, h.outcome d n); commits = h.commits }
bounded_turn L s c (DropTransaction x) h f = record { clients = h.clients; pages = h.pages; next_grant = h.next_grant; last_commit = h.last_commit; version = h.version; bytes = h.bytes; row = λ d p g. grind (arith, h.row d p g); txn = λ d. grind (arith, h.txn d); tag = λ p d. grind (arith, h.tag p d); asking = λ p a j. grind (arith, h.asking p a j); doomed = λ d. grind (arith, h.doomed d); outcome = λ d n. grind (arith, h.outcome d n); commits = h.commits }
bounded_turn L s c (GrantRow p g) h f = record { clients = h.clients; pages = h.pages; next_grant = let n = h.next_grant in omega arith; last_commit = h.last_commit; version = h.version; bytes = h.bytes; row = λ d q x. grind (arith, h.row d q x, f); txn = λ d. grind (arith, h.txn d); tag = λ q d. grind (arith, h.tag q d); asking = λ q a j. grind (arith, h.asking q a j); doomed = λ d. grind (arith, h.doomed d); outcome = λ d n. grind (arith, h.outcome d n); commits = h.commits }
bounded_turn L s c (PermitWrite p g) h f = record { clients = h.clients; pages = h.pages; next_grant = h.next_grant; last_commit = h.last_commit; version = h.version; bytes = h.bytes; row = λ d q x. grind (arith, h.row d q x); txn = λ d. grind (arith, h.txn d); tag = λ q d. grind (arith, h.tag q d, f); asking = λ q a j. grind (arith, h.asking q a j); doomed = λ d. grind (arith, h.doomed d); outcome = λ d n. grind (arith, h.outcome d n); commits = h.commits }
bounded_turn L s c (RemoveRow p g) h f = record { clients = h.clients; pages = h.pages; next_grant = h.next_grant; last_commit = h.last_commit; version = h.version; bytes = h.bytes; row = λ d q x. grind (arith, h.row d q x); txn = λ d. grind (arith, h.txn d); tag = λ q d. grind (arith, h.tag q d); asking = λ q a j. grind (arith, h.asking q a j); doomed = λ d. grind (arith, h.doomed d); outcome = λ d n. grind (arith, h.outcome d n); commits = h.commits }
bounded_turn L s c (EndPermission p g x) h f = record { clients = h.clients; pages = h.pages; next_grant = h.next_grant; last_commit = h.last_commit; version = h.version; bytes = h.bytes; row = λ d q y. grind (arith, h.row d q y); txn = λ d. grind (arith, h.txn d); tag = λ q d. grind (arith, h.tag q d); asking = λ q a j. grind (arith, h.asking q a j); doomed = λ d. grind (arith, h.doomed d); outcome = λ d n. grind (arith, h.outcome d n); commits = h.commits }
bounded_turn L s c (ApplyCommit x ws) h f = record {
  clients = h.clients;
  pages = h.pages;
  next_grant = h.next_grant;
  last_commit = let a = f.3 in omega arith;
  version = λ p l. new_number (write_of_page ws p) (s.store.last_commit + 1) (s.store.version p) (let a = f.3 in omega arith) (h.version p l);
  bytes = λ p l. new_fits L ws p (s.store.bytes p) f.1 (h.bytes p l);
  row = λ d q y. grind (arith, h.row d q y);
  txn = λ d. grind (arith, h.txn d);
  tag = λ q d. grind (arith, h.tag q d);
  asking = λ q a j. grind (arith, h.asking q a j);
  doomed = λ d. grind (arith, h.doomed d);
  outcome = λ d n. grind (arith, h.outcome d n, f.3);
  commits = λ a i. elim i [ inl e ↦ subst (λ (y : AppliedCommit). AppliedFits L y) e (f.0.0, f.0.1, f.2, (omega arith, let z = f.3 in omega arith)) | inr j ↦ h.commits a j ];
}

-- the queues change
bounded_queue : (L : Limits) (s : Server) (q : ℕ → List WaitingAsk) → Bounded L s → ((p : ℕ) (a : WaitingAsk) → IsIn a (q p) → AskFits L s p a) → Bounded L (record s { queue = q })
bounded_queue L s q h f = record { clients = h.clients; pages = h.pages; next_grant = h.next_grant; last_commit = h.last_commit; version = h.version; bytes = h.bytes; row = h.row; txn = h.txn; tag = h.tag; asking = f; doomed = h.doomed; outcome = h.outcome; commits = h.commits }

in_without : (c : ℕ) (a : WaitingAsk) (q : List WaitingAsk) → IsIn a (without_client c q) → IsIn a q
in_without c a [] i = i
in_without c a (b ∷ q) i = go (in_without c a q) (b.client == c) i
  where
    go : (IsIn a (without_client c q) → IsIn a q) → (r : Bool) → IsIn a (if r then without_client c q else b ∷ without_client c q) → IsIn a (b ∷ q)
    go f true j = inr (f j)
    go f false j = elim j [ inl e ↦ inl e | inr k ↦ inr (f k) ]

bounded_put : (L : Limits) (s : Server) (p : ℕ) (q : List WaitingAsk) → Bounded L s → ((a : WaitingAsk) → IsIn a q → AskFits L s p a) → Bounded L (record s { queue = update s.queue p q })
bounded_put L s p q h f = bounded_queue L s (update s.queue p q) h (λ r a i. go r a (r == p) refl i)
  where
    same : (r : ℕ) → (r == p) ≡ true → p ≡ r
    same r e = grind arith

    go : (r : ℕ) (a : WaitingAsk) (u : Bool) → (r == p) ≡ u → IsIn a (if u then q else s.queue r) → AskFits L s r a
    go r a true e i = subst (λ (x : ℕ). AskFits L s x a) (same r e) (f a i)
    go r a false e i = h.asking r a i

in_push : (a b : WaitingAsk) (q : List WaitingAsk) → IsIn a (q ++ b ∷ []) → IsIn a q ⊎ (b ≡ a)
in_push a b [] i = elim i [ inl e ↦ inr e | inr j ↦ absurd j ]
in_push a b (c ∷ q) i = elim i [ inl e ↦ inl (inl e) | inr j ↦ elim (in_push a b q j) [ inl k ↦ inl (inr k) | inr e ↦ inr e ] ]

in_rest : (a : WaitingAsk) (q : List WaitingAsk) → IsIn a (after_first q) → IsIn a q
in_rest a [] i = i
in_rest a (b ∷ q) i = inr i

bounded_called : (L : Limits) (s : Server) (p : ℕ) → Bounded L s → Bounded L (after_server_step s (MarkCalledBack p))
bounded_called L s p h = bounded_put L s p (set_called_back (s.queue p)) h (λ a i. go (s.queue p) (λ b j. h.asking p b j) a i)
  where
    go : (q : List WaitingAsk) → ((a : WaitingAsk) → IsIn a q → AskFits L s p a) → (a : WaitingAsk) → IsIn a (set_called_back q) → AskFits L s p a
    go [] f a i = absurd i
    go (b ∷ q) f a i = elim i [ inl e ↦ subst (λ (x : WaitingAsk). AskFits L s p x) e (f b (inl refl)) | inr j ↦ f a (inr j) ]

bounded_told : (L : Limits) (s : Server) (p t : ℕ) → Bounded L s → Bounded L (after_server_step s (MarkDowngradeSent p t))
bounded_told L s p t h = bounded_put L s p (set_downgrade_sent t (s.queue p)) h (λ a i. go (s.queue p) (λ b j. h.asking p b j) a i)
  where
    go : (q : List WaitingAsk) → ((a : WaitingAsk) → IsIn a q → AskFits L s p a) → (a : WaitingAsk) → IsIn a (set_downgrade_sent t q) → AskFits L s p a
    go [] f a i = absurd i
    go (b ∷ q) f a i = elim i [ inl e ↦ subst (λ (x : WaitingAsk). AskFits L s p x) e (f b (inl refl)) | inr j ↦ f a (inr j) ]

bounded_doom : (L : Limits) (s : Server) (f : ℕ → Bool) → Bounded L s → ((c : ℕ) → f c ≡ true → Here L s c × IsNumber (s.session c).txn) → Bounded L (record s { doomed = f })
bounded_doom L s f h g = record { clients = h.clients; pages = h.pages; next_grant = h.next_grant; last_commit = h.last_commit; version = h.version; bytes = h.bytes; row = h.row; txn = h.txn; tag = h.tag; asking = h.asking; doomed = g; outcome = h.outcome; commits = h.commits }

bounded_mark : (L : Limits) (s : Server) (f : ℕ → ℕ → Bool) → Bounded L s → Bounded L (record s { in_use = f })
bounded_mark L s f h = record { clients = h.clients; pages = h.pages; next_grant = h.next_grant; last_commit = h.last_commit; version = h.version; bytes = h.bytes; row = h.row; txn = h.txn; tag = h.tag; asking = h.asking; doomed = h.doomed; outcome = h.outcome; commits = h.commits }

pub bounded_after : (L : Limits) (s : Server) (d : ServerStep) → Bounded L s → DoOk L s d → Bounded L (after_server_step s d)
bounded_after L s (ChangeSession c m) h f = bounded_turn L s c m h f
bounded_after L s (Send c i b) h f = h
bounded_after L s (EnterQueue p b) h f = bounded_put L s p (s.queue p ++ b ∷ []) h (λ a i. elim (in_push a b (s.queue p) i) [ inl j ↦ h.asking p a j | inr e ↦ subst (λ (x : WaitingAsk). AskFits L s p x) e f ])
bounded_after L s (LeaveQueue p) h f = bounded_put L s p (after_first (s.queue p)) h (λ a i. h.asking p a (in_rest a (s.queue p) i))
bounded_after L s (MarkCalledBack p) h f = bounded_called L s p h
bounded_after L s (MarkDowngradeSent p t) h f = bounded_told L s p t h
bounded_after L s (MarkInUse c p) h f = bounded_mark L s _ h
bounded_after L s (UnmarkInUse c p) h f = bounded_mark L s _ h
bounded_after L s (RemoveAsk c) h f = bounded_queue L s (λ p. without_client c (s.queue p)) h (λ p a i. h.asking p a (in_without c a (s.queue p) i))
bounded_after L s (Doom c) h f = bounded_doom L s (update s.doomed c true) h (λ d. grind (arith, h.doomed d, f))
bounded_after L s (ForgetTransaction c) h f = bounded_doom L _ (update s.doomed c false) (bounded_mark L _ _ (bounded_queue L s (λ p. without_client c (s.queue p)) h (λ p a i. h.asking p a (in_without c a (s.queue p) i)))) (λ d. grind (arith, h.doomed d))
bounded_after L s (SetFlushed n) h f = record { clients = h.clients; pages = h.pages; next_grant = h.next_grant; last_commit = h.last_commit; version = h.version; bytes = h.bytes; row = h.row; txn = h.txn; tag = h.tag; asking = h.asking; doomed = h.doomed; outcome = h.outcome; commits = h.commits }

pub bounded_start : (L : Limits) (o : Opening) → StoreFits L o → Bounded L (new_server L.clients L.pages (opening_store L o))
bounded_start L o f = record {
  clients = refl;
  pages = refl;
  next_grant = omega arith;
  last_commit = f.number;
  version = λ p l. let a = f.version p l in let b = f.number in omega arith;
  bytes = f.bytes;
  row = λ c p g e. absurd cc;
  txn = λ c. omega arith;
  tag = λ p d e. absurd cc;
  asking = λ p a i. absurd i;
  doomed = λ c e. absurd cc;
  outcome = λ c n e. absurd cc;
  commits = λ x i. absurd i;
}

-- the messages among the steps
pub told_fit : (L : Limits) (ds : List ServerStep) (s : Server) → DoingsOk L s ds → AllMessagesFit L (messages_sent ds)
told_fit L [] s f = tt
told_fit L (Send c i b ∷ ds) s f = (f.0, told_fit L ds _ f.1)
told_fit L (ChangeSession c m ∷ ds) s f = told_fit L ds _ f.1
told_fit L (EnterQueue p a ∷ ds) s f = told_fit L ds _ f.1
told_fit L (LeaveQueue p ∷ ds) s f = told_fit L ds _ f.1
told_fit L (MarkCalledBack p ∷ ds) s f = told_fit L ds _ f.1
told_fit L (MarkDowngradeSent p t ∷ ds) s f = told_fit L ds _ f.1
told_fit L (MarkInUse c p ∷ ds) s f = told_fit L ds _ f.1
told_fit L (UnmarkInUse c p ∷ ds) s f = told_fit L ds _ f.1
told_fit L (RemoveAsk c ∷ ds) s f = told_fit L ds _ f.1
told_fit L (Doom c ∷ ds) s f = told_fit L ds _ f.1
told_fit L (ForgetTransaction c ∷ ds) s f = told_fit L ds _ f.1
told_fit L (SetFlushed n ∷ ds) s f = told_fit L ds _ f.1
