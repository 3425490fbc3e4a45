-- An ask that waits stays, or is answered: walked along the steps of every input.
use Rattle.std.proofs.Common.{Bool, List, None, Option, Some, [], ap, arith, false, if◌then◌else◌, inl, inr, length, nat_le, nat_lt, not, refl, subst, suc, sym, true, zero, ℕ, ◌&&◌, ◌++◌, ◌+◌, ◌==◌, ◌∙◌, ◌∷◌, ◌≡◌, ◌⊎◌}
use Rattle.std.proofs.lemmas.Bool.Decides.{nat_tests}
use Rattle.std.specs.Prelude.{⊤}
use Rattle.cb_protocol.proofs.Cases.{sent_append, server_after_append}
use Rattle.cb_protocol.proofs.NoCycles.{sends_dones, sends_doomed, sends_pages}
use Rattle.cb_protocol.proofs.SettlingClears.{OnlySends, sends_append, sends_callbacks, sends_downgrades}
use Rattle.cb_protocol.specs.AnyMessages.{Input, MessageComes, ReachesDisk, SendsAgain, input_steps}
use Rattle.cb_protocol.specs.Basics.{IsIn, is_exactly, is_none, update}
use Rattle.cb_protocol.specs.Flush.{dones_between}
use Rattle.cb_protocol.specs.Messages.{AbortNow, AskRead, AskWrite, Body, Commit, Done, Downgraded, Drop, GiveBack, Granted, Hello, InUse, MayWrite, Message, Welcome}
use Rattle.cb_protocol.specs.Resend.{again_doomed, again_pages, server_again}
use Rattle.cb_protocol.specs.Server.{ChangeSession, DeadlockTest, Doom, EnterQueue, ForgetTransaction, LeaveQueue, MarkCalledBack, MarkDowngradeSent, MarkInUse, RemoveAsk, Send, Server, ServerStep, SetFlushed, UnmarkInUse, WaitingAsk, after_first, after_server_step, server_after, set_called_back, set_downgrade_sent, without_client}
use Rattle.cb_protocol.specs.ServerMessages.{admit_incarnation, begin_transaction, commit_allowed, direct_answer, enter_queue, has_waiting_ask, if_live, is_empty, named_txn, new_ask, repeat_done, server_take, take_ask_read, take_ask_write, take_current}
use Rattle.cb_protocol.specs.Session.{Admit, ApplyCommit, BeginTransaction, DropTransaction, EndPermission, GrantRow, PermitWrite, RemoveRow, Session, SessionChange, session_after}
use Rattle.cb_protocol.specs.Settling.{Decided, Decision, Settled, call_back_once, decide, decide_read, decide_write, decision_steps, doom_client, downgrade_once, grant_row, keeps_permission, no_other_holder, nobody, permit_write, send_callbacks, send_downgrades, send_to, settle_page, settle_pages, sole_row, wait_or_doom}
use Rattle.cb_protocol.specs.World.{messages_sent}
use Rattle.cb_protocol.specs.LeavingLaws.{AsksAreAnswered, EndsTransaction, IsMet, TransactionEnds, WaitsIn}

-- the ask that is followed
record Asked : Type 0 where
  page : ℕ
  client : ℕ
  write_grant : Option ℕ
  incarnation : ℕ
  txn : ℕ

-- it waits, and its client is as it was
record Waiting (a : Asked) (s : Server) : Type 0 where
  stands : WaitsIn a.client a.write_grant (s.queue a.page)
  current : (s.session a.client).current ≡ a.incarnation
  txn : (s.session a.client).txn ≡ a.txn

abbrev to : (client incarnation : ℕ) → Body → Message
to c i b = record { client = c; incarnation = i; body = b }

abbrev Told : Asked → Body → List Message → Type 0
Told a b fs = IsIn (record { client = a.client; incarnation = a.incarnation; body = b }) fs

abbrev AskMet : Asked → Option ℕ → List Message → Type 0
AskMet a None fs = (g v : ℕ) × ((b : List ℕ) × Told a (Granted a.page g v b) fs)
AskMet a (Some g) fs = Told a (MayWrite a.txn a.page g) fs

abbrev Answered : Asked → List ServerStep → Type 0
Answered a ds = AskMet a a.write_grant (messages_sent ds) ⊎ (Told a (AbortNow a.txn) (messages_sent ds) ⊎ TransactionEnds a.client ds)

-- after these steps it waits still, or was answered
abbrev Accounted : Asked → Server → List ServerStep → Type 0
Accounted a s ds = Waiting a s → Waiting a (server_after s ds) ⊎ Answered a ds

in_left : {A : Type 0} (x : A) (xs ys : List A) → IsIn x xs → IsIn x (xs ++ ys)
in_left x [] ys h = absurd h
in_left x (z ∷ xs) ys h = elim h [ inl e ↦ inl e | inr m ↦ inr (in_left x xs ys m) ]

in_right : {A : Type 0} (x : A) (xs ys : List A) → IsIn x ys → IsIn x (xs ++ ys)
in_right x [] ys h = h
in_right x (z ∷ xs) ys h = inr (in_right x xs ys h)

met_left : (a : Asked) (w : Option ℕ) (xs ys : List Message) → AskMet a w xs → AskMet a w (xs ++ ys)
met_left a None xs ys h = (h.0, h.1, (h.2.0, in_left _ xs ys h.2.1))
met_left a (Some g) xs ys h = in_left _ xs ys h

met_right : (a : Asked) (w : Option ℕ) (xs ys : List Message) → AskMet a w ys → AskMet a w (xs ++ ys)
met_right a None xs ys h = (h.0, h.1, (h.2.0, in_right _ xs ys h.2.1))
met_right a (Some g) xs ys h = in_right _ xs ys h

answered_left : (a : Asked) (xs ys : List ServerStep) → Answered a xs → Answered a (xs ++ ys)
answered_left a xs ys h = elim h [
  | inl m ↦ inl (subst (λ (fs : List Message). AskMet a a.write_grant fs) (sym (sent_append xs ys)) (met_left a a.write_grant (messages_sent xs) (messages_sent ys) m))
  | inr o ↦ elim o [
    | inl t ↦ inr (inl (subst (λ (fs : List Message). Told a (AbortNow a.txn) fs) (sym (sent_append xs ys)) (in_left _ (messages_sent xs) (messages_sent ys) t)))
    | inr e ↦ inr (inr (e.0, e.1, in_left _ xs ys e.2))
  ]
]

answered_right : (a : Asked) (xs ys : List ServerStep) → Answered a ys → Answered a (xs ++ ys)
answered_right a xs ys h = elim h [
  | inl m ↦ inl (subst (λ (fs : List Message). AskMet a a.write_grant fs) (sym (sent_append xs ys)) (met_right a a.write_grant (messages_sent xs) (messages_sent ys) m))
  | inr o ↦ elim o [
    | inl t ↦ inr (inl (subst (λ (fs : List Message). Told a (AbortNow a.txn) fs) (sym (sent_append xs ys)) (in_right _ (messages_sent xs) (messages_sent ys) t)))
    | inr e ↦ inr (inr (e.0, e.1, in_right _ xs ys e.2))
  ]
]

accounts_append : (a : Asked) (s : Server) (xs ys : List ServerStep) → Accounted a s xs → Accounted a (server_after s xs) ys → Accounted a s (xs ++ ys)
accounts_append a s xs ys f g w = elim (f w) [
  | inl v ↦ elim (g v) [
    | inl u ↦ inl (subst (λ (k : Server). Waiting a k) (sym (server_after_append s xs ys)) u)
    | inr o ↦ inr (answered_right a xs ys o)
  ]
  | inr o ↦ inr (answered_left a xs ys o)
]

-- queues
waits_append : (c : ℕ) (w : Option ℕ) (q r : List WaitingAsk) → WaitsIn c w q → WaitsIn c w (q ++ r)
waits_append c w [] r h = absurd h
waits_append c w (x ∷ q) r h = elim h [ inl e ↦ inl e | inr m ↦ inr (waits_append c w q r m) ]

waits_called : (c : ℕ) (w : Option ℕ) (q : List WaitingAsk) → WaitsIn c w q → WaitsIn c w (set_called_back q)
waits_called c w [] h = h
waits_called c w (x ∷ q) h = h

waits_told : (t c : ℕ) (w : Option ℕ) (q : List WaitingAsk) → WaitsIn c w q → WaitsIn c w (set_downgrade_sent t q)
waits_told t c w [] h = h
waits_told t c w (x ∷ q) h = h

waits_without : (d c : ℕ) (w : Option ℕ) (q : List WaitingAsk) → (d == c) ≡ false → WaitsIn c w q → WaitsIn c w (without_client d q)
waits_without d c w [] n h = h
waits_without d c w (x ∷ q) n h = go (λ m. waits_without d c w q n m) (x.client == d) refl
  where
    other : (x.client == d) ≡ true → x.client ≡ c → ⊥
    other e k = let i : (c == d) ≡ true = subst (λ (y : ℕ). (y == d) ≡ true) k e in grind (arith, nat_tests)

    go : (WaitsIn c w q → WaitsIn c w (without_client d q)) → (r : Bool) → (x.client == d) ≡ r → WaitsIn c w (if r then without_client d q else x ∷ without_client d q)
    go f true e = elim h [ inl k ↦ absurd (other e k.0) | inr m ↦ f m ]
    go f false e = elim h [ inl k ↦ inl k | inr m ↦ inr (f m) ]

-- a queue that is put in its place
put_waits : (f : ℕ → List WaitingAsk) (p q c : ℕ) (w : Option ℕ) (new : List WaitingAsk) → (WaitsIn c w (f q) → WaitsIn c w new) → WaitsIn c w (f p) → WaitsIn c w (update f q new p)
put_waits f p q c w new keep h = go (p == q) refl
  where
    go : (r : Bool) → (p == q) ≡ r → WaitsIn c w (if r then new else f p)
    go true e = let same : p ≡ q = grind (arith, nat_tests) in keep (subst (λ (x : ℕ). WaitsIn c w (f x)) same h)
    go false e = h

-- a session after a change that ends no transaction
same_session : (k : Session) (m : SessionChange) → (EndsTransaction m → ⊥) → ((session_after k m).current ≡ k.current) × ((session_after k m).txn ≡ k.txn)
same_session k (Admit i) n = absurd (n tt)
same_session k (BeginTransaction t) n = absurd (n tt)
same_session k (DropTransaction t) n = absurd (n tt)
same_session k (ApplyCommit t ws) n = absurd (n tt)
same_session k (GrantRow p g) n = (refl, refl)
same_session k (PermitWrite p g) n = (refl, refl)
same_session k (RemoveRow p g) n = (refl, refl)
same_session k (EndPermission p g t) n = (refl, refl)

same_after : (s : Server) (d c : ℕ) (k : Session) → (k.current ≡ (s.session d).current) × (k.txn ≡ (s.session d).txn)
    → ((update s.session d k c).current ≡ (s.session c).current) × ((update s.session d k c).txn ≡ (s.session c).txn)
same_after s d c k e = go (c == d) refl
  where
    go : (r : Bool) → (c == d) ≡ r → ((if r then k else s.session c).current ≡ (s.session c).current) × ((if r then k else s.session c).txn ≡ (s.session c).txn)
    go true f = let same : d ≡ c = grind (arith, nat_tests) in subst (λ (x : ℕ). (k.current ≡ (s.session x).current) × (k.txn ≡ (s.session x).txn)) same e
    go false f = (refl, refl)

-- steps by which no ask leaves
abbrev Plain : ServerStep → Type 0
Plain (ChangeSession c m) = EndsTransaction m → ⊥
Plain (LeaveQueue p) = ⊥
Plain (RemoveAsk c) = ⊥
Plain (ForgetTransaction c) = ⊥
Plain _ = ⊤

plain_keeps : (a : Asked) (s : Server) (d : ServerStep) → Plain d → Waiting a s → Waiting a (after_server_step s d)
plain_keeps a s (ChangeSession c m) n w = let e = same_after s c a.client (session_after (s.session c) m) (same_session (s.session c) m n) in
    record { stands = w.stands; current = e.0 ∙ w.current; txn = e.1 ∙ w.txn }
plain_keeps a s (Send c i b) n w = w
plain_keeps a s (EnterQueue p x) n w = record { stands = put_waits s.queue a.page p a.client a.write_grant (s.queue p ++ x ∷ []) (waits_append a.client a.write_grant (s.queue p) (x ∷ [])) w.stands; current = w.current; txn = w.txn }
plain_keeps a s (MarkCalledBack p) n w = record { stands = put_waits s.queue a.page p a.client a.write_grant (set_called_back (s.queue p)) (waits_called a.client a.write_grant (s.queue p)) w.stands; current = w.current; txn = w.txn }
plain_keeps a s (MarkDowngradeSent p t) n w = record { stands = put_waits s.queue a.page p a.client a.write_grant (set_downgrade_sent t (s.queue p)) (waits_told t a.client a.write_grant (s.queue p)) w.stands; current = w.current; txn = w.txn }
plain_keeps a s (MarkInUse c p) n w = record { stands = w.stands; current = w.current; txn = w.txn }
plain_keeps a s (UnmarkInUse c p) n w = record { stands = w.stands; current = w.current; txn = w.txn }
plain_keeps a s (Doom c) n w = record { stands = w.stands; current = w.current; txn = w.txn }
plain_keeps a s (SetFlushed m) n w = record { stands = w.stands; current = w.current; txn = w.txn }
plain_keeps a s (LeaveQueue p) n w = absurd n
plain_keeps a s (RemoveAsk c) n w = absurd n
plain_keeps a s (ForgetTransaction c) n w = absurd n

accounts_nothing : (a : Asked) (s : Server) → Accounted a s []
accounts_nothing a s w = inl w

accounts_plain : (a : Asked) (s : Server) (d : ServerStep) → Plain d → Accounted a s (d ∷ [])
accounts_plain a s d n w = inl (plain_keeps a s d n w)

accounts_sends : (a : Asked) (s : Server) (ds : List ServerStep) → OnlySends ds → Accounted a s ds
accounts_sends a s [] o w = inl w
accounts_sends a s (Send c i b ∷ ds) o w = elim (accounts_sends a s ds o w) [ inl v ↦ inl v | inr h ↦ inr (answered_right a (Send c i b ∷ []) ds h) ]
accounts_sends a s (_ ∷ ds) o w = absurd o

-- the first ask of a page leaves: the followed one waits still, or is that one
first_leaves : (s : Server) (p : ℕ) (x : WaitingAsk) (q : List WaitingAsk) → s.queue p ≡ x ∷ q → (at c : ℕ) (w : Option ℕ) → WaitsIn c w (s.queue at)
    → WaitsIn c w (update s.queue p (after_first (s.queue p)) at) ⊎ ((at ≡ p) × (x.client ≡ c) × (x.write_grant ≡ w))
first_leaves s p x q e at c w h = go (at == p) refl
  where
    go : (r : Bool) → (at == p) ≡ r → WaitsIn c w (if r then after_first (s.queue p) else s.queue at) ⊎ ((at ≡ p) × (x.client ≡ c) × (x.write_grant ≡ w))
    go true f = let same : at ≡ p = grind (arith, nat_tests) in elim (subst (λ (y : List WaitingAsk). WaitsIn c w y) e (subst (λ (y : ℕ). WaitsIn c w (s.queue y)) same h)) [
      | inl k ↦ inr (same, k.0, k.1)
      | inr m ↦ inl (subst (λ (y : List WaitingAsk). WaitsIn c w (after_first y)) (sym e) m)
    ]
    go false f = inl h

-- an ask that is met leaves: these steps, of which the second says so
meets : (a : Asked) (s : Server) (p : ℕ) (x : WaitingAsk) (q : List WaitingAsk) (m : SessionChange) (b : Body) → s.queue p ≡ x ∷ q → (EndsTransaction m → ⊥)
    → ((fs : List Message) → a.page ≡ p → x.client ≡ a.client → x.write_grant ≡ a.write_grant → (s.session a.client).txn ≡ a.txn → IsIn (to a.client a.incarnation b) fs → AskMet a a.write_grant fs)
    → Accounted a s (ChangeSession x.client m ∷ Send x.client (s.session x.client).current b ∷ LeaveQueue p ∷ [])
meets a s p x q m b e n f w = elim (first_leaves s p x q e a.page a.client a.write_grant w.stands) [
  | inl h ↦ let k = same_after s x.client a.client (session_after (s.session x.client) m) (same_session (s.session x.client) m n) in
      inl (record { stands = h; current = k.0 ∙ w.current; txn = k.1 ∙ w.txn })
  | inr i ↦ inr (inl (f _ i.0 i.1 i.2 w.txn (inl (said i.1))))
]
  where
    said : x.client ≡ a.client → to x.client (s.session x.client).current b ≡ to a.client a.incarnation b
    said i = ap (λ (c : ℕ). to c (s.session c).current b) i ∙ ap (λ (k : ℕ). to a.client k b) w.current

-- the ask of the followed client goes with a message that says so, that of another doesn't
accounts_doom : (a : Asked) (s : Server) (c : ℕ) → Accounted a s (doom_client s c)
accounts_doom a s c w = go (c == a.client) refl
  where
    told : c ≡ a.client → to c (s.session c).current (AbortNow (s.session c).txn) ≡ to a.client a.incarnation (AbortNow a.txn)
    told e = ap (λ (d : ℕ). to d (s.session d).current (AbortNow (s.session d).txn)) e
        ∙ ap (λ (k : ℕ). to a.client k (AbortNow (s.session a.client).txn)) w.current ∙ ap (λ (t : ℕ). to a.client a.incarnation (AbortNow t)) w.txn

    go : (r : Bool) → (c == a.client) ≡ r → Waiting a (server_after s (doom_client s c)) ⊎ Answered a (doom_client s c)
    go true e = let same : c ≡ a.client = grind (arith, nat_tests) in inr (inr (inl (inl (told same))))
    go false e = inl (record { stands = waits_without c a.client a.write_grant (s.queue a.page) e w.stands; current = w.current; txn = w.txn })

other_after : (s : Server) (d c : ℕ) (k : Session) → (d == c) ≡ false
    → ((update s.session d k c).current ≡ (s.session c).current) × ((update s.session d k c).txn ≡ (s.session c).txn)
other_after s d c k n = go (c == d) refl
  where
    go : (r : Bool) → (c == d) ≡ r → ((if r then k else s.session c).current ≡ (s.session c).current) × ((if r then k else s.session c).txn ≡ (s.session c).txn)
    go true f = absurd (grind (arith, nat_tests))
    go false f = (refl, refl)

-- a transaction ends
accounts_end : (a : Asked) (s : Server) (c : ℕ) (m : SessionChange) → EndsTransaction m → Accounted a s (ForgetTransaction c ∷ ChangeSession c m ∷ [])
accounts_end a s c m n w = go (c == a.client) refl
  where
    go : (r : Bool) → (c == a.client) ≡ r → Waiting a (server_after s (ForgetTransaction c ∷ ChangeSession c m ∷ [])) ⊎ Answered a (ForgetTransaction c ∷ ChangeSession c m ∷ [])
    go true e = let same : c ≡ a.client = grind (arith, nat_tests) in inr (inr (inr (m, n, inr (inl (ap (λ (d : ℕ). ChangeSession d m) same)))))
    go false e = let k = other_after s c a.client (session_after (s.session c) m) e in
        inl (record { stands = waits_without c a.client a.write_grant (s.queue a.page) e w.stands; current = k.0 ∙ w.current; txn = k.1 ∙ w.txn })

-- settling
accounts_refuse : (a : Asked) (cycle : DeadlockTest) (s : Server) (c : ℕ) (ds : List ServerStep) → Accounted a s ds → Accounted a s (decision_steps (wait_or_doom cycle s c ds))
accounts_refuse a cycle s c ds f = go (cycle (server_after s ds) c)
  where
    go : (r : Bool) → Accounted a s (decision_steps (if r then Decided (ds ++ doom_client (server_after s ds) c) else Settled ds))
    go true = accounts_append a s ds (doom_client (server_after s ds) c) f (accounts_doom a (server_after s ds) c)
    go false = f

accounts_callbacks : (a : Asked) (s : Server) (p : ℕ) (x : WaitingAsk) → Accounted a s (call_back_once s p x)
accounts_callbacks a s p x = go x.called_back
  where
    ds : List ServerStep
    ds = send_callbacks s nobody p x.client s.clients

    go : (r : Bool) → Accounted a s (if r then [] else send_callbacks s nobody p x.client s.clients ++ MarkCalledBack p ∷ [])
    go true = accounts_nothing a s
    go false = accounts_append a s ds (MarkCalledBack p ∷ []) (accounts_sends a s ds (sends_callbacks s nobody p x.client s.clients)) (accounts_plain a (server_after s ds) (MarkCalledBack p) tt)

accounts_downgrades : (a : Asked) (s : Server) (p : ℕ) (x : WaitingAsk) → Accounted a s (downgrade_once s p x)
accounts_downgrades a s p x = go (s.store.keep_write && keeps_permission s p x.client (s.store.holder p) && not (is_exactly x.downgrade_sent (s.store.tag p)))
  where
    ds : List ServerStep
    ds = send_downgrades s nobody p x.client (s.store.holder p)

    go : (r : Bool) → Accounted a s (if r then send_downgrades s nobody p x.client (s.store.holder p) ++ MarkDowngradeSent p (s.store.tag p) ∷ [] else [])
    go true = accounts_append a s ds (MarkDowngradeSent p (s.store.tag p) ∷ []) (accounts_sends a s ds (sends_downgrades s nobody p x.client (s.store.holder p)))
        (accounts_plain a (server_after s ds) (MarkDowngradeSent p (s.store.tag p)) tt)
    go false = accounts_nothing a s

met_read : (a : Asked) (p g v : ℕ) (b : List ℕ) (fs : List Message) → a.page ≡ p → None ≡ a.write_grant → Told a (Granted p g v b) fs → AskMet a a.write_grant fs
met_read a p g v b fs e k h = subst (λ (w : Option ℕ). AskMet a w fs) k (g, v, (b, subst (λ (q : ℕ). Told a (Granted q g v b) fs) (sym e) h))

met_write : (a : Asked) (p g t : ℕ) (fs : List Message) → a.page ≡ p → Some g ≡ a.write_grant → t ≡ a.txn → Told a (MayWrite t p g) fs → AskMet a a.write_grant fs
met_write a p g t fs e k u h = subst (λ (w : Option ℕ). AskMet a w fs) k (subst (λ (q : ℕ). Told a (MayWrite a.txn q g) fs) (sym e) (subst (λ (y : ℕ). Told a (MayWrite y p g) fs) u h))

accounts_decide : (a : Asked) (cycle : DeadlockTest) (s : Server) (p : ℕ) (q : List WaitingAsk) → s.queue p ≡ q → Accounted a s (decision_steps (decide cycle s p q))
accounts_decide a cycle s p [] e = accounts_nothing a s
accounts_decide a cycle s p (x ∷ q) e = kind_of x.write_grant refl
  where
    reads : x.write_grant ≡ None → (u : Bool) → Accounted a s (decision_steps (if u then Decided (grant_row s p x.client) else wait_or_doom cycle s x.client (downgrade_once s p x)))
    reads k true = meets a s p x q (GrantRow p s.next_grant) (Granted p s.next_grant (s.store.version p) (s.store.bytes p)) e (λ n. n)
        (λ fs same i j t h. met_read a p s.next_grant (s.store.version p) (s.store.bytes p) fs same (sym k ∙ j) h)
    reads k false = accounts_refuse a cycle s x.client (downgrade_once s p x) (accounts_downgrades a s p x)

    writes : (g : ℕ) → x.write_grant ≡ Some g → (u : Bool) → Accounted a s (decision_steps (if u then Decided (permit_write s p x.client g) else wait_or_doom cycle s x.client (call_back_once s p x)))
    writes g k true = meets a s p x q (PermitWrite p g) (MayWrite (s.session x.client).txn p g) e (λ n. n)
        (λ fs same i j t h. met_write a p g (s.session x.client).txn fs same (sym k ∙ j) (ap (λ (c : ℕ). (s.session c).txn) i ∙ t) h)
    writes g k false = accounts_refuse a cycle s x.client (call_back_once s p x) (accounts_callbacks a s p x)

    kind_of : (r : Option ℕ) → x.write_grant ≡ r → Accounted a s (decision_steps (elim r [ None ↦ decide_read cycle s p x | Some g ↦ decide_write cycle s p x g ]))
    kind_of None k = reads k (no_other_holder (s.store.holder p) x.client && is_none ((s.session x.client).row p))
    kind_of (Some g) k = writes g k (no_other_holder (s.store.holder p) x.client && is_exactly ((s.session x.client).row p) g && sole_row s p x.client s.clients)

accounts_page : (a : Asked) (cycle : DeadlockTest) (n : ℕ) (s : Server) (p : ℕ) → Accounted a s (settle_page cycle n s p)
accounts_page a cycle zero s p = accounts_nothing a s
accounts_page a cycle (suc n) s p = go (λ k. accounts_page a cycle n k p) (decide cycle s p (s.queue p)) (accounts_decide a cycle s p (s.queue p) refl)
  where
    go : ((k : Server) → Accounted a k (settle_page cycle n k p)) → (v : Decision) → Accounted a s (decision_steps v)
        → Accounted a s (elim v [ Settled ds ↦ ds | Decided ds ↦ ds ++ settle_page cycle n (server_after s ds) p ])
    go f (Settled ds) h = h
    go f (Decided ds) h = accounts_append a s ds (settle_page cycle n (server_after s ds) p) h (f (server_after s ds))

accounts_pages : (a : Asked) (cycle : DeadlockTest) (s : Server) (n : ℕ) → Accounted a s (settle_pages cycle s n)
accounts_pages a cycle s zero = accounts_nothing a s
accounts_pages a cycle s (suc n) = let k = server_after s (settle_pages cycle s n) in
    accounts_append a s (settle_pages cycle s n) _ (accounts_pages a cycle s n) (accounts_page a cycle (length (s.queue n) + 1) k n)

-- the direct answers
accounts_enters : (a : Asked) (cycle : DeadlockTest) (s : Server) (p : ℕ) (x : WaitingAsk) → Accounted a s (enter_queue cycle s p x)
accounts_enters a cycle s p x = go (not (is_empty (s.queue p)) && cycle (after_server_step s (EnterQueue p x)) x.client)
  where
    k : Server
    k = after_server_step s (EnterQueue p x)

    go : (r : Bool) → Accounted a s (if r then EnterQueue p x ∷ doom_client (after_server_step s (EnterQueue p x)) x.client else EnterQueue p x ∷ [])
    go true = accounts_append a s (EnterQueue p x ∷ []) (doom_client k x.client) (accounts_plain a s (EnterQueue p x) tt) (accounts_doom a k x.client)
    go false = accounts_plain a s (EnterQueue p x) tt

accounts_ask_read : (a : Asked) (cycle : DeadlockTest) (s : Server) (c p : ℕ) (r : Option ℕ) → Accounted a s (take_ask_read cycle s c p r)
accounts_ask_read a cycle s c p (Some g) = accounts_plain a s _ tt
accounts_ask_read a cycle s c p None = go (has_waiting_ask s c s.pages)
  where
    go : (r : Bool) → Accounted a s (if r then [] else enter_queue cycle s p (new_ask c None))
    go true = accounts_nothing a s
    go false = accounts_enters a cycle s p (new_ask c None)

accounts_ask_write : (a : Asked) (cycle : DeadlockTest) (s : Server) (c p g : ℕ) → Accounted a s (take_ask_write cycle s c p g)
accounts_ask_write a cycle s c p g = go (is_exactly ((s.session c).row p) g) (is_exactly (s.store.holder p) c) (has_waiting_ask s c s.pages)
  where
    go : (r u v : Bool) → Accounted a s (if not r then [] else if u then ChangeSession c (PermitWrite p g) ∷ send_to s c (MayWrite (s.session c).txn p g) ∷ [] else if v then [] else enter_queue cycle s p (new_ask c (Some g)))
    go false u v = accounts_nothing a s
    go true true v = accounts_append a s (ChangeSession c (PermitWrite p g) ∷ []) (send_to s c (MayWrite (s.session c).txn p g) ∷ []) (accounts_plain a s (ChangeSession c (PermitWrite p g)) (λ n. n)) (accounts_plain a _ _ tt)
    go true false true = accounts_nothing a s
    go true false false = accounts_enters a cycle s p (new_ask c (Some g))

accounts_live : (a : Asked) (s : Server) (c t : ℕ) (ds : List ServerStep) → Accounted a s ds → Accounted a s (if_live s c t ds)
accounts_live a s c t ds f = go (nat_lt (s.session c).ended t) (s.doomed c)
  where
    go : (r u : Bool) → Accounted a s (if r then (if u then send_to s c (AbortNow t) ∷ [] else ds) else [])
    go true true = accounts_plain a s _ tt
    go true false = f
    go false u = accounts_nothing a s

accounts_repeated : (a : Asked) (s : Server) (c t : ℕ) (o : Option ℕ) → Accounted a s (repeat_done s c t o)
accounts_repeated a s c t None = accounts_nothing a s
accounts_repeated a s c t (Some n) = go (nat_le n s.flushed)
  where
    go : (r : Bool) → Accounted a s (if r then send_to s c (Done t n) ∷ [] else [])
    go true = accounts_plain a s _ tt
    go false = accounts_nothing a s

accounts_answer : (a : Asked) (cycle : DeadlockTest) (s : Server) (c : ℕ) (b : Body) → Accounted a s (direct_answer cycle s c b)
accounts_answer a cycle s c (AskRead t p) = accounts_live a s c t _ (accounts_ask_read a cycle s c p ((s.session c).row p))
accounts_answer a cycle s c (AskWrite t p g) = accounts_live a s c t _ (accounts_ask_write a cycle s c p g)
accounts_answer a cycle s c (GiveBack p g) = go (is_exactly ((s.session c).row p) g)
  where
    go : (r : Bool) → Accounted a s (if r then UnmarkInUse c p ∷ ChangeSession c (RemoveRow p g) ∷ [] else [])
    go true = accounts_append a s (UnmarkInUse c p ∷ []) (ChangeSession c (RemoveRow p g) ∷ []) (accounts_plain a s (UnmarkInUse c p) tt) (accounts_plain a _ (ChangeSession c (RemoveRow p g)) (λ n. n))
    go false = accounts_nothing a s
accounts_answer a cycle s c (InUse t p g) = go (nat_lt (s.session c).ended t && is_exactly ((s.session c).row p) g)
  where
    go : (r : Bool) → Accounted a s (if r then MarkInUse c p ∷ [] else [])
    go true = accounts_plain a s (MarkInUse c p) tt
    go false = accounts_nothing a s
accounts_answer a cycle s c (Commit t ws) = go (nat_lt (s.session c).ended t) (s.doomed c) (commit_allowed s c ws) (t == (s.session c).ended)
  where
    go : (r u v y : Bool) → Accounted a s (if r
        then (if u then send_to s c (AbortNow t) ∷ [] else if v then ForgetTransaction c ∷ ChangeSession c (ApplyCommit t ws) ∷ [] else [])
        else if y then repeat_done s c t (s.outcome c) else [])
    go true true v y = accounts_plain a s _ tt
    go true false true y = accounts_end a s c (ApplyCommit t ws) tt
    go true false false y = accounts_nothing a s
    go false u v true = accounts_repeated a s c t (s.outcome c)
    go false u v false = accounts_nothing a s
accounts_answer a cycle s c (Drop t) = go (nat_lt (s.session c).ended t)
  where
    go : (r : Bool) → Accounted a s (if r then ForgetTransaction c ∷ ChangeSession c (DropTransaction t) ∷ [] else [])
    go true = accounts_end a s c (DropTransaction t) tt
    go false = accounts_nothing a s
accounts_answer a cycle s c (Downgraded p g t) = go (s.store.keep_write && is_exactly ((s.session c).row p) g && is_exactly (s.store.holder p) c && (s.store.tag p == t))
  where
    go : (r : Bool) → Accounted a s (if r then ChangeSession c (EndPermission p g t) ∷ [] else [])
    go true = accounts_plain a s (ChangeSession c (EndPermission p g t)) (λ n. n)
    go false = accounts_nothing a s
accounts_answer a cycle s c _ = accounts_nothing a s

accounts_begin : (a : Asked) (s : Server) (c t : ℕ) → Accounted a s (begin_transaction s c t)
accounts_begin a s c t = go (nat_lt (s.session c).txn t)
  where
    go : (r : Bool) → Accounted a s (if r then ForgetTransaction c ∷ ChangeSession c (BeginTransaction t) ∷ [] else [])
    go true = accounts_end a s c (BeginTransaction t) tt
    go false = accounts_nothing a s

accounts_current : (a : Asked) (cycle : DeadlockTest) (s : Server) (c : ℕ) (b : Body) → Accounted a s (take_current cycle s c b)
accounts_current a cycle s c b =
    accounts_append a s (begin_transaction s c (named_txn b)) (direct_answer cycle k c b ++ settle_pages cycle l l.pages) (accounts_begin a s c (named_txn b))
    (accounts_append a k (direct_answer cycle k c b) (settle_pages cycle l l.pages) (accounts_answer a cycle k c b) (accounts_pages a cycle l l.pages))
  where
    k : Server
    k = server_after s (begin_transaction s c (named_txn b))

    l : Server
    l = server_after k (direct_answer cycle k c b)

accounts_take : (a : Asked) (cycle : DeadlockTest) (s : Server) (c i : ℕ) (b : Body) → Accounted a s (server_take cycle s c i b)
unfolding server_take
accounts_take a cycle s c i Hello = go (nat_lt (s.session c).current i) (i == (s.session c).current)
  where
    ends : List ServerStep
    ends = ForgetTransaction c ∷ ChangeSession c (Admit i) ∷ []

    k : Server
    k = server_after s (ForgetTransaction c ∷ ChangeSession c (Admit i) ∷ Send c i Welcome ∷ [])

    go : (r u : Bool) → Accounted a s (if r then admit_incarnation cycle s c i else if u then Send c i Welcome ∷ [] else [])
    go true u = accounts_append a s ends (Send c i Welcome ∷ settle_pages cycle k k.pages) (accounts_end a s c (Admit i) tt)
        (accounts_append a (server_after s ends) (Send c i Welcome ∷ []) (settle_pages cycle k k.pages) (accounts_plain a (server_after s ends) (Send c i Welcome) tt) (accounts_pages a cycle k k.pages))
    go false true = accounts_plain a s (Send c i Welcome) tt
    go false false = accounts_nothing a s
accounts_take a cycle s c i b = go (i == (s.session c).current)
  where
    go : (r : Bool) → Accounted a s (if r then take_current cycle s c b else [])
    go true = accounts_current a cycle s c b
    go false = accounts_nothing a s

accounts_input : (a : Asked) (cycle : DeadlockTest) (s : Server) (i : Input) → Accounted a s (input_steps cycle s i)
accounts_input a cycle s (MessageComes c i b) = accounts_take a cycle s c i b
accounts_input a cycle s SendsAgain = accounts_sends a s (server_again s) (sends_append (again_pages s s.pages) (again_doomed s s.clients) (sends_pages s s.pages) (sends_doomed s s.clients))
accounts_input a cycle s (ReachesDisk n) =
    accounts_append a s (dones_between s.commits s.flushed n) (SetFlushed n ∷ []) (accounts_sends a s (dones_between s.commits s.flushed n) (sends_dones s.commits s.flushed n)) (accounts_plain a _ (SetFlushed n) tt)

pub asks_answered : AsksAreAnswered
asks_answered cycle s i p c w h = elim (accounts_input a cycle s i (record { stands = h; current = refl; txn = refl })) [ inl v ↦ inl v.stands | inr o ↦ inr (elim o [ inl m ↦ inl (met w m) | inr r ↦ inr r ]) ]
  where
    a : Asked
    a = record { page = p; client = c; write_grant = w; incarnation = (s.session c).current; txn = (s.session c).txn }

    met : (r : Option ℕ) → AskMet a r (messages_sent (input_steps cycle s i)) → IsMet s p c r (messages_sent (input_steps cycle s i))
    met None m = m
    met (Some g) m = m
