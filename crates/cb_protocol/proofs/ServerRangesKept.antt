-- What the server does at a message keeps its numbers in range, and what it says is in range.
use Rattle.std.proofs.Common.{Bool, List, None, Option, Some, [], ap, arith, false, if◌then◌else◌, inl, inr, length, nat_le, nat_lt, not, refl, subst, suc, sym, true, zero, ℕ, ◌&&◌, ◌++◌, ◌+◌, ◌<◌, ◌==◌, ◌∙◌, ◌∷◌, ◌≡◌, ◌≢◌, ◌≤◌, ◌||◌}
use Rattle.std.specs.Prelude.{⊤}
use Rattle.cb_protocol.proofs.ServerRanges.{AskFits, Bounded, DoOk, DoingsOk, Here, Room, bounded_after, bounded_start, told_fit}
use Rattle.cb_protocol.proofs.ServerOrder.{after_append}
use Rattle.cb_protocol.proofs.ReadAsksWaiting.{count_called, count_push, count_told, count_without, reads_change, reads_fewer, reads_least}
use Rattle.cb_protocol.specs.AnyMessages.{MessageComes, Input, ReachesDisk, SendsAgain, input_steps, AfterInput, Opened, ReachedBy}
use Rattle.cb_protocol.specs.Basics.{IsIn, Limits, is_none, max_number, update, is_exactly}
use Rattle.cb_protocol.specs.Messages.{AbortNow, AskRead, AskWrite, Body, Commit, Done, Downgraded, Drop, GiveBack, Granted, Hello, InUse, MayWrite, Welcome, PageWrite}
use Rattle.cb_protocol.specs.Ranges.{BodyFits, InputTaken, IsNumber, IsPage, MessageFits, ServerMessagesInRange, StoreFits}
use Rattle.cb_protocol.specs.Server.{DeadlockTest, AppliedCommit, MarkCalledBack, ServerStep, Doom, EnterQueue, SetFlushed, LeaveQueue, MarkInUse, ForgetTransaction, Server, Send, MarkDowngradeSent, ChangeSession, RemoveAsk, UnmarkInUse, WaitingAsk, new_server, after_first, server_after, after_server_step, set_called_back, set_downgrade_sent, without_client}
use Rattle.cb_protocol.specs.Session.{Admit, ApplyCommit, DropTransaction, GrantRow, BeginTransaction, PermitWrite, RemoveRow, EndPermission}
use Rattle.cb_protocol.specs.Flush.{dones_between, server_flush}
use Rattle.cb_protocol.specs.Resend.{again_doomed, again_page, again_pages, server_again}
use Rattle.cb_protocol.specs.ServerMessages.{admit_incarnation, commit_allowed, direct_answer, take_ask_read, take_ask_write, has_waiting_ask, read_asks_in, repeat_done, enter_queue, is_exhausted, take_current, is_empty, lacks_number, if_live, begin_transaction, named_txn, new_ask, read_asks_below, server_take}
use Rattle.cb_protocol.specs.Settling.{Decided, Settled, Decision, downgrade_once, send_callback, send_callbacks, call_back_once, decide, decide_read, decide_write, decision_steps, doom_client, send_downgrade, send_downgrades, grant_row, keeps_permission, no_other_holder, nobody, permit_write, wait_or_doom, settle_page, settle_pages, sole_row, send_to, send_granted}
use Rattle.cb_protocol.specs.World.{Opening, opening_store}

-- what holds of a server between messages
pub record Steady (L : Limits) (s : Server) : Type 0 where
  pub bounded : Bounded L s
  pub room : Room s

-- steps that are right, and keep it
abbrev pub Even : Limits → Server → List ServerStep → Type 0
Even L s ds = DoingsOk L s ds × Steady L (server_after s ds)

even_append : (L : Limits) (xs ys : List ServerStep) (s : Server) → Even L s xs → Even L (server_after s xs) ys → Even L s (xs ++ ys)
even_append L [] ys s a b = b
even_append L (x ∷ xs) ys s a b = let r = even_append L xs ys (after_server_step s x) (a.0.1, a.1) b in ((a.0.0, r.0), r.1)

-- what a step does to the room
room_queue : (s t : Server) → t.next_grant ≡ s.next_grant → t.pages ≡ s.pages → ((p : ℕ) → read_asks_in (t.queue p) ≤ read_asks_in (s.queue p)) → Room s → Room t
room_queue s t e q f r = rw (e, q) (let a = reads_fewer s t s.pages f in omega arith)

-- steps that take no room
abbrev Easy : Limits → Server → ServerStep → Type 0
Easy L s (ChangeSession c (GrantRow p g)) = ⊥
Easy L s (EnterQueue p a) = ⊥
Easy L s d = DoOk L s d

put_count : (s : Server) (p : ℕ) (q : List WaitingAsk) → read_asks_in q ≤ read_asks_in (s.queue p) → (r : ℕ) → read_asks_in (update s.queue p q r) ≤ read_asks_in (s.queue r)
put_count s p q l r = go (r == p) refl
  where
    same : (r == p) ≡ true → p ≡ r
    same e = grind arith

    go : (u : Bool) → (r == p) ≡ u → read_asks_in (if u then q else s.queue r) ≤ read_asks_in (s.queue r)
    go true e = subst (λ (x : ℕ). read_asks_in q ≤ read_asks_in (s.queue x)) (same e) l
    go false e = omega arith

count_rest : (q : List WaitingAsk) → read_asks_in (after_first q) ≤ read_asks_in q
count_rest [] = omega arith
count_rest (a ∷ q) = go (is_none a.write_grant)
  where
    go : (r : Bool) → read_asks_in q ≤ (if r then read_asks_in q + 1 else read_asks_in q)
    go true = omega arith
    go false = omega arith

room_easy : (L : Limits) (s : Server) (d : ServerStep) → Easy L s d → Room s → Room (after_server_step s d)
room_easy L s (ChangeSession c (Admit i)) f r = room_queue s (after_server_step s (ChangeSession c (Admit i))) refl refl (λ p. omega arith) r
room_easy L s (ChangeSession c (BeginTransaction x)) f r = room_queue s (after_server_step s (ChangeSession c (BeginTransaction x))) refl refl (λ p. omega arith) r
room_easy L s (ChangeSession c (DropTransaction x)) f r = room_queue s (after_server_step s (ChangeSession c (DropTransaction x))) refl refl (λ p. omega arith) r
room_easy L s (ChangeSession c (GrantRow p g)) f r = absurd f
room_easy L s (ChangeSession c (PermitWrite p g)) f r = room_queue s (after_server_step s (ChangeSession c (PermitWrite p g))) refl refl (λ p. omega arith) r
room_easy L s (ChangeSession c (RemoveRow p g)) f r = room_queue s (after_server_step s (ChangeSession c (RemoveRow p g))) refl refl (λ p. omega arith) r
room_easy L s (ChangeSession c (EndPermission p g x)) f r = room_queue s (after_server_step s (ChangeSession c (EndPermission p g x))) refl refl (λ p. omega arith) r
room_easy L s (ChangeSession c (ApplyCommit x ws)) f r = room_queue s (after_server_step s (ChangeSession c (ApplyCommit x ws))) refl refl (λ p. omega arith) r
room_easy L s (Send c i b) f r = r
room_easy L s (EnterQueue p a) f r = absurd f
room_easy L s (LeaveQueue p) f r = room_queue s (after_server_step s (LeaveQueue p)) refl refl (put_count s p (after_first (s.queue p)) (count_rest (s.queue p))) r
room_easy L s (MarkCalledBack p) f r = room_queue s (after_server_step s (MarkCalledBack p)) refl refl (put_count s p (set_called_back (s.queue p)) (let e = count_called (s.queue p) in omega arith)) r
room_easy L s (MarkDowngradeSent p t) f r = room_queue s (after_server_step s (MarkDowngradeSent p t)) refl refl (put_count s p (set_downgrade_sent t (s.queue p)) (let e = count_told t (s.queue p) in omega arith)) r
room_easy L s (MarkInUse c p) f r = room_queue s (after_server_step s (MarkInUse c p)) refl refl (λ p. omega arith) r
room_easy L s (UnmarkInUse c p) f r = room_queue s (after_server_step s (UnmarkInUse c p)) refl refl (λ p. omega arith) r
room_easy L s (RemoveAsk c) f r = room_queue s (after_server_step s (RemoveAsk c)) refl refl (λ p. count_without c (s.queue p)) r
room_easy L s (Doom c) f r = room_queue s (after_server_step s (Doom c)) refl refl (λ p. omega arith) r
room_easy L s (ForgetTransaction c) f r = room_queue s (after_server_step s (ForgetTransaction c)) refl refl (λ p. count_without c (s.queue p)) r
room_easy L s (SetFlushed n) f r = room_queue s (after_server_step s (SetFlushed n)) refl refl (λ p. omega arith) r

easy_ok : (L : Limits) (s : Server) (d : ServerStep) → Easy L s d → DoOk L s d
easy_ok L s (ChangeSession c (Admit i)) f = f
easy_ok L s (ChangeSession c (BeginTransaction x)) f = f
easy_ok L s (ChangeSession c (DropTransaction x)) f = f
easy_ok L s (ChangeSession c (GrantRow p g)) f = absurd f
easy_ok L s (ChangeSession c (PermitWrite p g)) f = f
easy_ok L s (ChangeSession c (RemoveRow p g)) f = f
easy_ok L s (ChangeSession c (EndPermission p g x)) f = f
easy_ok L s (ChangeSession c (ApplyCommit x ws)) f = f
easy_ok L s (Send c i b) f = f
easy_ok L s (EnterQueue p a) f = absurd f
easy_ok L s (LeaveQueue p) f = f
easy_ok L s (MarkCalledBack p) f = f
easy_ok L s (MarkDowngradeSent p t) f = f
easy_ok L s (MarkInUse c p) f = f
easy_ok L s (UnmarkInUse c p) f = f
easy_ok L s (RemoveAsk c) f = f
easy_ok L s (Doom c) f = f
easy_ok L s (ForgetTransaction c) f = f
easy_ok L s (SetFlushed n) f = f

abbrev AllEasy : Limits → Server → List ServerStep → Type 0
AllEasy L s [] = ⊤
AllEasy L s (d ∷ ds) = Easy L s d × AllEasy L (after_server_step s d) ds

even_easy : (L : Limits) (ds : List ServerStep) (s : Server) → Steady L s → AllEasy L s ds → Even L s ds
even_easy L [] s h f = (tt, h)
even_easy L (d ∷ ds) s h f = let a : Steady L (after_server_step s d) = record { bounded = bounded_after L s d h.bounded (easy_ok L s d f.0); room = room_easy L s d f.0 h.room } in
    let b = even_easy L ds (after_server_step s d) a f.1 in ((easy_ok L s d f.0, b.0), b.1)

-- messages that change nothing
abbrev SaysRight : Limits → Server → List ServerStep → Type 0
SaysRight L s ds = AllEasy L s ds × (server_after s ds ≡ s)

says_append : (L : Limits) (xs ys : List ServerStep) (s : Server) → AllEasy L s xs → AllEasy L (server_after s xs) ys → AllEasy L s (xs ++ ys)
says_append L [] ys s a b = b
says_append L (x ∷ xs) ys s a b = (a.0, says_append L xs ys (after_server_step s x) a.1 b)

right_append : (L : Limits) (s : Server) (xs ys : List ServerStep) → SaysRight L s xs → SaysRight L s ys → SaysRight L s (xs ++ ys)
right_append L s xs ys a b = (says_append L xs ys s a.0 (subst (λ (x : Server). AllEasy L x ys) (sym a.1) b.0), rw (after_append, a.1) b.1)

right_then : (L : Limits) (s : Server) (xs : List ServerStep) (d : ServerStep) → SaysRight L s xs → Easy L s d → AllEasy L s (xs ++ d ∷ [])
right_then L s xs d a e = says_append L xs (d ∷ []) s a.0 (subst (λ (x : Server). AllEasy L x (d ∷ [])) (sym a.1) (e, tt))

right_call_back : (L : Limits) (s : Server) (d p : ℕ) (r : Option ℕ) → Bounded L s → (s.session d).row p ≡ r → SaysRight L s (send_callback s d p r)
right_call_back L s d p None h e = (tt, refl)
right_call_back L s d p (Some g) h e = let a = h.row d p g e in (((a.0.0, a.0.1, (a.1, a.2)), tt), refl)

right_callbacks : (L : Limits) (s : Server) (skip : ℕ → Bool) (p c n : ℕ) → Bounded L s → SaysRight L s (send_callbacks s skip p c n)
right_callbacks L s skip p c zero h = (tt, refl)
right_callbacks L s skip p c (suc n) h = right_append L s (send_callbacks s skip p c n) (if (n == c) || skip n then [] else send_callback s n p ((s.session n).row p)) (right_callbacks L s skip p c n h) (go ((n == c) || skip n))
  where
    go : (r : Bool) → SaysRight L s (if r then [] else send_callback s n p ((s.session n).row p))
    go true = (tt, refl)
    go false = right_call_back L s n p ((s.session n).row p) h refl

right_downgrades : (L : Limits) (s : Server) (skip : ℕ → Bool) (p c : ℕ) (w : Option ℕ) → Bounded L s → s.store.holder p ≡ w → SaysRight L s (send_downgrades s skip p c w)
right_downgrades L s skip p c None h e = (tt, refl)
right_downgrades L s skip p c (Some d) h e = go (keeps_permission s p c (Some d) && not (skip d))
  where
    one : (r : Option ℕ) → (s.session d).row p ≡ r → SaysRight L s (send_downgrade s d p r)
    one None f = (tt, refl)
    one (Some g) f = let a = h.row d p g f in (((a.0.0, a.0.1, (a.1, a.2, h.tag p d e)), tt), refl)

    go : (r : Bool) → SaysRight L s (if r then send_downgrade s d p ((s.session d).row p) else [])
    go true = one ((s.session d).row p) refl
    go false = (tt, refl)

easy_calls_back : (L : Limits) (s : Server) (p : ℕ) (a : WaitingAsk) → Bounded L s → AllEasy L s (call_back_once s p a)
easy_calls_back L s p a h = go a.called_back
  where
    go : (r : Bool) → AllEasy L s (if r then [] else send_callbacks s nobody p a.client s.clients ++ MarkCalledBack p ∷ [])
    go true = tt
    go false = right_then L s (send_callbacks s nobody p a.client s.clients) (MarkCalledBack p) (right_callbacks L s nobody p a.client s.clients h) tt

easy_brings_down : (L : Limits) (s : Server) (p : ℕ) (a : WaitingAsk) → Bounded L s → AllEasy L s (downgrade_once s p a)
easy_brings_down L s p a h = go (s.store.keep_write && keeps_permission s p a.client (s.store.holder p) && not (is_exactly a.downgrade_sent (s.store.tag p)))
  where
    go : (r : Bool) → AllEasy L s (if r then send_downgrades s nobody p a.client (s.store.holder p) ++ MarkDowngradeSent p (s.store.tag p) ∷ [] else [])
    go true = right_then L s (send_downgrades s nobody p a.client (s.store.holder p)) (MarkDowngradeSent p (s.store.tag p)) (right_downgrades L s nobody p a.client (s.store.holder p) h refl) tt
    go false = tt

-- a client's ask stays of a client and a transaction that there are
record Known (L : Limits) (s : Server) (c : ℕ) : Type 0 where
  here : Here L s c
  txn : IsNumber (s.session c).txn

easy_dooms : (L : Limits) (s : Server) (c : ℕ) → Known L s c → AllEasy L s (doom_client s c)
easy_dooms L s c k = (tt, ((k.here, k.txn), ((k.here.0, k.here.1, k.txn), tt)))

-- messages, and notes of them, leave what is known
abbrev Notes : List ServerStep → Type 0
Notes [] = ⊤
Notes (Send c i b ∷ ds) = Notes ds
Notes (MarkCalledBack p ∷ ds) = Notes ds
Notes (MarkDowngradeSent p t ∷ ds) = Notes ds
Notes (_ ∷ ds) = ⊥

notes_seat : (ds : List ServerStep) (s : Server) → Notes ds → (server_after s ds).session ≡ s.session
notes_seat [] s f = refl
notes_seat (Send c i b ∷ ds) s f = notes_seat ds _ f
notes_seat (MarkCalledBack p ∷ ds) s f = notes_seat ds _ f
notes_seat (MarkDowngradeSent p t ∷ ds) s f = notes_seat ds _ f
notes_seat (ChangeSession c m ∷ ds) s f = absurd f
notes_seat (EnterQueue p a ∷ ds) s f = absurd f
notes_seat (LeaveQueue p ∷ ds) s f = absurd f
notes_seat (MarkInUse c p ∷ ds) s f = absurd f
notes_seat (UnmarkInUse c p ∷ ds) s f = absurd f
notes_seat (RemoveAsk c ∷ ds) s f = absurd f
notes_seat (Doom c ∷ ds) s f = absurd f
notes_seat (ForgetTransaction c ∷ ds) s f = absurd f
notes_seat (SetFlushed n ∷ ds) s f = absurd f

notes_append : (xs ys : List ServerStep) → Notes xs → Notes ys → Notes (xs ++ ys)
notes_append [] ys a b = b
notes_append (Send c i y ∷ xs) ys a b = notes_append xs ys a b
notes_append (MarkCalledBack p ∷ xs) ys a b = notes_append xs ys a b
notes_append (MarkDowngradeSent p t ∷ xs) ys a b = notes_append xs ys a b
notes_append (ChangeSession c m ∷ xs) ys a b = absurd a
notes_append (EnterQueue p x ∷ xs) ys a b = absurd a
notes_append (LeaveQueue p ∷ xs) ys a b = absurd a
notes_append (MarkInUse c p ∷ xs) ys a b = absurd a
notes_append (UnmarkInUse c p ∷ xs) ys a b = absurd a
notes_append (RemoveAsk c ∷ xs) ys a b = absurd a
notes_append (Doom c ∷ xs) ys a b = absurd a
notes_append (ForgetTransaction c ∷ xs) ys a b = absurd a
notes_append (SetFlushed n ∷ xs) ys a b = absurd a

notes_callbacks : (s : Server) (skip : ℕ → Bool) (p c n : ℕ) → Notes (send_callbacks s skip p c n)
notes_callbacks s skip p c zero = tt
notes_callbacks s skip p c (suc n) = notes_append (send_callbacks s skip p c n) _ (notes_callbacks s skip p c n) (go ((n == c) || skip n))
  where
    one : (r : Option ℕ) → Notes (send_callback s n p r)
    one None = tt
    one (Some g) = tt

    go : (r : Bool) → Notes (if r then [] else send_callback s n p ((s.session n).row p))
    go true = tt
    go false = one ((s.session n).row p)

notes_calls_back : (s : Server) (p : ℕ) (a : WaitingAsk) → Notes (call_back_once s p a)
notes_calls_back s p a = go a.called_back
  where
    go : (r : Bool) → Notes (if r then [] else send_callbacks s nobody p a.client s.clients ++ MarkCalledBack p ∷ [])
    go true = tt
    go false = notes_append (send_callbacks s nobody p a.client s.clients) (MarkCalledBack p ∷ []) (notes_callbacks s nobody p a.client s.clients) tt

notes_brings_down : (s : Server) (p : ℕ) (a : WaitingAsk) → Notes (downgrade_once s p a)
notes_brings_down s p a = go (s.store.keep_write && keeps_permission s p a.client (s.store.holder p) && not (is_exactly a.downgrade_sent (s.store.tag p)))
  where
    one : (d : ℕ) (r : Option ℕ) → Notes (send_downgrade s d p r)
    one d None = tt
    one d (Some g) = tt

    some : (d : ℕ) (u : Bool) → Notes (if u then send_downgrade s d p ((s.session d).row p) else [])
    some d true = one d ((s.session d).row p)
    some d false = tt

    down : (w : Option ℕ) → Notes (send_downgrades s nobody p a.client w)
    down None = tt
    down (Some d) = some d (keeps_permission s p a.client (Some d) && not (nobody d))

    go : (r : Bool) → Notes (if r then send_downgrades s nobody p a.client (s.store.holder p) ++ MarkDowngradeSent p (s.store.tag p) ∷ [] else [])
    go true = notes_append (send_downgrades s nobody p a.client (s.store.holder p)) (MarkDowngradeSent p (s.store.tag p) ∷ []) (down (s.store.holder p)) tt
    go false = tt

even_refuses : (L : Limits) (cycle : DeadlockTest) (s : Server) (c : ℕ) (ds : List ServerStep) → Steady L s → Known L s c → AllEasy L s ds → Notes ds → Even L s (decision_steps (wait_or_doom cycle s c ds))
even_refuses L cycle s c ds h k a n = go (cycle (server_after s ds) c)
  where
    same : (server_after s ds).session ≡ s.session
    same = notes_seat ds s n

    known : Known L (server_after s ds) c
    known = record { here = (k.here.0, rw same k.here.1); txn = rw same k.txn }

    go : (r : Bool) → Even L s (decision_steps (if r then Decided (ds ++ doom_client (server_after s ds) c) else Settled ds))
    go true = even_easy L (ds ++ doom_client (server_after s ds) c) s h (says_append L ds (doom_client (server_after s ds) c) s a (easy_dooms L (server_after s ds) c known))
    go false = even_easy L ds s h a

-- the first ask of a page
known_ask : (L : Limits) (s : Server) (p : ℕ) (a : WaitingAsk) → AskFits L s p a → Known L s a.client
known_ask L s p a f = record { here = f.1; txn = f.2 }

even_grants : (L : Limits) (s : Server) (p c : ℕ) (a : WaitingAsk) (q : List WaitingAsk) → Steady L s → s.queue p ≡ a ∷ q → IsPage L p → Here L s c → is_none a.write_grant ≡ true → Even L s (grant_row s p c)
even_grants L s p c a q h e l k r = (((k, l, n), (told, (tt, tt))), record { bounded = b; room = rest_room })
  where
    near : p < s.pages
    near = rw h.bounded.pages l

    one : read_asks_in (s.queue p) ≡ read_asks_in q + 1
    one = rw (e, r) refl

    least : read_asks_in (s.queue p) ≤ read_asks_below s s.pages
    least = reads_least s p s.pages near

    n : IsNumber s.next_grant
    n = let x = h.bounded.next_grant in let y = h.room in let z = one in let w = least in (x, omega arith)

    seated : (update s.session c (record (s.session c) { row = update (s.session c).row p (Some s.next_grant) }) c).current ≡ (s.session c).current
    seated = grind arith

    told : MessageFits L (record { client = c; incarnation = (s.session c).current; body = Granted p s.next_grant (s.store.version p) (s.store.bytes p) })
    told = (k.0, k.1, (l, n, h.bounded.version p l, h.bounded.bytes p l))

    m : Server
    m = after_server_step s (ChangeSession c (GrantRow p s.next_grant))

    b : Bounded L (after_server_step m (LeaveQueue p))
    b = bounded_after L m (LeaveQueue p) (bounded_after L s (ChangeSession c (GrantRow p s.next_grant)) h.bounded (k, l, n)) tt

    left : read_asks_in ((after_server_step m (LeaveQueue p)).queue p) ≡ read_asks_in q
    left = grind (arith, e)

    others : (r : ℕ) → r ≢ p → (after_server_step m (LeaveQueue p)).queue r ≡ s.queue r
    others r ne = grind arith

    rest_room : Room (after_server_step m (LeaveQueue p))
    rest_room = let x = reads_change s (after_server_step m (LeaveQueue p)) p s.pages near others in let y = h.room in let z = one in let w = left in omega arith

even_decide : (L : Limits) (cycle : DeadlockTest) (s : Server) (p : ℕ) (q : List WaitingAsk) → s.queue p ≡ q → Steady L s → IsPage L p → Even L s (decision_steps (decide cycle s p q))
even_decide L cycle s p [] e h l = (tt, h)
even_decide L cycle s p (a ∷ q) e h l = kind_of a.write_grant refl
  where
    f : AskFits L s p a
    f = h.bounded.asking p a (subst (λ (x : List WaitingAsk). IsIn a x) (sym e) (inl refl))

    reads : is_none a.write_grant ≡ true → (u : Bool) → Even L s (decision_steps (if u then Decided (grant_row s p a.client) else wait_or_doom cycle s a.client (downgrade_once s p a)))
    reads r true = even_grants L s p a.client a q h e l f.1 r
    reads r false = even_refuses L cycle s a.client (downgrade_once s p a) h (known_ask L s p a f) (easy_brings_down L s p a h.bounded) (notes_brings_down s p a)

    writes : (g : ℕ) → a.write_grant ≡ Some g → (u : Bool) → Even L s (decision_steps (if u then Decided (permit_write s p a.client g) else wait_or_doom cycle s a.client (call_back_once s p a)))
    writes g w true = even_easy L (permit_write s p a.client g) s h (f.2, ((f.1.0, f.1.1, (f.2, l, f.3 g w)), (tt, tt)))
    writes g w false = even_refuses L cycle s a.client (call_back_once s p a) h (known_ask L s p a f) (easy_calls_back L s p a h.bounded) (notes_calls_back s p a)

    kind_of : (r : Option ℕ) → a.write_grant ≡ r → Even L s (decision_steps (elim r [ None ↦ decide_read cycle s p a | Some g ↦ decide_write cycle s p a g ]))
    kind_of None w = reads (rw w refl) (no_other_holder (s.store.holder p) a.client && is_none ((s.session a.client).row p))
    kind_of (Some g) w = writes g w (no_other_holder (s.store.holder p) a.client && is_exactly ((s.session a.client).row p) g && sole_row s p a.client s.clients)

even_settle : (L : Limits) (cycle : DeadlockTest) (n : ℕ) (s : Server) (p : ℕ) → Steady L s → IsPage L p → Even L s (settle_page cycle n s p)
even_settle L cycle zero s p h l = (tt, h)
even_settle L cycle (suc n) s p h l = go (λ k q. even_settle L cycle n k p q l) (decide cycle s p (s.queue p)) (even_decide L cycle s p (s.queue p) refl h l)
  where
    go : ((k : Server) → Steady L k → Even L k (settle_page cycle n k p)) → (v : Decision) → Even L s (decision_steps v) → Even L s (elim v [ Settled ds ↦ ds | Decided ds ↦ ds ++ settle_page cycle n (server_after s ds) p ])
    go f (Settled ds) a = a
    go f (Decided ds) a = even_append L ds _ s a (f (server_after s ds) a.1)

even_settles : (L : Limits) (cycle : DeadlockTest) (s : Server) (n : ℕ) → Steady L s → n ≤ L.pages → Even L s (settle_pages cycle s n)
even_settles L cycle s zero h l = (tt, h)
even_settles L cycle s (suc n) h l = let a = even_settles L cycle s n h (omega arith) in
    even_append L (settle_pages cycle s n) _ s a (even_settle L cycle (length (s.queue n) + 1) (server_after s (settle_pages cycle s n)) n a.1 (omega arith))

-- an ask enters
entered_room : (s : Server) (p : ℕ) (a : WaitingAsk) → p < s.pages → Room s → (is_none a.write_grant ≡ true → s.next_grant + read_asks_below s s.pages ≤ max_number) → Room (after_server_step s (EnterQueue p a))
entered_room s p a l r f = go (is_none a.write_grant) refl
  where
    t : Server
    t = after_server_step s (EnterQueue p a)

    there : t.queue p ≡ s.queue p ++ a ∷ []
    there = grind arith

    others : (q : ℕ) → q ≢ p → t.queue q ≡ s.queue q
    others q n = grind arith

    count : read_asks_in (t.queue p) ≡ (if is_none a.write_grant then read_asks_in (s.queue p) + 1 else read_asks_in (s.queue p))
    count = ap read_asks_in there ∙ count_push a (s.queue p)

    go : (u : Bool) → is_none a.write_grant ≡ u → Room t
    go true e = let x = reads_change s t p s.pages l others in let y : read_asks_in (t.queue p) ≡ read_asks_in (s.queue p) + 1 = rw e at count in let z = f e in omega arith
    go false e = let x = reads_change s t p s.pages l others in let y : read_asks_in (t.queue p) ≡ read_asks_in (s.queue p) = rw e at count in omega arith

even_enters : (L : Limits) (cycle : DeadlockTest) (s : Server) (p : ℕ) (a : WaitingAsk) → Steady L s → AskFits L s p a → (is_none a.write_grant ≡ true → s.next_grant + read_asks_below s s.pages ≤ max_number) → Even L s (enter_queue cycle s p a)
even_enters L cycle s p a h f r = go (not (is_empty (s.queue p)) && cycle (after_server_step s (EnterQueue p a)) a.client)
  where
    after : Steady L (after_server_step s (EnterQueue p a))
    after = record { bounded = bounded_after L s (EnterQueue p a) h.bounded f; room = entered_room s p a (rw h.bounded.pages f.0) h.room r }

    go : (u : Bool) → Even L s (if u then EnterQueue p a ∷ doom_client (after_server_step s (EnterQueue p a)) a.client else EnterQueue p a ∷ [])
    go true = let d = even_easy L (doom_client (after_server_step s (EnterQueue p a)) a.client) (after_server_step s (EnterQueue p a)) after (easy_dooms L (after_server_step s (EnterQueue p a)) a.client (record { here = f.1; txn = f.2 })) in ((f, d.0), d.1)
    go false = ((f, tt), after)

-- the transaction that a message names is met
record MeetsTransaction (L : Limits) (s : Server) (c : ℕ) (b : Body) : Type 0 where
  here : Here L s c
  fits : BodyFits L b
  reached : named_txn b ≤ (s.session c).txn
  taken : lacks_number s c b ≡ false

txn_number : (L : Limits) (s : Server) (c t : ℕ) → Bounded L s → (s.session c).ended < t → t ≤ (s.session c).txn → IsNumber (s.session c).txn
txn_number L s c t h a b = let m = h.txn c in (omega arith, m)

even_live : (L : Limits) (s : Server) (c t : ℕ) (ds : List ServerStep) → Steady L s → Here L s c → IsNumber t → ((s.session c).ended < t → s.doomed c ≡ false → Even L s ds) → Even L s (if_live s c t ds)
even_live L s c t ds h k n f = go (nat_lt (s.session c).ended t) refl (s.doomed c) refl
  where
    below : nat_lt (s.session c).ended t ≡ true → (s.session c).ended < t
    below e = grind arith

    go : (r : Bool) → nat_lt (s.session c).ended t ≡ r → (u : Bool) → s.doomed c ≡ u → Even L s (if r then (if u then send_to s c (AbortNow t) ∷ [] else ds) else [])
    go true e true d = even_easy L (send_to s c (AbortNow t) ∷ []) s h ((k.0, k.1, n), tt)
    go true e false d = f (below e) d
    go false e u d = (tt, h)

even_ask_read : (L : Limits) (cycle : DeadlockTest) (s : Server) (c t p : ℕ) (r : Option ℕ) → (s.session c).row p ≡ r → Steady L s → Here L s c → IsPage L p → IsNumber (s.session c).txn → (r ≡ None → has_waiting_ask s c s.pages ≡ false → s.next_grant + read_asks_below s s.pages ≤ max_number) → Even L s (take_ask_read cycle s c p r)
even_ask_read L cycle s c t p (Some g) e h k l n f = let a = h.bounded.row c p g e in even_easy L (send_granted s c p g ∷ []) s h ((k.0, k.1, (l, a.2, h.bounded.version p l, h.bounded.bytes p l)), tt)
even_ask_read L cycle s c t p None e h k l n f = go (has_waiting_ask s c s.pages) refl
  where
    go : (u : Bool) → has_waiting_ask s c s.pages ≡ u → Even L s (if u then [] else enter_queue cycle s p (new_ask c None))
    go true q = (tt, h)
    go false q = even_enters L cycle s p (new_ask c None) h (l, k, n, λ g z. absurd cc) (λ z. f refl q)

even_ask_write : (L : Limits) (cycle : DeadlockTest) (s : Server) (c p g : ℕ) → Steady L s → Here L s c → IsPage L p → IsNumber g → IsNumber (s.session c).txn → Even L s (take_ask_write cycle s c p g)
even_ask_write L cycle s c p g h k l m n = go (is_exactly ((s.session c).row p) g) (is_exactly (s.store.holder p) c) (has_waiting_ask s c s.pages)
  where
    same : (x y : ℕ) → Some x ≡ Some y → x ≡ y
    same x y z = cc

    go : (r u v : Bool) → Even L s (if not r then [] else if u then ChangeSession c (PermitWrite p g) ∷ send_to s c (MayWrite (s.session c).txn p g) ∷ [] else if v then [] else enter_queue cycle s p (new_ask c (Some g)))
    go false u v = (tt, h)
    go true true v = even_easy L (ChangeSession c (PermitWrite p g) ∷ send_to s c (MayWrite (s.session c).txn p g) ∷ []) s h (n, ((k.0, k.1, (n, l, m)), tt))
    go true false true = (tt, h)
    go true false false = even_enters L cycle s p (new_ask c (Some g)) h (l, k, n, λ x z. subst (λ (y : ℕ). IsNumber y) (same g x z) m) (λ z. absurd cc)

-- the direct answer
quit_quiet : (c : ℕ) (a : WaitingAsk) (q : List WaitingAsk) → IsIn a (without_client c q) → a.client ≢ c
quit_quiet c a [] i = absurd i
quit_quiet c a (b ∷ q) i = go (quit_quiet c a q) (b.client == c) refl i
  where
    apart : (b.client == c) ≡ false → b.client ≢ c
    apart e = grind arith

    go : (IsIn a (without_client c q) → a.client ≢ c) → (r : Bool) → (b.client == c) ≡ r → IsIn a (if r then without_client c q else b ∷ without_client c q) → a.client ≢ c
    go f true e j = f j
    go f false e j = elim j [ inl z ↦ subst (λ (x : WaitingAsk). x.client ≢ c) z (apart e) | inr k ↦ f k ]

again_fits : (L : Limits) (s : Server) (c t : ℕ) (r : Option ℕ) → Steady L s → Here L s c → IsNumber t → s.outcome c ≡ r → Even L s (repeat_done s c t r)
again_fits L s c t None h k n e = (tt, h)
again_fits L s c t (Some m) h k n e = go (nat_le m s.flushed)
  where
    go : (u : Bool) → Even L s (if u then send_to s c (Done t m) ∷ [] else [])
    go true = even_easy L (send_to s c (Done t m) ∷ []) s h ((k.0, k.1, (n, h.bounded.outcome c m e)), tt)
    go false = (tt, h)

even_commit : (L : Limits) (s : Server) (c t : ℕ) (ws : List PageWrite) → Steady L s → MeetsTransaction L s c (Commit t ws) → Even L s (if nat_lt (s.session c).ended t
    then (if s.doomed c then send_to s c (AbortNow t) ∷ [] else if commit_allowed s c ws then ForgetTransaction c ∷ ChangeSession c (ApplyCommit t ws) ∷ [] else [])
    else if t == (s.session c).ended then repeat_done s c t (s.outcome c) else [])
even_commit L s c t ws h m = go (nat_lt (s.session c).ended t) refl (s.doomed c) refl (commit_allowed s c ws) refl (t == (s.session c).ended)
  where
    left : nat_lt (s.session c).ended t ≡ true → s.doomed c ≡ false → commit_allowed s c ws ≡ true → s.store.last_commit < max_number
    left e f g = let z = m.taken in grind arith

    go : (r : Bool) → nat_lt (s.session c).ended t ≡ r → (u : Bool) → s.doomed c ≡ u → (v : Bool) → commit_allowed s c ws ≡ v → (w : Bool) → Even L s (if r
        then (if u then send_to s c (AbortNow t) ∷ [] else if v then ForgetTransaction c ∷ ChangeSession c (ApplyCommit t ws) ∷ [] else [])
        else if w then repeat_done s c t (s.outcome c) else [])
    go true e true f v g w = even_easy L (send_to s c (AbortNow t) ∷ []) s h ((m.here.0, m.here.1, m.fits.0), tt)
    go true e false f true g w = even_easy L (ForgetTransaction c ∷ ChangeSession c (ApplyCommit t ws) ∷ []) s h (tt, ((m.here, m.fits.1, m.fits.0, left e f g), tt))
    go true e false f false g w = (tt, h)
    go false e u f v g true = again_fits L s c t (s.outcome c) h m.here m.fits.0 refl
    go false e u f v g false = (tt, h)

even_answers : (L : Limits) (cycle : DeadlockTest) (s : Server) (c : ℕ) (b : Body) → Steady L s → MeetsTransaction L s c b → Even L s (direct_answer cycle s c b)
even_answers L cycle s c (AskRead t p) h m = even_live L s c t _ h m.here m.fits.0 (λ e d. even_ask_read L cycle s c t p ((s.session c).row p) refl h m.here m.fits.1 (txn_number L s c t h.bounded e m.reached) (λ q f. left e d q f))
  where
    left : (s.session c).ended < t → s.doomed c ≡ false → (s.session c).row p ≡ None → has_waiting_ask s c s.pages ≡ false → s.next_grant + read_asks_below s s.pages ≤ max_number
    left e d q f = let z = m.taken in grind arith
even_answers L cycle s c (AskWrite t p g) h m = even_live L s c t _ h m.here m.fits.0 (λ e d. even_ask_write L cycle s c p g h m.here m.fits.1 m.fits.2 (txn_number L s c t h.bounded e m.reached))
even_answers L cycle s c (GiveBack p g) h m = go (is_exactly ((s.session c).row p) g)
  where
    go : (r : Bool) → Even L s (if r then UnmarkInUse c p ∷ ChangeSession c (RemoveRow p g) ∷ [] else [])
    go true = even_easy L (UnmarkInUse c p ∷ ChangeSession c (RemoveRow p g) ∷ []) s h (tt, (tt, tt))
    go false = (tt, h)
even_answers L cycle s c (InUse t p g) h m = go (nat_lt (s.session c).ended t && is_exactly ((s.session c).row p) g)
  where
    go : (r : Bool) → Even L s (if r then MarkInUse c p ∷ [] else [])
    go true = even_easy L (MarkInUse c p ∷ []) s h (tt, tt)
    go false = (tt, h)
even_answers L cycle s c (Commit t ws) h m = even_commit L s c t ws h m
even_answers L cycle s c (Drop t) h m = go (nat_lt (s.session c).ended t)
  where
    go : (r : Bool) → Even L s (if r then ForgetTransaction c ∷ ChangeSession c (DropTransaction t) ∷ [] else [])
    go true = even_easy L (ForgetTransaction c ∷ ChangeSession c (DropTransaction t) ∷ []) s h (tt, (tt, tt))
    go false = (tt, h)
even_answers L cycle s c (Downgraded p g t) h m = go (s.store.keep_write && is_exactly ((s.session c).row p) g && is_exactly (s.store.holder p) c && (s.store.tag p == t))
  where
    go : (r : Bool) → Even L s (if r then ChangeSession c (EndPermission p g t) ∷ [] else [])
    go true = even_easy L (ChangeSession c (EndPermission p g t) ∷ []) s h (tt, tt)
    go false = (tt, h)
even_answers L cycle s c _ h m = (tt, h)

-- a later transaction
named : (L : Limits) (b : Body) → BodyFits L b → 0 < named_txn b → IsNumber (named_txn b)
named L b f l = grind arith

record TransactionMet (L : Limits) (s k : Server) (c t : ℕ) : Type 0 where
  here : Here L k c
  reached : t ≤ (k.session c).txn

even_meets : (L : Limits) (s : Server) (c : ℕ) (b : Body) → Steady L s → Here L s c → BodyFits L b → Even L s (begin_transaction s c (named_txn b)) × TransactionMet L s (server_after s (begin_transaction s c (named_txn b))) c (named_txn b)
even_meets L s c b h k f = go (nat_lt (s.session c).txn (named_txn b)) refl
  where
    below : nat_lt (s.session c).txn (named_txn b) ≡ true → (s.session c).txn < named_txn b
    below e = grind arith

    current : ((server_after s (ForgetTransaction c ∷ ChangeSession c (BeginTransaction (named_txn b)) ∷ [])).session c).current ≡ (s.session c).current
    current = grind arith

    reached : named_txn b ≤ ((server_after s (ForgetTransaction c ∷ ChangeSession c (BeginTransaction (named_txn b)) ∷ [])).session c).txn
    reached = grind arith

    go : (r : Bool) → nat_lt (s.session c).txn (named_txn b) ≡ r → Even L s (if r then ForgetTransaction c ∷ ChangeSession c (BeginTransaction (named_txn b)) ∷ [] else []) × TransactionMet L s (server_after s (if r then ForgetTransaction c ∷ ChangeSession c (BeginTransaction (named_txn b)) ∷ [] else [])) c (named_txn b)
    go true e = let l = below e in (even_easy L (ForgetTransaction c ∷ ChangeSession c (BeginTransaction (named_txn b)) ∷ []) s h (tt, (named L b f (omega arith), tt)), record { here = (k.0, subst (λ (x : ℕ). IsNumber x) (sym current) k.1); reached = reached })
    go false e = ((tt, h), record { here = k; reached = grind arith })

even_handles : (L : Limits) (cycle : DeadlockTest) (s : Server) (c : ℕ) (b : Body) → Steady L s → Here L s c → BodyFits L b → lacks_number (server_after s (begin_transaction s c (named_txn b))) c b ≡ false → Even L s (take_current cycle s c b)
even_handles L cycle s c b h k f z =
    let m = even_meets L s c b h k f in
    let t : Server = server_after s (begin_transaction s c (named_txn b)) in
    let a = even_answers L cycle t c b m.0.1 (record { here = m.1.here; fits = f; reached = m.1.reached; taken = z }) in
    even_append L (begin_transaction s c (named_txn b)) _ s m.0 (even_append L (direct_answer cycle t c b) _ t a (settled (server_after t (direct_answer cycle t c b)) a.1))
  where
    settled : (k : Server) → Steady L k → Even L k (settle_pages cycle k k.pages)
    settled k q = even_settles L cycle k k.pages q (let e = q.bounded.pages in omega arith)

even_frame : (L : Limits) (cycle : DeadlockTest) (s : Server) (c i : ℕ) (b : Body) → Steady L s → c < L.clients → IsNumber i → BodyFits L b → is_exhausted s c i b ≡ false → Even L s (if i == (s.session c).current then take_current cycle s c b else [])
even_frame L cycle s c i b h l n f z = go (i == (s.session c).current) refl
  where
    same : (i == (s.session c).current) ≡ true → i ≡ (s.session c).current
    same e = grind arith

    taken : (i == (s.session c).current) ≡ true → lacks_number (server_after s (begin_transaction s c (named_txn b))) c b ≡ false
    taken e = rw e at z

    go : (r : Bool) → (i == (s.session c).current) ≡ r → Even L s (if r then take_current cycle s c b else [])
    go true e = even_handles L cycle s c b h (l, subst (λ (x : ℕ). IsNumber x) (same e) n) f (taken e)
    go false e = (tt, h)

even_hello : (L : Limits) (cycle : DeadlockTest) (s : Server) (c i : ℕ) → Steady L s → c < L.clients → IsNumber i → Even L s (server_take cycle s c i Hello)
unfolding server_take
even_hello L cycle s c i h l n = go (nat_lt (s.session c).current i) (i == (s.session c).current)
  where
    quiet : (p : ℕ) (a : WaitingAsk) → IsIn a (without_client c (s.queue p)) → a.client ≢ c
    quiet p a j = quit_quiet c a (s.queue p) j

    undoomed : update s.doomed c false c ≡ false
    undoomed = grind arith

    ds : List ServerStep
    ds = ForgetTransaction c ∷ ChangeSession c (Admit i) ∷ Send c i Welcome ∷ []

    admitted : Even L s (ForgetTransaction c ∷ ChangeSession c (Admit i) ∷ Send c i Welcome ∷ [])
    admitted = even_easy L (ForgetTransaction c ∷ ChangeSession c (Admit i) ∷ Send c i Welcome ∷ []) s h (tt, ((n, quiet, undoomed), ((l, n, tt), tt)))

    go : (r u : Bool) → Even L s (if r then admit_incarnation cycle s c i else if u then Send c i Welcome ∷ [] else [])
    go true u = even_append L (ForgetTransaction c ∷ ChangeSession c (Admit i) ∷ Send c i Welcome ∷ []) _ s admitted (even_settles L cycle (server_after s (ForgetTransaction c ∷ ChangeSession c (Admit i) ∷ Send c i Welcome ∷ [])) s.pages admitted.1 (let e = h.bounded.pages in omega arith))
    go false true = even_easy L (Send c i Welcome ∷ []) s h ((l, n, tt), tt)
    go false false = (tt, h)

even_serves : (L : Limits) (cycle : DeadlockTest) (s : Server) (c i : ℕ) (b : Body) → Steady L s → c < L.clients → IsNumber i → BodyFits L b → is_exhausted s c i b ≡ false → Even L s (server_take cycle s c i b)
unfolding server_take
even_serves L cycle s c i Hello h l n f z = even_hello L cycle s c i h l n
even_serves L cycle s c i b h l n f z = even_frame L cycle s c i b h l n f z

-- resending and a flush
right_pages : (L : Limits) (s : Server) (n : ℕ) → Bounded L s → SaysRight L s (again_pages s n)
right_pages L s zero h = (tt, refl)
right_pages L s (suc n) h = right_append L s (again_pages s n) (again_page s n (s.queue n)) (right_pages L s n h) (page (s.queue n))
  where
    page : (q : List WaitingAsk) → SaysRight L s (again_page s n q)
    page [] = (tt, refl)
    page (a ∷ q) = go (is_none a.write_grant) s.store.keep_write
      where
        go : (r u : Bool) → SaysRight L s (if r then (if u then send_downgrades s (λ d. s.in_use d n) n a.client (s.store.holder n) else []) else send_callbacks s (λ d. s.in_use d n) n a.client s.clients)
        go true true = right_downgrades L s (λ d. s.in_use d n) n a.client (s.store.holder n) h refl
        go true false = (tt, refl)
        go false u = right_callbacks L s (λ d. s.in_use d n) n a.client s.clients h

right_doomed : (L : Limits) (s : Server) (n : ℕ) → Bounded L s → SaysRight L s (again_doomed s n)
right_doomed L s zero h = (tt, refl)
right_doomed L s (suc n) h = right_append L s (again_doomed s n) (if s.doomed n then send_to s n (AbortNow (s.session n).txn) ∷ [] else []) (right_doomed L s n h) (go (s.doomed n) refl)
  where
    go : (r : Bool) → s.doomed n ≡ r → SaysRight L s (if r then send_to s n (AbortNow (s.session n).txn) ∷ [] else [])
    go true e = let a = h.doomed n e in (((a.0.0, a.0.1, a.1), tt), refl)
    go false e = (tt, refl)

right_dones : (L : Limits) (s : Server) (xs : List AppliedCommit) (m n : ℕ) → Bounded L s → ((x : AppliedCommit) → IsIn x xs → IsIn x s.commits) → SaysRight L s (dones_between xs m n)
right_dones L s [] m n h f = (tt, refl)
right_dones L s (x ∷ xs) m n h f = right_append L s (dones_between xs m n) (if nat_lt m x.number && nat_le x.number n then Send x.client x.incarnation (Done x.txn x.number) ∷ [] else []) (right_dones L s xs m n h (λ y i. f y (inr i))) (go (nat_lt m x.number && nat_le x.number n))
  where
    go : (r : Bool) → SaysRight L s (if r then Send x.client x.incarnation (Done x.txn x.number) ∷ [] else [])
    go true = let a = h.commits x (f x (inl refl)) in (((a.0, a.1, (a.2, a.3)), tt), refl)
    go false = (tt, refl)

even_fed : (L : Limits) (cycle : DeadlockTest) (s : Server) (i : Input) → Steady L s → InputTaken L s i → Even L s (input_steps cycle s i)
even_fed L cycle s (MessageComes c i b) h f = even_serves L cycle s c i b h f.0.0 f.0.1 f.0.2 f.1
even_fed L cycle s SendsAgain h f = even_easy L (server_again s) s h (right_append L s (again_pages s s.pages) (again_doomed s s.clients) (right_pages L s s.pages h.bounded) (right_doomed L s s.clients h.bounded)).0
even_fed L cycle s (ReachesDisk n) h f = even_easy L (server_flush s n) s h (right_then L s (dones_between s.commits s.flushed n) (SetFlushed n) (right_dones L s s.commits s.flushed n h.bounded (λ x i. i)) tt)

reads_none : (L : Limits) (o : Opening) (n : ℕ) → read_asks_below (new_server L.clients L.pages (opening_store L o)) n ≡ 0
reads_none L o zero = refl
reads_none L o (suc n) = let a = reads_none L o n in omega arith

pub steady : (L : Limits) (cycle : DeadlockTest) (o : Opening) (s : Server) → StoreFits L o → ReachedBy L cycle o (InputTaken L) s → Steady L s
steady L cycle o s f Opened = record { bounded = bounded_start L o f; room = let a = reads_none L o L.pages in omega arith }
steady L cycle o s f (AfterInput {server = t} a i u) = (even_fed L cycle t i (steady L cycle o t f a) u).1

pub server_messages_in_range : (L : Limits) (cycle : DeadlockTest) → ServerMessagesInRange L cycle
server_messages_in_range L cycle o s i f a u = told_fit L (input_steps cycle s i) s (even_fed L cycle s i (steady L cycle o s f a) u).0
