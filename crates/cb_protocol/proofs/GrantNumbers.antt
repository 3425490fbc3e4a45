-- Settling takes no grant number but those kept for the read asks that wait, so none is lacking.
use Rattle.std.proofs.Common.{◌≡◌, ◌∙◌, ℕ, zero, suc, ◌+◌, ◌<◌, ◌≤◌, Bool, true, false, not, ◌==◌, ◌&&◌, nat_lt, nat_le, if◌then◌else◌, ◌≢◌, ◌⊎◌, List, [], ◌∷◌, ◌++◌, length, Option, Some, None, ap, arith, refl, sym, subst, inl, inr}
use Rattle.std.specs.Prelude.{⊤}
use Rattle.cb_protocol.specs.AnyMessages.{Input, MessageComes, SendsAgain, ReachesDisk, input_steps}
use Rattle.cb_protocol.specs.Basics.{IsIn, Limits, is_exactly, is_none, max_number, update}
use Rattle.cb_protocol.specs.Flush.{dones_between}
use Rattle.cb_protocol.specs.Messages.{AbortNow, AskRead, AskWrite, Body, Commit, Done, Downgraded, Drop, GiveBack, Hello, InUse, MayWrite, Welcome}
use Rattle.cb_protocol.specs.Numbers.{GrantsLeftAtFirst, GrantsNeverRunOut, HasGrantsLeft, IsTaken, SettlingTakesKeptGrants, first_free_grant}
use Rattle.cb_protocol.specs.Resend.{again_doomed, again_pages}
use Rattle.cb_protocol.specs.Server.{DeadlockTest, ChangeSession, Doom, EnterQueue, ForgetTransaction, LeaveQueue, MarkCalledBack, MarkInUse, MarkDowngradeSent, RemoveAsk, Send, Server, ServerStep, SetFlushed, UnmarkInUse, WaitingAsk, set_downgrade_sent, new_server, after_first, after_server_step, server_after, set_called_back}
use Rattle.cb_protocol.specs.ServerMessages.{admit_incarnation, begin_transaction, commit_allowed, direct_answer, enter_queue, has_waiting_ask, if_live, is_empty, is_exhausted, lacks_number, may_proceed, named_txn, new_ask, read_asks_below, read_asks_in, repeat_done, server_take, take_ask_read, take_ask_write, take_current}
use Rattle.cb_protocol.specs.Session.{Admit, ApplyCommit, BeginTransaction, DropTransaction, EndPermission, GrantRow, PermitWrite, RemoveRow}
use Rattle.cb_protocol.specs.Settling.{Decided, Decision, Settled, call_back_once, decide, decide_read, decide_write, decision_steps, doom_client, downgrade_once, grant_row, keeps_permission, no_other_holder, nobody, permit_write, send_callbacks, send_downgrades, send_to, settle_page, settle_pages, sole_row, wait_or_doom}
use Rattle.cb_protocol.specs.World.{opening_store}
use Rattle.cb_protocol.proofs.CyclePaths.{below_or_not}
use Rattle.cb_protocol.proofs.NoCycles.{sends_dones, sends_doomed, sends_pages}
use Rattle.cb_protocol.proofs.ReadAsksWaiting.{count_called, count_push, count_told, count_without, reads_change, reads_fewer, reads_least, reads_same}
use Rattle.cb_protocol.proofs.ServerOrder.{after_append}
use Rattle.cb_protocol.proofs.SettlingClears.{OnlySends, sends_append, sends_callbacks, sends_downgrades}

-- from s to t no number is taken but those kept
record Frugal (s t : Server) : Type 0 where
  free : first_free_grant t ≤ first_free_grant s
  pages : t.pages ≡ s.pages
  rising : s.next_grant ≤ t.next_grant

frugal_same : (s : Server) → Frugal s s
frugal_same s = record { free = omega arith; pages = refl; rising = omega arith }

frugal_more : (s t u : Server) → Frugal s t → Frugal t u → Frugal s u
frugal_more s t u a b = record {
  free = let l = a.free in let m = b.free in omega arith;
  pages = b.pages ∙ a.pages;
  rising = let l = a.rising in let m = b.rising in omega arith;
}

-- each new row of these steps has a grant number in range
abbrev GivesInRange : List ServerStep → Type 0
GivesInRange ds = (c p g : ℕ) → IsIn (ChangeSession c (GrantRow p g)) ds → (1 ≤ g) × (g ≤ max_number)

in_append : (x : ServerStep) (xs ys : List ServerStep) → IsIn x (xs ++ ys) → IsIn x xs ⊎ IsIn x ys
in_append x [] ys i = inr i
in_append x (y ∷ xs) ys i = elim i [ inl e ↦ inl (inl e) | inr j ↦ elim (in_append x xs ys j) [ inl k ↦ inl (inr k) | inr k ↦ inr k ] ]

gives_append : (xs ys : List ServerStep) → GivesInRange xs → GivesInRange ys → GivesInRange (xs ++ ys)
gives_append xs ys a b c p g i = elim (in_append (ChangeSession c (GrantRow p g)) xs ys i) [ inl j ↦ a c p g j | inr j ↦ b c p g j ]

-- steps that give no row and let no ask in
abbrev GivesNothing : List ServerStep → Type 0
GivesNothing [] = ⊤
GivesNothing (ChangeSession c (GrantRow p g) ∷ ds) = ⊥
GivesNothing (EnterQueue p a ∷ ds) = ⊥
GivesNothing (_ ∷ ds) = GivesNothing ds

nothing_append : (xs ys : List ServerStep) → GivesNothing xs → GivesNothing ys → GivesNothing (xs ++ ys)
nothing_append [] ys a b = b
nothing_append (ChangeSession c (GrantRow p g) ∷ xs) ys a b = absurd a
nothing_append (EnterQueue p x ∷ xs) ys a b = absurd a
nothing_append (_ ∷ xs) ys a b = nothing_append xs ys a b

nothing_sends : (ds : List ServerStep) → OnlySends ds → GivesNothing ds
nothing_sends [] a = tt
nothing_sends (Send c i b ∷ ds) a = nothing_sends ds a
nothing_sends (_ ∷ ds) a = absurd a

nothing_given : (ds : List ServerStep) → GivesNothing ds → GivesInRange ds
nothing_given [] a c p g i = absurd i
nothing_given (ChangeSession e (GrantRow q h) ∷ ds) a c p g i = absurd a
nothing_given (EnterQueue q b ∷ ds) a c p g i = absurd a
nothing_given (_ ∷ ds) a c p g i = elim i [ inl e ↦ absurd cc | inr j ↦ nothing_given ds a c p g j ]

-- queues with no more read asks
frugal_queue : (s t : Server) → t.next_grant ≡ s.next_grant → t.pages ≡ s.pages → ((p : ℕ) → read_asks_in (t.queue p) ≤ read_asks_in (s.queue p)) → Frugal s t
frugal_queue s t e q f = record { free = rw (e, q) (let a = reads_fewer s t s.pages f in omega arith); pages = q; rising = omega arith }

put_count : (s : Server) (p : ℕ) (q : List WaitingAsk) → read_asks_in q ≤ read_asks_in (s.queue p) → (r : ℕ) → read_asks_in (update s.queue p q r) ≤ read_asks_in (s.queue r)
put_count s p q l r = go (r == p) refl
  where
    same : (r == p) ≡ true → p ≡ r
    same e = grind arith

    go : (u : Bool) → (r == p) ≡ u → read_asks_in (if u then q else s.queue r) ≤ read_asks_in (s.queue r)
    go true e = subst (λ (x : ℕ). read_asks_in q ≤ read_asks_in (s.queue x)) (same e) l
    go false e = omega arith

count_rest : (q : List WaitingAsk) → read_asks_in (after_first q) ≤ read_asks_in q
count_rest [] = omega arith
count_rest (a ∷ q) = go (is_none a.write_grant)
  where
    go : (r : Bool) → read_asks_in q ≤ (if r then read_asks_in q + 1 else read_asks_in q)
    go true = omega arith
    go false = omega arith

frugal_step : (s : Server) (d : ServerStep) → GivesNothing (d ∷ []) → Frugal s (after_server_step s d)
frugal_step s (ChangeSession c (GrantRow p g)) f = absurd f
frugal_step s (ChangeSession c (Admit i)) f = frugal_queue s _ refl refl (λ p. omega arith)
frugal_step s (ChangeSession c (BeginTransaction x)) f = frugal_queue s _ refl refl (λ p. omega arith)
frugal_step s (ChangeSession c (DropTransaction x)) f = frugal_queue s _ refl refl (λ p. omega arith)
frugal_step s (ChangeSession c (PermitWrite p g)) f = frugal_queue s _ refl refl (λ p. omega arith)
frugal_step s (ChangeSession c (RemoveRow p g)) f = frugal_queue s _ refl refl (λ p. omega arith)
frugal_step s (ChangeSession c (EndPermission p g x)) f = frugal_queue s _ refl refl (λ p. omega arith)
frugal_step s (ChangeSession c (ApplyCommit x ws)) f = frugal_queue s _ refl refl (λ p. omega arith)
frugal_step s (Send c i b) f = frugal_same s
frugal_step s (EnterQueue p a) f = absurd f
frugal_step s (LeaveQueue p) f = frugal_queue s _ refl refl (put_count s p (after_first (s.queue p)) (count_rest (s.queue p)))
frugal_step s (MarkCalledBack p) f = frugal_queue s _ refl refl (put_count s p (set_called_back (s.queue p)) (let e = count_called (s.queue p) in omega arith))
frugal_step s (MarkDowngradeSent p t) f = frugal_queue s _ refl refl (put_count s p (set_downgrade_sent t (s.queue p)) (let e = count_told t (s.queue p) in omega arith))
frugal_step s (MarkInUse c p) f = frugal_queue s _ refl refl (λ p. omega arith)
frugal_step s (UnmarkInUse c p) f = frugal_queue s _ refl refl (λ p. omega arith)
frugal_step s (RemoveAsk c) f = frugal_queue s _ refl refl (λ p. count_without c (s.queue p))
frugal_step s (Doom c) f = frugal_queue s _ refl refl (λ p. omega arith)
frugal_step s (ForgetTransaction c) f = frugal_queue s _ refl refl (λ p. count_without c (s.queue p))
frugal_step s (SetFlushed n) f = frugal_queue s _ refl refl (λ p. omega arith)

nothing_first : (x : ServerStep) (ds : List ServerStep) → GivesNothing (x ∷ ds) → GivesNothing (x ∷ []) × GivesNothing ds
nothing_first (ChangeSession c (GrantRow p g)) ds n = absurd n
nothing_first (EnterQueue p a) ds n = absurd n
nothing_first _ ds n = (tt, n)

-- what a list of steps leaves and gives
record Thrifty (s : Server) (ds : List ServerStep) : Type 0 where
  frugal : Frugal s (server_after s ds)
  given : HasGrantsLeft s → GivesInRange ds

frugal_nothing : (s : Server) (ds : List ServerStep) → GivesNothing ds → Frugal s (server_after s ds)
frugal_nothing s [] f = frugal_same s
frugal_nothing s (x ∷ ds) f = let k = nothing_first x ds f in frugal_more s (after_server_step s x) (server_after (after_server_step s x) ds) (frugal_step s x k.0) (frugal_nothing (after_server_step s x) ds k.1)

thrifty_nothing : (s : Server) (ds : List ServerStep) → GivesNothing ds → Thrifty s ds
thrifty_nothing s ds f = record { frugal = frugal_nothing s ds f; given = λ h. nothing_given ds f }

still_left : (s t : Server) → Frugal s t → HasGrantsLeft s → HasGrantsLeft t
still_left s t f h = (let l = f.rising in let m = h.0 in omega arith, let l = f.free in let m = h.1 in omega arith)

thrifty_append : (s : Server) (xs ys : List ServerStep) → Thrifty s xs → Thrifty (server_after s xs) ys → Thrifty s (xs ++ ys)
thrifty_append s xs ys a b = record {
  frugal = subst (λ (k : Server). Frugal s k) (sym (after_append s xs ys)) (frugal_more s (server_after s xs) (server_after (server_after s xs) ys) a.frugal b.frugal);
  given = λ h. gives_append xs ys (a.given h) (b.given (still_left s (server_after s xs) a.frugal h));
}

-- a read ask at a page that there is has a number
number_kept : (s : Server) (p : ℕ) (a : WaitingAsk) (q : List WaitingAsk) → p < s.pages → s.queue p ≡ a ∷ q → is_none a.write_grant ≡ true → s.next_grant < first_free_grant s
number_kept s p a q l e r = let least = reads_least s p s.pages l in let one : read_asks_in (s.queue p) ≡ read_asks_in q + 1 = rw (e, r) refl in omega arith

thrifty_grants : (s : Server) (p : ℕ) (a : WaitingAsk) (q : List WaitingAsk) → p < s.pages → s.queue p ≡ a ∷ q → is_none a.write_grant ≡ true → Thrifty s (grant_row s p a.client)
thrifty_grants s p a q l e r = record { frugal = record { free = free; pages = refl; rising = omega arith }; given = given }
  where
    t : Server
    t = server_after s (grant_row s p a.client)

    one : read_asks_in (s.queue p) ≡ read_asks_in q + 1
    one = rw (e, r) refl

    left : read_asks_in (t.queue p) ≡ read_asks_in q
    left = grind (arith, e)

    others : (r : ℕ) → r ≢ p → t.queue r ≡ s.queue r
    others r ne = grind arith

    free : first_free_grant t ≤ first_free_grant s
    free = let x = reads_change s t p s.pages l others in let z = one in let w = left in omega arith

    given : HasGrantsLeft s → GivesInRange (grant_row s p a.client)
    given h c y g (inl f) = let z : s.next_grant ≡ g = cc in let w = number_kept s p a q l e r in let m = h.0 in let n = h.1 in (omega arith, omega arith)
    given h c y g (inr (inl f)) = absurd cc
    given h c y g (inr (inr (inl f))) = absurd cc
    given h c y g (inr (inr (inr i))) = absurd i

nothing_refuses : (cycle : DeadlockTest) (s : Server) (c : ℕ) (ds : List ServerStep) → GivesNothing ds → GivesNothing (decision_steps (wait_or_doom cycle s c ds))
nothing_refuses cycle s c ds f = go (cycle (server_after s ds) c)
  where
    go : (r : Bool) → GivesNothing (decision_steps (if r then Decided (ds ++ doom_client (server_after s ds) c) else Settled ds))
    go true = nothing_append ds (doom_client (server_after s ds) c) f tt
    go false = f

thrifty_decide : (cycle : DeadlockTest) (s : Server) (p : ℕ) (q : List WaitingAsk) → s.queue p ≡ q → p < s.pages → Thrifty s (decision_steps (decide cycle s p q))
thrifty_decide cycle s p [] e l = thrifty_nothing s [] tt
thrifty_decide cycle s p (a ∷ q) e l = kind_of a.write_grant refl
  where
    down : List ServerStep
    down = send_downgrades s nobody p a.client (s.store.holder p)

    back : List ServerStep
    back = send_callbacks s nobody p a.client s.clients

    brings : (r : Bool) → GivesNothing (if r then down ++ MarkDowngradeSent p (s.store.tag p) ∷ [] else [])
    brings true = nothing_append down (MarkDowngradeSent p (s.store.tag p) ∷ []) (nothing_sends down (sends_downgrades s nobody p a.client (s.store.holder p))) tt
    brings false = tt

    calls : (r : Bool) → GivesNothing (if r then [] else back ++ MarkCalledBack p ∷ [])
    calls true = tt
    calls false = nothing_append back (MarkCalledBack p ∷ []) (nothing_sends back (sends_callbacks s nobody p a.client s.clients)) tt

    reads : is_none a.write_grant ≡ true → (u : Bool) → Thrifty s (decision_steps (if u then Decided (grant_row s p a.client) else wait_or_doom cycle s a.client (downgrade_once s p a)))
    reads r true = thrifty_grants s p a q l e r
    reads r false = thrifty_nothing s _ (nothing_refuses cycle s a.client (downgrade_once s p a) (brings (s.store.keep_write && keeps_permission s p a.client (s.store.holder p) && not (is_exactly a.downgrade_sent (s.store.tag p)))))

    writes : (g : ℕ) (u : Bool) → Thrifty s (decision_steps (if u then Decided (permit_write s p a.client g) else wait_or_doom cycle s a.client (call_back_once s p a)))
    writes g true = thrifty_nothing s (permit_write s p a.client g) tt
    writes g false = thrifty_nothing s _ (nothing_refuses cycle s a.client (call_back_once s p a) (calls a.called_back))

    kind_of : (w : Option ℕ) → a.write_grant ≡ w → Thrifty s (decision_steps (elim w [ None ↦ decide_read cycle s p a | Some g ↦ decide_write cycle s p a g ]))
    kind_of None w = reads (rw w refl) (no_other_holder (s.store.holder p) a.client && is_none ((s.session a.client).row p))
    kind_of (Some g) w = writes g (no_other_holder (s.store.holder p) a.client && is_exactly ((s.session a.client).row p) g && sole_row s p a.client s.clients)

thrifty_settle : (cycle : DeadlockTest) (n : ℕ) (s : Server) (p : ℕ) → p < s.pages → Thrifty s (settle_page cycle n s p)
thrifty_settle cycle zero s p l = thrifty_nothing s [] tt
thrifty_settle cycle (suc n) s p l = go (λ k m. thrifty_settle cycle n k p m) (decide cycle s p (s.queue p)) (thrifty_decide cycle s p (s.queue p) refl l)
  where
    go : ((k : Server) → p < k.pages → Thrifty k (settle_page cycle n k p)) → (v : Decision) → Thrifty s (decision_steps v) → Thrifty s (elim v [ Settled ds ↦ ds | Decided ds ↦ ds ++ settle_page cycle n (server_after s ds) p ])
    go f (Settled ds) a = a
    go f (Decided ds) a = thrifty_append s ds _ a (f (server_after s ds) (rw a.frugal.pages l))

thrifty_settles : (cycle : DeadlockTest) (s : Server) (n : ℕ) → n ≤ s.pages → Thrifty s (settle_pages cycle s n)
thrifty_settles cycle s zero l = thrifty_nothing s [] tt
thrifty_settles cycle s (suc n) l = let a = thrifty_settles cycle s n (omega arith) in
    thrifty_append s (settle_pages cycle s n) _ a (thrifty_settle cycle (length (s.queue n) + 1) (server_after s (settle_pages cycle s n)) n (rw a.frugal.pages (omega arith)))

pub settling_takes_kept_grants : (cycle : DeadlockTest) (s : Server) → SettlingTakesKeptGrants cycle s
settling_takes_kept_grants cycle s = record {
  decision = λ p l. (thrifty_decide cycle s p (s.queue p) refl l).frugal.free;
  one_page = λ n p l. (thrifty_settle cycle n s p l).frugal.free;
  all_pages = (thrifty_settles cycle s s.pages (omega arith)).frugal.free;
}

-- numbers are left after these steps, and each that they give is in range
record Lasts (s : Server) (ds : List ServerStep) : Type 0 where
  pages : (server_after s ds).pages ≡ s.pages
  left : HasGrantsLeft (server_after s ds)
  given : GivesInRange ds

lasts_thrifty : (s : Server) (ds : List ServerStep) → HasGrantsLeft s → Thrifty s ds → Lasts s ds
lasts_thrifty s ds h t = record { pages = t.frugal.pages; left = still_left s (server_after s ds) t.frugal h; given = t.given h }

lasts_nothing : (s : Server) (ds : List ServerStep) → HasGrantsLeft s → GivesNothing ds → Lasts s ds
lasts_nothing s ds h f = lasts_thrifty s ds h (thrifty_nothing s ds f)

lasts_append : (s : Server) (xs ys : List ServerStep) → Lasts s xs → Lasts (server_after s xs) ys → Lasts s (xs ++ ys)
lasts_append s xs ys a b = record {
  pages = ap (λ (k : Server). k.pages) (after_append s xs ys) ∙ b.pages ∙ a.pages;
  left = subst (λ (k : Server). HasGrantsLeft k) (sym (after_append s xs ys)) b.left;
  given = gives_append xs ys a.given b.given;
}

lasts_settles : (cycle : DeadlockTest) (s : Server) → HasGrantsLeft s → Lasts s (settle_pages cycle s s.pages)
lasts_settles cycle s h = lasts_thrifty s (settle_pages cycle s s.pages) h (thrifty_settles cycle s s.pages (omega arith))

-- an ask enters, to read only where a number is left for it
enters_left : (s : Server) (p : ℕ) (a : WaitingAsk) → HasGrantsLeft s → (is_none a.write_grant ≡ true → first_free_grant s ≤ max_number) → HasGrantsLeft (after_server_step s (EnterQueue p a))
enters_left s p a h f = (h.0, elim (below_or_not p s.pages) [ inl l ↦ go l (is_none a.write_grant) refl | inr l ↦ past l ])
  where
    t : Server
    t = after_server_step s (EnterQueue p a)

    there : t.queue p ≡ s.queue p ++ a ∷ []
    there = grind arith

    others : (q : ℕ) → q ≢ p → t.queue q ≡ s.queue q
    others q n = grind arith

    count : read_asks_in (t.queue p) ≡ (if is_none a.write_grant then read_asks_in (s.queue p) + 1 else read_asks_in (s.queue p))
    count = ap read_asks_in there ∙ count_push a (s.queue p)

    past : s.pages ≤ p → first_free_grant t ≤ max_number + 1
    past l = let e = reads_same s t s.pages (λ q m. ap read_asks_in (others q (λ z. absurd (omega arith)))) in let k = h.1 in omega arith

    go : p < s.pages → (u : Bool) → is_none a.write_grant ≡ u → first_free_grant t ≤ max_number + 1
    go l true e = let x = reads_change s t p s.pages l others in let y : read_asks_in (t.queue p) ≡ read_asks_in (s.queue p) + 1 = rw e at count in let z = f e in omega arith
    go l false e = let x = reads_change s t p s.pages l others in let y : read_asks_in (t.queue p) ≡ read_asks_in (s.queue p) = rw e at count in let z = h.1 in omega arith

lasts_enters : (cycle : DeadlockTest) (s : Server) (p : ℕ) (a : WaitingAsk) → HasGrantsLeft s → (is_none a.write_grant ≡ true → first_free_grant s ≤ max_number) → Lasts s (enter_queue cycle s p a)
lasts_enters cycle s p a h f = go (not (is_empty (s.queue p)) && cycle t a.client)
  where
    t : Server
    t = after_server_step s (EnterQueue p a)

    given : (ds : List ServerStep) → GivesInRange ds → GivesInRange (EnterQueue p a ∷ ds)
    given ds g c q x i = elim i [ inl e ↦ absurd cc | inr j ↦ g c q x j ]

    go : (u : Bool) → Lasts s (if u then EnterQueue p a ∷ doom_client t a.client else EnterQueue p a ∷ [])
    go true = let d = lasts_nothing t (doom_client t a.client) (enters_left s p a h f) tt in record { pages = d.pages; left = d.left; given = given (doom_client t a.client) d.given }
    go false = record { pages = refl; left = enters_left s p a h f; given = given [] (λ c q x i. absurd i) }

lasts_ask_read : (cycle : DeadlockTest) (s : Server) (c p : ℕ) (r : Option ℕ) → HasGrantsLeft s → (r ≡ None → has_waiting_ask s c s.pages ≡ false → first_free_grant s ≤ max_number) → Lasts s (take_ask_read cycle s c p r)
lasts_ask_read cycle s c p (Some g) h f = lasts_nothing s _ h tt
lasts_ask_read cycle s c p None h f = go (has_waiting_ask s c s.pages) refl
  where
    go : (u : Bool) → has_waiting_ask s c s.pages ≡ u → Lasts s (if u then [] else enter_queue cycle s p (new_ask c None))
    go true q = lasts_nothing s [] h tt
    go false q = lasts_enters cycle s p (new_ask c None) h (λ z. f refl q)

lasts_ask_write : (cycle : DeadlockTest) (s : Server) (c p g : ℕ) → HasGrantsLeft s → Lasts s (take_ask_write cycle s c p g)
lasts_ask_write cycle s c p g h = go (is_exactly ((s.session c).row p) g) (is_exactly (s.store.holder p) c) (has_waiting_ask s c s.pages)
  where
    go : (r u v : Bool) → Lasts s (if not r then [] else if u then ChangeSession c (PermitWrite p g) ∷ send_to s c (MayWrite (s.session c).txn p g) ∷ [] else if v then [] else enter_queue cycle s p (new_ask c (Some g)))
    go false u v = lasts_nothing s [] h tt
    go true true v = lasts_nothing s _ h tt
    go true false true = lasts_nothing s [] h tt
    go true false false = lasts_enters cycle s p (new_ask c (Some g)) h (λ z. absurd cc)

lasts_live : (s : Server) (c t : ℕ) (ds : List ServerStep) → HasGrantsLeft s → (may_proceed s c t ≡ true → Lasts s ds) → Lasts s (if_live s c t ds)
lasts_live s c t ds h f = go (nat_lt (s.session c).ended t) refl (s.doomed c) refl
  where
    go : (r : Bool) → nat_lt (s.session c).ended t ≡ r → (u : Bool) → s.doomed c ≡ u → Lasts s (if r then (if u then send_to s c (AbortNow t) ∷ [] else ds) else [])
    go true e true d = lasts_nothing s _ h tt
    go true e false d = f (rw (e, d) refl)
    go false e u d = lasts_nothing s [] h tt

-- the ask that would enter is not lacking a number
taken_ask : (s : Server) (c t p : ℕ) → lacks_number s c (AskRead t p) ≡ false → may_proceed s c t ≡ true → (s.session c).row p ≡ None → has_waiting_ask s c s.pages ≡ false → first_free_grant s ≤ max_number
taken_ask s c t p l m r w = over (rw (m, r, w) at l)
  where
    over : nat_lt max_number (s.next_grant + read_asks_below s s.pages) ≡ false → first_free_grant s ≤ max_number
    over e = grind arith

lasts_answer : (cycle : DeadlockTest) (s : Server) (c : ℕ) (b : Body) → HasGrantsLeft s → lacks_number s c b ≡ false → Lasts s (direct_answer cycle s c b)
lasts_answer cycle s c (AskRead t p) h l = lasts_live s c t _ h (λ m. lasts_ask_read cycle s c p ((s.session c).row p) h (λ r w. taken_ask s c t p l m r w))
lasts_answer cycle s c (AskWrite t p g) h l = lasts_live s c t _ h (λ m. lasts_ask_write cycle s c p g h)
lasts_answer cycle s c (GiveBack p g) h l = go (is_exactly ((s.session c).row p) g)
  where
    go : (r : Bool) → Lasts s (if r then UnmarkInUse c p ∷ ChangeSession c (RemoveRow p g) ∷ [] else [])
    go true = lasts_nothing s _ h tt
    go false = lasts_nothing s [] h tt
lasts_answer cycle s c (InUse t p g) h l = go (nat_lt (s.session c).ended t && is_exactly ((s.session c).row p) g)
  where
    go : (r : Bool) → Lasts s (if r then MarkInUse c p ∷ [] else [])
    go true = lasts_nothing s _ h tt
    go false = lasts_nothing s [] h tt
lasts_answer cycle s c (Commit t ws) h l = go (nat_lt (s.session c).ended t) (s.doomed c) (commit_allowed s c ws) (t == (s.session c).ended)
  where
    again : (r : Option ℕ) → Lasts s (repeat_done s c t r)
    again None = lasts_nothing s [] h tt
    again (Some m) = flush (nat_le m s.flushed)
      where
        flush : (r : Bool) → Lasts s (if r then send_to s c (Done t m) ∷ [] else [])
        flush true = lasts_nothing s _ h tt
        flush false = lasts_nothing s [] h tt

    go : (r u v y : Bool) → Lasts s (if r
        then (if u then send_to s c (AbortNow t) ∷ [] else if v then ForgetTransaction c ∷ ChangeSession c (ApplyCommit t ws) ∷ [] else [])
        else if y then repeat_done s c t (s.outcome c) else [])
    go true true v y = lasts_nothing s _ h tt
    go true false true y = lasts_nothing s _ h tt
    go true false false y = lasts_nothing s [] h tt
    go false u v true = again (s.outcome c)
    go false u v false = lasts_nothing s [] h tt
lasts_answer cycle s c (Drop t) h l = go (nat_lt (s.session c).ended t)
  where
    go : (r : Bool) → Lasts s (if r then ForgetTransaction c ∷ ChangeSession c (DropTransaction t) ∷ [] else [])
    go true = lasts_nothing s _ h tt
    go false = lasts_nothing s [] h tt
lasts_answer cycle s c (Downgraded p g t) h l = go (s.store.keep_write && is_exactly ((s.session c).row p) g && is_exactly (s.store.holder p) c && (s.store.tag p == t))
  where
    go : (r : Bool) → Lasts s (if r then ChangeSession c (EndPermission p g t) ∷ [] else [])
    go true = lasts_nothing s _ h tt
    go false = lasts_nothing s [] h tt
lasts_answer cycle s c _ h l = lasts_nothing s [] h tt

lasts_begins : (s : Server) (c t : ℕ) → HasGrantsLeft s → Lasts s (begin_transaction s c t)
lasts_begins s c t h = go (nat_lt (s.session c).txn t)
  where
    go : (r : Bool) → Lasts s (if r then ForgetTransaction c ∷ ChangeSession c (BeginTransaction t) ∷ [] else [])
    go true = lasts_nothing s _ h tt
    go false = lasts_nothing s [] h tt

lasts_current : (cycle : DeadlockTest) (s : Server) (c : ℕ) (b : Body) → HasGrantsLeft s → lacks_number (server_after s (begin_transaction s c (named_txn b))) c b ≡ false → Lasts s (take_current cycle s c b)
lasts_current cycle s c b h l = let x = lasts_begins s c (named_txn b) h in let k = server_after s (begin_transaction s c (named_txn b)) in
    let y = lasts_answer cycle k c b x.left l in let a = server_after k (direct_answer cycle k c b) in
    lasts_append s (begin_transaction s c (named_txn b)) (direct_answer cycle k c b ++ settle_pages cycle a a.pages) x
    (lasts_append k (direct_answer cycle k c b) (settle_pages cycle a a.pages) y (lasts_settles cycle a y.left))

lasts_message : (cycle : DeadlockTest) (s : Server) (c i : ℕ) (b : Body) → HasGrantsLeft s → is_exhausted s c i b ≡ false → Lasts s (if i == (s.session c).current then take_current cycle s c b else [])
lasts_message cycle s c i b h l = go (i == (s.session c).current) refl
  where
    go : (r : Bool) → (i == (s.session c).current) ≡ r → Lasts s (if r then take_current cycle s c b else [])
    go true e = lasts_current cycle s c b h (rw e at l)
    go false e = lasts_nothing s [] h tt

lasts_take : (cycle : DeadlockTest) (s : Server) (c i : ℕ) (b : Body) → HasGrantsLeft s → is_exhausted s c i b ≡ false → Lasts s (server_take cycle s c i b)
unfolding server_take
lasts_take cycle s c i Hello h l = go (nat_lt (s.session c).current i) (i == (s.session c).current)
  where
    admitted : List ServerStep
    admitted = ForgetTransaction c ∷ ChangeSession c (Admit i) ∷ Send c i Welcome ∷ []

    go : (r u : Bool) → Lasts s (if r then admit_incarnation cycle s c i else if u then Send c i Welcome ∷ [] else [])
    go true u = let x = lasts_nothing s admitted h tt in lasts_append s admitted _ x (lasts_settles cycle (server_after s admitted) x.left)
    go false true = lasts_nothing s _ h tt
    go false false = lasts_nothing s [] h tt
lasts_take cycle s c i b h l = lasts_message cycle s c i b h l

lasts_sends : (s : Server) (ds : List ServerStep) → HasGrantsLeft s → OnlySends ds → Lasts s ds
lasts_sends s ds h o = lasts_nothing s ds h (nothing_sends ds o)

lasts_input : (cycle : DeadlockTest) (s : Server) (i : Input) → HasGrantsLeft s → IsTaken s i → Lasts s (input_steps cycle s i)
lasts_input cycle s (MessageComes c i b) h l = lasts_take cycle s c i b h l
lasts_input cycle s SendsAgain h l = lasts_sends s _ h (sends_append (again_pages s s.pages) (again_doomed s s.clients) (sends_pages s s.pages) (sends_doomed s s.clients))
lasts_input cycle s (ReachesDisk n) h l = lasts_nothing s _ h (nothing_append (dones_between s.commits s.flushed n) (SetFlushed n ∷ []) (nothing_sends (dones_between s.commits s.flushed n) (sends_dones s.commits s.flushed n)) tt)

pub grants_never_run_out : (cycle : DeadlockTest) (s : Server) (i : Input) → GrantsNeverRunOut cycle s i
grants_never_run_out cycle s i h l = let a = lasts_input cycle s i h l in (a.left, λ g x. a.given x.0 x.1.0 g x.1.1)

none_wait : (s : Server) (n : ℕ) → ((p : ℕ) → s.queue p ≡ []) → read_asks_below s n ≡ 0
none_wait s zero e = refl
none_wait s (suc n) e = rw (none_wait s n e, e n) refl

pub grants_left_at_first : (L : Limits) → GrantsLeftAtFirst L
grants_left_at_first L o = let e = none_wait (new_server L.clients L.pages (opening_store L o)) L.pages (λ p. refl) in (omega arith, omega arith)

-- in the middle of a step: once the transaction has begun, once it is answered, once a greater incarnation is admitted
pub left_at_begin : (s : Server) (c t : ℕ) → HasGrantsLeft s → HasGrantsLeft (server_after s (begin_transaction s c t))
left_at_begin s c t h = (lasts_begins s c t h).left

pub left_at_answer : (cycle : DeadlockTest) (s : Server) (c : ℕ) (b : Body) → HasGrantsLeft s → lacks_number s c b ≡ false → HasGrantsLeft (server_after s (direct_answer cycle s c b))
left_at_answer cycle s c b h l = (lasts_answer cycle s c b h l).left

pub left_at_admission : (s : Server) (c i : ℕ) → HasGrantsLeft s → HasGrantsLeft (server_after s (ForgetTransaction c ∷ ChangeSession c (Admit i) ∷ Send c i Welcome ∷ []))
left_at_admission s c i h = (lasts_nothing s (ForgetTransaction c ∷ ChangeSession c (Admit i) ∷ Send c i Welcome ∷ []) h tt).left
