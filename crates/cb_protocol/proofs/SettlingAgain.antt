-- Settling more than is needed does nothing: at a server that settled, at pages with no ask, and in more steps than there are asks.
use Rattle.std.proofs.Common.{◌≡◌, ◌∙◌, ℕ, zero, suc, ◌+◌, ◌<◌, ◌≤◌, Bool, true, false, not, ◌==◌, ◌&&◌, if◌then◌else◌, ◌≢◌, ◌⊎◌, List, [], ◌∷◌, ◌++◌, length, Option, Some, None, ap, arith, add-one, append_assoc, refl, sym, subst, inl, inr}
use Rattle.std.specs.Prelude.{⊤}
use Rattle.cb_protocol.specs.Basics.{IsIn, update, is_none, is_exactly}
use Rattle.cb_protocol.specs.Server.{DeadlockTest, WaitingAsk, Server, ServerStep, Send, EnterQueue, LeaveQueue, MarkCalledBack, MarkDowngradeSent, RemoveAsk, ForgetTransaction, after_first, set_called_back, set_downgrade_sent, after_server_step, server_after}
use Rattle.cb_protocol.specs.ServerMessages.{direct_answer}
use Rattle.cb_protocol.specs.Settling.{no_other_holder, sole_row, send_callbacks, nobody, send_downgrades, keeps_permission, doom_client, Decision, Settled, Decided, wait_or_doom, permit_write, grant_row, call_back_once, downgrade_once, decide_read, decide_write, decide, settle_page, settle_pages}
use Rattle.cb_protocol.specs.WaitsFor.{on_cycle}
use Rattle.cb_protocol.specs.Deadlock.{SettledStaysSettled, UnchangedNeedsNoSettling, settle_listed, RisingWithin, SettlingEnds, EmptyNeedsNoSettling, EmptyPassedOver, ListedAreEnough}
use Rattle.cb_protocol.proofs.CycleTest.{test_is_exact}
use Rattle.cb_protocol.proofs.SettlingClears.{Exact, StuckBy, Stuck, put_there, without_shorter, OnlySends, after_sends, sends_callbacks, sends_downgrades, BetweenSteps}
use Rattle.cb_protocol.proofs.NoCycles.{between_steps}
use Rattle.cb_protocol.proofs.ServerOrder.{after_append}

pub append_nil : {A : Type 0} (xs : List A) → xs ++ [] ≡ xs
append_nil [] = refl
append_nil (x ∷ xs) = ap (λ (y : List _). x ∷ y) (append_nil xs)

-- the first ask can not be met: nothing is done
decide_stuck : (cycle : DeadlockTest) (s : Server) (p : ℕ) (a : WaitingAsk) (w : Option ℕ) → StuckBy s p a w → cycle s a.client ≡ false
    → (elim w as (λ _. Decision) [ None ↦ decide_read cycle s p a | Some g ↦ decide_write cycle s p a g ]) ≡ Settled []
decide_stuck cycle s p a None b c = rw (b.0, b.1, c) refl
decide_stuck cycle s p a (Some g) b c = rw (b.0, b.1, c) refl

-- between two steps each page is settled
settle_stuck : (cycle : DeadlockTest) → Exact cycle → (s : Server) → BetweenSteps s → (n p : ℕ) → settle_page cycle n s p ≡ []
settle_stuck cycle x s t zero p = refl
settle_stuck cycle x s t (suc n) p = go (s.queue p) (t.stuck p)
  where
    same : (c : ℕ) → cycle s c ≡ false
    same c = side (cycle s c) refl
      where
        side : (r : Bool) → cycle s c ≡ r → r ≡ false
        side true e = absurd (t.no_cycle c ((x s t.sound.known c).0 e))
        side false e = refl

    go : (q : List WaitingAsk) → Stuck s p q → (elim (decide cycle s p q) as (λ _. List ServerStep) [ Settled ds ↦ ds | Decided ds ↦ ds ++ settle_page cycle n (server_after s ds) p ]) ≡ []
    go [] b = refl
    go (a ∷ q) b = rw (decide_stuck cycle s p a a.write_grant b (same a.client)) refl

settles_nothing : (cycle : DeadlockTest) → Exact cycle → (s : Server) → BetweenSteps s → (n : ℕ) → settle_pages cycle s n ≡ []
settles_nothing cycle x s t zero = refl
settles_nothing cycle x s t (suc n) = rw (settles_nothing cycle x s t n) (settle_stuck cycle x s t (length (s.queue n) + 1) n)

pub settled : SettledStaysSettled
settled s r = settles_nothing on_cycle test_is_exact s (between_steps s r) s.pages

pub unchanged : UnchangedNeedsNoSettling
unchanged s r c b e f = rw (e, f, settled s r) (append_nil (direct_answer on_cycle s c b))

pub empty_page : EmptyNeedsNoSettling
empty_page cycle s p zero e = refl
empty_page cycle s p (suc n) e = subst (λ (q : List WaitingAsk). (elim (decide cycle s p q) as (λ _. List ServerStep) [ Settled ds ↦ ds | Decided ds ↦ ds ++ settle_page cycle n (server_after s ds) p ]) ≡ []) (sym e) refl

-- steps that let no ask in
abbrev pub NoAskEnters : List ServerStep → Type 0
NoAskEnters [] = ⊤
NoAskEnters (EnterQueue p a ∷ ds) = ⊥
NoAskEnters (_ ∷ ds) = NoAskEnters ds

none_append : (xs ys : List ServerStep) → NoAskEnters xs → NoAskEnters ys → NoAskEnters (xs ++ ys)
none_append [] ys a b = b
none_append (EnterQueue p x ∷ xs) ys a b = absurd a
none_append (_ ∷ xs) ys a b = none_append xs ys a b

pub none_sends : (ds : List ServerStep) → OnlySends ds → NoAskEnters ds
none_sends [] a = tt
none_sends (Send c i b ∷ ds) a = none_sends ds a
none_sends (_ ∷ ds) a = absurd a

put_shorter : (f : ℕ → List WaitingAsk) (p q : ℕ) (x : List WaitingAsk) → length x ≤ length (f p) → length (update f p x q) ≤ length (f q)
put_shorter f p q x l = go (q == p) refl
  where
    same : (q == p) ≡ true → p ≡ q
    same e = grind arith

    go : (r : Bool) → (q == p) ≡ r → length (if r then x else f q) ≤ length (f q)
    go true e = subst (λ (y : ℕ). length x ≤ length (f y)) (same e) l
    go false e = omega arith

rest_shorter : (q : List WaitingAsk) → length (after_first q) ≤ length q
rest_shorter [] = omega arith
rest_shorter (a ∷ q) = omega arith

called_shorter : (q : List WaitingAsk) → length (set_called_back q) ≤ length q
called_shorter [] = omega arith
called_shorter (a ∷ q) = omega arith

told_shorter : (t : ℕ) (q : List WaitingAsk) → length (set_downgrade_sent t q) ≤ length q
told_shorter t [] = omega arith
told_shorter t (a ∷ q) = omega arith

one_shorter : (s : Server) (x : ServerStep) (p : ℕ) → NoAskEnters (x ∷ []) → length ((after_server_step s x).queue p) ≤ length (s.queue p)
one_shorter s (EnterQueue q a) p n = absurd n
one_shorter s (LeaveQueue q) p n = put_shorter s.queue q p (after_first (s.queue q)) (rest_shorter (s.queue q))
one_shorter s (MarkCalledBack q) p n = put_shorter s.queue q p (set_called_back (s.queue q)) (called_shorter (s.queue q))
one_shorter s (MarkDowngradeSent q t) p n = put_shorter s.queue q p (set_downgrade_sent t (s.queue q)) (told_shorter t (s.queue q))
one_shorter s (RemoveAsk c) p n = without_shorter c (s.queue p)
one_shorter s (ForgetTransaction c) p n = without_shorter c (s.queue p)
one_shorter s _ p n = omega arith

pub none_first : (x : ServerStep) (ds : List ServerStep) → NoAskEnters (x ∷ ds) → NoAskEnters (x ∷ []) × NoAskEnters ds
none_first (EnterQueue p a) ds n = absurd n
none_first _ ds n = (tt, n)

-- so no queue grows
shorter : (s : Server) (ds : List ServerStep) (p : ℕ) → NoAskEnters ds → length ((server_after s ds).queue p) ≤ length (s.queue p)
shorter s [] p n = omega arith
shorter s (x ∷ ds) p n = let k = none_first x ds n in let a = one_shorter s x p k.0 in let b = shorter (after_server_step s x) ds p k.1 in omega arith

-- what a decision does where settling goes on: one ask at least goes from the page
record Shrinks (p : ℕ) (s : Server) (ds : List ServerStep) : Type 0 where
  none : NoAskEnters ds
  fewer : length ((server_after s ds).queue p) < length (s.queue p)

abbrev DecisionShrinks : ℕ → Server → Decision → Type 0
DecisionShrinks p s (Settled ds) = NoAskEnters ds
DecisionShrinks p s (Decided ds) = Shrinks p s ds

leaves : (s k : Server) (p : ℕ) (a : WaitingAsk) (q : List WaitingAsk) → s.queue p ≡ a ∷ q → k.queue ≡ update s.queue p (after_first (s.queue p)) → length (k.queue p) < length (s.queue p)
leaves s k p a q e f = rw (f, put_there s.queue p (after_first (s.queue p)), e) (omega arith)

-- the doom of the first ask of a page
doom_shorter : (k : Server) (p : ℕ) (b : WaitingAsk) (q : List WaitingAsk) (c : ℕ) → k.queue p ≡ b ∷ q → b.client ≡ c → length ((server_after k (doom_client k c)).queue p) < length (k.queue p)
doom_shorter k p b q c e f = rw e (let l = without_shorter c q in grind arith)

-- the first ask stays, whatever was noted of it
record Stays (p : ℕ) (s k : Server) (a : WaitingAsk) : Type 0 where
  first : WaitingAsk
  others : List WaitingAsk
  queue : k.queue p ≡ first ∷ others
  client : first.client ≡ a.client

shrinks_refuses : (cycle : DeadlockTest) (s : Server) (p : ℕ) (a : WaitingAsk) (ds : List ServerStep) → NoAskEnters ds → Stays p s (server_after s ds) a → DecisionShrinks p s (wait_or_doom cycle s a.client ds)
shrinks_refuses cycle s p a ds n t = go (cycle (server_after s ds) a.client)
  where
    k : Server
    k = server_after s ds

    fewer : length ((server_after s (ds ++ doom_client k a.client)).queue p) < length (s.queue p)
    fewer = rw (after_append s ds (doom_client k a.client)) (let u = doom_shorter k p t.first t.others a.client t.queue t.client in let v = shorter s ds p n in omega arith)

    go : (r : Bool) → DecisionShrinks p s (if r then Decided (ds ++ doom_client k a.client) else Settled ds)
    go true = record { none = none_append ds (doom_client k a.client) n tt; fewer = fewer }
    go false = n

stays_noted : (s : Server) (p : ℕ) (a b : WaitingAsk) (q : List WaitingAsk) (ds : List ServerStep) (x : ServerStep) → OnlySends ds → (after_server_step s x).queue p ≡ b ∷ q → b.client ≡ a.client → Stays p s (server_after s (ds ++ x ∷ [])) a
stays_noted s p a b q ds x sends e f = record { first = b; others = q; queue = subst (λ (k : Server). k.queue p ≡ b ∷ q) (sym (after_append s ds (x ∷ []) ∙ ap (λ (k : Server). after_server_step k x) (after_sends s ds sends))) e; client = f }

shrinks_decide : (cycle : DeadlockTest) (s : Server) (p : ℕ) (q : List WaitingAsk) → s.queue p ≡ q → DecisionShrinks p s (decide cycle s p q)
shrinks_decide cycle s p [] e = tt
shrinks_decide cycle s p (a ∷ q) e = kind_of a.write_grant
  where
    stays : Stays p s s a
    stays = record { first = a; others = q; queue = e; client = refl }

    down : List ServerStep
    down = send_downgrades s nobody p a.client (s.store.holder p)

    back : List ServerStep
    back = send_callbacks s nobody p a.client s.clients

    told : Stays p s (server_after s (down ++ MarkDowngradeSent p (s.store.tag p) ∷ [])) a
    told = stays_noted s p a (record a { downgrade_sent = Some (s.store.tag p) }) q down (MarkDowngradeSent p (s.store.tag p)) (sends_downgrades s nobody p a.client (s.store.holder p)) (rw (put_there s.queue p (set_downgrade_sent (s.store.tag p) (s.queue p)), e) refl) refl

    called : Stays p s (server_after s (back ++ MarkCalledBack p ∷ [])) a
    called = stays_noted s p a (record a { called_back = true }) q back (MarkCalledBack p) (sends_callbacks s nobody p a.client s.clients) (rw (put_there s.queue p (set_called_back (s.queue p)), e) refl) refl

    brings : (r : Bool) → DecisionShrinks p s (wait_or_doom cycle s a.client (if r then down ++ MarkDowngradeSent p (s.store.tag p) ∷ [] else []))
    brings true = shrinks_refuses cycle s p a (down ++ MarkDowngradeSent p (s.store.tag p) ∷ []) (none_append down (MarkDowngradeSent p (s.store.tag p) ∷ []) (none_sends down (sends_downgrades s nobody p a.client (s.store.holder p))) tt) told
    brings false = shrinks_refuses cycle s p a [] tt stays

    calls : (r : Bool) → DecisionShrinks p s (wait_or_doom cycle s a.client (if r then [] else back ++ MarkCalledBack p ∷ []))
    calls true = shrinks_refuses cycle s p a [] tt stays
    calls false = shrinks_refuses cycle s p a (back ++ MarkCalledBack p ∷ []) (none_append back (MarkCalledBack p ∷ []) (none_sends back (sends_callbacks s nobody p a.client s.clients)) tt) called

    reads : (u : Bool) → DecisionShrinks p s (if u then Decided (grant_row s p a.client) else wait_or_doom cycle s a.client (downgrade_once s p a))
    reads true = record { none = tt; fewer = leaves s (server_after s (grant_row s p a.client)) p a q e refl }
    reads false = brings (s.store.keep_write && keeps_permission s p a.client (s.store.holder p) && not (is_exactly a.downgrade_sent (s.store.tag p)))

    writes : (g : ℕ) (u : Bool) → DecisionShrinks p s (if u then Decided (permit_write s p a.client g) else wait_or_doom cycle s a.client (call_back_once s p a))
    writes g true = record { none = tt; fewer = leaves s (server_after s (permit_write s p a.client g)) p a q e refl }
    writes g false = calls a.called_back

    kind_of : (w : Option ℕ) → DecisionShrinks p s (elim w [ None ↦ decide_read cycle s p a | Some g ↦ decide_write cycle s p a g ])
    kind_of None = reads (no_other_holder (s.store.holder p) a.client && is_none ((s.session a.client).row p))
    kind_of (Some g) = writes g (no_other_holder (s.store.holder p) a.client && is_exactly ((s.session a.client).row p) g && sole_row s p a.client s.clients)

-- settling lets no ask in
none_settle : (cycle : DeadlockTest) (n : ℕ) (s : Server) (p : ℕ) → NoAskEnters (settle_page cycle n s p)
none_settle cycle zero s p = tt
none_settle cycle (suc n) s p = go (λ k. none_settle cycle n k p) (decide cycle s p (s.queue p)) (shrinks_decide cycle s p (s.queue p) refl)
  where
    go : ((k : Server) → NoAskEnters (settle_page cycle n k p)) → (v : Decision) → DecisionShrinks p s v → NoAskEnters (elim v [ Settled ds ↦ ds | Decided ds ↦ ds ++ settle_page cycle n (server_after s ds) p ])
    go f (Settled ds) m = m
    go f (Decided ds) m = none_append ds (settle_page cycle n (server_after s ds) p) m.none (f (server_after s ds))

pub none_settles : (cycle : DeadlockTest) (s : Server) (n : ℕ) → NoAskEnters (settle_pages cycle s n)
none_settles cycle s zero = tt
none_settles cycle s (suc n) = none_append (settle_pages cycle s n) _ (none_settles cycle s n) (none_settle cycle (length (s.queue n) + 1) (server_after s (settle_pages cycle s n)) n)

-- how many steps are allowed does not matter, where there are more than asks
same_steps : (cycle : DeadlockTest) (m n : ℕ) (s : Server) (p : ℕ) → length (s.queue p) < m → length (s.queue p) < n → settle_page cycle m s p ≡ settle_page cycle n s p
same_steps cycle zero n s p l k = absurd (omega arith)
same_steps cycle (suc m) zero s p l k = absurd (omega arith)
same_steps cycle (suc m) (suc n) s p l k = go (λ z i j. same_steps cycle m n z p i j) (decide cycle s p (s.queue p)) (shrinks_decide cycle s p (s.queue p) refl)
  where
    go : ((z : Server) → length (z.queue p) < m → length (z.queue p) < n → settle_page cycle m z p ≡ settle_page cycle n z p) → (v : Decision) → DecisionShrinks p s v
        → (elim v as (λ _. List ServerStep) [ Settled ds ↦ ds | Decided ds ↦ ds ++ settle_page cycle m (server_after s ds) p ]) ≡ (elim v as (λ _. List ServerStep) [ Settled ds ↦ ds | Decided ds ↦ ds ++ settle_page cycle n (server_after s ds) p ])
    go f (Settled ds) v = refl
    go f (Decided ds) v = let u = v.fewer in ap (λ (xs : List ServerStep). ds ++ xs) (f (server_after s ds) (omega arith) (omega arith))

pub settling_ends : SettlingEnds
settling_ends cycle s p n l = same_steps cycle n (length (s.queue p) + 1) s p l (omega arith)

none_left : (q : List WaitingAsk) → length q ≤ 0 → q ≡ []
none_left [] l = refl
none_left (a ∷ q) l = absurd (omega arith)

-- a page with no ask has none after these pages are settled
still_empty : (cycle : DeadlockTest) (s : Server) (n p : ℕ) → s.queue p ≡ [] → (server_after s (settle_pages cycle s n)).queue p ≡ []
still_empty cycle s n p e = none_left _ (let l = shorter s (settle_pages cycle s n) p (none_settles cycle s n) in let z : length (s.queue p) ≡ 0 = ap length e in omega arith)

pub passed_over : EmptyPassedOver
passed_over cycle s m zero l e = ap (settle_pages cycle s) (let z : zero ≡ m = omega arith in z)
passed_over cycle s m (suc n) l e = elim (last m n l) [
  | inl k ↦ rw (empty_page cycle (server_after s (settle_pages cycle s n)) n (length (s.queue n) + 1) (still_empty cycle s n n (e n k (omega arith)))) (append_nil (settle_pages cycle s n) ∙ passed_over cycle s m n k (λ p i j. e p i (omega arith)))
  | inr k ↦ ap (settle_pages cycle s) k
]
  where
    last : (m n : ℕ) → m ≤ suc n → (m ≤ n) ⊎ (suc n ≡ m)
    last m n l = grind arith

empty_or : (q : List WaitingAsk) → (q ≡ []) ⊎ (q ≢ [])
empty_or [] = inl refl
empty_or (a ∷ q) = inr (λ e. absurd cc)

above : (m n : ℕ) (ps : List ℕ) → RisingWithin m n ps → (p : ℕ) → IsIn p ps → m ≤ p
above m n [] r p i = absurd i
above m n (x ∷ ps) r p (inl e) = let a = r.0 in omega arith
above m n (x ∷ ps) r p (inr i) = let a = r.0 in let b = above (x + 1) n ps r.2 p i in omega arith

-- the pages from m on
listed_from : (cycle : DeadlockTest) (s : Server) (m n : ℕ) (ps : List ℕ) → m ≤ n → RisingWithin m n ps → ((p : ℕ) → m ≤ p → p < n → s.queue p ≢ [] → IsIn p ps) → settle_pages cycle s n ≡ settle_pages cycle s m ++ settle_listed cycle (server_after s (settle_pages cycle s m)) ps
listed_from cycle s m n [] l r f = passed_over cycle s m n l (λ p i j. elim (empty_or (s.queue p)) [ inl e ↦ e | inr k ↦ absurd (f p i j k) ]) ∙ sym (append_nil (settle_pages cycle s m))
listed_from cycle s m n (p ∷ ps) l r f = listed_from cycle s (suc p) n ps (let a = r.1 in omega arith) (subst (λ (x : ℕ). RisingWithin x n ps) (add-one p) r.2) later ∙ here
  where
    -- below p there is no ask
    nothing : (q : ℕ) → m ≤ q → q < p → s.queue q ≡ []
    nothing q i j = elim (empty_or (s.queue q)) [
      | inl e ↦ e
      | inr k ↦ absurd (let a = r.1 in elim (f q i (omega arith) k) [ inl e ↦ (omega arith) | inr u ↦ (let b = above (p + 1) n ps r.2 q u in omega arith) ])
    ]

    later : (q : ℕ) → suc p ≤ q → q < n → s.queue q ≢ [] → IsIn q ps
    later q i j k = elim (f q (let a = r.0 in omega arith) j k) [ inl e ↦ absurd (omega arith) | inr u ↦ u ]

    upto : settle_pages cycle s p ≡ settle_pages cycle s m
    upto = passed_over cycle s m p r.0 nothing

    k : Server
    k = server_after s (settle_pages cycle s m)

    steps : settle_page cycle (length (s.queue p) + 1) k p ≡ settle_page cycle (length (k.queue p) + 1) k p
    steps = settling_ends cycle k p (length (s.queue p) + 1) (let u = shorter s (settle_pages cycle s m) p (none_settles cycle s m) in omega arith)

    next : settle_pages cycle s (suc p) ≡ settle_pages cycle s m ++ settle_page cycle (length (k.queue p) + 1) k p
    next = ap (λ (x : List ServerStep). x ++ settle_page cycle (length (s.queue p) + 1) (server_after s x) p) upto ∙ ap (λ (x : List ServerStep). settle_pages cycle s m ++ x) steps

    here : settle_pages cycle s (suc p) ++ settle_listed cycle (server_after s (settle_pages cycle s (suc p))) ps ≡ settle_pages cycle s m ++ settle_listed cycle k (p ∷ ps)
    here = ap (λ (x : List ServerStep). x ++ settle_listed cycle (server_after s x) ps) next ∙ (rw (after_append s (settle_pages cycle s m) (settle_page cycle (length (k.queue p) + 1) k p)) (append_assoc (settle_pages cycle s m) (settle_page cycle (length (k.queue p) + 1) k p) (settle_listed cycle (server_after k (settle_page cycle (length (k.queue p) + 1) k p)) ps)))

-- the law, from page 0 on
pub listed_enough : ListedAreEnough
listed_enough cycle s n ps r f = sym (listed_from cycle s 0 n ps (omega arith) r (λ p i j k. f p j k))
