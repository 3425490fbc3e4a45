-- What the server decides as it settles is allowed, step by step.
use Rattle.std.proofs.Common.{Bool, List, None, Option, Some, [], arith, false, if◌then◌else◌, inl, length, nat_lt, not, refl, subst, suc, sym, true, zero, ℕ, ◌&&◌, ◌++◌, ◌+◌, ◌<◌, ◌==◌, ◌||◌, ◌∙◌, ◌∷◌, ◌≡◌, ◌≢◌, ◌≤◌}
use Rattle.cb_protocol.proofs.Machine.{NoOther, ServerMaySend}
use Rattle.cb_protocol.proofs.ServerOrder.{ServerStepMay, Orderly, StepsRight, WaitsWell, after_append, orderly_called, orderly_doom, orderly_grant, orderly_leave, orderly_permit, orderly_told, orderly_unask, right_append}
use Rattle.cb_protocol.specs.Basics.{IsIn, is_none, update, is_exactly}
use Rattle.cb_protocol.specs.Messages.{Body, Granted, MayWrite}
use Rattle.cb_protocol.specs.Server.{DeadlockTest, MarkCalledBack, ServerStep, Server, MarkDowngradeSent, RemoveAsk, WaitingAsk, is_live_permission, server_after, after_server_step}
use Rattle.cb_protocol.specs.Session.{GrantRow, PermitWrite, Store, session_after, store_after}
use Rattle.cb_protocol.specs.Settling.{Decided, Settled, Decision, downgrade_once, send_callback, send_callbacks, call_back_once, decide, decide_read, decide_write, decision_steps, doom_client, send_downgrade, send_downgrades, grant_row, keeps_permission, no_other_holder, nobody, permit_write, wait_or_doom, settle_page, settle_pages, sole_row}

pub no_other_is : (s : Store) (p c : ℕ) → no_other_holder (s.holder p) c ≡ true → NoOther s c p
no_other_is s p c h = grind arith

pub sole_is : (s : Server) (p c n : ℕ) → sole_row s p c n ≡ true → (d : ℕ) → d < n → d ≢ c → (s.session d).row p ≡ None
sole_is s p c zero h d l ne = absurd (omega arith)
sole_is s p c (suc n) h d l ne = grind (arith, sole_is s p c n)

pub is_some_is : (r : Option ℕ) (g : ℕ) → is_exactly r g ≡ true → r ≡ Some g
is_some_is r g e = grind arith

pub is_none_is : (r : Option ℕ) → is_none r ≡ true → r ≡ None
is_none_is r e = grind arith

-- messages that change nothing
abbrev pub Speaks : (ℕ → ℕ → Body → Type 0) → Server → List ServerStep → Type 0
Speaks Came s ds = StepsRight Came s ds × (server_after s ds ≡ s)

pub speaks_append : (Came : ℕ → ℕ → Body → Type 0) (s : Server) (xs ys : List ServerStep) → Speaks Came s xs → Speaks Came s ys → Speaks Came s (xs ++ ys)
speaks_append Came s xs ys a b = (right_append Came s xs ys a.0 (subst (λ (x : Server). StepsRight Came x ys) (sym a.1) b.0), rw (after_append, a.1) b.1)

speaks_call_back : (Came : ℕ → ℕ → Body → Type 0) (s : Server) (d p : ℕ) (r : Option ℕ) → d < s.clients → Orderly Came s → Speaks Came s (send_callback s d p r)
speaks_call_back Came s d p None l o = ((tt, o), refl)
speaks_call_back Came s d p (Some g) l o = ((((l, refl), tt), o), refl)

pub speaks_callbacks : (Came : ℕ → ℕ → Body → Type 0) (s : Server) (skip : ℕ → Bool) (p c n : ℕ) → n ≤ s.clients → Orderly Came s → Speaks Came s (send_callbacks s skip p c n)
speaks_callbacks Came s skip p c zero l o = ((tt, o), refl)
speaks_callbacks Came s skip p c (suc n) l o = speaks_append Came s (send_callbacks s skip p c n) (if (n == c) || skip n then [] else send_callback s n p ((s.session n).row p)) (speaks_callbacks Came s skip p c n (omega arith) o) (go ((n == c) || skip n))
  where
    go : (r : Bool) → Speaks Came s (if r then [] else send_callback s n p ((s.session n).row p))
    go true = ((tt, o), refl)
    go false = speaks_call_back Came s n p ((s.session n).row p) (omega arith) o

-- a permission that is merely kept is of an ended transaction
kept_ended : (Came : ℕ → ℕ → Body → Type 0) (s : Server) (d p : ℕ) → Orderly Came s → s.store.holder p ≡ Some d → is_live_permission s d p ≡ false → s.store.tag p ≤ (s.session d).ended
kept_ended Came s d p o w e = let a = o.tagged p d w in let b = o.step d in grind arith

below : (Came : ℕ → ℕ → Body → Type 0) (s : Server) (d p g : ℕ) → Orderly Came s → (s.session d).row p ≡ Some g → d < s.clients
below Came s d p g o e = go (nat_lt d s.clients) refl
  where
    far : nat_lt d s.clients ≡ false → s.clients ≤ d
    far f = grind arith

    go : (r : Bool) → nat_lt d s.clients ≡ r → d < s.clients
    go true f = grind arith
    go false f = absurd (let a : None ≡ Some g = sym (o.within d p (far f)) ∙ e in cc)

pub speaks_downgrades : (Came : ℕ → ℕ → Body → Type 0) (s : Server) (skip : ℕ → Bool) (p c : ℕ) (r : Option ℕ) → s.store.holder p ≡ r → Orderly Came s → Speaks Came s (send_downgrades s skip p c r)
speaks_downgrades Came s skip p c None e o = ((tt, o), refl)
speaks_downgrades Came s skip p c (Some d) e o = go (keeps_permission s p c (Some d) && not (skip d)) refl
  where
    one : (r : Option ℕ) → (s.session d).row p ≡ r → is_live_permission s d p ≡ false → Speaks Came s (send_downgrade s d p r)
    one None f k = ((tt, o), refl)
    one (Some g) f k = ((((below Came s d p g o f, (refl, kept_ended Came s d p o e k)), tt), o), refl)

    go : (u : Bool) → (keeps_permission s p c (Some d) && not (skip d)) ≡ u → Speaks Came s (if u then send_downgrade s d p ((s.session d).row p) else [])
    go true f = one ((s.session d).row p) refl (grind arith)
    go false f = ((tt, o), refl)

pub right_dooms : (Came : ℕ → ℕ → Body → Type 0) (s : Server) (c : ℕ) → Orderly Came s → c < s.clients → StepsRight Came s (doom_client s c)
right_dooms Came s c o l = ((tt, (tt, ((l, refl), tt))), orderly_doom Came (after_server_step s (RemoveAsk c)) (update s.doomed c true) (orderly_unask Came s c o))

right_refuses : (Came : ℕ → ℕ → Body → Type 0) (cycle : DeadlockTest) (s : Server) (c : ℕ) (ds : List ServerStep) → StepsRight Came s ds → c < (server_after s ds).clients → StepsRight Came s (decision_steps (wait_or_doom cycle s c ds))
right_refuses Came cycle s c ds a l = go (cycle (server_after s ds) c)
  where
    go : (r : Bool) → StepsRight Came s (decision_steps (if r then Decided (ds ++ doom_client (server_after s ds) c) else Settled ds))
    go true = right_append Came s ds (doom_client (server_after s ds) c) a (right_dooms Came (server_after s ds) c a.1 l)
    go false = a

right_permits : (Came : ℕ → ℕ → Body → Type 0) (s : Server) (p c g : ℕ) → Orderly Came s → WaitsWell Came s p c (Some g) → (s.session c).row p ≡ Some g → NoOther s.store c p → ((d : ℕ) → d ≢ c → (s.session d).row p ≡ None) → StepsRight Came s (permit_write s p c g)
right_permits Came s p c g o w e n a = ((((w.2 g refl, w.1, e, n, a), tt), ((w.0, told), (tt, tt))), orderly_leave Came _ p (orderly_permit Came s c p g o a))
  where
    told : ServerMaySend (store_after s.store c (s.session c) (PermitWrite p g)) c (update s.session c (s.session c) c) (s.session c).current (MayWrite (s.session c).txn p g)
    told = grind arith

right_grants : (Came : ℕ → ℕ → Body → Type 0) (s : Server) (p c : ℕ) → Orderly Came s → c < s.clients → (s.session c).row p ≡ None → NoOther s.store c p → StepsRight Came s (grant_row s p c)
right_grants Came s p c o l e n = ((((e, n), refl), ((l, told), (tt, tt))), orderly_leave Came _ p (orderly_grant Came s c p s.next_grant o l n))
  where
    told : ServerMaySend s.store c (update s.session c (session_after (s.session c) (GrantRow p s.next_grant)) c) (s.session c).current (Granted p s.next_grant (s.store.version p) (s.store.bytes p))
    told = grind arith

right_then_one : (Came : ℕ → ℕ → Body → Type 0) (s : Server) (xs : List ServerStep) (d : ServerStep) → Speaks Came s xs → ServerStepMay Came s d → Orderly Came (after_server_step s d) → StepsRight Came s (xs ++ d ∷ [])
right_then_one Came s xs d a m o = right_append Came s xs (d ∷ []) a.0 (subst (λ (x : Server). StepsRight Came x (d ∷ [])) (sym a.1) ((m, tt), o))

-- the number of clients stays
clients_after : (s : Server) (d : ServerStep) → (after_server_step s d).clients ≡ s.clients
clients_after s d = grind arith

pub clients_served : (s : Server) (ds : List ServerStep) → (server_after s ds).clients ≡ s.clients
clients_served s [] = refl
clients_served s (d ∷ ds) = clients_served (after_server_step s d) ds ∙ clients_after s d

right_calls_back : (Came : ℕ → ℕ → Body → Type 0) (s : Server) (p : ℕ) (a : WaitingAsk) → Orderly Came s → StepsRight Came s (call_back_once s p a)
right_calls_back Came s p a o = go a.called_back
  where
    go : (r : Bool) → StepsRight Came s (if r then [] else send_callbacks s nobody p a.client s.clients ++ MarkCalledBack p ∷ [])
    go true = (tt, o)
    go false = right_then_one Came s (send_callbacks s nobody p a.client s.clients) (MarkCalledBack p) (speaks_callbacks Came s nobody p a.client s.clients (omega arith) o) tt (orderly_called Came s p o)

right_brings_down : (Came : ℕ → ℕ → Body → Type 0) (s : Server) (p : ℕ) (a : WaitingAsk) → Orderly Came s → StepsRight Came s (downgrade_once s p a)
right_brings_down Came s p a o = go (s.store.keep_write && keeps_permission s p a.client (s.store.holder p) && not (is_exactly a.downgrade_sent (s.store.tag p)))
  where
    go : (r : Bool) → StepsRight Came s (if r then send_downgrades s nobody p a.client (s.store.holder p) ++ MarkDowngradeSent p (s.store.tag p) ∷ [] else [])
    go true = right_then_one Came s (send_downgrades s nobody p a.client (s.store.holder p)) (MarkDowngradeSent p (s.store.tag p)) (speaks_downgrades Came s nobody p a.client (s.store.holder p) refl o) tt (orderly_told Came s p (s.store.tag p) o)
    go false = (tt, o)

right_decide : (Came : ℕ → ℕ → Body → Type 0) (cycle : DeadlockTest) (s : Server) (p : ℕ) (q : List WaitingAsk) → s.queue p ≡ q → Orderly Came s → StepsRight Came s (decision_steps (decide cycle s p q))
right_decide Came cycle s p [] e o = (tt, o)
right_decide Came cycle s p (a ∷ q) e o = kind_of a.write_grant refl
  where
    w : WaitsWell Came s p a.client a.write_grant
    w = o.asking p a (subst (λ (x : List WaitingAsk). IsIn a x) (sym e) (inl refl))

    reads : (u : Bool) → (no_other_holder (s.store.holder p) a.client && is_none ((s.session a.client).row p)) ≡ u → StepsRight Came s (decision_steps (if u then Decided (grant_row s p a.client) else wait_or_doom cycle s a.client (downgrade_once s p a)))
    reads true f = right_grants Came s p a.client o w.0 (is_none_is ((s.session a.client).row p) (grind arith)) (no_other_is s.store p a.client (grind arith))
    reads false f = right_refuses Came cycle s a.client (downgrade_once s p a) (right_brings_down Came s p a o) (rw (clients_served s (downgrade_once s p a)) w.0)

    writes : (g : ℕ) → a.write_grant ≡ Some g → (u : Bool) → (no_other_holder (s.store.holder p) a.client && is_exactly ((s.session a.client).row p) g && sole_row s p a.client s.clients) ≡ u
        → StepsRight Came s (decision_steps (if u then Decided (permit_write s p a.client g) else wait_or_doom cycle s a.client (call_back_once s p a)))
    writes g f true h = right_permits Came s p a.client g o (subst (λ (x : Option ℕ). WaitsWell Came s p a.client x) f w) (is_some_is ((s.session a.client).row p) g (grind arith)) (no_other_is s.store p a.client (grind arith)) alone
      where
        sole : sole_row s p a.client s.clients ≡ true
        sole = grind arith

        alone : (d : ℕ) → d ≢ a.client → (s.session d).row p ≡ None
        alone d ne = side (nat_lt d s.clients) refl
          where
            near : nat_lt d s.clients ≡ true → d < s.clients
            near x = grind arith

            far : nat_lt d s.clients ≡ false → s.clients ≤ d
            far x = grind arith

            side : (r : Bool) → nat_lt d s.clients ≡ r → (s.session d).row p ≡ None
            side true x = sole_is s p a.client s.clients sole d (near x) ne
            side false x = o.within d p (far x)
    writes g f false h = right_refuses Came cycle s a.client (call_back_once s p a) (right_calls_back Came s p a o) (rw (clients_served s (call_back_once s p a)) w.0)

    kind_of : (r : Option ℕ) → a.write_grant ≡ r → StepsRight Came s (decision_steps (elim r [ None ↦ decide_read cycle s p a | Some g ↦ decide_write cycle s p a g ]))
    kind_of None f = reads (no_other_holder (s.store.holder p) a.client && is_none ((s.session a.client).row p)) refl
    kind_of (Some g) f = writes g f (no_other_holder (s.store.holder p) a.client && is_exactly ((s.session a.client).row p) g && sole_row s p a.client s.clients) refl

right_settle : (Came : ℕ → ℕ → Body → Type 0) (cycle : DeadlockTest) (n : ℕ) (s : Server) (p : ℕ) → Orderly Came s → StepsRight Came s (settle_page cycle n s p)
right_settle Came cycle zero s p o = (tt, o)
right_settle Came cycle (suc n) s p o = go (λ k q. right_settle Came cycle n k p q) (decide cycle s p (s.queue p)) (right_decide Came cycle s p (s.queue p) refl o)
  where
    go : ((k : Server) → Orderly Came k → StepsRight Came k (settle_page cycle n k p)) → (v : Decision) → StepsRight Came s (decision_steps v) → StepsRight Came s (elim v [ Settled ds ↦ ds | Decided ds ↦ ds ++ settle_page cycle n (server_after s ds) p ])
    go f (Settled ds) a = a
    go f (Decided ds) a = right_append Came s ds _ a (f (server_after s ds) a.1)

pub right_settles : (Came : ℕ → ℕ → Body → Type 0) (cycle : DeadlockTest) (s : Server) (n : ℕ) → Orderly Came s → StepsRight Came s (settle_pages cycle s n)
right_settles Came cycle s zero o = (tt, o)
right_settles Came cycle s (suc n) o = let a = right_settles Came cycle s n o in
    right_append Came s (settle_pages cycle s n) _ a (right_settle Came cycle (length (s.queue n) + 1) (server_after s (settle_pages cycle s n)) n a.1)
