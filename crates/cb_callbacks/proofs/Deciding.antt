-- A first ask is decided, and the room that each decision leaves.
use Rattle.std.proofs.Common.{◌≡◌, ◌∙◌, ◌⊎◌, inl, inr, ℕ, Bool, true, false, ◌&&◌, if◌then◌else◌, List, [], ◌++◌, refl, sym, ap, subst}
use Rattle.std.proofs.lemmas.List.{append-nil}
use Rattle.cb_outbox.specs.Saying.{Decides, HasRoomFor, OutboxState, Says}
use Rattle.cb_outbox.proofs.Saying.{decided, decides_as, room_after, room_first, says_nothing, settled, then_wait}
use Rattle.cb_server_state.proofs.Rooms.{room_by}
use Rattle.cb_protocol.specs.Basics.{is_none}
use Rattle.cb_protocol.specs.Server.{DeadlockTest, Server, ServerStep, WaitingAsk, has_row, server_after}
use Rattle.cb_protocol.specs.Settling.{Decided, Settled, call_back_once, decide_read, decide_write, decision_steps, doom_client, downgrade_once, grant_row, no_other_holder, permit_write, sole_row, wait_or_doom}

-- not all of these hold, by which of them is the first that doesn't
pub not_both : (a b : Bool) → ((a ≡ true) × (b ≡ false)) ⊎ (a ≡ false) → (a && b) ≡ false
not_both a b (inl second) = ap (λ (x : Bool). x && b) second.0 ∙ second.1
not_both a b (inr first) = ap (λ (x : Bool). x && b) first

pub not_all : (a b d : Bool) → ((a ≡ true) × (b ≡ true) × (d ≡ false)) ⊎ (((a ≡ true) × (b ≡ false)) ⊎ (a ≡ false)) → (a && b && d) ≡ false
not_all a b d (inl third) = ap (λ (x : Bool). x && b && d) third.0 ∙ (ap (λ (x : Bool). true && x && d) third.1 ∙ third.2)
not_all a b d (inr (inl second)) = ap (λ (x : Bool). x && b && d) second.0 ∙ ap (λ (x : Bool). true && x && d) second.1
not_all a b d (inr (inr first)) = ap (λ (x : Bool). x && b && d) first

-- the deadlock test
pub waits_doomed : (cycle : DeadlockTest) (s t : Server) (client : ℕ) (a b : OutboxState) → cycle s client ≡ true
    → Says s (λ server. doom_client server client) t a b → Decides s (λ server. wait_or_doom cycle server client []) t true a b
waits_doomed cycle s t client a b e says =
    decides_as s t (λ server. wait_or_doom cycle server client []) (λ server. Decided (doom_client server client)) true a b (rw e refl)
    (decided s t (λ server. doom_client server client) a b says)

pub waits_on : (cycle : DeadlockTest) (s : Server) (client : ℕ) (a : OutboxState) → cycle s client ≡ false
    → Decides s (λ server. wait_or_doom cycle server client []) s false a a
waits_on cycle s client a e =
    decides_as s s (λ server. wait_or_doom cycle server client []) (λ server. Settled []) false a a (rw e refl)
    (settled s s (λ server. []) a a (says_nothing s a))

pub room_doomed : (cycle : DeadlockTest) (s : Server) (client : ℕ) (a : OutboxState) → cycle s client ≡ true
    → HasRoomFor (decision_steps (wait_or_doom cycle s client [])) a → HasRoomFor (doom_client s client) a
room_doomed cycle s client a e r = room_by _ (doom_client s client) a (rw e refl) r

-- steps, and then the test
wait_split : (test : Bool) (steps doom : List ServerStep)
    → decision_steps (if test then Decided (steps ++ doom) else Settled steps) ≡ steps ++ decision_steps (if test then Decided doom else Settled [])
wait_split true steps doom = refl
wait_split false steps doom = sym (append-nil steps)

pub room_told : (cycle : DeadlockTest) (s : Server) (client : ℕ) (steps : List ServerStep) (a : OutboxState)
    → HasRoomFor (decision_steps (wait_or_doom cycle s client steps)) a → HasRoomFor steps a
room_told cycle s client steps a r = room_first steps _ a
    (room_by _ _ a (wait_split (cycle (server_after s steps) client) steps (doom_client (server_after s steps) client)) r)

pub room_tested : (cycle : DeadlockTest) (s m : Server) (client : ℕ) (steps : Server → List ServerStep) (a b : OutboxState)
    → HasRoomFor (decision_steps (wait_or_doom cycle s client (steps s))) a → Says s steps m a b
    → HasRoomFor (decision_steps (wait_or_doom cycle m client [])) b
room_tested cycle s m client steps a b r says =
    subst (λ (t : Server). HasRoomFor (decision_steps (wait_or_doom cycle t client [])) b) (sym says.becomes)
    (room_after s m steps _ a b
    (room_by _ _ a (wait_split (cycle (server_after s (steps s)) client) (steps s) (doom_client (server_after s (steps s)) client)) r) says)

-- an ask to read
abbrev pub may_read : Server → (page : ℕ) → WaitingAsk → Bool
may_read s page ask = no_other_holder (s.store.holder page) ask.client && is_none ((s.session ask.client).row page)

read_met : (cycle : DeadlockTest) (s : Server) (page : ℕ) (ask : WaitingAsk) → no_other_holder (s.store.holder page) ask.client ≡ true
    → is_none ((s.session ask.client).row page) ≡ true → decide_read cycle s page ask ≡ Decided (grant_row s page ask.client)
read_met cycle s page ask e f = rw (e, f) refl

read_waits : (cycle : DeadlockTest) (s : Server) (page : ℕ) (ask : WaitingAsk) → may_read s page ask ≡ false
    → decide_read cycle s page ask ≡ wait_or_doom cycle s ask.client (downgrade_once s page ask)
read_waits cycle s page ask e = rw e refl

pub reads_granted : (cycle : DeadlockTest) (s t : Server) (page : ℕ) (ask : WaitingAsk) (a b : OutboxState) → no_other_holder (s.store.holder page) ask.client ≡ true
    → is_none ((s.session ask.client).row page) ≡ true → Says s (λ server. grant_row server page ask.client) t a b
    → Decides s (λ server. decide_read cycle server page ask) t true a b
reads_granted cycle s t page ask a b e f says = decides_as s t (λ server. decide_read cycle server page ask) (λ server. Decided (grant_row server page ask.client)) true a b
    (read_met cycle s page ask e f) (decided s t (λ server. grant_row server page ask.client) a b says)

pub reads_wait : (cycle : DeadlockTest) (s m t : Server) (page : ℕ) (ask : WaitingAsk) (more : Bool) (a b d : OutboxState) → may_read s page ask ≡ false
    → Says s (λ server. downgrade_once server page ask) m a b → Decides m (λ server. wait_or_doom cycle server ask.client []) t more b d
    → Decides s (λ server. decide_read cycle server page ask) t more a d
reads_wait cycle s m t page ask more a b d e says test =
    decides_as s t (λ server. decide_read cycle server page ask) (λ server. wait_or_doom cycle server ask.client (downgrade_once server page ask)) more a d
    (read_waits cycle s page ask e) (then_wait cycle s m t (λ server. downgrade_once server page ask) ask.client more a b d says test)

pub room_granted : (cycle : DeadlockTest) (s : Server) (page : ℕ) (ask : WaitingAsk) (a : OutboxState) → no_other_holder (s.store.holder page) ask.client ≡ true
    → is_none ((s.session ask.client).row page) ≡ true → HasRoomFor (decision_steps (decide_read cycle s page ask)) a → HasRoomFor (grant_row s page ask.client) a
room_granted cycle s page ask a e f r = room_by _ _ a (ap decision_steps (read_met cycle s page ask e f)) r

pub room_read_waits : (cycle : DeadlockTest) (s : Server) (page : ℕ) (ask : WaitingAsk) (a : OutboxState) → may_read s page ask ≡ false
    → HasRoomFor (decision_steps (decide_read cycle s page ask)) a → HasRoomFor (decision_steps (wait_or_doom cycle s ask.client (downgrade_once s page ask))) a
room_read_waits cycle s page ask a e r = room_by _ _ a (ap decision_steps (read_waits cycle s page ask e)) r

-- an ask to write
abbrev pub may_write : Server → (page : ℕ) → WaitingAsk → (grant : ℕ) → Bool
may_write s page ask grant = no_other_holder (s.store.holder page) ask.client && has_row s ask.client page grant && sole_row s page ask.client s.clients

write_met : (cycle : DeadlockTest) (s : Server) (page : ℕ) (ask : WaitingAsk) (grant : ℕ) → no_other_holder (s.store.holder page) ask.client ≡ true
    → has_row s ask.client page grant ≡ true → sole_row s page ask.client s.clients ≡ true
    → decide_write cycle s page ask grant ≡ Decided (permit_write s page ask.client grant)
write_met cycle s page ask grant e f g = rw (e, f, g) refl

write_waits : (cycle : DeadlockTest) (s : Server) (page : ℕ) (ask : WaitingAsk) (grant : ℕ) → may_write s page ask grant ≡ false
    → decide_write cycle s page ask grant ≡ wait_or_doom cycle s ask.client (call_back_once s page ask)
write_waits cycle s page ask grant e = rw e refl

pub writes_permitted : (cycle : DeadlockTest) (s t : Server) (page : ℕ) (ask : WaitingAsk) (grant : ℕ) (a b : OutboxState) → no_other_holder (s.store.holder page) ask.client ≡ true
    → has_row s ask.client page grant ≡ true → sole_row s page ask.client s.clients ≡ true → Says s (λ server. permit_write server page ask.client grant) t a b
    → Decides s (λ server. decide_write cycle server page ask grant) t true a b
writes_permitted cycle s t page ask grant a b e f g says =
    decides_as s t (λ server. decide_write cycle server page ask grant) (λ server. Decided (permit_write server page ask.client grant)) true a b
    (write_met cycle s page ask grant e f g) (decided s t (λ server. permit_write server page ask.client grant) a b says)

pub writes_wait : (cycle : DeadlockTest) (s m t : Server) (page : ℕ) (ask : WaitingAsk) (grant : ℕ) (more : Bool) (a b d : OutboxState) → may_write s page ask grant ≡ false
    → Says s (λ server. call_back_once server page ask) m a b → Decides m (λ server. wait_or_doom cycle server ask.client []) t more b d
    → Decides s (λ server. decide_write cycle server page ask grant) t more a d
writes_wait cycle s m t page ask grant more a b d e says test =
    decides_as s t (λ server. decide_write cycle server page ask grant) (λ server. wait_or_doom cycle server ask.client (call_back_once server page ask)) more a d
    (write_waits cycle s page ask grant e) (then_wait cycle s m t (λ server. call_back_once server page ask) ask.client more a b d says test)

pub room_permitted : (cycle : DeadlockTest) (s : Server) (page : ℕ) (ask : WaitingAsk) (grant : ℕ) (a : OutboxState) → no_other_holder (s.store.holder page) ask.client ≡ true
    → has_row s ask.client page grant ≡ true → sole_row s page ask.client s.clients ≡ true
    → HasRoomFor (decision_steps (decide_write cycle s page ask grant)) a → HasRoomFor (permit_write s page ask.client grant) a
room_permitted cycle s page ask grant a e f g r = room_by _ _ a (ap decision_steps (write_met cycle s page ask grant e f g)) r

pub room_write_waits : (cycle : DeadlockTest) (s : Server) (page : ℕ) (ask : WaitingAsk) (grant : ℕ) (a : OutboxState) → may_write s page ask grant ≡ false
    → HasRoomFor (decision_steps (decide_write cycle s page ask grant)) a → HasRoomFor (decision_steps (wait_or_doom cycle s ask.client (call_back_once s page ask))) a
room_write_waits cycle s page ask grant a e r = room_by _ _ a (ap decision_steps (write_waits cycle s page ask grant e)) r
