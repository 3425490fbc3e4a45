-- Each event of the world keeps the image of the present life.
use Rattle.std.proofs.Common.{Bool, List, None, Option, Some, [], ap, arith, false, if◌then◌else◌, inl, inr, nat_le, nat_lt, refl, subst, suc, sym, true, zero, ℕ, ◌+◌, ◌<◌, ◌==◌, ◌∙◌, ◌∷◌, ◌≡◌, ◌≤◌, ◌⊎◌}
use Rattle.cb_protocol.proofs.Cases.{serves_no_old_hello, serves_no_other_incarnation}
use Rattle.cb_protocol.proofs.ClientCalls.{calls_fit, calls_may, takes_fit}
use Rattle.cb_protocol.proofs.ClientSpeaks.{calls_speak, takes_speak}
use Rattle.cb_protocol.proofs.ClientTakes.{Apt, apt, takes_may}
use Rattle.cb_protocol.proofs.DoneOnDisk.{again_from_disk, flushed_to_disk, taken_from_disk}
use Rattle.cb_protocol.proofs.ClientReady.{ready_new}
use Rattle.cb_protocol.proofs.InvariantKept.{safe_start, up_to_date}
use Rattle.cb_protocol.proofs.LedgerKept.{books_start}
use Rattle.cb_protocol.proofs.LifeImage.{Follows, Image, Life, SentBy, SentInLife, client_acts, only_answered, server_acts, stale_acts}
use Rattle.cb_protocol.proofs.LifeOperations.{of_life, past_gains_none, stale_lines}
use Rattle.cb_protocol.proofs.LifeRestarts.{client_restarts, stale_restarts}
use Rattle.cb_protocol.proofs.Machine.{ClientRestarts, Machine, present_cache, start}
use Rattle.cb_protocol.proofs.MachineSteps.{present_good}
use Rattle.cb_protocol.proofs.ServerOrder.{StepsRight, orderly_start}
use Rattle.cb_protocol.proofs.ServerTakes.{right_again, right_flushes, right_server_take}
use Rattle.cb_protocol.proofs.TranscriptKept.{kept_start, told_start}
use Rattle.cb_protocol.proofs.TranscriptStill.{Marks, Still, calls_marks, still_lines, still_number, still_takes}
use Rattle.cb_protocol.specs.Answers.{AnswerWord, AnsweredOk, Exhausted, Flushed, NoClient, NoPacket, Nothing, Refused, ServerExhausted, Taken}
use Rattle.cb_protocol.specs.Basics.{IsIn, Limits, max_number, update}
use Rattle.cb_protocol.specs.Cache.{Cache}
use Rattle.cb_protocol.specs.Client.{ClientStep, new_client}
use Rattle.cb_protocol.specs.ClientCalls.{Call, client_call}
use Rattle.cb_protocol.specs.ClientMessages.{ChoiceAllowed, client_take}
use Rattle.cb_protocol.specs.Flush.{can_flush, server_flush}
use Rattle.cb_protocol.specs.Headline.{SoundOpening}
use Rattle.cb_protocol.specs.Messages.{Body, Hello, Message, to_server}
use Rattle.cb_protocol.specs.Resend.{server_again}
use Rattle.cb_protocol.specs.Server.{DeadlockTest, Server, ServerStep}
use Rattle.cb_protocol.specs.ServerMessages.{is_exhausted, server_take}
use Rattle.cb_protocol.specs.Session.{Session}
use Rattle.cb_protocol.specs.Transcript.{call_operation, incarnation_at, transaction_at, transcript_operations}
use Rattle.cb_protocol.specs.World.{ClientCalls, Event, EventChoiceAllowed, FlushAll, FlushTo, MessageChoiceAllowed, Opening, Restart, ServerAgain, TakePacket, World, answer_only, answer_with, client_does, deliver, flush_up_to, new_world, packet_at, restart_client, server_does, step, take_packet}

-- the machine does nothing
stays : (L : Limits) (b : Life) (v : World) (w : Machine) → Image L b v w → Follows L b w v
stays L b v w m = record { steps = []; allowed = tt; image = m }

-- a client is of the life, or below its floor
pub near_or_far : (floor i : ℕ) → (floor ≤ i) ⊎ (i < floor)
near_or_far floor i = go (nat_le floor i) refl
  where
    go : (r : Bool) → nat_le floor i ≡ r → (floor ≤ i) ⊎ (i < floor)
    go true e = inl (grind arith)
    go false e = inr (grind arith)

-- the facts of a welcomed client
welcomed_apt : (L : Limits) (b : Life) (v : World) (w : Machine) (c : ℕ) → Image L b v w → b.floor ≤ v.incarnation c → (v.client c).cache.welcomed ≡ true → Apt (v.client c).cache
welcomed_apt L b v w c m l e = let f : (present_cache w c).welcomed ≡ true = ap (λ (x : Cache). x.welcomed) (m.cache c l) ∙ e in
    subst (λ (x : Cache). Apt x) (m.cache c l) (apt c w.store (w.session c) (present_cache w c) (present_good w c m.safe (up_to_date w c m.safe f)))

call_follows : (L : Limits) (b : Life) (v : World) (w : Machine) (c : ℕ) (x : Call) → Image L b v w → c < L.clients → Follows L b w (client_does L v (ClientCalls c x) c (client_call L (v.client c) x).word (client_call L (v.client c) x).steps).world
call_follows L b v w c x m within = elim (near_or_far b.floor (v.incarnation c)) [
  | inl l ↦ client_acts L b v w c (ClientCalls c x) (client_call L (v.client c) x).word (client_call L (v.client c) x).steps m l within
      (calls_may L (SentBy v c (v.incarnation c)) (v.client c) x (welcomed_apt L b v w c m l) (m.ready c l)) (calls_fit L (SentBy v c (v.incarnation c)) (v.client c) x)
      marks.performed marks.mine marks.others marks.restarts
  | inr l ↦ stays L b _ w (stale_acts L b v w c (ClientCalls c x) (client_call L (v.client c) x).word (client_call L (v.client c) x).steps m l within (calls_speak L (v.client c) x)
      (ap (of_life b.floor) marks.performed ∙ stale_lines b.floor L.keep_write (transcript_operations v.transcript) c (incarnation_at v.transcript c) (v.client c).cache (client_call L (v.client c) x).steps (rw (m.restarts c) l))
      (λ d j t p. past_gains_none L v.transcript c (v.client c) x (transcript_operations v.transcript) d j t (m.begins c) p) marks.mine marks.others marks.restarts)
]
  where
    marks : Marks L v.transcript c (v.client c) x (client_call L (v.client c) x).word (client_call L (v.client c) x).steps
    marks = calls_marks L v.transcript c (v.client c) x (m.begins c)

-- what comes from below the current incarnation is nothing to the server
pub stale_message : (cycle : DeadlockTest) (s : Server) (c i : ℕ) (y : Body) → i < (s.session c).current → server_take cycle s c i y ≡ []
stale_message cycle s c i Hello l = serves_no_old_hello cycle s c i l
stale_message cycle s c i y l = serves_no_other_incarnation cycle s c i y (λ e. absurd cc) (λ e. absurd (omega (arith, e, l)))

-- the server takes a message
pub served : (L : Limits) (cycle : DeadlockTest) (b : Life) (v : World) (w : Machine) (f : Message) → Image L b v w → IsIn f v.packets → StepsRight (SentInLife b.floor v) v.server (server_take cycle v.server f.client f.incarnation f.body)
served L cycle b v w f m i = elim (near_or_far b.floor f.incarnation) [
  | inl l ↦ right_server_take (SentInLife b.floor v) cycle v.server f.client f.incarnation f.body m.orderly (rw m.clients (m.addressed f i)) (l, i)
  | inr l ↦ subst (λ (ds : List ServerStep). StepsRight (SentInLife b.floor v) v.server ds) (sym (stale_message cycle v.server f.client f.incarnation f.body (behind l))) (tt, m.orderly)
]
  where
    behind : f.incarnation < b.floor → f.incarnation < (v.server.session f.client).current
    behind l = subst (λ (t : ℕ → Session). f.incarnation < (t f.client).current) m.session (let z = m.above.current f.client (m.addressed f i) in omega (arith, z, l))

-- a client takes a message of its incarnation
taken : (L : Limits) (b : Life) (v : World) (w : Machine) (n : ℕ) (f : Message) (let_go : Option ℕ) → Image L b v w → IsIn f v.packets → ChoiceAllowed L (v.client f.client) f.body let_go → f.incarnation ≡ v.incarnation f.client
    → Follows L b w (client_does L v (TakePacket n) f.client Taken (client_take L (v.client f.client) f.body let_go)).world
taken L b v w n f let_go m i u same = elim (near_or_far b.floor (v.incarnation f.client)) [
  | inl l ↦ client_acts L b v w f.client (TakePacket n) Taken steps m l (m.addressed f i)
      (takes_may L (SentBy v f.client (v.incarnation f.client)) (v.client f.client) f.body let_go (welcomed_apt L b v w f.client m l) (m.ready f.client l) u came)
      (takes_fit L (SentBy v f.client (v.incarnation f.client)) (v.client f.client) f.body let_go came)
      (sym (still_lines L.keep_write (transcript_operations v.transcript) f.client (incarnation_at v.transcript f.client) (v.client f.client).cache steps still))
      (m.begins f.client ∙ sym (still_number L.keep_write (v.client f.client) steps still)) (λ d ne. refl) (λ d. refl)
  | inr l ↦ stays L b _ w (stale_acts L b v w f.client (TakePacket n) Taken steps m l (m.addressed f i) (takes_speak L (v.client f.client) f.body let_go) refl (λ d j t p. refl)
      (m.begins f.client ∙ sym (still_number L.keep_write (v.client f.client) steps still)) (λ d ne. refl) (λ d. refl))
]
  where
    steps : List ClientStep
    steps = client_take L (v.client f.client) f.body let_go

    still : Still (client_take L (v.client f.client) f.body let_go)
    still = still_takes L (v.client f.client) f.body let_go

    came : SentBy v f.client (v.incarnation f.client) f.body
    came = subst (λ (j : ℕ). SentBy v f.client j f.body) same i

deliver_follows : (L : Limits) (cycle : DeadlockTest) (b : Life) (v : World) (w : Machine) (n : ℕ) (f : Message) (let_go : Option ℕ) → Image L b v w → IsIn f v.packets → (f.incarnation ≡ v.incarnation f.client → ChoiceAllowed L (v.client f.client) f.body let_go)
    → Follows L b w (deliver L cycle v (TakePacket n) f let_go).world
deliver_follows L cycle b v w n f let_go m i u = go (to_server f.body) (is_exhausted v.server f.client f.incarnation f.body) (f.incarnation == v.incarnation f.client) refl
  where
    same : (f.incarnation == v.incarnation f.client) ≡ true → f.incarnation ≡ v.incarnation f.client
    same e = grind arith

    go : (r u q : Bool) → (f.incarnation == v.incarnation f.client) ≡ q → Follows L b w (if r
        then (if u then answer_only v (TakePacket n) ServerExhausted else server_does v (TakePacket n) Taken (server_take cycle v.server f.client f.incarnation f.body))
        else if q then client_does L v (TakePacket n) f.client Taken (client_take L (v.client f.client) f.body let_go) else answer_only v (TakePacket n) Taken).world
    go true true q e = stays L b _ w (only_answered L b v w (TakePacket n) ServerExhausted m refl (λ d. refl) (λ d. refl))
    go true false q e = let ds = server_take cycle v.server f.client f.incarnation f.body in
        server_acts L b v w (TakePacket n) Taken ds m (served L cycle b v w f m i) (taken_from_disk cycle v.server f.client f.incarnation f.body) refl (λ d. refl) (λ d. refl)
    go false r true e = taken L b v w n f let_go m i (u (same e)) (same e)
    go false r false e = stays L b _ w (only_answered L b v w (TakePacket n) Taken m refl (λ d. refl) (λ d. refl))

pub packet_is_in : (fs : List Message) (n : ℕ) (f : Message) → packet_at fs n ≡ Some f → IsIn f fs
packet_is_in [] n f e = absurd cc
packet_is_in (g ∷ fs) zero f e = inl cc
packet_is_in (g ∷ fs) (suc n) f e = inr (packet_is_in fs n f e)

take_follows : (L : Limits) (cycle : DeadlockTest) (b : Life) (v : World) (w : Machine) (n : ℕ) (let_go : Option ℕ) (r : Option Message) → packet_at v.packets n ≡ r → Image L b v w → MessageChoiceAllowed L v r let_go
    → Follows L b w (take_packet L cycle v (TakePacket n) r let_go).world
take_follows L cycle b v w n let_go None e m u = stays L b _ w (only_answered L b v w (TakePacket n) NoPacket m refl (λ d. refl) (λ d. refl))
take_follows L cycle b v w n let_go (Some f) e m u = deliver_follows L cycle b v w n f let_go m (packet_is_in v.packets n f e) u

restart_follows : (L : Limits) (b : Life) (v : World) (w : Machine) (c : ℕ) → Image L b v w → Follows L b w (restart_client v (Restart c) c).world
restart_follows L b v w c m = go (nat_le max_number (v.incarnation c)) (near_or_far b.floor (v.incarnation c))
  where
    go : (r : Bool) → (b.floor ≤ v.incarnation c) ⊎ (v.incarnation c < b.floor) → Follows L b w (if r then answer_only v (Restart c) (Refused Exhausted)
        else answer_with v (Restart c) AnsweredOk [] (record v { client = update v.client c new_client; incarnation = update v.incarnation c (v.incarnation c + 1) })).world
    go true s = stays L b _ w (only_answered L b v w (Restart c) (Refused Exhausted) m refl (λ d. refl) (λ d. refl))
    go false (inl l) = record { steps = ClientRestarts c ∷ []; allowed = (tt, tt); image = client_restarts L b v w c m l }
    go false (inr l) = stays L b _ w (stale_restarts L b v w c m l)

flush_follows : (L : Limits) (b : Life) (v : World) (w : Machine) (e : Event) (n : ℕ) → Image L b v w
    → ((word : AnswerWord) → transcript_operations (record { event = e; word = word } ∷ v.transcript) ≡ transcript_operations v.transcript)
    → ((word : AnswerWord) (d : ℕ) → transaction_at (record { event = e; word = word } ∷ v.transcript) d ≡ transaction_at v.transcript d)
    → ((word : AnswerWord) (d : ℕ) → incarnation_at (record { event = e; word = word } ∷ v.transcript) d ≡ incarnation_at v.transcript d)
    → Follows L b w (flush_up_to v e n).world
flush_follows L b v w e n m ln bg rs = go (can_flush v.server n) refl
  where
    go : (r : Bool) → can_flush v.server n ≡ r → Follows L b w (if r then server_does v e (Flushed n) (server_flush v.server n) else answer_only v e Nothing).world
    go true f = server_acts L b v w e (Flushed n) (server_flush v.server n) m (right_flushes (SentInLife b.floor v) v.server n m.orderly) (flushed_to_disk v.server n f) (ln (Flushed n)) (bg (Flushed n)) (rs (Flushed n))
    go false f = stays L b _ w (only_answered L b v w e Nothing m (ln Nothing) (bg Nothing) (rs Nothing))

-- a call to no client is no operation and begins no transaction
no_operation : (v : World) (c : ℕ) (x : Call) → call_operation v.transcript c x NoClient (transcript_operations v.transcript) ≡ transcript_operations v.transcript
no_operation v c x = grind arith

none_begun : (v : World) (c : ℕ) (x : Call) (d : ℕ) → transaction_at (record { event = ClientCalls c x; word = NoClient } ∷ v.transcript) d ≡ transaction_at v.transcript d
none_begun v c x d = grind arith

-- each event
pub event_follows : (L : Limits) (cycle : DeadlockTest) (b : Life) (v : World) (w : Machine) (e : Event) (let_go : Option ℕ) → Image L b v w → EventChoiceAllowed L v e let_go → Follows L b w (step L cycle v e let_go).world
unfolding step
event_follows L cycle b v w (ClientCalls c x) let_go m u = go (nat_lt c L.clients) refl
  where
    below : nat_lt c L.clients ≡ true → c < L.clients
    below e = grind arith

    go : (r : Bool) → nat_lt c L.clients ≡ r → Follows L b w (if r then client_does L v (ClientCalls c x) c (client_call L (v.client c) x).word (client_call L (v.client c) x).steps else answer_only v (ClientCalls c x) NoClient).world
    go true e = call_follows L b v w c x m (below e)
    go false e = stays L b _ w (only_answered L b v w (ClientCalls c x) NoClient m (no_operation v c x) (none_begun v c x) (λ d. refl))
event_follows L cycle b v w (TakePacket n) let_go m u = take_follows L cycle b v w n let_go (packet_at v.packets n) refl m u
event_follows L cycle b v w (Restart c) let_go m u = go (nat_lt c L.clients)
  where
    go : (r : Bool) → Follows L b w (if r then restart_client v (Restart c) c else answer_only v (Restart c) NoClient).world
    go true = restart_follows L b v w c m
    go false = stays L b _ w (only_answered L b v w (Restart c) NoClient m refl (λ d. refl) (λ d. refl))
event_follows L cycle b v w ServerAgain let_go m u =
    server_acts L b v w ServerAgain AnsweredOk (server_again v.server) m (right_again (SentInLife b.floor v) v.server m.orderly) (again_from_disk v.server) refl (λ d. refl) (λ d. refl)
event_follows L cycle b v w FlushAll let_go m u = flush_follows L b v w FlushAll v.server.store.last_commit m (λ x. refl) (λ x d. refl) (λ x d. refl)
event_follows L cycle b v w (FlushTo n) let_go m u = flush_follows L b v w (FlushTo n) n m (λ x. refl) (λ x d. refl) (λ x d. refl)

-- the first life, which has no former ones
abbrev pub one_life : Opening → Life
one_life o = record { floor = 0; opening = o; former = []; told = λ c i t. [] }

-- the first life is that of a machine as it starts
pub image_first : (L : Limits) (first : Opening) → SoundOpening first → Image L (one_life first) (new_world L first) (start L first)
image_first L first s = record {
  safe = safe_start L first s;
  kept = kept_start L first;
  recorded = told_start L first;
  above = record { current = λ c l. omega arith; come = λ c. omega arith; said = λ c i x ws s. absurd s; sent = λ c i y l s. absurd s; made = λ c i x n e. absurd cc; welcomed = λ c i e. absurd cc; committed = λ c i x n e. absurd cc; performed = λ o i. absurd i };
  leaves = tt;
  store = refl;
  session = refl;
  names = refl;
  keep_write = refl;
  clients = refl;
  nobody = λ c l. refl;
  orderly = orderly_start _ L first;
  books = books_start L first;
  committed = omega arith;
  opened = omega arith;
  incarnation = λ c l. refl;
  cache = λ c l. refl;
  ready = λ c l. ready_new L _;
  waits = λ c l. absurd (omega (arith, l));
  packets = λ f l i. i;
  sent = λ f i. i;
  addressed = λ f i. absurd i;
  dones = λ c i t n l x. absurd x;
  on_disk = λ c i t n x. absurd x;
  performed = refl;
  restarts = λ c. refl;
  begins = λ c. refl;
  earlier = λ x i. absurd i;
  former_dones = λ c i t n l x. absurd x;
  past = λ x i. absurd i;
  told = λ x i. absurd i;
}
