-- Schedules as their text has them, line by line, with the answers that are stated for them.
use Rattle.std.proofs.Common.{Bool, List, None, Option, Some, [], ap, arith, length, map, nat_le, not, refl, true, ℕ, ◌&&◌, ◌==◌, ◌∙◌, ◌∷◌, ◌≡◌, nat_lt, ◌||◌}
use Rattle.cb_protocol.specs.Answers.{AnswerWord}
use Rattle.cb_protocol.specs.Basics.{Bytes, Limits, is_none}
use Rattle.cb_protocol.specs.Client.{Client, is_fixed, pages_in_pool}
use Rattle.cb_protocol.specs.ClientCalls.{CallAgain, CallBegin, CallDrop, CallFinish, CallHello, CallPeek, CallRead, CallWant, CallWrite}
use Rattle.cb_protocol.specs.ClientMessages.{ChoiceAllowed, MayLetGo, brings_page, client_take}
use Rattle.cb_protocol.specs.Messages.{Body, Granted, Message}
use Rattle.cb_protocol.specs.WaitsFor.{on_cycle}
use Rattle.cb_protocol.specs.World.{Answer, ClientCalls, Event, EventChoiceAllowed, FlushAll, FlushTo, MessageChoiceAllowed, Moment, Opening, Plays, Restart, SentPacket, ServerAgain, TakePacket, World, new_world, packet_at, step}

abbrev pub page_of : ℕ → Bytes
page_of b = b ∷ b ∷ b ∷ b ∷ b ∷ b ∷ b ∷ b ∷ b ∷ b ∷ b ∷ b ∷ b ∷ b ∷ b ∷ b ∷ []

abbrev pub limits : ℕ → ℕ → ℕ → Bool → Limits
limits clients pages slots keep_write = record { clients = clients; pages = pages; page_size = 16; slots = slots; keep_write = keep_write }

abbrev pub zeros : Opening
zeros = record { bytes = λ p. page_of 0; version = λ p. 0; number = 0 }

-- the words of a schedule's lines
abbrev pub hello : ℕ → Event
hello c = ClientCalls c CallHello

abbrev pub begin : ℕ → Event
begin c = ClientCalls c CallBegin

abbrev pub read : ℕ → ℕ → Event
read c p = ClientCalls c (CallRead p)

abbrev pub want : ℕ → ℕ → Event
want c p = ClientCalls c (CallWant p)

abbrev pub write : ℕ → ℕ → ℕ → Event
write c p b = ClientCalls c (CallWrite p (page_of b))

abbrev pub finish : ℕ → Event
finish c = ClientCalls c CallFinish

abbrev pub drop_txn : ℕ → Event
drop_txn c = ClientCalls c CallDrop

abbrev pub resend : ℕ → Event
resend c = ClientCalls c CallAgain

abbrev pub peek : ℕ → ℕ → Event
peek c p = ClientCalls c (CallPeek p)

abbrev pub take : ℕ → Event
take n = TakePacket n

abbrev pub restart : ℕ → Event
restart c = Restart c

abbrev pub server_resends : Event
server_resends = ServerAgain

abbrev pub flush_all : Event
flush_all = FlushAll

abbrev pub flush_to : ℕ → Event
flush_to n = FlushTo n

-- a packet that was sent: its number, kind and client
abbrev pub sent : ℕ → ℕ → ℕ → SentPacket
sent n k c = record { number = n; kind = k; client = c }

-- an event, the page that the pool lets go at it, and its answer
pub record Line : Type 0 where
  pub event : Event
  pub let_go : Option ℕ
  pub answer : Answer

abbrev pub at : Event → AnswerWord → List SentPacket → Line
at e w s = record { event = e; let_go = None; answer = record { word = w; sent = s } }

abbrev pub letting_go : ℕ → Event → AnswerWord → List SentPacket → Line
letting_go p e w s = record { event = e; let_go = Some p; answer = record { word = w; sent = s } }

-- the pool may let that page go, as its law has it
abbrev pub may_let_go : Limits → Client → ℕ → Option ℕ → Bool
may_let_go L k p None = nat_lt (pages_in_pool k L.pages) L.slots
may_let_go L k p (Some q) = not (q == p) && not (is_none (k.cache.content q)) && not (is_fixed k q) && nat_le L.slots (pages_in_pool k L.pages)

abbrev pub body_choice : Limits → Client → Body → Option ℕ → Bool
body_choice L k (Granted p g v b) let_go = not (brings_page (client_take L k (Granted p g v b) let_go)) || may_let_go L k p let_go
body_choice L k _ let_go = true

abbrev pub message_choice : Limits → World → Option Message → Option ℕ → Bool
message_choice L w None let_go = true
message_choice L w (Some f) let_go = not (f.incarnation == w.incarnation f.client) || body_choice L (w.client f.client) f.body let_go

abbrev pub event_choice : Limits → World → Event → Option ℕ → Bool
event_choice L w (TakePacket n) let_go = message_choice L w (packet_at w.packets n) let_go
event_choice L w _ let_go = true

-- what is printed of a schedule: the answers, and how many transactions committed; `allowed`: each page let go was one that the pool might let go
pub record Output : Type 0 where
  pub answers : List Answer
  pub allowed : Bool
  pub commits : ℕ

-- by the definitions
abbrev pub output_from : Limits → World → List Line → Output
output_from L w [] = record { answers = []; allowed = true; commits = length w.server.commits }
output_from L w (l ∷ ls) =
    let s = step L on_cycle w l.event l.let_go in
    let rest = output_from L s.world ls in
    record { answers = s.answer ∷ rest.answers; allowed = event_choice L w l.event l.let_go && rest.allowed; commits = rest.commits }

-- as the lines state it
abbrev pub stated : List Line → List Answer
stated [] = []
stated (l ∷ ls) = l.answer ∷ stated ls

-- From the opening world over zeros the events are answered as the lines state, the pools keep their law, and so many transactions commit.
abbrev pub Outputs : Limits → List Line → ℕ → Type 0
Outputs L ls n = output_from L (new_world L zeros) ls ≡ record { answers = stated ls; allowed = true; commits = n }

-- packet n of the schedule
abbrev pub world_after : Limits → World → List Line → World
world_after L w [] = w
world_after L w (l ∷ ls) = world_after L (step L on_cycle w l.event l.let_go).world ls

abbrev pub packet_of : Limits → List Line → ℕ → Option Message
packet_of L ls n = packet_at (world_after L (new_world L zeros) ls).packets n

-- the world's moments at these lines
abbrev pub moments_of : Limits → World → List Line → List Moment
moments_of L w [] = []
moments_of L w (l ∷ ls) = let s = step L on_cycle w l.event l.let_go in record { event = l.event; answer = s.answer; world = s.world } ∷ moments_of L s.world ls

pub and_left : (a b : Bool) → (a && b) ≡ true → a ≡ true
and_left a b e = grind arith

pub and_right : (a b : Bool) → (a && b) ≡ true → b ≡ true
and_right a b e = grind arith

or_then : (a b : Bool) → (not a || b) ≡ true → a ≡ true → b ≡ true
or_then a b e f = grind arith

may_is : (L : Limits) (k : Client) (p : ℕ) (o : Option ℕ) → may_let_go L k p o ≡ true → MayLetGo L k p o
may_is L k p None e = grind arith
may_is L k p (Some q) e = (λ z. grind arith, grind arith, grind arith, grind arith)

choice_is : (L : Limits) (k : Client) (b : Body) (o : Option ℕ) → body_choice L k b o ≡ true → ChoiceAllowed L k b o
choice_is L k (Granted p g v b) o e = λ f. may_is L k p o (or_then (brings_page (client_take L k (Granted p g v b) o)) (may_let_go L k p o) e f)
choice_is L k _ o e = tt

message_is : (L : Limits) (w : World) (r : Option Message) (o : Option ℕ) → message_choice L w r o ≡ true → MessageChoiceAllowed L w r o
message_is L w None o e = tt
message_is L w (Some f) o e = λ i. choice_is L (w.client f.client) f.body o (or_then (f.incarnation == w.incarnation f.client) (body_choice L (w.client f.client) f.body o) e (same f i))
  where
    same : (f : Message) → f.incarnation ≡ w.incarnation f.client → (f.incarnation == w.incarnation f.client) ≡ true
    same f i = grind arith

pub event_is : (L : Limits) (w : World) (x : Event) (o : Option ℕ) → event_choice L w x o ≡ true → EventChoiceAllowed L w x o
event_is L w (TakePacket n) o e = message_is L w (packet_at w.packets n) o e
event_is L w _ o e = tt

played : (L : Limits) (w : World) (ls : List Line) → (output_from L w ls).allowed ≡ true → Plays L on_cycle w (moments_of L w ls)
played L w [] e = tt
played L w (l ∷ ls) e = let s = step L on_cycle w l.event l.let_go in
    ((l.let_go, event_is L w l.event l.let_go (and_left _ _ e), refl), played L s.world ls (and_right (event_choice L w l.event l.let_go) _ e))

answers_so : (L : Limits) (w : World) (ls : List Line) → map (λ m. m.answer) (moments_of L w ls) ≡ (output_from L w ls).answers
answers_so L w [] = refl
answers_so L w (l ∷ ls) = ap (λ (x : List Answer). (step L on_cycle w l.event l.let_go).answer ∷ x) (answers_so L (step L on_cycle w l.event l.let_go).world ls)

-- a schedule with that output is a run of the world, whose answers are those stated
pub outputs_are_played : (L : Limits) (ls : List Line) (n : ℕ) → Outputs L ls n → (ms : List Moment) × Plays L on_cycle (new_world L zeros) ms × (map (λ m. m.answer) ms ≡ stated ls)
outputs_are_played L ls n e = (moments_of L (new_world L zeros) ls, played L (new_world L zeros) ls (ap (λ (x : Output). x.allowed) e), answers_so L (new_world L zeros) ls ∙ ap (λ (x : Output). x.answers) e)
