-- What the protocol's world becomes at an event, and that it is reached.
use Rattle.std.proofs.Common.{◌≡◌, ◌<◌, ◌+◌, ◌++◌, ◌==◌, ℕ, suc, true, false, nat_le, List, [], ◌∷◌}
use Rattle.std.proofs.Common.{Option, Some, None, refl, sym, ◌∙◌, ap, subst, arith, inl, inr}
use Rattle.std.proofs.lemmas.Bool.Decides.{nat_tests}
use Rattle.cb_protocol.proofs.Cases.{step_call, step_flush_to, step_restart, step_take}
use Rattle.cb_protocol.specs.Answers.{AnsweredOk, Flushed, Taken}
use Rattle.cb_protocol.specs.Basics.{IsIn, Limits, max_number, update}
use Rattle.cb_protocol.specs.Client.{Client, new_client}
use Rattle.cb_protocol.specs.ClientCalls.{Call, client_call}
use Rattle.cb_protocol.specs.ClientMessages.{ChoiceAllowed, client_take}
use Rattle.cb_protocol.specs.Flush.{can_flush, server_flush}
use Rattle.cb_protocol.specs.Messages.{Body, Granted, Message, to_server}
use Rattle.cb_protocol.specs.ServerMessages.{is_exhausted, server_take}
use Rattle.cb_protocol.specs.WaitsFor.{on_cycle}
use Rattle.cb_protocol.specs.World.{Becomes, ClientCalls, Event, EventChoiceAllowed, FlushTo}
use Rattle.cb_protocol.specs.World.{MessageChoiceAllowed, Moment, Opening, Plays, ReachedWorld}
use Rattle.cb_protocol.specs.World.{Restart, StepResult, TakePacket, World, answer_with}
use Rattle.cb_protocol.specs.World.{client_does, deliver, flush_up_to, new_world, packet_at}
use Rattle.cb_protocol.specs.World.{restart_client, server_does, step, take_packet, world_after}
use Rattle.cb_running_laws.specs.Worlds.{LeadsTo}

-- A world that is reached, from which events go on.
pub record Origin (L : Limits) : Type 0 where
  pub opening : Opening
  pub first : World
  pub there : ReachedWorld L on_cycle opening first

-- what is reached from it
abbrev pub Reached : (L : Limits) → Origin L → World → Type 0
Reached L o w = LeadsTo L o.first w

plays_more : (L : Limits) (w : World) (ms : List Moment) (m : Moment) → Plays L on_cycle w ms
    → Becomes L on_cycle (world_after w ms) m.event m.answer m.world
    → Plays L on_cycle w (ms ++ m ∷ [])
plays_more L w [] m p b = (b, tt)
plays_more L w (k ∷ ks) m p b = (p.0, plays_more L k.world ks m p.1 b)

after_more : (w : World) (ms : List Moment) (m : Moment) → world_after w (ms ++ m ∷ []) ≡ m.world
after_more w [] m = refl
after_more w (k ∷ ks) m = after_more k.world ks m

plays_on : (L : Limits) (w : World) (ms ks : List Moment) → Plays L on_cycle w ms
    → Plays L on_cycle (world_after w ms) ks → Plays L on_cycle w (ms ++ ks)
plays_on L w [] ks p q = q
plays_on L w (m ∷ ms) ks p q = (p.0, plays_on L m.world ms ks p.1 q)

after_both : (w : World) (ms ks : List Moment)
    → world_after w (ms ++ ks) ≡ world_after (world_after w ms) ks
after_both w [] ks = refl
after_both w (m ∷ ms) ks = after_both m.world ms ks

-- the whole way from the opening world
pub whole : (L : Limits) (o : Origin L) (w : World) → Reached L o w
    → ReachedWorld L on_cycle o.opening w
whole L o w r = (
  o.there.0 ++ r.0,
  plays_on L (new_world L o.opening) o.there.0 r.0 o.there.1
      (subst (λ (x : World). Plays L on_cycle x r.0) (sym o.there.2) r.1),
  after_both (new_world L o.opening) o.there.0 r.0
      ∙ ap (λ (x : World). world_after x r.0) o.there.2 ∙ r.2,
)

-- the opening world
abbrev pub opening_world : (L : Limits) → Opening → Origin L
opening_world L o = record { opening = o; first = new_world L o; there = ([], tt, refl) }

-- what was reached
abbrev pub onwards : (L : Limits) (o : Origin L) (w : World) → Reached L o w → Origin L
onwards L o w r = record { opening = o.opening; first = w; there = whole L o w r }

-- any event
pub by_event : (L : Limits) (o : Origin L) (w : World) (e : Event) (g : Option ℕ) → Reached L o w
    → EventChoiceAllowed L w e g → Reached L o (step L on_cycle w e g).world
by_event L o w e g r a =
    let m : Moment = record {
      event = e;
      answer = (step L on_cycle w e g).answer;
      world =
          (step L on_cycle w e g).world;
    } in (
      r.0 ++ m ∷ [],
      plays_more L o.first r.0 m r.1
          (subst (λ (x : World). Becomes L on_cycle x e (step L on_cycle w e g).answer
          (step L on_cycle w e g).world) (sym r.2) (g, a, refl)),
      after_more o.first r.0 m,
    )

-- a client is called
abbrev pub called_world : Limits → World → ℕ → Call → World
called_world L w c call = (client_does L w (ClientCalls c call) c
    (client_call L (w.client c) call).word (client_call L (w.client c) call).steps).world

pub calls_reach : (L : Limits) (o : Origin L) (w : World) (c : ℕ) (call : Call) → c < L.clients
    → Reached L o w → Reached L o (called_world L w c call)
calls_reach L o w c call lt r =
    subst (λ (x : StepResult). Reached L o x.world) (step_call L on_cycle w c call None lt)
    (by_event L o w (ClientCalls c call) None r tt)

-- a client begins its next incarnation
abbrev pub restarted_world : World → ℕ → World
restarted_world w c = (answer_with w (Restart c) AnsweredOk [] (record w {
  client = update w.client c new_client;
  incarnation = update w.incarnation c (w.incarnation c + 1);
})).world

pub restarts_reach : (L : Limits) (o : Origin L) (w : World) (c : ℕ) → c < L.clients
    → w.incarnation c < max_number → Reached L o w → Reached L o (restarted_world w c)
restarts_reach L o w c lt left r =
    subst (λ (x : StepResult). Reached L o x.world) (step_restart L on_cycle w c None lt ∙ there)
    (by_event L o w (Restart c) None r tt)
  where
    there : restart_client w (Restart c) c
        ≡ answer_with w (Restart c) AnsweredOk []
        (record w {
          client = update w.client c new_client;
          incarnation =
              update w.incarnation c (w.incarnation c + 1);
        })
    there = let more : nat_le max_number (w.incarnation c) ≡ false = grind (arith, nat_tests, left)
        in rw more refl

-- a message that was sent has a number
pub number_of : (m : Message) (ms : List Message) → IsIn m ms → (n : ℕ) × (packet_at ms n ≡ Some m)
number_of m [] i = absurd i
number_of m (k ∷ ks) (inl e) = (0, ap (λ (x : Message). Some x) e)
number_of m (k ∷ ks) (inr i) = let r = number_of m ks i in (suc r.0, r.1)

-- a message to the server brings no page
none_let_go : (L : Limits) (k : Client) (b : Body) → to_server b ≡ true → ChoiceAllowed L k b None
none_let_go L k (Granted p g v b) t = absurd cc
none_let_go L k _ t = tt

module _ (L : Limits) (o : Origin L) (w : World) (m : Message) (n : ℕ)
    (at : packet_at w.packets n ≡ Some m) (r : Reached L o w) where
  delivered : (g : Option ℕ) → step L on_cycle w (TakePacket n) g
      ≡ deliver L on_cycle w (TakePacket n) m g
  delivered g = step_take L on_cycle w n g
      ∙ ap (λ (x : Option Message). take_packet L on_cycle w (TakePacket n) x g) at

  chosen : (g : Option ℕ) → (m.incarnation ≡ w.incarnation m.client
      → ChoiceAllowed L (w.client m.client) m.body g)
      → MessageChoiceAllowed L w (packet_at w.packets n) g
  chosen g f = subst (λ (x : Option Message). MessageChoiceAllowed L w x g) (sym at) f

  -- the server takes a message
  pub served_reach : to_server m.body ≡ true → is_exhausted w.server m.client m.incarnation m.body
      ≡ false
      → Reached L o (server_does w (TakePacket n) Taken
      (server_take on_cycle w.server m.client m.incarnation m.body)).world
  served_reach t fine = subst (λ (x : StepResult). Reached L o x.world) (delivered None ∙ there)
      (by_event L o w (TakePacket n) None r
      (chosen None (λ i. none_let_go L (w.client m.client) m.body t)))
    where
      there : deliver L on_cycle w (TakePacket n) m None
          ≡ server_does w (TakePacket n) Taken
          (server_take on_cycle w.server m.client m.incarnation m.body)
      there = rw (t, fine) refl

  -- a client takes one
  pub took_reach : (g : Option ℕ) → to_server m.body ≡ false → m.incarnation
      ≡ w.incarnation m.client → ChoiceAllowed L (w.client m.client) m.body g
      → Reached L o (client_does L w (TakePacket n) m.client Taken
      (client_take L (w.client m.client) m.body g)).world
  took_reach g t own allowed = subst (λ (x : StepResult). Reached L o x.world) (delivered g ∙ there)
      (by_event L o w (TakePacket n) g r (chosen g (λ i. allowed)))
    where
      there : deliver L on_cycle w (TakePacket n) m g
          ≡ client_does L w (TakePacket n) m.client Taken
          (client_take L (w.client m.client) m.body g)
      there = let same : (m.incarnation == w.incarnation m.client) ≡ true =
          grind (arith, nat_tests, own) in rw (t, same) refl

-- the commits up to a number reach the disk
pub flushed_reach : (L : Limits) (o : Origin L) (w : World) (n : ℕ) → can_flush w.server n ≡ true
    → Reached L o w → Reached L o (server_does w (FlushTo n) (Flushed n)
    (server_flush w.server n)).world
flushed_reach L o w n can r = subst (λ (x : StepResult). Reached L o x.world)
    (step_flush_to L on_cycle w n None ∙ there) (by_event L o w (FlushTo n) None r tt)
  where
    there : flush_up_to w (FlushTo n) n
        ≡ server_does w (FlushTo n) (Flushed n) (server_flush w.server n)
    there = rw can refl
