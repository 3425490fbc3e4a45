-- A client of the world begins an incarnation, and the server takes its Hello.
use Rattle.std.proofs.Common.{◌≡◌, ◌≢◌, ◌<◌, ◌≤◌, ◌+◌, ◌-◌, ◌==◌, ◌&&◌, ℕ, zero, suc, Bool, true}
use Rattle.std.proofs.Common.{false, if◌then◌else◌, List, [], ◌∷◌, Option, Some, None, refl, sym}
use Rattle.std.proofs.Common.{◌∙◌, ap, subst, arith, inl, slice_set}
use Rattle.std.proofs.lemmas.List.{get_or-set_other}
use Rattle.cb_client_core.proofs.Reaching.{starts}
use Rattle.cb_frame.specs.declared.frame.Frame.{Frame}
use Rattle.cb_hands.specs.Hands.{HandState}
use Rattle.cb_hands.specs.Joined.{IsHeld, stored_at}
use Rattle.cb_mailboxes.specs.Dispatching.{emptied}
use Rattle.cb_page.specs.Bounds.{Bounds}
use Rattle.cb_protocol.proofs.Cases.{call_accepted, fault_of_hello}
use Rattle.cb_protocol.proofs.LifeImage.{in_left, in_right}
use Rattle.cb_protocol.proofs.OthersKeep.{others_keep_rows_and_permissions}
use Rattle.cb_protocol.specs.AnyMessages.{MessageComes}
use Rattle.cb_protocol.specs.Basics.{IsIn, Limits, max_number}
use Rattle.cb_protocol.specs.Client.{Client, ClientStep, Say, bodies_said, client_after, new_client}
use Rattle.cb_protocol.specs.ClientCalls.{CallHello, Reply, client_call}
use Rattle.cb_protocol.specs.Messages.{Hello, Message, to_server}
use Rattle.cb_protocol.specs.Server.{Server}
use Rattle.cb_protocol.specs.StepsKeep.{KeepsClient}
use Rattle.cb_protocol.specs.Transcript.{transcript_operations}
use Rattle.cb_protocol.specs.WaitsFor.{on_cycle}
use Rattle.cb_protocol.specs.World.{World, messages_said}
use Rattle.cb_server.specs.ServerValue as server
use Rattle.cb_server.specs.ServerValue.{IsServer, ServerValue}
use Rattle.cb_server.specs.Taking.{Does}
use Rattle.cb_running_laws.proofs.Calling.{at_itself, at_others}
use Rattle.cb_running_laws.proofs.Events.{Origin, Reached, called_world, calls_reach}
use Rattle.cb_running_laws.proofs.Events.{restarted_world, restarts_reach}
use Rattle.cb_running_laws.proofs.Moving.{ServerMoved, moved_by_message}
use Rattle.cb_running_laws.proofs.Standing.{Grows}
use Rattle.cb_running_laws.specs.Programs.{Program, limits_in}
use Rattle.cb_running_laws.specs.Worlds.{IsWorldClient}
use Rattle.cb_worker.specs.Moving.{new_worker}

-- The client is new, in that incarnation; nothing else changed, but the server where it says so.
pub record Renewed (L : Limits) (o : Origin L) (w : World) (c i : ℕ) (server : Server) : Type
    0 where
  pub world : World
  pub reached : Reached L o world
  pub server_is : world.server ≡ server
  pub client : world.client c ≡ new_client
  pub incarnation : world.incarnation c ≡ i
  pub others : (d : ℕ) → d ≢ c → (world.client d ≡ w.client d)
      × (world.incarnation d ≡ w.incarnation d)
  pub grows : Grows w world
  pub silent : transcript_operations world.transcript ≡ transcript_operations w.transcript

pub renews : (L : Limits) (o : Origin L) (c i : ℕ) (n : ℕ) (w : World) → c < L.clients
    → i ≤ max_number → Reached L o w → w.incarnation c + n ≡ i → (n ≡ 0 → w.client c ≡ new_client)
    → Renewed L o w c i w.server
renews L o c i zero w lt left r e new = record {
  world = w;
  reached = r;
  server_is = refl;
  client = new refl;
  incarnation = omega (arith, e);
  others = λ d n. (refl, refl);
  grows = λ m j. j;
  silent = refl;
}
renews L o c i (suc n) w lt left r e new =
    let less : w.incarnation c < max_number = omega (arith, e, left) in
    let v : World = restarted_world w c in
    let f : v.incarnation c + n ≡ i =
    (let at = at_itself w.incarnation c (w.incarnation c + 1) in omega (arith, e, at)) in
    let rest : Renewed L o v c i v.server =
    renews L o c i n v lt left (restarts_reach L o w c lt less r) f
    (λ z. at_itself w.client c new_client) in record {
      world = rest.world;
      reached = rest.reached;
      server_is = rest.server_is;
      client = rest.client;
      incarnation = rest.incarnation;
      others = λ d k. let x = rest.others d k in (
        x.0 ∙ at_others w.client c d new_client k,
        x.1
            ∙ at_others w.incarnation c d (w.incarnation c + 1) k,
      );
      grows = λ m j. rest.grows m (in_left m w.packets [] j);
      silent = rest.silent;
    }

-- The client was renewed and greeted, and the server took its Hello.
pub record Greeted (L : Limits) (o : Origin L) (w : World) (c i : ℕ) (new : Server)
    (messages : List Message) : Type 0 where
  pub renewed : Renewed L o w c i new
  pub says : (m : Message) → IsIn m messages → IsIn m renewed.world.packets
      × (to_server m.body ≡ false)

-- its Hello
abbrev hello : (c i : ℕ) → Message
hello c i = record { client = c; incarnation = i; body = Hello }

hello_is : (L : Limits) (k : Client) → (client_call L k CallHello).steps ≡ Say Hello ∷ []
hello_is L k = ap (λ (r : Reply). r.steps) (call_accepted L k CallHello (fault_of_hello L k))

not_all : (a b : Bool) → b ≡ false → (a && b) ≡ false
not_all true b e = e
not_all false b e = refl

-- a client that is new says its Hello
module _ (L : Limits) (o : Origin L) (c i : ℕ) (lt : c < L.clients) where
  pub greets : (v : World) → Reached L o v → v.client c ≡ new_client
      → v.incarnation c ≡ i → (x : World) × Reached L o x × (x.server ≡ v.server)
      × (x.client c ≡ new_client) × (x.incarnation c ≡ i)
      × ((d : ℕ) → d ≢ c → (x.client d ≡ v.client d) × (x.incarnation d ≡ v.incarnation d))
      × Grows v x × IsIn (hello c i) x.packets
      × (transcript_operations x.transcript ≡ transcript_operations v.transcript)
  greets v r k n = (
    called_world L v c CallHello,
    calls_reach L o v c CallHello lt r,
    refl,
    at_itself v.client c (client_after L.keep_write (v.client c)
        (client_call L (v.client c) CallHello).steps)
        ∙ ap (λ (x : List ClientStep). client_after L.keep_write (v.client c) x)
        (hello_is L (v.client c)) ∙ k,
    n,
    λ d other. (
      at_others v.client c d
          (client_after L.keep_write (v.client c)
          (client_call L (v.client c) CallHello).steps) other,
      refl,
    ),
    λ m j. in_left m v.packets _ j,
    in_right (hello c i) v.packets _
        (subst (λ (x : List ClientStep). IsIn (hello c i)
        (messages_said c (v.incarnation c) (bodies_said x))) (sym (hello_is L (v.client c)))
        (inl (λ j. record { client = c; incarnation = n j; body = Hello }))),
    refl,
  )

module _ (L : Limits) (o : Origin L) (w : World) (c i : ℕ) (s new : ServerValue)
    (messages : List Message) (lt : c < L.clients) (there : c < s.limits.clients)
    (same : w.server ≡ server.server_of s) (arisen : IsServer s)
    (does : Does s (MessageComes c i Hello) messages new) where
  pub greeted : Renewed L o w c i w.server → Greeted L o w c i (server.server_of new) messages
  greeted renewed =
      let g = greets L o c i lt renewed.world renewed.reached renewed.client renewed.incarnation in
      let moved : ServerMoved L o g.0 (server.server_of new) messages =
      moved_by_message L o g.0 s new (hello c i) messages g.1 (g.2 ∙ renewed.server_is ∙ same)
      arisen g.7 refl there (not_all (i == ((server.server_of s).session c).current) false refl)
      does in record {
        renewed = record {
          world = moved.world;
          reached = moved.reached;
          server_is = moved.server;
          client = moved.client c ∙ g.3;
          incarnation = moved.incarnation c ∙ g.4;
          others = λ d n. let x = g.5 d n in let y = renewed.others d n in
              (moved.client d ∙ x.0 ∙ y.0, moved.incarnation d ∙ x.1 ∙ y.1);
          grows = λ m j. moved.grows m (g.6 m (renewed.grows m j));
          silent = moved.silent ∙ g.8 ∙ renewed.silent;
        };
        says = moved.says;
      }

  -- of all others the server keeps what it had
  pub keeps : (d : ℕ) → d ≢ c → ((server.server_of new).session d).current
      ≡ ((server.server_of s).session d).current
  keeps d n = (subst (λ (x : Server). KeepsClient (server.server_of s) x d) (sym does.becomes)
      ((others_keep_rows_and_permissions on_cycle (server.server_of s)).0 c i Hello d
      n)).incarnation

-- what was to be sent once a mailbox was emptied
pub emptied_from : (before : ℕ → List Frame) (c d : ℕ) (f : Frame) → IsIn f (emptied before c d)
    → IsIn f (before d)
emptied_from before c d f i = by (d == c) i
  where
    by : (b : Bool) → IsIn f (if b then [] else before d) → IsIn f (before d)
    by true j = absurd j
    by false j = j

-- a hand that was set, at another client
pub other_set : (a b : List (Option HandState)) (c d : ℕ) (x : Option HandState) → b
    ≡ slice_set a c x → d ≢ c → stored_at b d ≡ stored_at a d
other_set a b c d x e n = ap (λ (l : List (Option HandState)). stored_at l d) e
    ∙ get_or-set_other a c d x None n

-- a worker of a hand that has just joined is the world's client
pub fresh : (r : Program) (v : World) (c i pages : ℕ) (hand : HandState) (limits : Bounds) → limits
    ≡ limits_in r → hand.client ≡ c → hand.incarnation ≡ i → v.client c ≡ new_client
    → v.incarnation c ≡ i → IsHeld r.station.hands hand
    → IsWorldClient r v c (new_worker hand limits)
fresh r v c i pages hand limits same name number new at held = record {
  of = record {
    no = name;
    incarnation = number ∙ sym at;
    hand = name;
    hand_incarnation = number
        ∙ sym at;
  };
  limits = same;
  held = held;
  operations = [];
  shows = new ∙ sym (starts hand.client hand.incarnation limits);
  collected = λ f e. absurd (let z : None ≡ Some f = e in cc);
  said = λ f j. absurd j;
}

pub difference : (a i : ℕ) → a ≤ i → a + (i - a) ≡ i
difference a i l = omega (arith, l)
