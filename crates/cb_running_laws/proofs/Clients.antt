-- A client process is called, or takes a frame: so does the world's client.
use Rattle.std.proofs.Common.{◌≡◌, ◌≢◌, ◌<◌, ◌==◌, ◌&&◌, ℕ, Bool, true, false, List}
use Rattle.std.proofs.Common.{refl, sym, ◌∙◌, ap, subst, arith}
use Rattle.std.proofs.lemmas.Bool.Decides.{nat_tests}
use Rattle.cb_client.specs.ByTable.{Calls, Takes, messages_from}
use Rattle.cb_client.specs.FramesTaken.{TakesFrame, is_for}
use Rattle.cb_client_core.specs.ClientState.{ClientState, client_of}
use Rattle.cb_frame.specs.declared.frame.Frame.{Frame}
use Rattle.cb_outbox.specs.Messages.{body_of, message_of}
use Rattle.cb_page.specs.Bounds.{Bounds}
use Rattle.cb_protocol.proofs.LifeImage.{in_left, in_right}
use Rattle.cb_protocol.specs.Answers.{AnswerWord, Taken}
use Rattle.cb_protocol.specs.Basics.{IsIn, Limits, update}
use Rattle.cb_protocol.specs.Client.{Client, bodies_said, client_after}
use Rattle.cb_protocol.specs.ClientCalls.{Call, client_call}
use Rattle.cb_protocol.specs.ClientMessages.{ChoiceAllowed, client_take}
use Rattle.cb_protocol.specs.Headline.{SoundOpening}
use Rattle.cb_protocol.specs.Messages.{Message, to_server}
use Rattle.cb_protocol.specs.Serial.{Operation, PerformedOperation}
use Rattle.cb_protocol.specs.StoreLimits.{limits_of}
use Rattle.cb_protocol.specs.Transcript.{call_operation, transcript_operations}
use Rattle.cb_protocol.specs.World.{TakePacket, World, client_does, messages_said}
use Rattle.cb_running_laws.specs.ProcessWorlds.{IsWorldClient}
use Rattle.cb_running_laws.proofs.Calling.{at_itself, at_others, counted, performs_so, said_by}
use Rattle.cb_running_laws.proofs.Events.{Origin, Reached, called_world, calls_reach, number_of}
use Rattle.cb_running_laws.proofs.Events.{took_reach}
use Rattle.cb_running_laws.proofs.Standing.{Grows}
use Rattle.cb_running_laws.specs.Steps.{performs}

-- The world's client moved alone, as that process did, and said these messages; the transcript's
-- operations are these now.
pub record Moved (limits : Bounds) (o : Origin (limits_of limits)) (w : World) (c : ℕ)
    (next : ClientState) (messages : List Message) (performed : List PerformedOperation)
    : Type 0 where
  pub world : World
  pub reached : Reached (limits_of limits) o world
  pub server : world.server ≡ w.server
  pub incarnation : (d : ℕ) → world.incarnation d ≡ w.incarnation d
  pub others : (d : ℕ) → d ≢ c → world.client d ≡ w.client d
  pub grows : Grows w world
  pub own : IsWorldClient limits world c next
  pub says : (m : Message) → IsIn m messages → IsIn m world.packets
  pub performs : transcript_operations world.transcript ≡ performed

-- ---- it is called

module _ (limits : Bounds) (o : Origin (limits_of limits)) (w : World) (c : ℕ) (lt : c < limits.clients)
    (reached : Reached (limits_of limits) o w) (sound : SoundOpening o.opening)
    (state : ClientState) (is : IsWorldClient limits w c state) (call : Call) (word : AnswerWord)
    (messages : List Message) (history : List Operation → List Operation) (next : ClientState)
    (calls : Calls state call word messages history next) where
  abbrev L : Limits
  L = limits_of limits

  abbrev v : World
  v = called_world (limits_of limits) w c call

  becomes : client_after L.keep_write (w.client c) (client_call L (w.client c) call).steps
      ≡ client_of next (history is.operations)
  becomes = (λ i. client_after (sym is.limits i).keep_write (is.shows i)
      (client_call (limits_of (sym is.limits i)) (is.shows i) call).steps)
      ∙ calls.makes.after is.operations

  says : messages_said c (w.incarnation c) (bodies_said (client_call L (w.client c) call).steps)
      ≡ messages
  says = said_by c (w.incarnation c) state
      (bodies_said (client_call (limits_of limits) (w.client c) call).steps) is.no is.incarnation
      ∙ ((λ i. messages_from state
      (bodies_said (client_call (limits_of (sym is.limits i)) (is.shows i) call).steps))
      ∙ calls.makes.said is.operations)

  answers : (client_call L (w.client c) call).word ≡ word
  answers = (λ i. (client_call (limits_of (sym is.limits i)) (is.shows i) call).word)
      ∙ calls.word is.operations

  -- the transcript's operations
  operations : transcript_operations v.transcript
      ≡ performs state call word (transcript_operations w.transcript)
  operations =
      let at = counted L o w sound reached c in
      ap (λ (x : AnswerWord). call_operation w.transcript c call x
      (transcript_operations w.transcript)) answers
      ∙ performs_so w.transcript c state call word (transcript_operations w.transcript) is.no
      (at.0 ∙ sym is.incarnation) (at.1 ∙ ap (λ (x : Client). x.cache.number) is.shows)

  pub moved_by_call : Moved limits o w c next messages
      (performs state call word (transcript_operations w.transcript))
  moved_by_call = record {
    world = v;
    reached = calls_reach L o w c call lt reached;
    server = refl;
    incarnation = λ d. refl;
    others = λ d n. at_others w.client c d
        (client_after L.keep_write (w.client c) (client_call L (w.client c) call).steps) n;
    grows = λ m i. in_left m w.packets _ i;
    own = record {
      no = calls.makes.no ∙ is.no;
      incarnation = calls.makes.incarnation ∙ is.incarnation;
      limits = calls.makes.limits ∙ is.limits;
      operations = history is.operations;
      shows = at_itself w.client c (client_after L.keep_write (w.client c)
          (client_call L (w.client c) call).steps) ∙ becomes;
    };
    says = λ m i. in_right m w.packets _ (subst (λ (l : List Message). IsIn m l) (sym says) i);
    performs = operations;
  }

-- ---- it takes a frame

both : (a b : Bool) → (a && b) ≡ true → (a ≡ true) × (b ≡ true)
both true b e = (refl, e)
both false b e = absurd (let z : false ≡ true = e in cc)

equal_of : (a b : ℕ) → (a == b) ≡ true → a ≡ b
equal_of a b e = grind (arith, nat_tests)

module _ (limits : Bounds) (o : Origin (limits_of limits)) (w : World) (c : ℕ)
    (reached : Reached (limits_of limits) o w) (state : ClientState)
    (is : IsWorldClient limits w c state) (f : Frame) (messages : List Message) (next : ClientState)
    (sent : IsIn (message_of f) w.packets) (back : to_server (body_of f.body) ≡ false)
    (takes : TakesFrame state f messages next) where
  -- one that is for it
  own : is_for state f ≡ true → f.client ≡ c
      → Moved limits o w c next messages (transcript_operations w.transcript)
  own e here =
      let parts = both (f.client == state.no) (f.incarnation == state.incarnation) e in
      let now : f.incarnation ≡ w.incarnation f.client =
      equal_of f.incarnation state.incarnation parts.1 ∙ is.incarnation
      ∙ ap w.incarnation (sym here) in
      let t : Takes state (body_of f.body) messages next = takes.own e in
      let at = number_of (message_of f) w.packets sent in
      let shows : w.client f.client ≡ client_of state is.operations = ap w.client here ∙ is.shows in
      let allowed : ChoiceAllowed (limits_of limits) (w.client f.client) (body_of f.body) t.let_go =
      subst (λ (x : Client). ChoiceAllowed (limits_of limits) x (body_of f.body) t.let_go) (sym shows)
      (subst (λ (b : Bounds). ChoiceAllowed (limits_of b) (client_of state is.operations)
      (body_of f.body) t.let_go) is.limits (t.allowed is.operations)) in
      let after : client_after limits.keep_write (w.client f.client)
      (client_take (limits_of limits) (w.client f.client) (body_of f.body) t.let_go)
      ≡ client_of next (t.history is.operations)
      = (λ i. client_after (sym is.limits i).keep_write (shows i)
      (client_take (limits_of (sym is.limits i)) (shows i) (body_of f.body) t.let_go))
      ∙ t.makes.after is.operations in
      let says : messages_said f.client (w.incarnation f.client)
      (bodies_said (client_take (limits_of limits) (w.client f.client) (body_of f.body) t.let_go)) ≡ messages
      = said_by f.client (w.incarnation f.client) state
      (bodies_said (client_take (limits_of limits) (w.client f.client) (body_of f.body) t.let_go))
      (is.no ∙ sym here) (is.incarnation ∙ ap w.incarnation (sym here))
      ∙ ((λ i. messages_from state
      (bodies_said (client_take (limits_of (sym is.limits i)) (shows i) (body_of f.body) t.let_go)))
      ∙ t.makes.said is.operations) in
      record {
        world = (client_does (limits_of limits) w (TakePacket at.0) f.client Taken
            (client_take (limits_of limits) (w.client f.client) (body_of f.body) t.let_go)).world;
        reached = took_reach (limits_of limits) o w (message_of f) at.0 at.1 reached t.let_go back now allowed;
        server = refl;
        incarnation = λ d. refl;
        others = λ d n. at_others w.client f.client d
            (client_after limits.keep_write (w.client f.client)
            (client_take (limits_of limits) (w.client f.client) (body_of f.body) t.let_go)) (λ z. n (z ∙ here));
        grows = λ m i. in_left m w.packets _ i;
        own = record {
          no = t.makes.no ∙ is.no;
          incarnation = t.makes.incarnation ∙ is.incarnation;
          limits = t.makes.limits ∙ is.limits;
          operations = t.history is.operations;
          shows = ap (update w.client f.client
              (client_after limits.keep_write (w.client f.client)
              (client_take (limits_of limits) (w.client f.client) (body_of f.body) t.let_go))) (sym here)
              ∙ at_itself w.client f.client (client_after limits.keep_write (w.client f.client)
              (client_take (limits_of limits) (w.client f.client) (body_of f.body) t.let_go)) ∙ after;
        };
        says = λ m i. in_right m w.packets _
            (subst (λ (l : List Message). IsIn m l) (sym says) i);
        performs = refl;
      }

  -- another
  other : is_for state f ≡ false
      → Moved limits o w c next messages (transcript_operations w.transcript)
  other e = record {
    world = w;
    reached = reached;
    server = refl;
    incarnation = λ d. refl;
    others = λ d n. refl;
    grows = λ m i. i;
    own = subst (λ (x : ClientState). IsWorldClient limits w c x) (sym (takes.unchanged e)) is;
    says = λ m i. absurd (subst (λ (l : List Message). IsIn m l) (takes.ignored e) i);
    performs = refl;
  }

  pub moved_by_frame : Moved limits o w c next messages (transcript_operations w.transcript)
  moved_by_frame = go (is_for state f) refl
    where
      go : (b : Bool) → is_for state f ≡ b
          → Moved limits o w c next messages (transcript_operations w.transcript)
      go true e = own e (equal_of f.client state.no
          (both (f.client == state.no) (f.incarnation == state.incarnation) e).0 ∙ is.no)
      go false e = other e
