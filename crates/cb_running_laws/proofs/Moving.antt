-- A client or the server of a world moves, as a worker's client or a station's server did.
use Rattle.std.proofs.Common.{◌≡◌, ◌≢◌, ◌<◌, ◌==◌, ◌&&◌, ℕ, Bool, true, false, List, [], ◌∷◌, Some}
use Rattle.std.proofs.Common.{refl, sym, ◌∙◌, ap, subst, arith, inl, inr}
use Rattle.std.proofs.lemmas.Bool.Decides.{nat_tests}
use Rattle.cb_client.specs.ByTable.{Takes, messages_from}
use Rattle.cb_client.specs.FramesTaken.{TakesFrame, is_for}
use Rattle.cb_client_core.specs.ClientState.{ClientState, client_of}
use Rattle.cb_frame.specs.declared.frame.Frame.{Frame}
use Rattle.cb_outbox.specs.Messages.{body_of, message_of}
use Rattle.cb_page.specs.Bounds.{Bounds}
use Rattle.cb_protocol.proofs.ClientSpeaks.{calls_speak, takes_speak}
use Rattle.cb_protocol.proofs.LifeImage.{in_left, in_right}
use Rattle.cb_protocol.proofs.LivePermissions.{AnyMessage}
use Rattle.cb_protocol.proofs.Machine.{ServerMaySend}
use Rattle.cb_protocol.proofs.OthersKeep.{others_keep_rows_and_permissions}
use Rattle.cb_protocol.proofs.ServerOrder.{ServerStepsMay}
use Rattle.cb_protocol.proofs.ServerTakes.{right_flushes, right_server_take}
use Rattle.cb_protocol.specs.Answers.{Flushed, Taken}
use Rattle.cb_protocol.specs.AnyMessages.{MessageComes, ReachesDisk}
use Rattle.cb_protocol.specs.Basics.{IsIn, Limits, update}
use Rattle.cb_protocol.specs.Client.{Client, bodies_said, client_after}
use Rattle.cb_protocol.specs.ClientCalls.{Call, client_call}
use Rattle.cb_protocol.specs.ClientMessages.{ChoiceAllowed, client_take}
use Rattle.cb_protocol.specs.Flush.{can_flush, server_flush}
use Rattle.cb_protocol.specs.Messages.{AbortNow, Body, Callback, Done, Downgrade, Granted, MayWrite}
use Rattle.cb_protocol.specs.Messages.{Message, Welcome, to_server}
use Rattle.cb_protocol.specs.Serial.{Operation}
use Rattle.cb_protocol.specs.Server.{Send, Server, ServerStep, after_server_step, server_after}
use Rattle.cb_protocol.specs.ServerMessages.{is_exhausted, server_take}
use Rattle.cb_protocol.specs.Session.{Session, Store}
use Rattle.cb_protocol.specs.StepsKeep.{KeepsClient}
use Rattle.cb_protocol.specs.StoreLimits.{limits_of}
use Rattle.cb_protocol.specs.Transcript.{transcript_operations}
use Rattle.cb_protocol.specs.WaitsFor.{on_cycle}
use Rattle.cb_protocol.specs.World.{FlushTo, TakePacket, World, client_does, messages_said}
use Rattle.cb_protocol.specs.World.{messages_sent, packet_at, server_does}
use Rattle.cb_server.specs.ServerValue.{IsServer, ServerValue, server_of}
use Rattle.cb_server.specs.Taking.{Does}
use Rattle.cb_station.proofs.Reached.{in_order}
use Rattle.cb_running_laws.proofs.Calling.{Called, at_itself, at_others, said_by, to_the_server}
use Rattle.cb_running_laws.proofs.Events.{Origin, Reached, called_world, calls_reach, flushed_reach}
use Rattle.cb_running_laws.proofs.Events.{number_of}
use Rattle.cb_running_laws.proofs.Events.{served_reach, took_reach}
use Rattle.cb_running_laws.proofs.Standing.{Grows}
use Rattle.cb_running_laws.specs.Programs.{Program, limits_in}
use Rattle.cb_running_laws.specs.Worlds.{IsSentTo, IsWorldClient}
use Rattle.cb_worker.specs.Workers.{WorkerState}

-- The world's client moved alone: it shows the new one, and says these messages.
pub record ClientMoved (L : Limits) (o : Origin L) (w : World) (c : ℕ) (new : ClientState)
    (messages : List Message) : Type 0 where
  pub world : World
  pub reached : Reached L o world
  pub server : world.server ≡ w.server
  pub incarnation : (d : ℕ) → world.incarnation d ≡ w.incarnation d
  pub others : (d : ℕ) → d ≢ c → world.client d ≡ w.client d
  pub grows : Grows w world
  pub operations : List Operation
  pub shows : world.client c ≡ client_of new operations
  pub says : (m : Message) → IsIn m messages → IsIn m world.packets × (to_server m.body ≡ true)
      × (m.client ≡ c)
  pub silent : transcript_operations world.transcript ≡ transcript_operations w.transcript

-- The world's server moved alone, and says these messages.
pub record ServerMoved (L : Limits) (o : Origin L) (w : World) (new : Server)
    (messages : List Message) : Type 0 where
  pub world : World
  pub reached : Reached L o world
  pub server : world.server ≡ new
  pub incarnation : (d : ℕ) → world.incarnation d ≡ w.incarnation d
  pub client : (d : ℕ) → world.client d ≡ w.client d
  pub grows : Grows w world
  pub says : (m : Message) → IsIn m messages → IsIn m world.packets × (to_server m.body ≡ false)
  pub silent : transcript_operations world.transcript ≡ transcript_operations w.transcript

-- by a call
pub moved_by_call : (L : Limits) (o : Origin L) (w : World) (c : ℕ) (call : Call)
    (new : ClientState)
    (messages : List Message) → c < L.clients → Reached L o w → Called L w c call new messages
    → transcript_operations (called_world L w c call).transcript
    ≡ transcript_operations w.transcript → ClientMoved L o w c new messages
moved_by_call L o w c call new messages lt r called silent = record {
  silent = silent;
  world = called_world L w c call;
  reached = calls_reach L o w c call lt r;
  server = refl;
  incarnation = λ d. refl;
  others = λ d n. at_others w.client c d
      (client_after L.keep_write (w.client c) (client_call L (w.client c) call).steps) n;
  grows = λ m i. in_left m w.packets _ i;
  operations = called.operations;
  shows = at_itself w.client c (client_after L.keep_write (w.client c)
      (client_call L (w.client c) call).steps) ∙ called.shows;
  says = λ m i. let j : IsIn m (messages_said c (w.incarnation c)
      (bodies_said (client_call L (w.client c) call).steps)) =
      subst (λ (l : List Message). IsIn m l) (sym called.says) i in
      let x = to_the_server c (w.incarnation c) (client_call L (w.client c) call).steps m
      (calls_speak L (w.client c) call) j in (in_right m w.packets _ j, x.0, x.1);
}

-- by nothing
pub moved_not : (L : Limits) (o : Origin L) (w : World) (c : ℕ) (new : ClientState)
    (operations : List Operation) → Reached L o w → w.client c ≡ client_of new operations
    → ClientMoved L o w c new []
moved_not L o w c new operations r e = record {
  world = w;
  reached = r;
  server = refl;
  incarnation = λ d. refl;
  others = λ d n. refl;
  grows = λ m i. i;
  operations = operations;
  shows = e;
  silent = refl;
  says = λ m i. absurd i;
}

both : (a b : Bool) → (a && b) ≡ true → (a ≡ true) × (b ≡ true)
both true b e = (refl, e)
both false b e = absurd (let z : false ≡ true = e in cc)

-- by a frame that it takes, or ignores
module _ (limits : Bounds) (o : Origin (limits_of limits)) (r : Program) (w : World) (c : ℕ)
    (k : WorkerState)
    (f : Frame) (messages : List Message) (new : ClientState)
    (reached : Reached (limits_of limits) o w) (same : limits_in r ≡ limits)
    (is : IsWorldClient r w c k) (way : IsSentTo w c f) (takes : TakesFrame k.client f messages new)
  where
    abbrev L : Limits
    L = limits_of limits

    l : k.client.copies.limits ≡ limits
    l = is.limits ∙ same

    own : is_for k.client f ≡ true → ClientMoved L o w c new messages
    own e =
        let parts = both (f.client == k.client.no) (f.incarnation == k.client.incarnation) e in
        let here : f.client ≡ c = equal_of f.client k.client.no parts.0 ∙ is.of.no in
        let now : f.incarnation ≡ w.incarnation f.client =
        equal_of f.incarnation k.client.incarnation parts.1 ∙ is.of.incarnation
        ∙ ap w.incarnation (sym here) in
        let t : Takes k.client (body_of f.body) messages new = takes.own e in
        let at = number_of (message_of f) w.packets way.0 in
        let shows : w.client f.client ≡ client_of k.client is.operations = ap w.client here
        ∙ is.shows
        in
        let allowed : ChoiceAllowed L (w.client f.client) (body_of f.body) t.let_go =
        subst (λ (x : Client). ChoiceAllowed L x (body_of f.body) t.let_go) (sym shows)
        (subst (λ (b : Bounds). ChoiceAllowed (limits_of b) (client_of k.client is.operations)
        (body_of f.body) t.let_go) l (t.allowed is.operations)) in
        let after : client_after limits.keep_write (w.client f.client)
        (client_take L (w.client f.client) (body_of f.body) t.let_go)
        ≡ client_of new (t.history is.operations)
        = (λ i. client_after (sym l i).keep_write (shows i)
        (client_take (limits_of (sym l i)) (shows i) (body_of f.body) t.let_go))
        ∙ t.makes.after is.operations in
        let says : messages_said f.client (w.incarnation f.client)
        (bodies_said (client_take L (w.client f.client) (body_of f.body) t.let_go)) ≡ messages
        = said_by f.client (w.incarnation f.client) k.client
        (bodies_said (client_take L (w.client f.client) (body_of f.body) t.let_go))
        (is.of.no ∙ sym here) (is.of.incarnation ∙ ap w.incarnation (sym here))
        ∙ ((λ i. messages_from k.client
        (bodies_said (client_take (limits_of (sym l i)) (shows i) (body_of f.body) t.let_go)))
        ∙ t.makes.said is.operations) in
        record {
          world = (client_does L w (TakePacket at.0) f.client Taken
              (client_take L (w.client f.client) (body_of f.body) t.let_go)).world;
          reached = took_reach L o w (message_of f) at.0 at.1 reached t.let_go way.1 now allowed;
          silent = refl;
          server = refl;
          incarnation = λ d. refl;
          others = λ d n. at_others w.client f.client d
              (client_after limits.keep_write (w.client f.client)
              (client_take L (w.client f.client) (body_of f.body) t.let_go)) (λ z. n (z ∙ here));
          grows = λ m i. in_left m w.packets _ i;
          operations = t.history is.operations;
          shows = ap (update w.client f.client
              (client_after limits.keep_write (w.client f.client)
              (client_take L (w.client f.client) (body_of f.body) t.let_go))) (sym here)
              ∙ at_itself w.client f.client (client_after limits.keep_write (w.client f.client)
              (client_take L (w.client f.client) (body_of f.body) t.let_go)) ∙ after;
          says = λ m i. let j : IsIn m (messages_said f.client (w.incarnation f.client)
              (bodies_said (client_take L (w.client f.client) (body_of f.body) t.let_go))) =
              subst (λ (x : List Message). IsIn m x) (sym says) i in
              let x = to_the_server f.client (w.incarnation f.client)
              (client_take L (w.client f.client) (body_of f.body) t.let_go) m
              (takes_speak L (w.client f.client) (body_of f.body) t.let_go) j in
              (in_right m w.packets _ j, x.0, x.1 ∙ here);
        }
      where
        equal_of : (a b : ℕ) → (a == b) ≡ true → a ≡ b
        equal_of a b e = grind (arith, nat_tests)

    other : is_for k.client f ≡ false → ClientMoved L o w c new messages
    other e = subst (λ (m : List Message). ClientMoved L o w c new m) (sym (takes.ignored e))
        (moved_not L o w c new is.operations reached
        (is.shows ∙ ap (λ (x : ClientState). client_of x is.operations) (sym (takes.unchanged e))))

    pub moved_by_frame : ClientMoved L o w c new messages
    moved_by_frame = go (is_for k.client f) refl
      where
        go : (b : Bool) → is_for k.client f ≡ b → ClientMoved (limits_of limits) o w c new messages
        go true e = own e
        go false e = other e

-- what the server says goes to clients
may_to_client : (s : Store) (c : ℕ) (t : Session) (i : ℕ) (y : Body) → ServerMaySend s c t i y
    → to_server y ≡ false
may_to_client s c t i Welcome a = refl
may_to_client s c t i (Granted p g n b) a = refl
may_to_client s c t i (MayWrite x p g) a = refl
may_to_client s c t i (Callback p g) a = refl
may_to_client s c t i (Done x n) a = refl
may_to_client s c t i (AbortNow x) a = refl
may_to_client s c t i (Downgrade p g x) a = refl
may_to_client s c t i _ a = absurd a

to_clients : (s : Server) (ds : List ServerStep) (m : Message) → ServerStepsMay AnyMessage s ds
    → IsIn m (messages_sent ds) → to_server m.body ≡ false
to_clients s [] m a i = absurd i
to_clients s (Send c j b ∷ ds) m a i = elim i [
  | inl e ↦ subst (λ (x : Message). to_server x.body ≡ false) e
      (may_to_client s.store c (s.session c) j b a.0.1)
  | inr k ↦ to_clients s ds m a.1 k
]
to_clients s (d ∷ ds) m a i = to_clients (after_server_step s d) ds m a.1 i

-- by a message that a client said
module _ (L : Limits) (o : Origin L) (w : World) (s new : ServerValue) (m : Message)
    (messages : List Message) (reached : Reached L o w) (same : w.server ≡ server_of s)
    (arisen : IsServer s)
    (there : IsIn m w.packets) (to : to_server m.body ≡ true) (lt : m.client < s.limits.clients)
    (left : is_exhausted (server_of s) m.client m.incarnation m.body ≡ false)
    (does : Does s (MessageComes m.client m.incarnation m.body) messages new) where
  pub moved_by_message : ServerMoved L o w (server_of new) messages
  moved_by_message = record {
    world = (server_does w (TakePacket at.0) Taken
        (server_take on_cycle w.server m.client m.incarnation m.body)).world;
    reached = served_reach L o w m at.0 at.1 reached to
        (ap (λ (x : Server). is_exhausted x m.client m.incarnation m.body) same ∙ left);
    server = ap (λ (x : Server). server_after x
        (server_take on_cycle x m.client m.incarnation m.body)) same ∙ sym does.becomes;
    incarnation = λ d. refl;
    client = λ d. refl;
    silent = refl;
    grows = λ x i. in_left x w.packets _ i;
    says = λ x i. let j : IsIn x (messages_sent
        (server_take on_cycle (server_of s) m.client m.incarnation m.body)) =
        subst (λ (l : List Message). IsIn x l) does.sends i in (
          in_right x w.packets _ (subst (λ (y : Server). IsIn x
              (messages_sent (server_take on_cycle y m.client m.incarnation m.body))) (sym same) j),
          to_clients (server_of s) (server_take on_cycle (server_of s) m.client m.incarnation
              m.body) x
              (right_server_take AnyMessage on_cycle (server_of s) m.client m.incarnation m.body
              (in_order s arisen) (subst (λ (n : ℕ). m.client < n) (sym arisen.of.clients) lt) tt).0
              j,
        );
  }
    where
      at : (n : ℕ) × (packet_at w.packets n ≡ Some m)
      at = number_of m w.packets there

  pub others_keep : (d : ℕ) → d ≢ m.client → KeepsClient (server_of s) (server_of new) d
  others_keep d n = subst (λ (x : Server). KeepsClient (server_of s) x d) (sym does.becomes)
      ((others_keep_rows_and_permissions on_cycle (server_of s)).0 m.client m.incarnation m.body d
      n)

-- by commits that reach the disk
module _ (L : Limits) (o : Origin L) (w : World) (s new : ServerValue) (number : ℕ)
    (messages : List Message) (reached : Reached L o w) (same : w.server ≡ server_of s)
    (arisen : IsServer s)
    (can : can_flush (server_of s) number ≡ true) (does : Does s (ReachesDisk number) messages new)
  where
    pub moved_by_disk : ServerMoved L o w (server_of new) messages
    moved_by_disk = record {
      world = (server_does w (FlushTo number) (Flushed number)
          (server_flush w.server number)).world;
      reached = flushed_reach L o w number (ap (λ (x : Server). can_flush x number) same ∙ can)
          reached;
      server = ap (λ (x : Server). server_after x (server_flush x number)) same ∙ sym does.becomes;
      incarnation = λ d. refl;
      client = λ d. refl;
      silent = refl;
      grows = λ x i. in_left x w.packets _ i;
      says = λ x i. let j : IsIn x (messages_sent (server_flush (server_of s) number)) =
          subst (λ (l : List Message). IsIn x l) does.sends i in (
            in_right x w.packets _ (subst (λ (y : Server). IsIn x
                (messages_sent (server_flush y number)))
                (sym same) j),
            to_clients (server_of s) (server_flush (server_of s) number) x
                (right_flushes AnyMessage (server_of s) number (in_order s arisen)).0 j,
          );
    }

    pub all_keep : (d : ℕ) → KeepsClient (server_of s) (server_of new) d
    all_keep d = subst (λ (x : Server). KeepsClient (server_of s) x d) (sym does.becomes)
        ((others_keep_rows_and_permissions on_cycle (server_of s)).2 number d)
