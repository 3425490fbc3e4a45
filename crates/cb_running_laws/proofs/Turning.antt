-- A worker's turn: the world's server takes a frame, or its client does.
use Rattle.std.proofs.Common.{◌≡◌, ◌≢◌, ◌<◌, ◌++◌, ◌==◌, ◌&&◌, ℕ, Bool, true, false, cond}
use Rattle.std.proofs.Common.{if◌then◌else◌, List, [], ◌∷◌, drop, filter, Option, Some, None}
use Rattle.std.proofs.Common.{Result, Ok, Err, refl, sym, ◌∙◌, ap, subst, arith, inl, inr, ◌⊎◌}
use Rattle.std.proofs.Common.{slice_get}
use Rattle.std.specs.Prelude.{⊤}
use Rattle.std.proofs.lemmas.Bool.{cases_eq}
use Rattle.std.proofs.lemmas.Bool.Decides.{nat_tests}
use Rattle.cb_client.specs.FramesTaken.{TakesFrame}
use Rattle.cb_client_core.specs.ClientState.{ClientState, client_of}
use Rattle.cb_frame.specs.declared.frame.Frame.{Frame}
use Rattle.cb_hands.specs.Hands.{HandState}
use Rattle.cb_hands.specs.Joined.{Follow, IsHeld, stored_at}
use Rattle.cb_mailboxes.specs.Dispatching as dispatching
use Rattle.cb_mailboxes.specs.Dispatching.{Everybody, Posts, without_oldest}
use Rattle.cb_mailboxes.specs.Mailboxes.{addressed, current_in, is_for}
use Rattle.cb_outbox.specs.Messages.{message_of, messages_of}
use Rattle.cb_page.specs.Bounds.{Bounds}
use Rattle.cb_protocol.proofs.LifeImage.{in_append}
use Rattle.cb_protocol.specs.Basics.{IsIn}
use Rattle.cb_protocol.specs.Messages.{Message}
use Rattle.cb_protocol.specs.Serial.{Operation}
use Rattle.cb_protocol.specs.Server.{Server}
use Rattle.cb_protocol.specs.StoreLimits.{limits_of}
use Rattle.cb_protocol.specs.Transcript.{transcript_operations}
use Rattle.cb_protocol.specs.World.{World}
use Rattle.cb_server.specs.ServerValue as server
use Rattle.cb_server.specs.ServerValue.{ServerValue}
use Rattle.cb_server.specs.Taking.{input_of, lacks_number_for}
use Rattle.cb_protocol.specs.StepsKeep.{KeepsClient}
use Rattle.cb_station.specs.Moves.{is_stray}
use Rattle.cb_station.specs.Stations.{IsUnchanged, StationState, mailbox_of, server_of}
use Rattle.cb_station.specs.declared.office_fault.OfficeFault.{OfficeFault}
use Rattle.cb_running_laws.proofs.Calling.{in_messages}
use Rattle.cb_running_laws.proofs.Events.{Origin, Reached}
use Rattle.cb_running_laws.proofs.Moving.{ClientMoved, ServerMoved, moved_by_frame}
use Rattle.cb_running_laws.proofs.Moving.{moved_by_message, moved_not, others_keep}
use Rattle.cb_running_laws.proofs.Standing.{Grows, Kept, is_there_by, no_worker, others_hand}
use Rattle.cb_running_laws.proofs.Standing.{stands_but, the_worker}
use Rattle.cb_running_laws.specs.Programs.{IsSound, Program, limits_in}
use Rattle.cb_running_laws.specs.Steps.{Becomes, IsSilent}
use Rattle.cb_running_laws.specs.Steps as steps
use Rattle.cb_running_laws.specs.Worlds.{IsSaidBy, IsSentTo, IsWorldClient}
use Rattle.cb_worker.proofs.Staying.{IsSameOne, stays_so, turned_same}
use Rattle.cb_station.specs.Calls.{Collected, Took}
use Rattle.cb_worker.specs.Turns.{AfterCollecting, TakesCollected, TurnsBy, without_first}
use Rattle.cb_worker.specs.Workers.{IsOf, WorkerState}
use Rattle.cb_worker.specs.declared.worker_fault.WorkerFault.{WorkerFault}
use Rattle.cb_worker.specs.declared.worker_fault.WorkerFault.TheVariants as worker

in_filter : {A : Type 0} (p : A → Bool) (x : A) (xs : List A) → IsIn x (filter p xs) → IsIn x xs
    × (p x ≡ true)
in_filter p x [] i = absurd i
in_filter p x (y ∷ xs) i = by (λ j. in_filter p x xs j) (p y) refl i
  where
    by : (IsIn x (filter p xs) → IsIn x xs × (p x ≡ true)) → (b : Bool) → p y ≡ b
        → IsIn x (cond b (y ∷ filter p xs) (filter p xs)) → IsIn x (y ∷ xs) × (p x ≡ true)
    by rest true e (inl f) = (inl f, sym (ap p f) ∙ e)
    by rest true e (inr j) = let r = rest j in (inr r.0, r.1)
    by rest false e j = let r = rest j in (inr r.0, r.1)

for_client : (current : ℕ → ℕ) (client : ℕ) (frame : Frame) → is_for current client frame ≡ true
    → frame.client ≡ client
for_client current client frame e = go (frame.client == client) refl e
  where
    go : (b : Bool) → (frame.client == client) ≡ b → (b && (frame.incarnation == current client))
        ≡ true → frame.client ≡ client
    go true f g = grind (arith, nat_tests)
    go false f g = absurd (let z : false ≡ true = g in cc)

in_dropped : {A : Type 0} (x : A) (xs : List A) → IsIn x (drop 1 xs) → IsIn x xs
in_dropped x [] i = absurd i
in_dropped x (y ∷ xs) i = inr i

pub in_first : (frames : List Frame) (frame : Frame) → Some frame ≡ slice_get frames 0
    → IsIn frame frames
in_first [] frame e = absurd (let z : Some frame ≡ None = e in cc)
in_first (first ∷ frames) frame e = inl (let z : Some frame ≡ Some first = e in cc)

-- what is to be sent after a step was to be sent before, or is said by it
pub posted_from : (before : ℕ → List Frame) (current : ℕ → ℕ) (said : List Frame) (box : List Frame)
    (d : ℕ) (f : Frame) → box ≡ before d ++ addressed current d said → IsIn f box
    → IsIn f (before d) ⊎ (IsIn f said × (f.client ≡ d))
posted_from before current said box d f e i =
    elim (in_append f (before d) (addressed current d said)
    (subst (λ (l : List Frame). IsIn f l) e i)) [
      | inl j ↦ inl j
      | inr j ↦ (let k = in_filter (is_for current d) f said j in
          inr (k.0, for_client current d f k.1))
    ]

pub collected_from : (before : ℕ → List Frame) (c d : ℕ) (f : Frame)
    → IsIn f (without_oldest before c d) → IsIn f (before d)
collected_from before c d f i = by (cases_eq d c)
  where
    by : (d ≡ c) ⊎ (d ≢ c) → IsIn f (before d)
    by (inl e) = subst (λ (k : ℕ). IsIn f (before k)) (sym e)
        (in_dropped f (before c) (let g : (d == c) ≡ true = grind (arith, nat_tests) in
        subst (λ (b : Bool). IsIn f (if b then drop 1 (before c) else before d)) g i))
    by (inr n) = let g : (d == c) ≡ false = grind (arith, nat_tests) in
        subst (λ (b : Bool). IsIn f (if b then drop 1 (before c) else before d)) g i

-- Another world is reached that stands for what a call of one worker left.
pub record Arrives (limits : Bounds) (origin : Origin (limits_of limits)) (old new : Program)
    (w : World) (c : ℕ)
    (next : WorkerState) : Type 0 where
  pub limits_stay : limits_in new ≡ limits_in old
  pub held : IsHeld new.station.hands next.hand
  pub hands : (d : ℕ) → d ≢ c → stored_at new.station.hands d ≡ stored_at old.station.hands d
  pub world : World
  pub reached : Reached (limits_of limits) origin world
  pub server : world.server ≡ server_of new.station
  pub current : (d : ℕ) → d ≢ c → (world.server.session d).current ≡ (w.server.session d).current
  pub incarnation : (d : ℕ) → world.incarnation d ≡ w.incarnation d
  pub others : (d : ℕ) → d ≢ c → world.client d ≡ w.client d
  pub grows : Grows w world
  pub operations : List Operation
  pub shows : world.client c ≡ client_of next.client operations
  pub collected : (f : Frame) → next.collected ≡ Some f → IsSentTo world c f
  pub said : (f : Frame) → IsIn f next.said → IsSaidBy world c f
  pub mailbox : (d : ℕ) (f : Frame) → IsIn f (mailbox_of new.station d) → IsSentTo world d f
  pub silent : transcript_operations world.transcript ≡ transcript_operations w.transcript

pub arrives_kept : (limits : Bounds) (origin : Origin (limits_of limits)) (old new : Program)
    (c : ℕ)
    (k next : WorkerState) (kept : Kept limits origin old) → Becomes old c k next new
    → IsSameOne k next → IsSound new → IsSilent old new
    → Arrives limits origin old new kept.world c next → Kept limits origin new
arrives_kept limits origin old new c k next kept becomes still sound silent a = record {
  limits_are = a.limits_stay ∙ kept.limits_are;
  sound = sound;
  world = a.world;
  reached = a.reached;
  opened = kept.opened;
  performed = a.silent ∙ kept.performed ∙ sym silent;
  stands = stands_but old new kept.world a.world a.grows a.limits_stay c kept.stands a.server
      (λ d n. record {
        incarnation = a.incarnation d;
        client = a.others d n;
        hands =
            a.hands d n;
        worker = becomes.others d n;
        current = a.current d n;
      })
      (λ x e. subst (λ (y : WorkerState). IsWorldClient new a.world c y)
      (the_worker new c next x becomes.becomes e) own)
      (λ e. absurd (no_worker new c next becomes.becomes e)) a.mailbox;
}
  where
    was : IsWorldClient old kept.world c k
    was = kept.stands.worker c k becomes.was

    own : IsWorldClient new a.world c next
    own = record {
      of = subst (λ (i : ℕ). IsOf next c i) (sym (a.incarnation c))
          (stays_so k next c (kept.world.incarnation c) was.of still);
      limits = still.limits ∙ was.limits ∙ sym a.limits_stay;
      held = a.held;
      operations = a.operations;
      shows = a.shows;
      collected = a.collected;
      said = a.said;
    }

-- The station's server stays, and nothing comes into a mailbox.
pub record ServerStays (old new : StationState) (c : ℕ) (next : HandState) : Type 0 where
  pub server : server_of new ≡ server_of old
  pub limits : new.dispatcher.server.limits ≡ old.dispatcher.server.limits
  pub mailbox : (d : ℕ) (f : Frame) → IsIn f (mailbox_of new d) → IsIn f (mailbox_of old d)
  pub hands : (d : ℕ) → d ≢ c → stored_at new.hands d ≡ stored_at old.hands d
  pub held : IsHeld new.hands next

pub unchanged_stays : (old new : StationState) (c : ℕ) (hand next : HandState) → IsUnchanged old new
    → IsHeld old.hands hand → next ≡ hand → ServerStays old new c next
unchanged_stays old new c hand next same held e = record {
  server = same.dispatcher.server.server;
  limits = same.dispatcher.server.limits;
  mailbox = λ d f i. subst (λ (l : List Frame). IsIn f l) (same.dispatcher.mailbox d) i;
  hands = λ d n. ap (λ (l : List (Option HandState)). stored_at l d) same.hands;
  held = subst (λ (l : List (Option HandState)). IsHeld l next) (sym same.hands)
      (subst (λ (h : HandState). IsHeld old.hands h) (sym e) held);
}

pub same_stays : (old new : StationState) (c : ℕ) (hand next : HandState) → new ≡ old
    → IsHeld old.hands hand → next ≡ hand → ServerStays old new c next
same_stays old new c hand next same held e = record {
  server = ap server_of same;
  limits = ap (λ (s : StationState). s.dispatcher.server.limits) same;
  mailbox = λ d f i. subst (λ (s : StationState). IsIn f (mailbox_of s d)) same i;
  hands = λ d n. ap (λ (s : StationState). stored_at s.hands d) same;
  held = subst (λ (s : StationState). IsHeld s.hands next) (sym same)
      (subst (λ (h : HandState). IsHeld old.hands h) (sym e) held);
}

-- each message is of one of the frames
frames_say : (P : Message → Type 0) (fs : List Frame) (ms : List Message) → messages_of fs ≡ ms
    → ((m : Message) → IsIn m ms → P m) → (f : Frame) → IsIn f fs → P (message_of f)
frames_say P fs ms e all f i = all (message_of f)
    (subst (λ (l : List Message). IsIn (message_of f) l) e (in_messages f fs i))

module _ (limits : Bounds) (origin : Origin (limits_of limits)) (old : Program) (c : ℕ)
    (new : Program)
    (kept : Kept limits origin old) (k next : WorkerState) (is : IsWorldClient old kept.world c k)
  where
    -- the client moved, and the server stays
    pub client_arrives : (messages : List Message) → ServerStays old.station new.station c next.hand
        → ClientMoved (limits_of limits) origin kept.world c next.client messages
        → ((f : Frame) → IsIn f next.said → IsIn (message_of f) messages ⊎ IsIn f k.said)
        → ((f : Frame) → next.collected ≡ Some f → IsSentTo kept.world c f)
        → Arrives limits origin old new kept.world c next
    client_arrives messages stays moved says collects = record {
      limits_stay = stays.limits;
      held = stays.held;
      hands = stays.hands;
      world = moved.world;
      reached = moved.reached;
      silent = moved.silent;
      server = moved.server ∙ kept.stands.server ∙ sym stays.server;
      current = λ d n. ap (λ (s : Server). (s.session d).current) moved.server;
      incarnation = moved.incarnation;
      others = moved.others;
      grows = moved.grows;
      operations = moved.operations;
      shows = moved.shows;
      collected = λ f e. let x = collects f e in (moved.grows (message_of f) x.0, x.1, x.2);
      said = λ f i. elim (says f i) [
        | inl j ↦ moved.says (message_of f) j
        | inr j ↦ (let x = is.said f j in (moved.grows (message_of f) x.0, x.1, x.2))
      ];
      mailbox = λ d f i. let x = kept.stands.mailbox d f (stays.mailbox d f i) in
          (moved.grows (message_of f) x.0, x.1, x.2);
    }

    -- nobody moved
    pub nothing_arrives : ServerStays old.station new.station c next.hand → next.client ≡ k.client
        → ((f : Frame) → IsIn f next.said → IsIn f k.said)
        → ((f : Frame) → next.collected ≡ Some f → IsSentTo kept.world c f)
        → Arrives limits origin old new kept.world c next
    nothing_arrives stays same says collects = client_arrives [] stays
        (moved_not (limits_of limits) origin kept.world c next.client is.operations
        kept.reached (is.shows ∙ ap (λ (x : ClientState). client_of x is.operations) (sym same)))
        (λ f i. inr (says f i)) collects

    -- the server took a frame that the client said, and the client stays
    pub server_arrives : (frame : Frame)
        → (p : Posts old.station.dispatcher (input_of frame) (mailbox_of old.station) Everybody
        new.station.dispatcher)
        → lacks_number_for old.station.dispatcher.server frame ≡ false
        → Follow old.station.hands new.station.hands k.hand next.hand → next.client ≡ k.client
        → ((f : Frame) → IsIn f next.said → IsIn f k.said)
        → next.collected ≡ k.collected → IsSaidBy kept.world c frame
        → Arrives limits origin old new kept.world c next
    server_arrives frame p left follow same says collects said = record {
      limits_stay = p.does.limits;
      held = follow.held;
      hands = λ d n. others_hand old.station.hands new.station.hands k.hand next.hand c d follow
          is.of.hand n;
      world = moved.world;
      reached = moved.reached;
      silent = moved.silent;
      server = moved.server;
      current = λ d n. ap (λ (s : Server). (s.session d).current) moved.server
          ∙ (keeps d n).incarnation ∙ ap (λ (s : Server). (s.session d).current)
          (sym kept.stands.server);
      incarnation = moved.incarnation;
      others = λ d n. moved.client d;
      grows = moved.grows;
      operations = is.operations;
      shows = moved.client c ∙ is.shows
          ∙ ap (λ (x : ClientState). client_of x is.operations) (sym same);
      collected = λ f e. let x = is.collected f (sym collects ∙ e) in
          (moved.grows (message_of f) x.0, x.1, x.2);
      said = λ f i. let x = is.said f (says f i) in (moved.grows (message_of f) x.0, x.1, x.2);
      mailbox = λ d f i. elim (posted_from (mailbox_of old.station)
          (current_in (dispatching.server_of new.station.dispatcher)) p.said
          (mailbox_of new.station d) d f (p.mailbox d tt) i) [
            | inl j ↦ (let x = kept.stands.mailbox d f j in
                (moved.grows (message_of f) x.0, x.1, x.2))
            | inr j ↦ (let x = moved.says (message_of f) (in_messages f p.said j.0) in
                (x.0, x.1, j.1))
          ];
    }
      where
        lt : frame.client < old.station.dispatcher.server.limits.clients
        lt = subst (λ (n : ℕ). n < old.station.dispatcher.server.limits.clients) (sym said.2)
            (subst (λ (b : Bounds). c < b.clients) (sym kept.limits_are)
            (is_there_by limits origin old c k kept is))

        moved : ServerMoved (limits_of limits) origin kept.world (server_of new.station)
            (messages_of p.said)
        moved = moved_by_message (limits_of limits) origin kept.world
            old.station.dispatcher.server new.station.dispatcher.server (message_of frame)
            (messages_of p.said) kept.reached kept.stands.server
            kept.sound.station.arisen said.0 said.1 lt left p.does

        keeps : (d : ℕ) → d ≢ c → KeepsClient (server_of old.station) (server_of new.station) d
        keeps d n = others_keep (limits_of limits) origin kept.world
            old.station.dispatcher.server new.station.dispatcher.server (message_of frame)
            (messages_of p.said) kept.reached kept.stands.server
            kept.sound.station.arisen said.0 said.1 lt left p.does d (λ e. n (e ∙ said.2))

module _ (limits : Bounds) (origin : Origin (limits_of limits)) (old : Program) (c : ℕ)
    (new : Program)
    (kept : Kept limits origin old) (k next : WorkerState) (is : IsWorldClient old kept.world c k)
  where
    -- the oldest kept frame is handed in
    hands_in : (frame : Frame) (rest : List Frame) (answer : Result ⊤ OfficeFault) → k.said ≡ frame
        ∷ rest → Took old.station frame k.hand answer new.station next.hand → next
        ≡ without_first k next.hand rest answer
        → Arrives limits origin old new kept.world c next
    hands_in frame rest (Err fault) e took left =
        nothing_arrives limits origin old c new kept k next is
        (unchanged_stays old.station new.station c k.hand next.hand took.err.0 is.held took.err.1)
        (ap (λ (x : WorkerState). x.client) left)
        (λ f i. subst (λ (x : WorkerState). IsIn f x.said) left i)
        (λ f g. is.collected f (sym (ap (λ (x : WorkerState). x.collected) left) ∙ g))
    hands_in frame rest (Ok done) e took left = by (is_stray k.hand frame.body) refl
      where
        fewer : (f : Frame) → IsIn f next.said → IsIn f k.said
        fewer f i = subst (λ (l : List Frame). IsIn f l) (sym e)
            (inr (subst (λ (x : WorkerState). IsIn f x.said) left i))

        there : IsIn frame k.said
        there = subst (λ (l : List Frame). IsIn frame l) (sym e) (inl refl)

        by : (b : Bool) → is_stray k.hand frame.body ≡ b
            → Arrives limits origin old new kept.world c next
        by true stray = let x = took.stray stray in
            nothing_arrives limits origin old c new kept k next is
            (unchanged_stays old.station new.station c k.hand next.hand x.0 is.held x.1)
            (ap (λ (x : WorkerState). x.client) left) fewer
            (λ f g. is.collected f (sym (ap (λ (x : WorkerState). x.collected) left) ∙ g))
        by false own = server_arrives limits origin old c new kept k next is frame (took.posts own)
            took.taken took.stored (ap (λ (x : WorkerState). x.client) left) fewer
            (ap (λ (x : WorkerState). x.collected) left) (is.said frame there)

    -- the client takes a frame that it collected
    left_so : (mid : WorkerState) (frame : Frame) → mid.client ≡ k.client → mid.said ≡ k.said
        → mid.collected ≡ Some frame → ServerStays old.station new.station c mid.hand
        → IsSentTo kept.world c frame → next ≡ mid
        → Arrives limits origin old new kept.world c next
    left_so mid frame same said collected stays way e =
        nothing_arrives limits origin old c new kept k next is
        (subst (λ (x : WorkerState). ServerStays old.station new.station c x.hand) (sym e) stays)
        (ap (λ (x : WorkerState). x.client) e ∙ same)
        (λ f i. subst (λ (l : List Frame). IsIn f l) said
        (subst (λ (x : WorkerState). IsIn f x.said) e i))
        (λ f g. let z : Some frame ≡ Some f = sym collected
        ∙ sym (ap (λ (x : WorkerState). x.collected) e) ∙ g in let h : frame ≡ f = cc in
        subst (λ (x : Frame). IsSentTo kept.world c x) h way)

    takes_collected : (mid : WorkerState) (frame : Frame) (result : Result Bool WorkerFault)
        → mid.client ≡ k.client → mid.said ≡ k.said → mid.collected ≡ Some frame
        → ServerStays old.station new.station c mid.hand → IsSentTo kept.world c frame
        → TakesCollected mid frame result next → Arrives limits origin old new kept.world c next
    takes_collected mid frame (Ok turned) same said collected stays way t =
        client_arrives limits origin old c new kept k next is (messages_of next.said)
        (subst (λ (h : HandState). ServerStays old.station new.station c h)
        (sym (ap (λ (x : WorkerState). x.hand) t.1.rest)) stays)
        (moved_by_frame limits origin old kept.world c k frame (messages_of next.said)
        next.client kept.reached kept.limits_are is way
        (subst (λ (x : ClientState). TakesFrame x frame (messages_of next.said) next.client) same
        t.1.takes))
        (λ f i. inl (in_messages f next.said i))
        (λ f e. absurd (let z : None ≡ Some f =
        sym (ap (λ (x : WorkerState). x.collected) t.1.rest) ∙ e in cc))
    takes_collected mid frame (Err (worker.Client fault)) same said collected stays way t =
        left_so mid frame same said collected stays way t.2
    takes_collected mid frame (Err (worker.Office fault)) same said collected stays way t =
        left_so mid frame same said collected stays way t.2
    takes_collected mid frame (Err worker.Halted) same said collected stays way t = absurd t

    -- the station's server stays where a frame was collected
    collected_stays : (frame : Option Frame)
        → Collected old.station k.hand (Ok frame) new.station next.hand
        → ServerStays old.station new.station c next.hand
    collected_stays frame x = record {
      server = ap (λ (s : ServerValue). server.server_of s) x.server;
      limits = ap (λ (s : ServerValue). s.limits) x.server;
      mailbox = λ d f i. collected_from (mailbox_of old.station) k.hand.client d f
          (subst (λ (l : List Frame). IsIn f l) (x.rest d) i);
      hands = λ d n. others_hand old.station.hands new.station.hands k.hand next.hand c d x.stored
          is.of.hand n;
      held = x.stored.held;
    }

    -- the oldest frame of the mailbox is collected
    collects : (result : Result Bool WorkerFault) (answer : Result (Option Frame) OfficeFault)
        → Collected old.station k.hand answer new.station next.hand
        → AfterCollecting answer k result next → Arrives limits origin old new kept.world c next
    collects result (Err fault) x t =
        nothing_arrives limits origin old c new kept k next is
        (unchanged_stays old.station new.station c k.hand next.hand x.err.0 is.held x.err.1)
        (ap (λ (y : WorkerState). y.client) t.1)
        (λ f i. subst (λ (y : WorkerState). IsIn f y.said) t.1 i)
        (λ f g. is.collected f (sym (ap (λ (y : WorkerState). y.collected) t.1) ∙ g))
    collects result (Ok None) x t =
        nothing_arrives limits origin old c new kept k next is (collected_stays None x)
        (ap (λ (y : WorkerState). y.client) t.1)
        (λ f i. subst (λ (y : WorkerState). IsIn f y.said) t.1 i)
        (λ f g. is.collected f (sym (ap (λ (y : WorkerState). y.collected) t.1) ∙ g))
    collects result (Ok (Some frame)) x t =
        takes_collected (record k { hand = next.hand; collected = Some frame }) frame result
        refl refl
        refl (collected_stays (Some frame) x)
        (kept.stands.mailbox c frame (subst (λ (n : ℕ). IsIn frame (mailbox_of old.station n))
        is.of.hand (in_first (mailbox_of old.station k.hand.client) frame x.oldest))) t

    -- a turn
    pub turn_arrives : (result : Result Bool WorkerFault) (said : List Frame)
        (collected : Option Frame) → k.said ≡ said → k.collected ≡ collected
        → TurnsBy said collected k old.station result next new.station
        → Arrives limits origin old new kept.world c next
    turn_arrives result (frame ∷ rest) collected e f t =
        hands_in frame rest t.answer e t.took t.left
    turn_arrives result [] (Some frame) e f t =
        takes_collected k frame result refl refl f
        (same_stays old.station new.station c k.hand k.hand t.1 is.held refl) (is.collected frame f)
        t.0
    turn_arrives result [] None e f t = collects result t.answer t.collected t.taken

pub turned_kept : (limits : Bounds) (origin : Origin (limits_of limits)) (old : Program)
    (c : ℕ) (new : Program)
    → Kept limits origin old → steps.Turns old c new → IsSound new → IsSilent old new
    → Kept limits origin new
turned_kept limits origin old c new kept t sound silent =
    arrives_kept limits origin old new c t.worker t.next kept t.becomes
    (turned_same t.worker t.next old.station new.station t.result t.turns) sound silent
    (turn_arrives limits origin old c new kept t.worker t.next
    (kept.stands.worker c t.worker t.becomes.was) t.result t.worker.said t.worker.collected refl
    refl t.turns)
