-- Whatever a service and its clients do, there is a world that they are.
use Rattle.std.proofs.Common.{◌≡◌, ◌≢◌, ◌<◌, ◌-◌, ◌++◌, ◌⊎◌, ℕ, Bool, true, false, nat_lt}
use Rattle.std.proofs.Common.{if◌then◌else◌, List, [], ◌∷◌, Option, Some, None, refl, sym, ◌∙◌, ap}
use Rattle.std.proofs.Common.{subst, arith, inl, inr}
use Rattle.std.proofs.lemmas.Bool.{cases_eq}
use Rattle.std.proofs.lemmas.Bool.Decides.{nat_tests}
use Rattle.std.specs.List.{AllByRecursion}
use Rattle.std.specs.Prelude.{IfSome, option_map}
use Rattle.sqlite.specs.Held.{Held}
use Rattle.sqlite.specs.Store.{Ghosts}
use Rattle.cb_client_core.proofs.Reaching.{starts}
use Rattle.cb_client_core.specs.ClientState.{ClientState, new_state}
use Rattle.cb_commit.specs.Batches.{BatchState}
use Rattle.cb_commit.specs.Stores.{StoreState}
use Rattle.cb_frame.specs.declared.frame.Frame.{Frame}
use Rattle.cb_outbox.specs.Messages.{message_of, messages_of}
use Rattle.cb_page.specs.Bounds.{Bounds}
use Rattle.cb_protocol.proofs.HeadlineProof.{headline}
use Rattle.cb_protocol.proofs.LifeImage.{in_append}
use Rattle.cb_protocol.specs.AnyMessages.{ReachesDisk, committed_names}
use Rattle.cb_protocol.specs.Basics.{Bytes, IsIn, Limits}
use Rattle.cb_protocol.specs.Client.{Client}
use Rattle.cb_protocol.specs.ClientCalls.{Call}
use Rattle.cb_protocol.specs.Flush.{next_batch}
use Rattle.cb_protocol.specs.Headline as protocol
use Rattle.cb_protocol.specs.Headline.{Promise, SoundOpening}
use Rattle.cb_protocol.specs.Messages.{Message}
use Rattle.cb_protocol.specs.Serial.{IsSerial, Operation, committed_operations, store_left}
use Rattle.cb_protocol.specs.Server.{Server}
use Rattle.cb_protocol.specs.StoreLimits.{limits_of}
use Rattle.cb_protocol.specs.Transcript.{transcript_operations}
use Rattle.cb_protocol.specs.WaitsFor.{on_cycle}
use Rattle.cb_protocol.specs.World.{World}
use Rattle.cb_server_state.specs.Commits.{batch_of}
use Rattle.cb_server_state.specs.States.{opening_of}
use Rattle.cb_shelf.specs.LifeRows.{LifeState}
use Rattle.cb_serve.specs.Answering.{after_inputs, inputs_in, said_to}
use Rattle.cb_serve.specs.Living.{MakesRoom}
use Rattle.cb_serve.specs.Living.MakesRoom.{had, made}
use Rattle.cb_serve.specs.Rounds.{Round, SaysDones, Standing, reached}
use Rattle.cb_serve.specs.Streams.{IsPiece, Piece, asks_again, comes, let_go, passed_over}
use Rattle.cb_running_laws.proofs.Clients.{Moved, moved_by_call, moved_by_frame}
use Rattle.cb_running_laws.proofs.Taking.{ComesAmong, KnowsFloor, Served, can_reach, serves_batch}
use Rattle.cb_running_laws.proofs.Taking.{serves_none, serves_pieces}
use Rattle.cb_running_laws.specs.Processes.{HasBegun, Processes}
use Rattle.cb_running_laws.specs.ProcessLaws.{CopiesAgree, HasCopy, MayWritePage}
use Rattle.cb_running_laws.specs.ProcessLaws.{ProcessesAreSerial, ProcessesGoAlong}
use Rattle.cb_running_laws.specs.ProcessLaws.{ProcessesKeepThePromise, RunsAreServed}
use Rattle.cb_running_laws.specs.ProcessLaws.{WritersAreAlone, committed_history, rounds_in}
use Rattle.cb_running_laws.specs.ProcessLaws.{with_round}
use Rattle.cb_serve.specs.Serving.{AreRounds}
use Rattle.cb_running_laws.specs.ProcessSteps as steps
use Rattle.cb_running_laws.specs.ProcessSteps.{StopsAmid, dones_said, Becomes, Begins, CallsClient}
use Rattle.cb_running_laws.specs.ProcessSteps.{DoesRound, IsNext, MayCome, Moment, Runs, Step}
use Rattle.cb_running_laws.specs.ProcessSteps.{TakesOne, done_frames, frames_put, processes_after}
use Rattle.cb_running_laws.specs.ProcessWorlds.{GoesAlong, IsReachedWorldOf, IsWorldClient}
use Rattle.cb_running_laws.specs.ProcessWorlds.{IsWorldOf}
use Rattle.cb_running_laws.proofs.Calling.{in_messages}
use Rattle.cb_running_laws.proofs.Events.{Origin, Reached, onwards, opening_world, whole}
use Rattle.cb_running_laws.proofs.Greeting.{Renewed, difference, renews}
use Rattle.cb_running_laws.proofs.Opening.{sound_opening}
use Rattle.cb_running_laws.proofs.Resuming.{FloorTold, floor_told}
use Rattle.cb_running_laws.proofs.Standing.{Grows}
use Rattle.cb_running_laws.specs.Steps.{performs}

-- Processes, with a world that they are.
record Kept {S : Type 0} (limits : Bounds) (floor : ℕ) (origin : Origin (limits_of limits))
    (p : Processes S) : Type 0 where
  floor_is : p.life.floor ≡ floor
  world : World
  is_reached : Reached (limits_of limits) origin world
  opened : SoundOpening origin.opening
  server : p.runs ≡ true → world.server ≡ p.service.server
  known : KnowsFloor limits.clients floor world.server
  there : (c : ℕ) (k : ClientState) → p.client c ≡ Some k → c < limits.clients
  client : (c : ℕ) (k : ClientState) → p.client c ≡ Some k → IsWorldClient limits world c k
  absent : (c : ℕ) → c < limits.clients → p.client c ≡ None → world.incarnation c ≡ floor
  said : (f : Frame) → IsIn f p.said → IsIn (message_of f) world.packets
  performed : transcript_operations world.transcript ≡ p.performed

is_world_of : {S : Type 0} (limits : Bounds) (floor : ℕ) (origin : Origin (limits_of limits))
    (p : Processes S) → (kept : Kept limits floor origin p) → IsWorldOf limits kept.world p
is_world_of limits floor origin p kept = record {
  server = kept.server;
  client = kept.client;
  said = kept.said;
  performed = kept.performed;
}

-- what was said and is said
said_more : (w v : World) (old frames new : List Frame) → new ≡ old ++ frames → Grows w v
    → ((f : Frame) → IsIn f old → IsIn (message_of f) w.packets)
    → ((f : Frame) → IsIn f frames → IsIn (message_of f) v.packets)
    → (f : Frame) → IsIn f new → IsIn (message_of f) v.packets
said_more w v old frames new e grows before more f i =
    elim (in_append f old frames (subst (λ (l : List Frame). IsIn f l) e i)) [
      | inl j ↦ grows (message_of f) (before f j)
      | inr j ↦ more f j
    ]

-- a client that didn't move
still : (limits : Bounds) (w v : World) (c : ℕ) (k : ClientState)
    → v.incarnation c ≡ w.incarnation c → v.client c ≡ w.client c
    → IsWorldClient limits w c k → IsWorldClient limits v c k
still limits w v c k number client is = record {
  no = is.no;
  incarnation = is.incarnation ∙ sym number;
  limits = is.limits;
  operations = is.operations;
  shows = client ∙ is.shows;
}

the_one : (a : Option ClientState) (k l : ClientState) → a ≡ Some k → a ≡ Some l → k ≡ l
the_one a k l e f = let z : Some k ≡ Some l = sym e ∙ f in cc

none_there : (a : Option ClientState) (k : ClientState) → a ≡ Some k → a ≡ None → ⊥
none_there a k e f = let z : Some k ≡ None = sym e ∙ f in cc

module _ {S : Type 0} (limits : Bounds) (floor : ℕ) (origin : Origin (limits_of limits))
    (old new : Processes S) (kept : Kept limits floor origin old) where
  -- a client moved, and all others and the service stay
  client_kept : (c : ℕ) (k next : ClientState) (frames : List Frame)
      → Becomes old c k next new → new.said ≡ old.said ++ frames
      → Moved limits origin kept.world c next (messages_of frames) new.performed
      → Kept limits floor origin new
  client_kept c k next frames becomes said moved = record {
    floor_is = ap (λ (l : LifeState). l.floor) becomes.service.1 ∙ kept.floor_is;
    world = moved.world;
    is_reached = moved.reached;
    opened = kept.opened;
    server = λ r. moved.server ∙ kept.server (sym becomes.service.2 ∙ r)
        ∙ ap (λ (s : Standing S). s.server) (sym becomes.service.0);
    known = subst (KnowsFloor limits.clients floor) (sym moved.server) kept.known;
    there = λ d x e. is_there d x e (cases_eq d c);
    client = λ d x e. is_own d x e (cases_eq d c);
    absent = λ d lt e. is_absent d lt e (cases_eq d c);
    said = said_more kept.world moved.world old.said frames new.said said moved.grows kept.said
        (λ f i. moved.says (message_of f) (in_messages f frames i));
    performed = moved.performs;
  }
    where
      is_there : (d : ℕ) (x : ClientState) → new.client d ≡ Some x → (d ≡ c) ⊎ (d ≢ c)
          → d < limits.clients
      is_there d x e (inl same) =
          subst (λ n. n < limits.clients) (sym same) (kept.there c k becomes.was)
      is_there d x e (inr n) = kept.there d x (sym (becomes.others d n) ∙ e)

      is_own : (d : ℕ) (x : ClientState) → new.client d ≡ Some x → (d ≡ c) ⊎ (d ≢ c)
          → IsWorldClient limits moved.world d x
      is_own d x e (inl same) = subst (λ n. IsWorldClient limits moved.world n x) (sym same)
          (subst (λ y. IsWorldClient limits moved.world c y)
          (the_one (new.client c) next x becomes.becomes (ap new.client (sym same) ∙ e)) moved.own)
      is_own d x e (inr n) = still limits kept.world moved.world d x (moved.incarnation d)
          (moved.others d n) (kept.client d x (sym (becomes.others d n) ∙ e))

      is_absent : (d : ℕ) → d < limits.clients → new.client d ≡ None → (d ≡ c) ⊎ (d ≢ c)
          → moved.world.incarnation d ≡ floor
      is_absent d lt e (inl same) = absurd
          (none_there (new.client c) next becomes.becomes (ap new.client (sym same) ∙ e))
      is_absent d lt e (inr n) =
          moved.incarnation d ∙ kept.absent d lt (sym (becomes.others d n) ∙ e)

  call_kept : (c : ℕ) (call : Call) → CallsClient old c call new → Kept limits floor origin new
  call_kept c call t = client_kept c t.state t.next t.frames t.becomes t.said
      (subst (Moved limits origin kept.world c t.next (messages_of t.frames))
      (ap (performs t.state call t.word) kept.performed ∙ sym t.performed)
      (moved_by_call limits origin kept.world c (kept.there c t.state t.becomes.was)
      kept.is_reached kept.opened t.state (kept.client c t.state t.becomes.was) call t.word
      (messages_of t.frames) t.history t.next t.calls))

  take_kept : (c : ℕ) (frame : Frame) → TakesOne old c frame new → Kept limits floor origin new
  take_kept c frame t = client_kept c t.state t.next t.frames t.becomes t.said
      (subst (Moved limits origin kept.world c t.next (messages_of t.frames))
      (kept.performed ∙ sym t.performed)
      (moved_by_frame limits origin kept.world c kept.is_reached t.state
      (kept.client c t.state t.becomes.was) frame (messages_of t.frames) t.next
      (kept.said frame t.way.0) t.way.1 t.takes))

  -- its incarnation before, and the next one
  lower : (c i : ℕ) → c < limits.clients → (a : Option ClientState) → old.client c ≡ a
      → IsNext a old.life.floor i → kept.world.incarnation c < i
  lower c i lt None e next = let at = kept.absent c lt e in let same = kept.floor_is in
      omega (arith, at, same, next)
  lower c i lt (Some k) e next = let at = (kept.client c k e).incarnation in
      omega (arith, at, next)

  begin_kept : (c i : ℕ) → Begins limits old c i new → Kept limits floor origin new
  begin_kept c i t = record {
    floor_is = ap (λ (l : LifeState). l.floor) t.service.1 ∙ kept.floor_is;
    world = renewed.world;
    is_reached = renewed.reached;
    opened = kept.opened;
    server = λ r. renewed.server_is ∙ kept.server (sym t.service.2 ∙ r)
        ∙ ap (λ (s : Standing S). s.server) (sym t.service.0);
    known = subst (KnowsFloor limits.clients floor) (sym renewed.server_is) kept.known;
    there = λ d x e. is_there d x e (cases_eq d c);
    client = λ d x e. is_own d x e (cases_eq d c);
    absent = λ d lt e. is_absent d lt e (cases_eq d c);
    said = λ f j. renewed.grows (message_of f)
        (kept.said f (subst (λ (l : List Frame). IsIn f l) t.said j));
    performed = renewed.silent ∙ kept.performed ∙ sym t.performed;
  }
    where
      less : kept.world.incarnation c < i
      less = lower c i t.there (old.client c) refl t.next

      renewed : Renewed (limits_of limits) origin kept.world c i kept.world.server
      renewed = renews (limits_of limits) origin c i (i - kept.world.incarnation c) kept.world
          t.there t.number kept.is_reached
          (difference (kept.world.incarnation c) i (let l = less in omega (arith, l)))
          (λ z. absurd (let l = less in omega (arith, l, z)))

      is_there : (d : ℕ) (x : ClientState) → new.client d ≡ Some x → (d ≡ c) ⊎ (d ≢ c)
          → d < limits.clients
      is_there d x e (inl same) = subst (λ n. n < limits.clients) (sym same) t.there
      is_there d x e (inr n) = kept.there d x (sym (t.others d n) ∙ e)

      fresh : IsWorldClient limits renewed.world c (new_state c i limits)
      fresh = record {
        no = refl;
        incarnation = sym renewed.incarnation;
        limits = refl;
        operations = [];
        shows = renewed.client ∙ sym (starts c i limits);
      }

      is_own : (d : ℕ) (x : ClientState) → new.client d ≡ Some x → (d ≡ c) ⊎ (d ≢ c)
          → IsWorldClient limits renewed.world d x
      is_own d x e (inl same) = subst (λ n. IsWorldClient limits renewed.world n x) (sym same)
          (subst (λ y. IsWorldClient limits renewed.world c y)
          (the_one (new.client c) (new_state c i limits) x t.becomes (ap new.client (sym same) ∙ e))
          fresh)
      is_own d x e (inr n) = still limits kept.world renewed.world d x (renewed.others d n).1
          (renewed.others d n).0 (kept.client d x (sym (t.others d n) ∙ e))

      is_absent : (d : ℕ) → d < limits.clients → new.client d ≡ None → (d ≡ c) ⊎ (d ≢ c)
          → renewed.world.incarnation d ≡ floor
      is_absent d lt e (inl same) = absurd (none_there (new.client c) (new_state c i limits)
          t.becomes (ap new.client (sym same) ∙ e))
      is_absent d lt e (inr n) =
          (renewed.others d n).1 ∙ kept.absent d lt (sym (t.others d n) ∙ e)

-- what came was among the packets
among : {S : Type 0} (limits : Bounds) (floor : ℕ) (w : World) (old : Processes S)
    → old.life.floor ≡ floor → ((f : Frame) → IsIn f old.said → IsIn (message_of f) w.packets)
    → (ps : List Piece) → AllByRecursion (IsPiece limits) ps
    → AllByRecursion (MayCome old) ps → AllByRecursion (ComesAmong limits floor w) ps
among limits floor w old same said [] are come = tt
among limits floor w old same said (p ∷ ps) are come =
    (by p are.0 come.0, among limits floor w old same said ps are.1 come.1)
  where
    by : (q : Piece) → IsPiece limits q → MayCome old q → ComesAmong limits floor w q
    by (comes f b) is (inl way) = (is.1.fits.client, inl (said f way.0, way.1))
    by (comes f b) is (inr below) =
        (is.1.fits.client, inr (subst (λ n. f.incarnation < n) same below))
    by asks_again is come = tt
    by (passed_over b) is come = tt
    by (let_go f b) is come = tt

-- room keeps the floor
room_keeps : {S : Type 0} (g : Ghosts S) (old new : LifeState) (a b : Held S)
    → MakesRoom g old new a b → new.floor ≡ old.floor
room_keeps g old new a b (had same tables) = ap (λ (l : LifeState). l.floor) same
room_keeps g old new a b (made i beyond is m s crash) = ap (λ (l : LifeState). l.floor) is

-- what was written reaches the disk
on_disk : (L : Limits) (o : Origin L) (floor : ℕ) (w : World) → Reached L o w → (s : Server)
    → w.server ≡ s → KnowsFloor L.clients floor s → (limits : Bounds) (bytes : List ℕ)
    (batch : Option BatchState) → next_batch s ≡ option_map batch_of batch
    → (says : SaysDones limits s batch bytes)
    → Served L o floor w (reached s batch)
    (messages_of (done_frames limits s bytes batch says))
on_disk L o floor w r s same known limits bytes None next says =
    serves_none L o floor w r s same known
on_disk L o floor w r s same known limits bytes (Some batch) next says =
    subst (λ (l : List Message). Served L o floor w (after_inputs s (ReachesDisk batch.number ∷ [])) l)
    (sym says.carry)
    (serves_batch L o floor w r s same known batch.number (can_reach s batch next))

module _ {S : Type 0} (g : Ghosts S) (limits : Bounds) (floor : ℕ)
    (origin : Origin (limits_of limits)) (old : Processes S) (round : Round) (new : Processes S)
    (kept : Kept limits floor origin old) (t : DoesRound g limits old round new) where
  abbrev L : Limits
  L = limits_of limits

  abbrev taken : Server
  taken = after_inputs old.service.server (inputs_in round.pieces)

  one : Served L origin floor kept.world taken (said_to old.service.server (inputs_in round.pieces))
  one = serves_pieces limits L refl origin floor round.pieces kept.world kept.is_reached
      old.service.server (kept.server t.ran)
      (subst (KnowsFloor limits.clients floor) (kept.server t.ran) kept.known)
      (among limits floor kept.world old kept.floor_is kept.said round.pieces t.is.is.are t.come)
      t.numbers

  two : Served L origin floor one.world (reached taken round.batch)
      (messages_of (done_frames limits taken round.dones round.batch t.is.is.dones))
  two = on_disk L origin floor one.world one.reached taken one.server one.known limits round.dones
      round.batch t.is.is.batch t.is.is.dones

  -- what goes out is among the packets
  out : (f : Frame) → IsIn f (frames_put t.is.is) → IsIn (message_of f) two.world.packets
  out f i = elim (in_append f t.is.is.answers.frames
      (done_frames limits taken round.dones round.batch t.is.is.dones) i) [
        | inl j ↦ two.grows (message_of f) (one.says (message_of f)
            (subst (λ (l : List Message). IsIn (message_of f) l) t.is.is.answers.carry
            (in_messages f t.is.is.answers.frames j)))
        | inr j ↦ two.says (message_of f) (in_messages f
            (done_frames limits taken round.dones round.batch t.is.is.dones) j)
      ]

  round_kept : Kept limits floor origin new
  round_kept = record {
    floor_is = room_keeps g old.life new.life old.service.tables t.is.mid t.is.room
        ∙ kept.floor_is;
    world = two.world;
    is_reached = two.reached;
    opened = kept.opened;
    server = λ r. two.server ∙ sym t.is.is.server;
    known = subst (KnowsFloor limits.clients floor) (sym two.server) two.known;
    there = λ c k e. kept.there c k (sym (t.clients c) ∙ e);
    client = λ c k e. still limits kept.world two.world c k
        (two.incarnation c ∙ one.incarnation c) (two.client c ∙ one.client c)
        (kept.client c k (sym (t.clients c) ∙ e));
    absent = λ c lt e. two.incarnation c ∙ one.incarnation c
        ∙ kept.absent c lt (sym (t.clients c) ∙ e);
    said = said_more kept.world two.world old.said (frames_put t.is.is) new.said t.said
        (λ m i. two.grows m (one.grows m i)) kept.said out;
    performed = two.silent ∙ one.silent ∙ kept.performed ∙ sym t.performed;
  }

-- what was written may be reported
may_be_told : (L : Limits) (o : Origin L) (floor : ℕ) (w : World) → Reached L o w → (s : Server)
    → w.server ≡ s → KnowsFloor L.clients floor s → (batch : Option BatchState)
    → IfSome batch (λ b. next_batch s ≡ Some (batch_of b))
    → Served L o floor w (reached s batch) (dones_said s batch)
may_be_told L o floor w r s same known None next = serves_none L o floor w r s same known
may_be_told L o floor w r s same known (Some batch) next =
    serves_batch L o floor w r s same known batch.number (can_reach s batch next)

module _ {S : Type 0} (g : Ghosts S) (limits : Bounds) (floor : ℕ)
    (origin : Origin (limits_of limits)) (old : Processes S) (pieces : List Piece)
    (batch : Option BatchState) (new : Processes S) (kept : Kept limits floor origin old)
    (t : StopsAmid g limits old pieces batch new) where
  abbrev last_taken : Server
  last_taken = after_inputs old.service.server (inputs_in pieces)

  taking : Served (limits_of limits) origin floor kept.world last_taken
      (said_to old.service.server (inputs_in pieces))
  taking = serves_pieces limits (limits_of limits) refl origin floor pieces kept.world
      kept.is_reached old.service.server (kept.server t.ran)
      (subst (KnowsFloor limits.clients floor) (kept.server t.ran) kept.known)
      (among limits floor kept.world old kept.floor_is kept.said pieces t.are t.come) t.numbers

  telling : Served (limits_of limits) origin floor taking.world (reached last_taken batch)
      (dones_said last_taken batch)
  telling = may_be_told (limits_of limits) origin floor taking.world taking.reached last_taken
      taking.server taking.known batch t.next

  went_out : (f : Frame) → IsIn f t.frames → IsIn (message_of f) telling.world.packets
  went_out f i = elim (in_append (message_of f) (said_to old.service.server (inputs_in pieces))
      (dones_said last_taken batch) (t.among f i)) [
        | inl j ↦ telling.grows (message_of f) (taking.says (message_of f) j)
        | inr j ↦ telling.says (message_of f) j
      ]

  stop_kept : Kept limits floor origin new
  stop_kept = record {
    floor_is = t.life ∙ kept.floor_is;
    world = telling.world;
    is_reached = telling.reached;
    opened = kept.opened;
    server = λ r. absurd (let z : false ≡ true = sym t.stopped ∙ r in cc);
    known = subst (KnowsFloor limits.clients floor) (sym telling.server) telling.known;
    there = λ c k e. kept.there c k (sym (t.clients c) ∙ e);
    client = λ c k e. still limits kept.world telling.world c k
        (telling.incarnation c ∙ taking.incarnation c) (telling.client c ∙ taking.client c)
        (kept.client c k (sym (t.clients c) ∙ e));
    absent = λ c lt e. telling.incarnation c ∙ taking.incarnation c
        ∙ kept.absent c lt (sym (t.clients c) ∙ e);
    said = said_more kept.world telling.world old.said t.frames new.said t.said
        (λ m i. telling.grows m (taking.grows m i)) kept.said went_out;
    performed = telling.silent ∙ taking.silent ∙ kept.performed ∙ sym t.performed;
  }

module _ {S : Type 0} (g : Ghosts S) (limits : Bounds) (floor : ℕ) where
  -- one step
  step_kept : (origin : Origin (limits_of limits)) (old : Processes S) (step : Step)
      (new : Processes S) → Kept limits floor origin old → steps.Does g limits old step new
      → Kept limits floor origin new
  step_kept origin old (steps.Serve round) new kept does =
      round_kept g limits floor origin old round new kept does
  step_kept origin old (steps.Stop pieces batch) new kept does =
      stop_kept g limits floor origin old pieces batch new kept does
  step_kept origin old (steps.Begin c i) new kept does =
      begin_kept limits floor origin old new kept c i does
  step_kept origin old (steps.CallClient c call) new kept does =
      call_kept limits floor origin old new kept c call does
  step_kept origin old (steps.Take c frame) new kept does =
      take_kept limits floor origin old new kept c frame does

  -- all steps
  runs_kept : (origin : Origin (limits_of limits)) (p : Processes S) (moments : List (Moment S))
      → Kept limits floor origin p → Runs g limits p moments
      → Kept limits floor origin (processes_after p moments)
  runs_kept origin p [] kept runs = kept
  runs_kept origin p (m ∷ moments) kept runs = runs_kept origin m.processes moments
      (step_kept origin p m.step m.processes kept runs.0) runs.1

  -- the same, with that world as the origin
  from_here : (origin : Origin (limits_of limits)) (p : Processes S)
      → (kept : Kept limits floor origin p)
      → Kept limits floor (onwards (limits_of limits) origin kept.world kept.is_reached) p
  from_here origin p kept = record {
    floor_is = kept.floor_is;
    world = kept.world;
    is_reached = ([], tt, refl);
    opened = kept.opened;
    server = kept.server;
    known = kept.known;
    there = kept.there;
    client = kept.client;
    absent = kept.absent;
    said = kept.said;
    performed = kept.performed;
  }

  -- events go along with the steps
  along : (origin : Origin (limits_of limits)) (p : Processes S) (moments : List (Moment S))
      → (kept : Kept limits floor origin p) → Runs g limits p moments
      → GoesAlong limits kept.world moments
  along origin p [] kept runs = tt
  along origin p (m ∷ moments) kept runs =
      let here : Origin (limits_of limits)
      = onwards (limits_of limits) origin kept.world kept.is_reached in
      let next : Kept limits floor here m.processes = step_kept here p m.step m.processes
      (from_here origin p kept) runs.0 in (
        next.world,
        next.is_reached,
        is_world_of limits floor here m.processes next,
        along here m.processes moments next runs.1,
      )

-- as it begins
begins : {S : Type 0} (limits : Bounds) (store : StoreState) (p : Processes S)
    → HasBegun limits store p
    → Kept limits p.life.floor (opening_world (limits_of limits) (opening_of store)) p
begins limits store p begun = record {
  floor_is = refl;
  world = told.world;
  is_reached = told.reached;
  opened = sound_opening store begun.sound;
  server = λ r. told.server ∙ sym begun.server;
  known = subst (KnowsFloor limits.clients p.life.floor) (sym (told.server ∙ sym begun.server))
      (λ c lt. knows c lt);
  there = λ c k e. absurd (none_there (p.client c) k e (begun.nobody c));
  client = λ c k e. absurd (none_there (p.client c) k e (begun.nobody c));
  absent = λ c lt e. told.below c lt;
  said = λ f i. absurd (subst (λ (l : List Frame). IsIn f l) begun.unsaid i);
  performed = told.silent ∙ sym begun.nothing;
}
  where
    told : FloorTold (limits_of limits) (opening_of store) p.life.floor limits.clients
    told = floor_told (limits_of limits) (opening_of store) p.life.floor begun.least begun.most limits.clients
        (omega arith)

    knows : KnowsFloor limits.clients p.life.floor p.service.server
    knows c lt =
        let at : (p.service.server.session c).current
        ≡ (if nat_lt c limits.clients then p.life.floor else 0)
        = ap (λ (s : Server). (s.session c).current) begun.server in
        let yes : nat_lt c limits.clients ≡ true = grind (arith, nat_tests) in
        let is : (p.service.server.session c).current ≡ p.life.floor
        = at ∙ ap (λ (b : Bool). if b then p.life.floor else 0) yes in omega (arith, is)

-- Processes, with a world that they are, and the promise of it.
record Promised {S : Type 0} (limits : Bounds) (store : StoreState) (p : Processes S) : Type 0 where
  floor : ℕ
  kept : Kept limits floor (opening_world (limits_of limits) (opening_of store)) p
  promise : Promise (opening_of store) kept.world

promised : {S : Type 0} (g : Ghosts S) (limits : Bounds) (store : StoreState) (p : Processes S)
    (moments : List (Moment S)) → HasBegun limits store p → Runs g limits p moments
    → Promised limits store (processes_after p moments)
promised g limits store p moments begun runs =
    let origin : Origin (limits_of limits)
    = opening_world (limits_of limits) (opening_of store) in
    let kept : Kept limits p.life.floor origin (processes_after p moments)
    = runs_kept g limits p.life.floor origin p moments (begins limits store p begun) runs in record {
      floor = p.life.floor;
      kept = kept;
      promise = headline (limits_of limits) on_cycle (opening_of store) kept.world kept.opened
          (whole (limits_of limits) origin kept.world kept.is_reached);
    }

is_reached_world : {S : Type 0} (limits : Bounds) (store : StoreState) (floor : ℕ) (p : Processes S)
    → (kept : Kept limits floor (opening_world (limits_of limits) (opening_of store)) p)
    → IsReachedWorldOf limits store kept.world p
is_reached_world limits store floor p kept =
    let origin : Origin (limits_of limits)
    = opening_world (limits_of limits) (opening_of store) in (
      whole (limits_of limits) origin kept.world kept.is_reached,
      is_world_of limits floor origin p kept,
    )

pub go_along : {S : Type 0} (g : Ghosts S) → ProcessesGoAlong g
go_along g limits store p moments begun runs =
    let origin : Origin (limits_of limits)
    = opening_world (limits_of limits) (opening_of store) in
    let kept : Kept limits p.life.floor origin p = begins limits store p begun in (
      kept.world,
      is_reached_world limits store p.life.floor p kept,
      along g limits p.life.floor origin p moments kept runs,
    )

pub keep_the_promise : {S : Type 0} (g : Ghosts S) → ProcessesKeepThePromise g
keep_the_promise g limits store p moments begun runs =
    let after : Promised limits store (processes_after p moments)
    = promised g limits store p moments begun runs in (
      after.kept.world,
      is_reached_world limits store after.floor (processes_after p moments) after.kept,
      after.promise,
    )

module _ {S : Type 0} (limits : Bounds) (store : StoreState) (p : Processes S)
    (after : Promised limits store p) where
  serial : p.runs ≡ true → IsSerial (opening_of store).bytes (committed_history p)
      × ((page : ℕ) → store_left (opening_of store).bytes (committed_history p) page
      ≡ p.service.server.store.bytes page)
  serial runs = (
    subst (λ (h : List (List Operation)). IsSerial (opening_of store).bytes h) same
        after.promise.serial.legal,
    λ page. ap (λ (h : List (List Operation)). store_left (opening_of store).bytes h page)
        (sym same) ∙ after.promise.serial.leaves page
        ∙ ap (λ (x : Server). x.store.bytes page) (after.kept.server runs),
  )
    where
      same : protocol.committed_history after.kept.world ≡ committed_history p
      same = (λ i. committed_operations
          (committed_names (after.kept.server runs i).commits) (after.kept.performed i))

  readable : (c page : ℕ) (bytes : Bytes) → HasCopy p c page bytes
      → protocol.ReadableCopy after.kept.world c page bytes
  readable c page bytes copy =
      let is : IsWorldClient limits after.kept.world c copy.state
      = after.kept.client c copy.state copy.has in
      ap (λ (x : Client). x.cache.content page) is.shows ∙ copy.content

  writes : (c page : ℕ) → MayWritePage p c page → protocol.MayWritePage after.kept.world c page
  writes c page may =
      let is : IsWorldClient limits after.kept.world c may.state
      = after.kept.client c may.state may.has in (
        ap (λ (x : Client). x.cache.status) is.shows ∙ may.is_open,
        ap (λ (x : Client). x.cache.may_write page) is.shows ∙ may.may,
      )

pub are_serial : {S : Type 0} (g : Ghosts S) → ProcessesAreSerial g
are_serial g limits store p moments begun runs =
    serial limits store (processes_after p moments)
    (promised g limits store p moments begun runs)

pub copies_agree : {S : Type 0} (g : Ghosts S) → CopiesAgree g
copies_agree g limits store p moments begun runs c d page bytes others one two =
    let last : Processes _ = processes_after p moments in
    let after : Promised limits store last = promised g limits store p moments begun runs in
    after.promise.agree c d page bytes others (readable limits store last after c page bytes one)
    (readable limits store last after d page others two)

pub writers_are_alone : {S : Type 0} (g : Ghosts S) → WritersAreAlone g
writers_are_alone g limits store p moments begun runs c d page bytes may copy =
    let last : Processes _ = processes_after p moments in
    let after : Promised limits store last = promised g limits store p moments begun runs in
    after.promise.alone c d page bytes (writes limits store last after c page may)
    (readable limits store last after d page bytes copy)

-- ---- the rounds of a run

module _ {S : Type 0} (g : Ghosts S) (limits : Bounds) where
  -- a service that stopped doesn't run again
  stays_stopped : (p : Processes S) (moments : List (Moment S)) → Runs g limits p moments
      → p.runs ≡ false → (processes_after p moments).runs ≡ false
  stays_stopped p [] runs stopped = stopped
  stays_stopped p (m ∷ moments) runs stopped =
      stays_stopped m.processes moments runs.1 (by m.step runs.0)
    where
      by : (s : Step) → steps.Does g limits p s m.processes → m.processes.runs ≡ false
      by (steps.Serve round) does =
          absurd (let z : true ≡ false = sym does.ran ∙ stopped in cc)
      by (steps.Stop pieces batch) does = does.stopped
      by (steps.Begin c i) does = does.service.2 ∙ stopped
      by (steps.CallClient c call) does = does.becomes.service.2 ∙ stopped
      by (steps.Take c frame) does = does.becomes.service.2 ∙ stopped

  -- where the service stays, so do the rounds from there on
  from_there : (old new : Processes S) (rounds : List Round) (last : Standing S) (end : LifeState)
      → (new.service ≡ old.service) → (new.life ≡ old.life)
      → AreRounds g limits rounds new.service last new.life end
      → AreRounds g limits rounds old.service last old.life end
  from_there old new rounds last end service life are =
      subst (λ (l : LifeState). AreRounds g limits rounds old.service last l end) life
      (subst (λ (s : Standing S). AreRounds g limits rounds s last new.life end) service are)

  run_served : (p : Processes S) (moments : List (Moment S)) → Runs g limits p moments
      → (processes_after p moments).runs ≡ true
      → AreRounds g limits (rounds_in moments) p.service (processes_after p moments).service p.life
      (processes_after p moments).life
  run_served p [] runs at = (refl, refl)
  run_served p (m ∷ moments) runs at =
      by m.step runs.0 (run_served m.processes moments runs.1 at)
      (λ stopped. stays_stopped m.processes moments runs.1 stopped)
    where
      by : (s : Step) → steps.Does g limits p s m.processes
          → AreRounds g limits (rounds_in moments) m.processes.service
          (processes_after m.processes moments).service m.processes.life
          (processes_after m.processes moments).life
          → (m.processes.runs ≡ false → (processes_after m.processes moments).runs ≡ false)
          → AreRounds g limits (with_round s (rounds_in moments)) p.service
          (processes_after m.processes moments).service p.life
          (processes_after m.processes moments).life
      by (steps.Serve round) does rest stays =
          (does.begins, m.processes.service, m.processes.life, does.is, rest)
      by (steps.Stop pieces batch) does rest stays =
          absurd (let z : true ≡ false = sym at ∙ stays does.stopped in cc)
      by (steps.Begin c i) does rest stays =
          from_there p m.processes (rounds_in moments) (processes_after m.processes moments).service
          (processes_after m.processes moments).life does.service.0 does.service.1 rest
      by (steps.CallClient c call) does rest stays =
          from_there p m.processes (rounds_in moments) (processes_after m.processes moments).service
          (processes_after m.processes moments).life does.becomes.service.0 does.becomes.service.1
          rest
      by (steps.Take c frame) does rest stays =
          from_there p m.processes (rounds_in moments) (processes_after m.processes moments).service
          (processes_after m.processes moments).life does.becomes.service.0 does.becomes.service.1
          rest

pub are_served : {S : Type 0} (g : Ghosts S) → RunsAreServed g
are_served g limits p moments runs at = run_served g limits p moments runs at
