-- A worker's client is called: in the world too.
use Rattle.std.proofs.Common.{◌≡◌, ◌≢◌, ◌==◌, ℕ, true, false, List, [], ◌∷◌, refl, sym, ◌∙◌, ap}
use Rattle.std.proofs.Common.{subst, arith, inl, inr}
use Rattle.std.specs.Prelude.{⊤}
use Rattle.std.proofs.lemmas.Bool.Decides.{nat_tests}
use Rattle.cb_client.specs.ByTable.{Calls, messages_from}
use Rattle.cb_client_core.specs.ClientState.{ClientState, client_of}
use Rattle.cb_frame.specs.declared.frame.Frame.{Frame}
use Rattle.cb_hands.specs.Hands.{HandState}
use Rattle.cb_hands.specs.Joined.{IsHeld, stored_at}
use Rattle.cb_outbox.specs.Messages.{message_of, messages_of}
use Rattle.cb_page.specs.Bounds.{Bounds}
use Rattle.cb_protocol.proofs.ClientSpeaks.{ToServer, calls_speak}
use Rattle.cb_protocol.proofs.LifeImage.{in_append, in_left, in_right}
use Rattle.cb_protocol.specs.Basics.{IsIn, Limits, update}
use Rattle.cb_protocol.specs.Client.{ChangeCache, Client, ClientStep, EndTransaction, MarkDue}
use Rattle.cb_protocol.specs.Client.{MarkDueDowngrade, MarkWanted, Say, SetAsk, bodies_said}
use Rattle.cb_protocol.specs.Client.{client_after}
use Rattle.cb_protocol.proofs.Followed.{ImageOfSome, image_of_reached}
use Rattle.cb_protocol.specs.Answers.{AnsweredBytes, AnsweredOk, AnswerWord, Asked, Flushed}
use Rattle.cb_protocol.specs.Answers.{NoClient, NoPacket, Nothing, Permitted, Refused}
use Rattle.cb_protocol.specs.Answers.{ServerExhausted, Taken}
use Rattle.cb_protocol.specs.ClientCalls.{Call, CallAgain, CallBegin, CallDrop, CallFinish}
use Rattle.cb_protocol.specs.ClientCalls.{CallHello, CallPeek, CallRead, CallWant, CallWrite}
use Rattle.cb_protocol.specs.ClientCalls.{client_call}
use Rattle.cb_protocol.specs.Headline.{SoundOpening}
use Rattle.cb_protocol.specs.Messages.{Body, Message, to_server}
use Rattle.cb_protocol.specs.Serial.{Operation, PerformedOperation, Put, Saw}
use Rattle.cb_protocol.specs.Transcript.{call_operation, incarnation_at, transaction_at}
use Rattle.cb_protocol.specs.Transcript.{transcript_operations}
use Rattle.cb_protocol.specs.WaitsFor.{on_cycle}
use Rattle.cb_protocol.specs.StoreLimits.{limits_of}
use Rattle.cb_protocol.specs.World.{TranscriptEntry, World, messages_said}
use Rattle.cb_station.specs.Stations.{StationState, mailbox_of, server_of}
use Rattle.cb_running_laws.proofs.Events.{Origin, Reached, called_world, calls_reach, whole}
use Rattle.cb_running_laws.proofs.Standing.{Grows, Kept, Near, is_there, no_worker, stands_but}
use Rattle.cb_running_laws.proofs.Standing.{the_worker}
use Rattle.cb_running_laws.specs.Programs.{IsSound, Program, limits_in}
use Rattle.cb_running_laws.specs.Steps.{CallsClient, performs}
use Rattle.cb_running_laws.specs.Worlds.{IsSaidBy, IsSentTo, IsWorldClient}
use Rattle.cb_worker.specs.Workers.{WorkerState, last_txn}

-- a function with another value at one place
pub at_itself : {A : Type 0} (f : ℕ → A) (c : ℕ) (x : A) → update f c x c ≡ x
at_itself f c x = let e : (c == c) ≡ true = grind (arith, nat_tests) in rw e refl

pub at_others : {A : Type 0} (f : ℕ → A) (c d : ℕ) (x : A) → d ≢ c → update f c x d ≡ f d
at_others f c d x n = let e : (d == c) ≡ false = grind (arith, nat_tests) in rw e refl

-- what a client says are messages of its number and incarnation
pub said_by : (c i : ℕ) (v : ClientState) (bodies : List Body) → v.no ≡ c → v.incarnation ≡ i
    → messages_said c i bodies ≡ messages_from v bodies
said_by c i v [] n e = refl
said_by c i v (b ∷ bs) n e = λ j. record { client = sym n j; incarnation = sym e j; body = b }
    ∷ said_by c i v bs n e j

-- and goes to the server
pub to_the_server : (c i : ℕ) (steps : List ClientStep) (m : Message) → ToServer steps
    → IsIn m (messages_said c i (bodies_said steps)) → (to_server m.body ≡ true) × (m.client ≡ c)
to_the_server c i [] m a j = absurd j
to_the_server c i (Say b ∷ steps) m a j = elim j [
  | inl e ↦ subst (λ (x : Message). (to_server x.body ≡ true) × (x.client ≡ c)) e (a.0, refl)
  | inr k ↦ to_the_server c i steps m a.1 k
]
to_the_server c i (ChangeCache x ∷ steps) m a j = to_the_server c i steps m a j
to_the_server c i (SetAsk y ∷ steps) m a j = to_the_server c i steps m a j
to_the_server c i (MarkWanted p ∷ steps) m a j = to_the_server c i steps m a j
to_the_server c i (MarkDue p ∷ steps) m a j = to_the_server c i steps m a j
to_the_server c i (MarkDueDowngrade p y ∷ steps) m a j = to_the_server c i steps m a j
to_the_server c i (EndTransaction l ∷ steps) m a j = to_the_server c i steps m a j

pub in_messages : (f : Frame) (fs : List Frame) → IsIn f fs → IsIn (message_of f) (messages_of fs)
in_messages f [] i = absurd i
in_messages f (g ∷ fs) (inl e) = inl (ap message_of e)
in_messages f (g ∷ fs) (inr i) = inr (in_messages f fs i)

-- each message is of one of the frames
pub of_frames : (P : Message → Type 0) (fs : List Frame)
    → ((f : Frame) → IsIn f fs → P (message_of f)) → (m : Message) → IsIn m (messages_of fs) → P m
of_frames P [] all m i = absurd i
of_frames P (f ∷ fs) all m (inl e) = subst P e (all f (inl refl))
of_frames P (f ∷ fs) all m (inr i) = of_frames P fs (λ g j. all g (inr j)) m i

-- The world's client makes the same call: it becomes what the worker's became, and says the same.
pub record Called (L : Limits) (w : World) (c : ℕ) (call : Call) (new : ClientState)
    (messages : List Message) : Type 0 where
  pub operations : List Operation
  pub shows : client_after L.keep_write (w.client c) (client_call L (w.client c) call).steps
      ≡ client_of new operations
  pub says : messages_said c (w.incarnation c) (bodies_said (client_call L (w.client c) call).steps)
      ≡ messages

pub by_call : (limits : Bounds) (r : Program) (w : World) (c : ℕ) (k : WorkerState) (call : Call)
    (word : _) (messages : List Message) (history : List Operation → List Operation)
    (new : ClientState)
    → limits_in r ≡ limits → IsWorldClient r w c k → Calls k.client call word messages history new
    → Called (limits_of limits) w c call new messages
by_call limits r w c k call word messages history new same is calls = record {
  operations = history is.operations;
  shows = (λ i. client_after (sym l i).keep_write (is.shows i)
      (client_call (limits_of (sym l i)) (is.shows i) call).steps)
      ∙ calls.makes.after is.operations;
  says = said_by c (w.incarnation c) k.client
      (bodies_said (client_call (limits_of limits) (w.client c) call).steps) is.of.no
      is.of.incarnation
      ∙ ((λ i. messages_from k.client
      (bodies_said (client_call (limits_of (sym l i)) (is.shows i) call).steps))
      ∙ calls.makes.said is.operations);
}
  where
    l : k.client.copies.limits ≡ limits
    l = is.limits ∙ same

-- how often a client began an incarnation and a transaction, by the transcript
pub counted : (L : Limits) (o : Origin L) (w : World) → SoundOpening o.opening → Reached L o w
    → (c : ℕ)
    → (incarnation_at w.transcript c ≡ w.incarnation c)
    × (transaction_at w.transcript c ≡ (w.client c).cache.number)
counted L o w sound r c =
    let a : ImageOfSome L o.opening (λ x. ⊤) w =
    image_of_reached L on_cycle o.opening (λ x. ⊤) (λ x e h may q. tt) tt w sound
    (whole L o w r) in
    (a.1.restarts c, a.1.begins c)

-- an operation in the transcript is one of the run
pub performs_so : (hs : List TranscriptEntry) (c : ℕ) (k : ClientState) (call : Call)
    (word : AnswerWord) (ops : List PerformedOperation) → k.no ≡ c → incarnation_at hs c
    ≡ k.incarnation → transaction_at hs c ≡ last_txn k
    → call_operation hs c call word ops ≡ performs k call word ops
performs_so hs c k (CallRead page) (AnsweredBytes bytes) ops n i t =
    λ j. record { client = sym n j; incarnation = i j; txn = t j; operation = Saw page bytes } ∷ ops
performs_so hs c k (CallWrite page bytes) AnsweredOk ops n i t =
    λ j. record { client = sym n j; incarnation = i j; txn = t j; operation = Put page bytes } ∷ ops
performs_so hs c k (CallRead page) AnsweredOk ops n i t = refl
performs_so hs c k (CallRead page) Asked ops n i t = refl
performs_so hs c k (CallRead page) Permitted ops n i t = refl
performs_so hs c k (CallRead page) Nothing ops n i t = refl
performs_so hs c k (CallRead page) (Flushed m) ops n i t = refl
performs_so hs c k (CallRead page) Taken ops n i t = refl
performs_so hs c k (CallRead page) NoPacket ops n i t = refl
performs_so hs c k (CallRead page) (Refused f) ops n i t = refl
performs_so hs c k (CallRead page) ServerExhausted ops n i t = refl
performs_so hs c k (CallRead page) NoClient ops n i t = refl
performs_so hs c k (CallWrite page bytes) (AnsweredBytes b) ops n i t = refl
performs_so hs c k (CallWrite page bytes) Asked ops n i t = refl
performs_so hs c k (CallWrite page bytes) Permitted ops n i t = refl
performs_so hs c k (CallWrite page bytes) Nothing ops n i t = refl
performs_so hs c k (CallWrite page bytes) (Flushed m) ops n i t = refl
performs_so hs c k (CallWrite page bytes) Taken ops n i t = refl
performs_so hs c k (CallWrite page bytes) NoPacket ops n i t = refl
performs_so hs c k (CallWrite page bytes) (Refused f) ops n i t = refl
performs_so hs c k (CallWrite page bytes) ServerExhausted ops n i t = refl
performs_so hs c k (CallWrite page bytes) NoClient ops n i t = refl
performs_so hs c k CallHello word ops n i t = refl
performs_so hs c k CallBegin word ops n i t = refl
performs_so hs c k (CallWant page) word ops n i t = refl
performs_so hs c k CallFinish word ops n i t = refl
performs_so hs c k CallDrop word ops n i t = refl
performs_so hs c k CallAgain word ops n i t = refl
performs_so hs c k (CallPeek page) word ops n i t = refl

module _ (limits : Bounds) (origin : Origin (limits_of limits)) (old : Program) (c : ℕ)
    (call : Call)
    (new : Program) (kept : Kept limits origin old) (does : CallsClient old c call new) where
  abbrev L : Limits
  L = limits_of limits

  abbrev w : World
  w = kept.world

  abbrev v : World
  v = called_world (limits_of limits) kept.world c call

  limits_same : limits_in new ≡ limits_in old
  limits_same = ap (λ (s : StationState). s.dispatcher.server.limits) does.station

  is : IsWorldClient old w c does.worker
  is = kept.stands.worker c does.worker does.becomes.was

  called : Called L w c call does.next.client does.messages
  called = by_call limits old w c does.worker call does.word does.messages does.history
      does.next.client kept.limits_are is does.calls

  grows : Grows w v
  grows m i = in_left m w.packets _ i

  others : (d : ℕ) → d ≢ c → Near old new w v d
  others d n = record {
    incarnation = refl;
    client = at_others w.client c d
        (client_after L.keep_write (w.client c) (client_call L (w.client c) call).steps) n;
    hands = ap (λ (s : StationState). stored_at s.hands d) does.station;
    worker = does.becomes.others d n;
    current = refl;
  }

  -- what is said is on its way
  sends : (m : Message) → IsIn m does.messages → IsIn m v.packets × (to_server m.body ≡ true)
      × (m.client ≡ c)
  sends m i = let j : IsIn m (messages_said c (w.incarnation c)
      (bodies_said (client_call L (w.client c) call).steps)) =
      subst (λ (l : List Message). IsIn m l) (sym called.says) i in
      let x = to_the_server c (w.incarnation c) (client_call L (w.client c) call).steps m
      (calls_speak L (w.client c) call) j in (in_right m w.packets _ j, x.0, x.1)

  said : (f : Frame) → IsIn f does.next.said → IsSaidBy v c f
  said f i = elim (in_append (message_of f) (messages_of does.worker.said) does.messages
      (subst (λ (l : List Message). IsIn (message_of f) l) does.said
      (in_messages f does.next.said i))) [
        | inl j ↦ of_frames (λ m. IsIn m v.packets × (to_server m.body ≡ true) × (m.client ≡ c))
            does.worker.said (λ g k. let x = is.said g k in
            (grows (message_of g) x.0, x.1, x.2)) (message_of f) j
        | inr j ↦ sends (message_of f) j
      ]

  own : IsWorldClient new v c does.next
  own = record {
    of = record {
      no = does.calls.makes.no ∙ is.of.no;
      incarnation = does.calls.makes.incarnation ∙ is.of.incarnation;
      hand = ap (λ (k : WorkerState). k.hand.client) does.rest ∙ is.of.hand;
      hand_incarnation = ap (λ (k : WorkerState). k.hand.incarnation) does.rest
          ∙ is.of.hand_incarnation;
    };
    limits = does.calls.makes.limits ∙ is.limits ∙ sym limits_same;
    held = subst (λ (h : HandState). IsHeld new.station.hands h)
        (sym (ap (λ (k : WorkerState). k.hand) does.rest))
        (subst (λ (s : StationState). IsHeld s.hands does.worker.hand) (sym does.station) is.held);
    operations = called.operations;
    shows = at_itself w.client c _ ∙ called.shows;
    collected = λ f e. let x = is.collected f
        (sym (ap (λ (k : WorkerState). k.collected) does.rest) ∙ e) in
        (grows (message_of f) x.0, x.1, x.2);
    said = said;
  }

  mailbox : (d : ℕ) (f : Frame) → IsIn f (mailbox_of new.station d) → IsSentTo v d f
  mailbox d f i = let x = kept.stands.mailbox d f
      (subst (λ (s : StationState). IsIn f (mailbox_of s d)) does.station i) in
      (grows (message_of f) x.0, x.1, x.2)

  -- the world's transcript has it too
  performed : transcript_operations v.transcript ≡ new.performed
  performed =
      let at = counted L origin w kept.opened kept.reached c in
      let word : (client_call L (w.client c) call).word ≡ does.word =
      (λ i. (client_call (limits_of (sym (is.limits ∙ kept.limits_are) i)) (is.shows i)
      call).word) ∙ does.calls.word is.operations in
      ap (λ (x : AnswerWord). call_operation w.transcript c call x
      (transcript_operations w.transcript)) word
      ∙ performs_so w.transcript c does.worker.client call does.word
      (transcript_operations w.transcript) is.of.no (at.0 ∙ sym is.of.incarnation)
      (at.1 ∙ ap (λ (x : Client). x.cache.number) is.shows)
      ∙ ap (performs does.worker.client call does.word) kept.performed ∙ sym does.performed

  pub called_kept : IsSound new → Kept limits origin new
  called_kept sound = record {
    limits_are = limits_same ∙ kept.limits_are;
    sound = sound;
    world = v;
    reached = calls_reach L origin w c call
        (is_there limits origin old c does.worker kept does.becomes.was) kept.reached;
    opened = kept.opened;
    performed = performed;
    stands = stands_but old new w v grows limits_same c kept.stands
        (kept.stands.server ∙ ap server_of (sym does.station)) others
        (λ k e. subst (λ (x : WorkerState). IsWorldClient new v c x)
        (the_worker new c does.next k does.becomes.becomes e) own)
        (λ e. absurd (no_worker new c does.next does.becomes.becomes e)) mailbox;
  }
