-- The server of a world takes what a round took, and says the same.
use Rattle.std.proofs.Common.{◌≡◌, ◌≢◌, ◌<◌, ◌≤◌, ◌++◌, ◌⊎◌, ℕ, true, false, nat_lt, nat_le, List, []}
use Rattle.std.proofs.Common.{◌∷◌, Bool, Option, Some, None, refl, sym, ◌∙◌, ap, subst, arith, inl, inr}
use Rattle.std.proofs.Common.{if◌then◌else◌}
use Rattle.std.proofs.lemmas.Bool.{cases_eq, cases_lt}
use Rattle.std.proofs.lemmas.Bool.Decides.{nat_tests}
use Rattle.std.specs.Prelude.{⊤}
use Rattle.std.specs.List.{AllByRecursion}
use Rattle.cb_commit.specs.Batches.{BatchState}
use Rattle.cb_outbox.specs.Messages.{body_of, message_of}
use Rattle.cb_page.specs.Bounds.{Bounds}
use Rattle.cb_protocol.proofs.Cases.{serves_hello_again, serves_no_old_hello, serves_no_other_incarnation}
use Rattle.cb_protocol.proofs.Cases.{step_again}
use Rattle.cb_protocol.proofs.HelloStarts.{greater_hello}
use Rattle.cb_protocol.proofs.LifeImage.{in_append, in_left, in_right}
use Rattle.cb_protocol.proofs.OthersKeep.{others_keep_rows_and_permissions}
use Rattle.cb_protocol.specs.AnyMessages.{Input, MessageComes, ReachesDisk, SendsAgain, input_steps}
use Rattle.cb_protocol.specs.Answers.{AnsweredOk, Flushed, Taken}
use Rattle.cb_protocol.specs.Basics.{IsIn, Limits}
use Rattle.cb_protocol.specs.Flush.{Batch, can_flush, changed_pages, next_batch, server_flush}
use Rattle.cb_protocol.specs.Messages.{Body, Hello, Message, to_server}
use Rattle.cb_protocol.specs.Resend.{server_again}
use Rattle.cb_protocol.specs.Server.{Server, server_after}
use Rattle.cb_protocol.specs.ServerMessages.{server_take}
use Rattle.cb_protocol.specs.Transcript.{transcript_operations}
use Rattle.cb_protocol.specs.WaitsFor.{on_cycle}
use Rattle.cb_protocol.specs.World.{FlushTo, ServerAgain, StepResult, TakePacket, World, messages_sent}
use Rattle.cb_protocol.specs.World.{server_does}
use Rattle.cb_server.proofs.Onward.{goes_on}
use Rattle.cb_server.specs.Answering.{is_hello}
use Rattle.cb_server.specs.Taking.{input_of}
use Rattle.cb_server_state.specs.Commits.{batch_of}
use Rattle.cb_serve.specs.Answering.{after_inputs, inputs_in, said_to}
use Rattle.cb_serve.specs.Streams.{Piece, asks_again, comes, let_go, passed_over}
use Rattle.cb_running_laws.specs.ProcessSteps.{HasNumber, HasNumbers}
use Rattle.cb_running_laws.proofs.Events.{Origin, Reached, by_event, flushed_reach, number_of}
use Rattle.cb_running_laws.proofs.Events.{served_reach}
use Rattle.cb_running_laws.proofs.Standing.{Grows}

-- ---- the server alone

-- of each client that there is the server knows the floor, or a greater incarnation
abbrev pub KnowsFloor : (clients floor : ℕ) → Server → Type 0
KnowsFloor clients floor s = (c : ℕ) → c < clients → floor ≤ (s.session c).current

hello_is : (b : Body) → is_hello b ≡ true → b ≡ Hello
hello_is Hello e = refl
hello_is _ e = absurd (let z : false ≡ true = e in cc)

not_hello : (b : Body) → is_hello b ≡ false → b ≢ Hello
not_hello b e is = absurd (let z : true ≡ false = sym (ap is_hello is) ∙ e in cc)

-- no incarnation that it knows falls, by a Hello
greeted : (s : Server) (c i floor : ℕ) → floor ≤ (s.session c).current
    → floor ≤ ((server_after s (server_take on_cycle s c i Hello)).session c).current
greeted s c i floor known = elim (cases_lt (s.session c).current i) [
  | inl newer ↦
      (let is = (greater_hello on_cycle s c i newer).0.current in omega (arith, is, newer, known))
  | inr past ↦ elim (cases_eq i (s.session c).current) [
    | inl same ↦ subst (λ ds. floor ≤ ((server_after s ds).session c).current)
        (sym (serves_hello_again on_cycle s c i same)) known
    | inr apart ↦ subst (λ ds. floor ≤ ((server_after s ds).session c).current)
        (sym (serves_no_old_hello on_cycle s c i (grind (arith, past, apart)))) known
  ]
]

-- by any message of its own client
own : (s : Server) (c i : ℕ) (b : Body) (floor : ℕ) → floor ≤ (s.session c).current
    → floor ≤ ((server_after s (server_take on_cycle s c i b)).session c).current
own s c i b floor known = go (is_hello b) refl
  where
    go : (r : Bool) → is_hello b ≡ r
        → floor ≤ ((server_after s (server_take on_cycle s c i b)).session c).current
    go true e = let is = hello_is b e in
        subst (λ x. floor ≤ ((server_after s (server_take on_cycle s c i x)).session c).current)
        (sym is) (greeted s c i floor known)
    go false e = let same = (goes_on on_cycle s c i b (not_hello b e)).current in
        omega (arith, same, known)

-- by anything
pub floor_kept : (clients floor : ℕ) (s : Server) (input : Input) → KnowsFloor clients floor s
    → KnowsFloor clients floor (server_after s (input_steps on_cycle s input))
floor_kept clients floor s (MessageComes c i b) known d lt = elim (cases_eq d c) [
  | inl same ↦ subst (λ k. floor ≤ ((server_after s (server_take on_cycle s c i b)).session k).current)
      (sym same) (own s c i b floor (known c (subst (λ k. k < clients) same lt)))
  | inr apart ↦ (let same = ((others_keep_rows_and_permissions on_cycle s).0 c i b d
      apart).incarnation in let l = known d lt in omega (arith, same, l))
]
floor_kept clients floor s SendsAgain known d lt =
    let same = ((others_keep_rows_and_permissions on_cycle s).1 d).incarnation in
    let l = known d lt in omega (arith, same, l)
floor_kept clients floor s (ReachesDisk n) known d lt =
    let same = ((others_keep_rows_and_permissions on_cycle s).2 n d).incarnation in
    let l = known d lt in omega (arith, same, l)

-- a message of an incarnation below the floor does nothing
pub stale : (s : Server) (c i : ℕ) (b : Body) (floor : ℕ) → i < floor → floor ≤ (s.session c).current
    → server_take on_cycle s c i b ≡ []
stale s c i b floor below known = go (is_hello b) refl
  where
    go : (r : Bool) → is_hello b ≡ r → server_take on_cycle s c i b ≡ []
    go true e = subst (λ x. server_take on_cycle s c i x ≡ []) (sym (hello_is b e))
        (serves_no_old_hello on_cycle s c i (omega (arith, below, known)))
    go false e = serves_no_other_incarnation on_cycle s c i b (not_hello b e)
        (λ same. omega (arith, below, known, same))

-- ---- with the world's server

-- The world's server moved alone: it is this one, and these messages are among the packets.
pub record Served (L : Limits) (o : Origin L) (floor : ℕ) (w : World) (new : Server)
    (messages : List Message) : Type 0 where
  pub world : World
  pub reached : Reached L o world
  pub server : world.server ≡ new
  pub known : KnowsFloor L.clients floor new
  pub incarnation : (d : ℕ) → world.incarnation d ≡ w.incarnation d
  pub client : (d : ℕ) → world.client d ≡ w.client d
  pub grows : Grows w world
  pub says : (m : Message) → IsIn m messages → IsIn m world.packets
  pub silent : transcript_operations world.transcript ≡ transcript_operations w.transcript

-- What it is called with is there: a packet to it for which it has a number, or one of below the
-- floor; resending; or commits that may reach the disk.
abbrev IsThere : (L : Limits) (floor : ℕ) → World → Input → Type 0
IsThere L floor w (MessageComes c i b) = (c < L.clients)
    × ((IsIn (record { client = c; incarnation = i; body = b }) w.packets × (to_server b ≡ true))
    ⊎ (i < floor))
IsThere L floor w SendsAgain = ⊤
IsThere L floor w (ReachesDisk n) = can_flush w.server n ≡ true

module _ (L : Limits) (o : Origin L) (floor : ℕ) where
  nothing : (w : World) → Reached L o w → KnowsFloor L.clients floor w.server
      → Served L o floor w w.server []
  nothing w r known = record {
    world = w;
    reached = r;
    server = refl;
    known = known;
    incarnation = λ d. refl;
    client = λ d. refl;
    grows = λ m i. i;
    says = λ m i. absurd i;
    silent = refl;
  }

  pub serves_none : (w : World) → Reached L o w → (s : Server) → w.server ≡ s
      → KnowsFloor L.clients floor s → Served L o floor w s []
  serves_none w r s same known = subst (λ (x : Server). Served L o floor w x []) same
      (nothing w r (subst (KnowsFloor L.clients floor) (sym same) known))

  -- of the world's server as it is
  serves_here : (w : World) → Reached L o w → KnowsFloor L.clients floor w.server → (input : Input)
      → IsThere L floor w input → HasNumber w.server input
      → Served L o floor w (server_after w.server (input_steps on_cycle w.server input))
      (messages_sent (input_steps on_cycle w.server input))
  serves_here w r known (MessageComes c i b) (lt, inl there) left =
      let m : Message = record { client = c; incarnation = i; body = b } in
      let at = number_of m w.packets there.0 in record {
        world = (server_does w (TakePacket at.0) Taken (server_take on_cycle w.server c i b)).world;
        reached = served_reach L o w m at.0 at.1 r there.1 left;
        server = refl;
        known = floor_kept L.clients floor w.server (MessageComes c i b) known;
        incarnation = λ d. refl;
        client = λ d. refl;
        grows = λ x j. in_left x w.packets _ j;
        says = λ x j. in_right x w.packets _ j;
        silent = refl;
      }
  serves_here w r known (MessageComes c i b) (lt, inr below) left =
      subst (λ ds. Served L o floor w (server_after w.server ds) (messages_sent ds))
      (sym (stale w.server c i b floor below (known c lt))) (nothing w r known)
  serves_here w r known SendsAgain there left = record {
    world = (server_does w ServerAgain AnsweredOk (server_again w.server)).world;
    reached = subst (λ (x : StepResult). Reached L o x.world) (step_again L on_cycle w None)
        (by_event L o w ServerAgain None r tt);
    server = refl;
    known = floor_kept L.clients floor w.server SendsAgain known;
    incarnation = λ d. refl;
    client = λ d. refl;
    grows = λ x j. in_left x w.packets _ j;
    says = λ x j. in_right x w.packets _ j;
    silent = refl;
  }
  serves_here w r known (ReachesDisk n) there left = record {
    world = (server_does w (FlushTo n) (Flushed n) (server_flush w.server n)).world;
    reached = flushed_reach L o w n there r;
    server = refl;
    known = floor_kept L.clients floor w.server (ReachesDisk n) known;
    incarnation = λ d. refl;
    client = λ d. refl;
    grows = λ x j. in_left x w.packets _ j;
    says = λ x j. in_right x w.packets _ j;
    silent = refl;
  }

  serves_input : (w : World) → Reached L o w → (s : Server) → w.server ≡ s
      → KnowsFloor L.clients floor s → (input : Input) → IsThere L floor w input
      → HasNumber s input
      → Served L o floor w (server_after s (input_steps on_cycle s input))
      (messages_sent (input_steps on_cycle s input))
  serves_input w r s same known input there left =
      subst (λ (x : Server). Served L o floor w (server_after x (input_steps on_cycle x input))
      (messages_sent (input_steps on_cycle x input))) same
      (serves_here w r (subst (KnowsFloor L.clients floor) (sym same) known) input there
      (subst (λ (x : Server). HasNumber x input) (sym same) left))

  -- one after the other
  serves_both : (w : World) (s t : Server) (ms ns : List Message) → (one : Served L o floor w s ms)
      → Served L o floor one.world t ns → Served L o floor w t (ms ++ ns)
  serves_both w s t ms ns one two = record {
    world = two.world;
    reached = two.reached;
    server = two.server;
    known = two.known;
    incarnation = λ d. two.incarnation d ∙ one.incarnation d;
    client = λ d. two.client d ∙ one.client d;
    grows = λ m i. two.grows m (one.grows m i);
    says = λ m i. elim (in_append m ms ns i) [
      | inl j ↦ two.grows m (one.says m j)
      | inr j ↦ two.says m j
    ];
    silent = two.silent ∙ one.silent;
  }

-- ---- a round

-- what may come as a piece, where the frames that were said are among the packets
abbrev pub ComesAmong : (limits : Bounds) (floor : ℕ) → World → Piece → Type 0
ComesAmong limits floor w (comes f b) = (f.client < limits.clients)
    × ((IsIn (message_of f) w.packets × (to_server (body_of f.body) ≡ true))
    ⊎ (f.incarnation < floor))
ComesAmong limits floor w _ = ⊤

comes_on : (limits : Bounds) (floor : ℕ) (w v : World) → Grows w v → (p : Piece)
    → ComesAmong limits floor w p → ComesAmong limits floor v p
comes_on limits floor w v grows (comes f b) (lt, inl x) = (lt, inl (grows (message_of f) x.0, x.1))
comes_on limits floor w v grows (comes f b) (lt, inr x) = (lt, inr x)
comes_on limits floor w v grows asks_again x = tt
comes_on limits floor w v grows (passed_over b) x = tt
comes_on limits floor w v grows (let_go f b) x = tt

all_come_on : (limits : Bounds) (floor : ℕ) (w v : World) → Grows w v → (ps : List Piece)
    → AllByRecursion (ComesAmong limits floor w) ps
    → AllByRecursion (ComesAmong limits floor v) ps
all_come_on limits floor w v grows [] all = tt
all_come_on limits floor w v grows (p ∷ ps) all =
    (comes_on limits floor w v grows p all.0, all_come_on limits floor w v grows ps all.1)

module _ (limits : Bounds) (L : Limits) (count : L.clients ≡ limits.clients) (o : Origin L)
    (floor : ℕ) where
  -- all pieces
  pub serves_pieces : (ps : List Piece) (w : World) → Reached L o w → (s : Server) → w.server ≡ s
      → KnowsFloor L.clients floor s → AllByRecursion (ComesAmong limits floor w) ps
      → HasNumbers s (inputs_in ps)
      → Served L o floor w (after_inputs s (inputs_in ps)) (said_to s (inputs_in ps))
  serves_pieces [] w r s same known all left =
      serves_none L o floor w r s same known
  serves_pieces (comes f b ∷ ps) w r s same known all left =
      let one : Served L o floor w (server_after s (input_steps on_cycle s (input_of f)))
      (messages_sent (input_steps on_cycle s (input_of f)))
      = serves_input L o floor w r s same known (input_of f)
      (subst (λ n. f.client < n) (sym count) all.0.0, all.0.1) left.0 in
      serves_both L o floor w (server_after s (input_steps on_cycle s (input_of f)))
      (after_inputs s (inputs_in (comes f b ∷ ps)))
      (messages_sent (input_steps on_cycle s (input_of f)))
      (said_to (server_after s (input_steps on_cycle s (input_of f))) (inputs_in ps)) one
      (serves_pieces ps one.world one.reached
      (server_after s (input_steps on_cycle s (input_of f))) one.server one.known
      (all_come_on limits floor w one.world one.grows ps all.1) left.1)
  serves_pieces (asks_again ∷ ps) w r s same known all left =
      let one : Served L o floor w (server_after s (input_steps on_cycle s SendsAgain))
      (messages_sent (input_steps on_cycle s SendsAgain))
      = serves_input L o floor w r s same known SendsAgain tt left.0 in
      serves_both L o floor w (server_after s (input_steps on_cycle s SendsAgain))
      (after_inputs s (inputs_in (asks_again ∷ ps)))
      (messages_sent (input_steps on_cycle s SendsAgain))
      (said_to (server_after s (input_steps on_cycle s SendsAgain)) (inputs_in ps)) one
      (serves_pieces ps one.world one.reached
      (server_after s (input_steps on_cycle s SendsAgain)) one.server one.known
      (all_come_on limits floor w one.world one.grows ps all.1) left.1)
  serves_pieces (passed_over b ∷ ps) w r s same known all left =
      serves_pieces ps w r s same known all.1 left
  serves_pieces (let_go f b ∷ ps) w r s same known all left =
      serves_pieces ps w r s same known all.1 left

-- what is written next, if there is anything
abbrev next_if : Server → Bool → Option Batch
next_if s true = Some (record { number = s.store.last_commit; pages = changed_pages s s.pages })
next_if s false = None

abbrev batch_number : Option Batch → ℕ
batch_number None = 0
batch_number (Some b) = b.number

-- a batch that is the next may reach the disk
pub can_reach : (s : Server) (batch : BatchState) → next_batch s ≡ Some (batch_of batch)
    → can_flush s batch.number ≡ true
can_reach s batch is = go (nat_lt s.flushed s.store.last_commit) refl
  where
    by : (b : Bool) → next_if s b
        ≡ (if b then Some (record { number = s.store.last_commit; pages = changed_pages s s.pages })
        else None)
    by true = refl
    by false = refl

    chosen : (b : Bool) → nat_lt s.flushed s.store.last_commit ≡ b
        → next_if s b ≡ Some (batch_of batch)
    chosen b e = subst (λ (x : Bool). next_if s x ≡ Some (batch_of batch)) e
        (by (nat_lt s.flushed s.store.last_commit) ∙ is)

    all : nat_le s.store.last_commit s.store.last_commit ≡ true
    all = grind (arith, nat_tests)

    go : (b : Bool) → nat_lt s.flushed s.store.last_commit ≡ b → can_flush s batch.number ≡ true
    go true e = subst (λ n. can_flush s n ≡ true) (ap batch_number (chosen true e))
        (rw (e, all) refl)
    go false e = absurd (let z : None ≡ Some (batch_of batch) = chosen false e in cc)

-- the commits reach the disk
pub serves_batch : (L : Limits) (o : Origin L) (floor : ℕ) (w : World) → Reached L o w
    → (s : Server) → w.server ≡ s → KnowsFloor L.clients floor s → (number : ℕ)
    → can_flush s number ≡ true
    → Served L o floor w (after_inputs s (ReachesDisk number ∷ []))
    (said_to s (ReachesDisk number ∷ []))
serves_batch L o floor w r s same known number can =
    let one : Served L o floor w (server_after s (input_steps on_cycle s (ReachesDisk number)))
    (messages_sent (input_steps on_cycle s (ReachesDisk number)))
    = serves_input L o floor w r s same known (ReachesDisk number)
    (ap (λ (x : Server). can_flush x number) same ∙ can) tt in
    serves_both L o floor w (server_after s (input_steps on_cycle s (ReachesDisk number)))
    (after_inputs s (ReachesDisk number ∷ []))
    (messages_sent (input_steps on_cycle s (ReachesDisk number))) [] one
    (serves_none L o floor one.world one.reached
    (server_after s (input_steps on_cycle s (ReachesDisk number))) one.server one.known)
