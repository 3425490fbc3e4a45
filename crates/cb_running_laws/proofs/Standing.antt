-- A world that stands for a program goes on standing for it, client by client.
use Rattle.std.proofs.Common.{◌≡◌, ◌≢◌, ◌<◌, ◌≤◌, ◌+◌, ℕ, List, length, Option, Some, None, sym}
use Rattle.std.proofs.Common.{◌∙◌, ap, subst, inl, inr, ◌⊎◌}
use Rattle.std.proofs.lemmas.Bool.{cases_eq}
use Rattle.std.proofs.lemmas.List.{get_or-set_other}
use Rattle.cb_frame.specs.declared.frame.Frame.{Frame}
use Rattle.cb_hands.specs.Hands.{HandState}
use Rattle.cb_hands.specs.Joined.{Follow, stored_at}
use Rattle.cb_outbox.specs.Messages.{message_of}
use Rattle.cb_page.specs.Bounds.{Bounds}
use Rattle.cb_protocol.specs.Basics.{IsIn}
use Rattle.cb_protocol.specs.Client.{new_client}
use Rattle.cb_protocol.specs.Messages.{Message}
use Rattle.cb_protocol.specs.StoreLimits.{limits_of}
use Rattle.cb_protocol.specs.Headline.{SoundOpening}
use Rattle.cb_protocol.specs.Transcript.{transcript_operations}
use Rattle.cb_protocol.specs.World.{World}
use Rattle.cb_station.proofs.Following.{has_place}
use Rattle.cb_station.specs.Stations.{mailbox_of, server_of}
use Rattle.cb_running_laws.proofs.Events.{Origin, Reached}
use Rattle.cb_running_laws.specs.Programs.{IsSound, Program, limits_in}
use Rattle.cb_running_laws.specs.Worlds.{IsSentTo, IsWorldClient, IsWorldOf}
use Rattle.cb_worker.specs.Workers.{IsOf, WorkerState}

-- a client without a worker may still join: its last incarnation is known to the server, or it is
-- its first one, and nothing was called
abbrev pub MayStillJoin : World → (client : ℕ) → Type 0
MayStillJoin world client =
    (world.incarnation client ≤ (world.server.session client).current)
    ⊎ ((world.incarnation client ≡ (world.server.session client).current + 1)
    × (world.client client ≡ new_client))

-- The world is the program, whatever was read and written; and who has no worker may still join.
pub record Stands (program : Program) (world : World) : Type 0 where
  pub server : world.server ≡ server_of program.station
  pub worker : (client : ℕ) (worker : WorkerState) → program.worker client ≡ Some worker
      → IsWorldClient program world client worker
  pub absent : (client : ℕ) → program.worker client ≡ None → MayStillJoin world client
  pub mailbox : (client : ℕ) (frame : Frame) → IsIn frame (mailbox_of program.station client)
      → IsSentTo world client frame

-- every packet stays
abbrev pub Grows : World → World → Type 0
Grows w v = (m : Message) → IsIn m w.packets → IsIn m v.packets

-- Of one client nothing changed.
pub record Near (old new : Program) (w v : World) (d : ℕ) : Type 0 where
  pub incarnation : v.incarnation d ≡ w.incarnation d
  pub client : v.client d ≡ w.client d
  pub hands : stored_at new.station.hands d ≡ stored_at old.station.hands d
  pub worker : new.worker d ≡ old.worker d
  pub current : (v.server.session d).current ≡ (w.server.session d).current

module _ (old new : Program) (w v : World) (grows : Grows w v)
    (limits : limits_in new ≡ limits_in old) where
  pub worker_stays : (d : ℕ) (k : WorkerState) → Near old new w v d → IsWorldClient old w d k
      → IsWorldClient new v d k
  worker_stays d k near is = record {
    of = subst (λ (i : ℕ). IsOf k d i) (sym near.incarnation) is.of;
    limits = is.limits ∙ sym limits;
    held = ap (λ (c : ℕ). stored_at new.station.hands c) is.of.hand ∙ near.hands
        ∙ ap (λ (c : ℕ). stored_at old.station.hands c) (sym is.of.hand) ∙ is.held;
    operations = is.operations;
    shows = near.client ∙ is.shows;
    collected = λ f e. let x = is.collected f e in (grows (message_of f) x.0, x.1, x.2);
    said = λ f i. let x = is.said f i in (grows (message_of f) x.0, x.1, x.2);
  }

  pub absent_stays : (d : ℕ) → Near old new w v d → MayStillJoin w d → MayStillJoin v d
  absent_stays d near (inl l) = inl
      (subst (λ (n : ℕ). v.incarnation d ≤ n) (sym near.current)
      (subst (λ (n : ℕ). n ≤ (w.server.session d).current) (sym near.incarnation) l))
  absent_stays d near (inr x) = inr
      (near.incarnation ∙ x.0 ∙ ap (λ (n : ℕ). n + 1) (sym near.current), near.client ∙ x.1)

  -- of all clients but one nothing changed
  pub stands_but : (c : ℕ) → Stands old w → v.server ≡ server_of new.station
      → ((d : ℕ) → d ≢ c → Near old new w v d)
      → ((k : WorkerState) → new.worker c ≡ Some k → IsWorldClient new v c k)
      → (new.worker c ≡ None → MayStillJoin v c)
      → ((d : ℕ) (f : Frame) → IsIn f (mailbox_of new.station d) → IsSentTo v d f) → Stands new v
  stands_but c s server others own absent mailbox = record {
    server = server;
    worker = λ d k e. worker_at d k e (cases_eq d c);
    absent = λ d e. absent_at d e (cases_eq d c);
    mailbox = mailbox;
  }
    where
      worker_at : (d : ℕ) (k : WorkerState) → new.worker d ≡ Some k → (d ≡ c) ⊎ (d ≢ c)
          → IsWorldClient new v d k
      worker_at d k e (inl same) = subst (λ (n : ℕ). IsWorldClient new v n k) (sym same)
          (own k (ap new.worker (sym same) ∙ e))
      worker_at d k e (inr n) = let near = others d n in
          worker_stays d k near (s.worker d k (sym near.worker ∙ e))

      absent_at : (d : ℕ) → new.worker d ≡ None → (d ≡ c) ⊎ (d ≢ c) → MayStillJoin v d
      absent_at d e (inl same) = subst (λ (n : ℕ). MayStillJoin v n) (sym same)
          (absent (ap new.worker (sym same) ∙ e))
      absent_at d e (inr n) = let near = others d n in
          absent_stays d near (s.absent d (sym near.worker ∙ e))

  -- of no client anything changed
  pub stands_still : Stands old w → v.server ≡ server_of new.station
      → ((d : ℕ) → Near old new w v d)
      → ((d : ℕ) (f : Frame) → IsIn f (mailbox_of new.station d) → IsSentTo v d f) → Stands new v
  stands_still s server all mailbox = record {
    server = server;
    worker = λ d k e. let near = all d in
        worker_stays d k near (s.worker d k (sym near.worker ∙ e));
    absent = λ d e. let near = all d in absent_stays d near (s.absent d (sym near.worker ∙ e));
    mailbox = mailbox;
  }

-- the one that there is
pub the_worker : (r : Program) (c : ℕ) (one other : WorkerState) → r.worker c ≡ Some one
    → r.worker c ≡ Some other → one ≡ other
the_worker r c one other e f = let z : Some one ≡ Some other = sym e ∙ f in cc

pub no_worker : (r : Program) (c : ℕ) (one : WorkerState) → r.worker c ≡ Some one → r.worker c
    ≡ None → ⊥
no_worker r c one e f = let z : Some one ≡ None = sym e ∙ f in cc

-- another client's hand stays
pub others_hand : (a b : List (Option HandState)) (one two : HandState) (c d : ℕ)
    → Follow a b one two → one.client ≡ c → d ≢ c → stored_at b d ≡ stored_at a d
others_hand a b one two c d follow name n =
    ap (λ (l : List (Option HandState)). stored_at l d) follow.hands
    ∙ get_or-set_other a one.client d (Some two) None (λ e. n (e ∙ name))

-- A program, with a world that it is.
pub record Kept (limits : Bounds) (origin : Origin (limits_of limits)) (r : Program) : Type 0 where
  pub limits_are : limits_in r ≡ limits
  pub sound : IsSound r
  pub world : World
  pub reached : Reached (limits_of limits) origin world
  pub stands : Stands r world
  pub opened : SoundOpening origin.opening
  pub performed : transcript_operations world.transcript ≡ r.performed

pub is_world_of : (limits : Bounds) (origin : Origin (limits_of limits)) (r : Program)
    (kept : Kept limits origin r)
    → IsWorldOf kept.world r
is_world_of limits origin r kept = record {
  server = kept.stands.server;
  worker = kept.stands.worker;
  mailbox = kept.stands.mailbox;
  performed = kept.performed;
}

-- a client with a worker is one that there is
pub is_there_by : (limits : Bounds) (origin : Origin (limits_of limits)) (r : Program) (c : ℕ)
    (k : WorkerState)
    (kept : Kept limits origin r) → IsWorldClient r kept.world c k → c < limits.clients
is_there_by limits origin r c k kept is =
    let lt : k.hand.client < length r.station.hands =
    has_place r.station.hands k.hand.client k.hand is.held in
    subst (λ (b : Bounds). c < b.clients) kept.limits_are
    (subst (λ (n : ℕ). c < n) kept.sound.station.clients
    (subst (λ (n : ℕ). n < length r.station.hands) is.of.hand lt))

pub is_there : (limits : Bounds) (origin : Origin (limits_of limits)) (r : Program) (c : ℕ)
    (k : WorkerState)
    → Kept limits origin r → r.worker c ≡ Some k → c < limits.clients
is_there limits origin r c k kept e =
    is_there_by limits origin r c k kept (kept.stands.worker c k e)
