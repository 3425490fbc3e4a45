-- A client leaves, or is abandoned.
use Rattle.std.proofs.Common.{◌≡◌, ◌≢◌, ◌<◌, ◌+◌, ℕ, List, Some, None, refl, sym, ◌∙◌, ap, subst}
use Rattle.std.proofs.Common.{arith, inl, inr, ◌⊎◌}
use Rattle.std.proofs.lemmas.Bool.{cases_eq}
use Rattle.cb_frame.specs.declared.frame.Frame.{Frame}
use Rattle.cb_hands.specs.Joined.{stored_at}
use Rattle.cb_mailboxes.specs.Dispatching as dispatching
use Rattle.cb_mailboxes.specs.Dispatching.{emptied}
use Rattle.cb_mailboxes.specs.Mailboxes.{current_in}
use Rattle.cb_outbox.specs.Messages.{message_of, messages_of}
use Rattle.cb_page.specs.Bounds.{Bounds}
use Rattle.cb_protocol.proofs.HelloStarts.{greater_hello}
use Rattle.cb_protocol.specs.AnyMessages.{MessageComes}
use Rattle.cb_protocol.specs.Basics.{IsIn}
use Rattle.cb_protocol.specs.Messages.{Hello}
use Rattle.cb_protocol.specs.Server.{Server}
use Rattle.cb_protocol.specs.StoreLimits.{limits_of}
use Rattle.cb_protocol.specs.WaitsFor.{on_cycle}
use Rattle.cb_server.specs.ServerValue.{ServerValue}
use Rattle.cb_server.specs.Taking.{Does}
use Rattle.cb_station.specs.Stations.{StationState, mailbox_of, server_of}
use Rattle.cb_running_laws.proofs.Events.{Origin}
use Rattle.cb_running_laws.proofs.Calling.{in_messages}
use Rattle.cb_running_laws.proofs.Standing.{Kept, is_there, no_worker, stands_but}
use Rattle.cb_running_laws.proofs.Turning.{posted_from}
use Rattle.cb_running_laws.specs.Programs.{IsSound, Program, limits_in}
use Rattle.cb_running_laws.specs.Steps.{IsSilent}
use Rattle.cb_running_laws.specs.Steps as steps
use Rattle.cb_running_laws.specs.Worlds.{IsSentTo, IsWorldClient}
use Rattle.cb_worker.specs.Workers.{WorkerState}
use Rattle.cb_running_laws.proofs.Greeting.{Greeted, greeted, keeps, other_set, renews}

-- the server's incarnation of a worker's client is the world's
pub same_incarnation : (limits : Bounds) (origin : Origin (limits_of limits)) (r : Program) (c : ℕ)
    (k : WorkerState) (kept : Kept limits origin r) → r.worker c ≡ Some k
    → ((server_of r.station).session c).current ≡ kept.world.incarnation c
same_incarnation limits origin r c k kept e =
    let is = kept.stands.worker c k e in
    ap (λ (n : ℕ). ((server_of r.station).session n).current) (sym is.of.hand)
    ∙ (kept.sound.station.hand k.hand.client k.hand is.held).current ∙ is.of.hand_incarnation

-- it leaves
module _ (limits : Bounds) (origin : Origin (limits_of limits)) (old : Program) (c : ℕ)
    (new : Program)
    (kept : Kept limits origin old) (t : steps.Leaves old c new) (sound : IsSound new)
    (silent : IsSilent old new) where
  abbrev s : ServerValue
  s = old.station.dispatcher.server

  abbrev i : ℕ
  i = t.worker.hand.incarnation + 1

  was : IsWorldClient old kept.world c t.worker
  was = kept.stands.worker c t.worker t.was

  lt : c < limits.clients
  lt = is_there limits origin old c t.worker kept t.was

  there : c < s.limits.clients
  there = subst (λ (b : Bounds). c < b.clients) (sym kept.limits_are) lt

  does : Does s (MessageComes c i Hello) (messages_of t.left.posts.said)
      new.station.dispatcher.server
  does = subst (λ (n : ℕ). Does s (MessageComes n i Hello) (messages_of t.left.posts.said)
      new.station.dispatcher.server) was.of.hand t.left.posts.does

  g : Greeted (limits_of limits) origin kept.world c i (server_of new.station)
      (messages_of t.left.posts.said)
  g = greeted (limits_of limits) origin kept.world c i s new.station.dispatcher.server
      (messages_of t.left.posts.said) lt there kept.stands.server kept.sound.station.arisen does
      (renews (limits_of limits) origin c i 1 kept.world lt (let l = t.left.ok.1 in
      omega (arith, l)) kept.reached (ap (λ (n : ℕ). n + 1) (sym was.of.hand_incarnation))
      (λ z. absurd (omega (arith, z))))

  current : (d : ℕ) → d ≢ c → (g.renewed.world.server.session d).current
      ≡ (kept.world.server.session d).current
  current d n = ap (λ (x : Server). (x.session d).current) g.renewed.server_is
      ∙ keeps (limits_of limits) origin kept.world c i s new.station.dispatcher.server
      (messages_of t.left.posts.said) lt there kept.stands.server kept.sound.station.arisen does
      d n
      ∙ ap (λ (x : Server). (x.session d).current) (sym kept.stands.server)

  -- the server knows the incarnation that nobody is
  known : (g.renewed.world.server.session c).current ≡ i
  known = ap (λ (x : Server). (x.session c).current) g.renewed.server_is
      ∙ ap (λ (x : Server). (x.session c).current) does.becomes
      ∙ (greater_hello on_cycle (server_of old.station) c i
      (let e = same_incarnation limits origin old c t.worker kept t.was in
      let f = was.of.hand_incarnation in omega (arith, e, f))).0.current

  mailbox : (d : ℕ) (f : Frame) → IsIn f (mailbox_of new.station d) → IsSentTo g.renewed.world d f
  mailbox d f j = by (cases_eq d t.worker.hand.client)
    where
      by : (d ≡ t.worker.hand.client) ⊎ (d ≢ t.worker.hand.client) → IsSentTo g.renewed.world d f
      by (inl e) = absurd (subst (λ (l : List Frame). IsIn f l) t.left.silent
          (subst (λ (n : ℕ). IsIn f (mailbox_of new.station n)) e j))
      by (inr n) = elim (posted_from (mailbox_of old.station)
          (current_in (dispatching.server_of new.station.dispatcher)) t.left.posts.said
          (mailbox_of new.station d) d f (t.left.posts.mailbox d n) j) [
            | inl x ↦ (let y = kept.stands.mailbox d f x in
                (g.renewed.grows (message_of f) y.0, y.1, y.2))
            | inr x ↦ (let y = g.says (message_of f) (in_messages f t.left.posts.said x.0) in
                (y.0, y.1, x.1))
          ]

  pub left_kept : Kept limits origin new
  left_kept = record {
    limits_are = does.limits ∙ kept.limits_are;
    sound = sound;
    world = g.renewed.world;
    reached = g.renewed.reached;
    opened = kept.opened;
    performed = g.renewed.silent ∙ kept.performed ∙ sym silent;
    stands = stands_but old new kept.world g.renewed.world g.renewed.grows does.limits c kept.stands
        g.renewed.server_is
        (λ d n. record {
          incarnation = (g.renewed.others d n).1;
          client = (g.renewed.others d n).0;
          hands = other_set old.station.hands new.station.hands t.worker.hand.client d None
              t.left.hands (λ e. n (e ∙ was.of.hand));
          worker = t.others d n;
          current = current d n;
        })
        (λ k e. absurd (no_worker new c k e t.gone))
        (λ e. inl (let x = known in let y = g.renewed.incarnation in omega (arith, x, y))) mailbox;
  }

-- it is abandoned
pub abandoned_kept : (limits : Bounds) (origin : Origin (limits_of limits)) (old : Program)
    (c : ℕ) (new : Program)
    → Kept limits origin old → steps.Abandons old c new → IsSound new → IsSilent old new
    → Kept limits origin new
abandoned_kept limits origin old c new kept t sound silent = record {
  opened = kept.opened;
  performed = kept.performed ∙ sym silent;
  limits_are = same ∙ kept.limits_are;
  sound = sound;
  world = kept.world;
  reached = kept.reached;
  stands = stands_but old new kept.world kept.world (λ m j. j) same c kept.stands
      (kept.stands.server ∙ ap server_of (sym t.station))
      (λ d n. record {
        incarnation = refl;
        client = refl;
        hands =
            ap (λ (x : StationState). stored_at x.hands d) t.station;
        worker = t.others d n;
        current =
            refl;
      })
      (λ k e. absurd (no_worker new c k e t.gone))
      (λ e. inl (let x = same_incarnation limits origin old c t.worker kept t.was in
      let y = ap (λ (z : Server). (z.session c).current) kept.stands.server in
      omega (arith, x, y)))
      (λ d f j. kept.stands.mailbox d f
      (subst (λ (x : StationState). IsIn f (mailbox_of x d)) t.station j));
}
  where
    same : limits_in new ≡ limits_in old
    same = ap (λ (x : StationState). x.dispatcher.server.limits) t.station
