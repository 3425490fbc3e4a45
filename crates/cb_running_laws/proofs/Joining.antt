-- A client joins.
use Rattle.std.proofs.Common.{◌≡◌, ◌≢◌, ◌<◌, ◌≤◌, ◌+◌, ◌-◌, ℕ, Some, sym, ◌∙◌, ap, subst, arith}
use Rattle.std.proofs.Common.{inl, inr}
use Rattle.cb_frame.specs.declared.frame.Frame.{Frame}
use Rattle.cb_hands.specs.Hands.{HandState}
use Rattle.cb_mailboxes.specs.Dispatching as dispatching
use Rattle.cb_mailboxes.specs.Dispatching.{emptied}
use Rattle.cb_mailboxes.specs.Mailboxes.{current_in}
use Rattle.cb_outbox.specs.Messages.{message_of, messages_of}
use Rattle.cb_page.specs.Bounds.{Bounds}
use Rattle.cb_protocol.specs.Basics.{IsIn, max_number}
use Rattle.cb_protocol.specs.Server.{Server}
use Rattle.cb_protocol.specs.StoreLimits.{limits_of}
use Rattle.cb_server.specs.ServerValue.{ServerValue}
use Rattle.cb_station.proofs.Following.{joined_held}
use Rattle.cb_station.specs.Stations.{mailbox_of, server_of}
use Rattle.cb_running_laws.proofs.Events.{Origin}
use Rattle.cb_running_laws.proofs.Calling.{in_messages}
use Rattle.cb_running_laws.proofs.Standing.{Kept, no_worker, stands_but, the_worker}
use Rattle.cb_running_laws.proofs.Turning.{posted_from}
use Rattle.cb_running_laws.specs.Programs.{IsSound, Program, limits_in}
use Rattle.cb_running_laws.specs.Steps.{IsSilent}
use Rattle.cb_running_laws.specs.Steps as steps
use Rattle.cb_running_laws.specs.Worlds.{IsSentTo, IsWorldClient}
use Rattle.cb_worker.specs.Moving.{new_worker}
use Rattle.cb_worker.specs.Workers.{WorkerState}
use Rattle.cb_running_laws.proofs.Greeting.{Greeted, Renewed, difference, emptied_from, fresh}
use Rattle.cb_running_laws.proofs.Greeting.{greeted, keeps, other_set, renews}

-- it joins
module _ (limits : Bounds) (origin : Origin (limits_of limits)) (old : Program) (c : ℕ)
    (new : Program)
    (kept : Kept limits origin old) (t : steps.Joins old c new) (sound : IsSound new)
    (silent : IsSilent old new) where
  abbrev s : ServerValue
  s = old.station.dispatcher.server

  abbrev i : ℕ
  i = ((server_of old.station).session c).current + 1

  name : t.hand.client ≡ c
  name = ap (λ (h : HandState). h.client) t.joined.hand

  number : t.hand.incarnation ≡ i
  number = ap (λ (h : HandState). h.incarnation) t.joined.hand

  -- its client is one that there is, and its incarnation a number, as its type says
  there : c < s.limits.clients
  there = subst (λ (n : ℕ). n < s.limits.clients) name
      (sound.client c (new_worker t.hand (limits_in old)) t.becomes).no

  lt : c < limits.clients
  lt = subst (λ (b : Bounds). c < b.clients) kept.limits_are there

  left : i ≤ max_number
  left = subst (λ (n : ℕ). n ≤ max_number) number
      (sound.client c (new_worker t.hand (limits_in old)) t.becomes).incarnation.1

  renewed : Renewed (limits_of limits) origin kept.world c i kept.world.server
  renewed = elim (kept.stands.absent c t.absent) [
    | inl l ↦ (let m : kept.world.incarnation c ≤ i =
        (let e = ap (λ (x : Server). (x.session c).current) kept.stands.server in
        omega (arith, l, e)) in
        renews (limits_of limits) origin c i (i - kept.world.incarnation c) kept.world
        lt left kept.reached (difference (kept.world.incarnation c) i m)
        (λ z. absurd (let e = ap (λ (x : Server). (x.session c).current) kept.stands.server in
        omega (arith, l, e, z))))
    | inr x ↦ renews (limits_of limits) origin c i 0 kept.world lt left kept.reached
        (let e = ap (λ (y : Server). (y.session c).current) kept.stands.server in let f = x.0 in
        omega (arith, e, f)) (λ z. x.1)
  ]

  g : Greeted (limits_of limits) origin kept.world c i (server_of new.station)
      (messages_of t.joined.posts.said)
  g = greeted (limits_of limits) origin kept.world c i s new.station.dispatcher.server
      (messages_of t.joined.posts.said) lt there kept.stands.server kept.sound.station.arisen
      t.joined.posts.does renewed

  current : (d : ℕ) → d ≢ c → (g.renewed.world.server.session d).current
      ≡ (kept.world.server.session d).current
  current d n = ap (λ (x : Server). (x.session d).current) g.renewed.server_is
      ∙ keeps (limits_of limits) origin kept.world c i s new.station.dispatcher.server
      (messages_of t.joined.posts.said) lt there kept.stands.server kept.sound.station.arisen
      t.joined.posts.does d n
      ∙ ap (λ (x : Server). (x.session d).current) (sym kept.stands.server)

  own : IsWorldClient new g.renewed.world c (new_worker t.hand (limits_in old))
  own = fresh new g.renewed.world c i s.limits.pages t.hand (limits_in old)
      (sym t.joined.posts.does.limits) name number g.renewed.client g.renewed.incarnation
      (joined_held old.station.hands new.station.hands c t.hand name
      (subst (λ (n : ℕ). c < n) (sym kept.sound.station.clients) there) t.joined.hands)

  mailbox : (d : ℕ) (f : Frame) → IsIn f (mailbox_of new.station d) → IsSentTo g.renewed.world d f
  mailbox d f j = elim (posted_from (emptied (mailbox_of old.station) c)
      (current_in (dispatching.server_of new.station.dispatcher)) t.joined.posts.said
      (mailbox_of new.station d) d f (t.joined.posts.mailbox d tt) j) [
        | inl x ↦ (let y = kept.stands.mailbox d f
            (emptied_from (mailbox_of old.station) c d f x) in
            (g.renewed.grows (message_of f) y.0, y.1, y.2))
        | inr x ↦ (let y = g.says (message_of f) (in_messages f t.joined.posts.said x.0) in
            (y.0, y.1, x.1))
      ]

  pub joined_kept : Kept limits origin new
  joined_kept = record {
    limits_are = t.joined.posts.does.limits ∙ kept.limits_are;
    sound = sound;
    world = g.renewed.world;
    reached = g.renewed.reached;
    opened = kept.opened;
    performed = g.renewed.silent ∙ kept.performed ∙ sym silent;
    stands = stands_but old new kept.world g.renewed.world g.renewed.grows
        t.joined.posts.does.limits c kept.stands g.renewed.server_is
        (λ d n. record {
          incarnation = (g.renewed.others d n).1;
          client = (g.renewed.others d n).0;
          hands = other_set old.station.hands new.station.hands c d (Some t.hand) t.joined.hands n;
          worker = t.others d n;
          current = current d n;
        })
        (λ k e. subst (λ (x : WorkerState). IsWorldClient new g.renewed.world c x)
        (the_worker new c (new_worker t.hand (limits_in old)) k t.becomes e) own)
        (λ e. absurd (no_worker new c (new_worker t.hand (limits_in old)) t.becomes e)) mailbox;
  }
