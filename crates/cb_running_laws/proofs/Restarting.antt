-- A client begins another incarnation.
use Rattle.std.proofs.Common.{◌≡◌, ◌≢◌, ◌<◌, ◌≤◌, ◌-◌, ℕ, sym, ◌∙◌, ap, subst, arith, inl, inr}
use Rattle.cb_frame.specs.declared.frame.Frame.{Frame}
use Rattle.cb_hands.specs.Hands.{HandState}
use Rattle.cb_mailboxes.specs.Dispatching as dispatching
use Rattle.cb_mailboxes.specs.Dispatching.{emptied}
use Rattle.cb_mailboxes.specs.Mailboxes.{current_in}
use Rattle.cb_outbox.specs.Messages.{message_of, messages_of}
use Rattle.cb_page.specs.Bounds.{Bounds}
use Rattle.cb_protocol.specs.AnyMessages.{MessageComes}
use Rattle.cb_protocol.specs.Basics.{IsIn, max_number}
use Rattle.cb_protocol.specs.Messages.{Hello}
use Rattle.cb_protocol.specs.Server.{Server}
use Rattle.cb_protocol.specs.StoreLimits.{limits_of}
use Rattle.cb_server.specs.ServerValue.{ServerValue}
use Rattle.cb_server.specs.Taking.{Does}
use Rattle.cb_station.specs.Stations.{mailbox_of, server_of}
use Rattle.cb_running_laws.proofs.Events.{Origin}
use Rattle.cb_running_laws.proofs.Calling.{in_messages}
use Rattle.cb_running_laws.proofs.Standing.{Kept, no_worker, others_hand, stands_but, the_worker}
use Rattle.cb_running_laws.proofs.Turning.{posted_from}
use Rattle.cb_running_laws.specs.Programs.{IsSound, Program, limits_in}
use Rattle.cb_running_laws.specs.Steps.{IsSilent}
use Rattle.cb_running_laws.specs.Steps as steps
use Rattle.cb_running_laws.specs.Worlds.{IsSentTo, IsWorldClient}
use Rattle.cb_worker.specs.Moving.{new_worker}
use Rattle.cb_worker.specs.Workers.{WorkerState}
use Rattle.cb_running_laws.proofs.Greeting.{Greeted, difference, emptied_from, fresh, greeted}
use Rattle.cb_running_laws.proofs.Greeting.{keeps, renews}

-- it begins another incarnation
module _ (limits : Bounds) (origin : Origin (limits_of limits)) (old : Program) (c i : ℕ)
    (new : Program)
    (kept : Kept limits origin old) (t : steps.Restarts old c i new) (sound : IsSound new)
    (silent : IsSilent old new) where
  abbrev s : ServerValue
  s = old.station.dispatcher.server

  was : IsWorldClient old kept.world c t.worker
  was = kept.stands.worker c t.worker t.becomes.was

  name : t.hand.client ≡ c
  name = ap (λ (h : HandState). h.client) t.restarted.next ∙ was.of.hand

  number : t.hand.incarnation ≡ i
  number = ap (λ (h : HandState). h.incarnation) t.restarted.next

  there : c < s.limits.clients
  there = subst (λ (n : ℕ). n < s.limits.clients) name
      (sound.client c (new_worker t.hand (limits_in old)) t.becomes.becomes).no

  lt : c < limits.clients
  lt = subst (λ (b : Bounds). c < b.clients) kept.limits_are there

  left : i ≤ max_number
  left = subst (λ (n : ℕ). n ≤ max_number) number
      (sound.client c (new_worker t.hand (limits_in old)) t.becomes.becomes).incarnation.1

  later : kept.world.incarnation c < i
  later = subst (λ (n : ℕ). n < i) was.of.hand_incarnation t.restarted.ok.1

  does : Does s (MessageComes c i Hello) (messages_of t.restarted.posts.said)
      new.station.dispatcher.server
  does = subst (λ (n : ℕ). Does s (MessageComes n i Hello) (messages_of t.restarted.posts.said)
      new.station.dispatcher.server) was.of.hand t.restarted.posts.does

  g : Greeted (limits_of limits) origin kept.world c i (server_of new.station)
      (messages_of t.restarted.posts.said)
  g = greeted (limits_of limits) origin kept.world c i s new.station.dispatcher.server
      (messages_of t.restarted.posts.said) lt there kept.stands.server kept.sound.station.arisen
      does
      (renews (limits_of limits) origin c i (i - kept.world.incarnation c) kept.world lt
      left kept.reached (difference (kept.world.incarnation c) i (let l = later in
      omega (arith, l))) (λ z. absurd (let l = later in omega (arith, l, z))))

  current : (d : ℕ) → d ≢ c → (g.renewed.world.server.session d).current
      ≡ (kept.world.server.session d).current
  current d n = ap (λ (x : Server). (x.session d).current) g.renewed.server_is
      ∙ keeps (limits_of limits) origin kept.world c i s new.station.dispatcher.server
      (messages_of t.restarted.posts.said) lt there kept.stands.server kept.sound.station.arisen
      does d n
      ∙ ap (λ (x : Server). (x.session d).current) (sym kept.stands.server)

  own : IsWorldClient new g.renewed.world c (new_worker t.hand (limits_in old))
  own = fresh new g.renewed.world c i s.limits.pages t.hand (limits_in old) (sym does.limits) name
      number g.renewed.client g.renewed.incarnation t.restarted.stored.held

  mailbox : (d : ℕ) (f : Frame) → IsIn f (mailbox_of new.station d) → IsSentTo g.renewed.world d f
  mailbox d f j = elim (posted_from (emptied (mailbox_of old.station) t.worker.hand.client)
      (current_in (dispatching.server_of new.station.dispatcher)) t.restarted.posts.said
      (mailbox_of new.station d) d f (t.restarted.posts.mailbox d tt) j) [
        | inl x ↦ (let y = kept.stands.mailbox d f
            (emptied_from (mailbox_of old.station) t.worker.hand.client d f x) in
            (g.renewed.grows (message_of f) y.0, y.1, y.2))
        | inr x ↦ (let y = g.says (message_of f) (in_messages f t.restarted.posts.said x.0) in
            (y.0, y.1, x.1))
      ]

  pub restarted_kept : Kept limits origin new
  restarted_kept = record {
    limits_are = does.limits ∙ kept.limits_are;
    sound = sound;
    world = g.renewed.world;
    reached = g.renewed.reached;
    opened = kept.opened;
    performed = g.renewed.silent ∙ kept.performed ∙ sym silent;
    stands = stands_but old new kept.world g.renewed.world g.renewed.grows does.limits c kept.stands
        g.renewed.server_is
        (λ d n. record {
          incarnation = (g.renewed.others d n).1;
          client = (g.renewed.others d n).0;
          hands = others_hand old.station.hands new.station.hands t.worker.hand t.hand c d
              t.restarted.stored was.of.hand n;
          worker = t.becomes.others d n;
          current = current d n;
        })
        (λ k e. subst (λ (x : WorkerState). IsWorldClient new g.renewed.world c x)
        (the_worker new c (new_worker t.hand (limits_in old)) k t.becomes.becomes e) own)
        (λ e. absurd (no_worker new c (new_worker t.hand (limits_in old)) t.becomes.becomes e))
        mailbox;
  }
