-- Commits reach the disk or are forgotten, and threads tell each other: no client moves.
use Rattle.std.proofs.Common.{◌≡◌, ℕ, List, Option, refl, sym, ◌∙◌, ap, subst, inl, inr}
use Rattle.cb_frame.specs.declared.frame.Frame.{Frame}
use Rattle.cb_hands.specs.Hands.{HandState}
use Rattle.cb_hands.specs.Joined.{stored_at}
use Rattle.cb_mailboxes.specs.Dispatching as dispatching
use Rattle.cb_mailboxes.specs.Mailboxes.{current_in}
use Rattle.cb_outbox.specs.Messages.{message_of, messages_of}
use Rattle.cb_page.specs.Bounds.{Bounds}
use Rattle.cb_protocol.specs.Basics.{IsIn}
use Rattle.cb_protocol.specs.Server.{Server}
use Rattle.cb_protocol.specs.StoreLimits.{limits_of}
use Rattle.cb_station.specs.Stations.{StationState, mailbox_of, server_of}
use Rattle.cb_running_laws.proofs.Events.{Origin}
use Rattle.cb_running_laws.proofs.Calling.{in_messages}
use Rattle.cb_running_laws.proofs.Moving.{ServerMoved, all_keep, moved_by_disk}
use Rattle.cb_running_laws.proofs.Standing.{Kept, stands_still}
use Rattle.cb_running_laws.proofs.Turning.{posted_from}
use Rattle.cb_running_laws.specs.Programs.{IsSound, Program, limits_in}
use Rattle.cb_running_laws.specs.Steps.{IsSilent, WorkersStay}
use Rattle.cb_running_laws.specs.Steps as steps

-- nothing changes that the world has
still : (limits : Bounds) (origin : Origin (limits_of limits)) (old new : Program)
    (kept : Kept limits origin old)
    → WorkersStay old new → IsSound new → limits_in new ≡ limits_in old → server_of new.station
    ≡ server_of old.station
    → new.station.hands ≡ old.station.hands
    → ((d : ℕ) → mailbox_of new.station d ≡ mailbox_of old.station d) → IsSilent old new
    → Kept limits origin new
still limits origin old new kept workers sound same server hands boxes silent = record {
  opened = kept.opened;
  performed = kept.performed ∙ sym silent;
  limits_are = same ∙ kept.limits_are;
  sound = sound;
  world = kept.world;
  reached = kept.reached;
  stands = stands_still old new kept.world kept.world (λ m j. j) same kept.stands
      (kept.stands.server ∙ sym server)
      (λ d. record {
        incarnation = refl;
        client = refl;
        hands =
            ap (λ (l : List (Option HandState)). stored_at l d) hands;
        worker = workers d;
        current =
            refl;
      })
      (λ d f j. kept.stands.mailbox d f (subst (λ (l : List Frame). IsIn f l) (boxes d) j));
}

pub forgotten_kept : (limits : Bounds) (origin : Origin (limits_of limits)) (old : Program)
    (number : ℕ)
    (new : Program) → Kept limits origin old → steps.Forgets old number new → IsSound new
    → IsSilent old new → Kept limits origin new
forgotten_kept limits origin old number new kept t sound silent =
    still limits origin old new kept t.workers sound
    (ap (λ (s : StationState). s.dispatcher.server.limits) t.station) (ap server_of t.station)
    (ap (λ (s : StationState). s.hands) t.station)
    (λ d. ap (λ (s : StationState). mailbox_of s d) t.station) silent

pub told_kept : (limits : Bounds) (origin : Origin (limits_of limits)) (old new : Program)
    → Kept limits origin old
    → steps.Tells old new → IsSound new → IsSilent old new → Kept limits origin new
told_kept limits origin old new kept t sound silent =
    still limits origin old new kept t.workers sound
    (ap (λ (s : StationState). s.dispatcher.server.limits) t.station) (ap server_of t.station)
    (ap (λ (s : StationState). s.hands) t.station)
    (λ d. ap (λ (s : StationState). mailbox_of s d) t.station) silent

pub refused_kept : (limits : Bounds) (origin : Origin (limits_of limits)) (old new : Program)
    → Kept limits origin old → steps.Refuses old new → IsSound new → IsSilent old new
    → Kept limits origin new
refused_kept limits origin old new kept t sound silent =
    still limits origin old new kept t.workers sound t.unchanged.dispatcher.server.limits
    t.unchanged.dispatcher.server.server t.unchanged.hands t.unchanged.dispatcher.mailbox silent

pub flushed_kept : (limits : Bounds) (origin : Origin (limits_of limits)) (old : Program)
    (number : ℕ)
    (new : Program) → Kept limits origin old → steps.Flushes old number new → IsSound new
    → IsSilent old new → Kept limits origin new
flushed_kept limits origin old number new kept t sound silent = record {
  opened = kept.opened;
  performed = moved.silent ∙ kept.performed ∙ sym silent;
  limits_are = t.posts.does.limits ∙ kept.limits_are;
  sound = sound;
  world = moved.world;
  reached = moved.reached;
  stands = stands_still old new kept.world moved.world moved.grows t.posts.does.limits kept.stands
      moved.server
      (λ d. record {
        incarnation = moved.incarnation d;
        client = moved.client d;
        hands = ap (λ (l : List (Option HandState)). stored_at l d) t.hands;
        worker = t.workers d;
        current = ap (λ (s : Server). (s.session d).current) moved.server
            ∙ (all_keep (limits_of limits) origin kept.world
            old.station.dispatcher.server new.station.dispatcher.server number
            (messages_of t.posts.said) kept.reached kept.stands.server kept.sound.station.arisen
            t.can t.posts.does d).incarnation
            ∙ ap (λ (s : Server). (s.session d).current) (sym kept.stands.server);
      })
      (λ d f j. elim (posted_from (mailbox_of old.station)
      (current_in (dispatching.server_of new.station.dispatcher)) t.posts.said
      (mailbox_of new.station d) d f (t.posts.mailbox d tt) j) [
        | inl x ↦ (let y = kept.stands.mailbox d f x in (moved.grows (message_of f) y.0, y.1, y.2))
        | inr x ↦ (let y = moved.says (message_of f) (in_messages f t.posts.said x.0) in
            (y.0, y.1, x.1))
      ]);
}
  where
    moved : ServerMoved (limits_of limits) origin kept.world (server_of new.station)
        (messages_of t.posts.said)
    moved = moved_by_disk (limits_of limits) origin kept.world
        old.station.dispatcher.server new.station.dispatcher.server number
        (messages_of t.posts.said) kept.reached kept.stands.server kept.sound.station.arisen t.can
        t.posts.does
