-- A play so far, and one event more.
use Rattle.std.proofs.Common.{◌≡◌, false, List, [], ◌∷◌, ◌++◌, refl, sym, ap, subst, ◌∙◌, append_assoc}
use Rattle.std.proofs.lemmas.List.{append-nil, map-append}
use Rattle.cb_page.specs.Bounds.{Bounds}
use Rattle.cb_schedule.specs.Plays.{Played, IsReached, Steps}
use Rattle.cb_transcript.specs.ProtocolEvents.{event_of, answer_of}
use Rattle.cb_cache.specs.CacheState.{limits_of}
use Rattle.cb_transcript.specs.Transcripts.{TranscriptState}
use Rattle.cb_schedule.specs.WorldState.{WorldState, Represents, opened, told}
use Rattle.cb_transcript.specs.declared.event.Event.{Event}
use Rattle.cb_transcript.specs.declared.answer.Answer.{Answer}
use Rattle.cb_transcript.specs.declared.answer.TranscriptEntry.{TranscriptEntry}
use Rattle.cb_schedule.proofs.Worlds.{after_more, plays_more, promises_more, reached_more}
use Rattle.cb_protocol.specs.AnyMessages.{committed_names}
use Rattle.cb_protocol.specs.Headline.{SoundOpening}
use Rattle.cb_protocol.specs.Laws.{WholePromise}
use Rattle.cb_protocol.specs.World.{ReachedWorld}
use Rattle.cb_protocol.specs.WaitsFor.{on_cycle}
use Rattle.cb_protocol.specs.World as protocol

-- these events were played, and the last world of the run is what v is
pub record PlayedTo (w : WorldState) (es : List Event) (v : WorldState) : Type 0 where
  pub played : Played w es (told v)
  pub limits : v.limits ≡ w.limits
  pub opening : v.opening ≡ w.opening
  pub sound : SoundOpening (opened w)
  pub reached : ReachedWorld (limits_of w.limits) on_cycle (opened w) (protocol.world_after played.first played.moments)
  pub represents : Represents v (protocol.world_after played.first played.moments)

pub played_none : (w : WorldState) → WholePromise → w.stopped ≡ false → IsReached w → PlayedTo w [] w
played_none w whole ran s = record {
  played = record {
    ran = ran;
    first = s.world;
    represents = s.represents;
    reached = s.reached;
    moments = [];
    plays = tt;
    first_promise = whole (limits_of w.limits) on_cycle (opened w) s.world s.sound s.reached;
    promises = tt;
    added = [];
    by_events = refl;
    events = refl;
    answers = refl;
    opening = refl;
    entries = sym (append-nil w.transcript);
    commits = s.represents.commits;
  };
  limits = refl;
  opening = refl;
  sound = s.sound;
  reached = s.reached;
  represents = s.represents;
}

pub played_more : (w : WorldState) (es : List Event) (u : WorldState) (e : Event) (a : Answer) (v : WorldState) → WholePromise → PlayedTo w es u → Steps u e a v → PlayedTo w (es ++ e ∷ []) v
played_more w es u e a v whole p s =
    let o = opened w in
    let end = protocol.world_after p.played.first p.played.moments in
    let next = s.becomes end p.represents in
    let becomes : protocol.Becomes (limits_of w.limits) on_cycle end (event_of e) (answer_of a) next.0
    = subst (λ (l : Bounds). protocol.Becomes (limits_of l) on_cycle end (event_of e) (answer_of a) next.0) p.limits next.1 in
    let reached = reached_more (limits_of w.limits) o end next.0 (event_of e) (answer_of a) p.reached becomes in
    let promise = whole (limits_of w.limits) on_cycle o next.0 p.sound reached in
    let m : protocol.Moment = record { event = event_of e; answer = answer_of a; world = next.0 } in
    let one : TranscriptEntry = record { event = e; answer = a } in
    let last : protocol.world_after p.played.first (p.played.moments ++ m ∷ []) ≡ next.0 = after_more p.played.first p.played.moments m in
    record {
      played = record {
        ran = p.played.ran;
        first = p.played.first;
        represents = p.played.represents;
        reached = p.played.reached;
        moments = p.played.moments ++ m ∷ [];
        plays = plays_more (limits_of w.limits) p.played.first p.played.moments m p.played.plays becomes;
        first_promise = p.played.first_promise;
        promises = promises_more o p.played.moments m p.played.promises promise;
        added = p.played.added ++ one ∷ [];
        by_events = map-append (λ (entry : TranscriptEntry). entry.event) p.played.added (one ∷ []) ∙ ap (λ (xs : List Event). xs ++ e ∷ []) p.played.by_events;
        events = map-append (λ (moment : protocol.Moment). moment.event) p.played.moments (m ∷ []) ∙ ap (λ (xs : List protocol.Event). xs ++ event_of e ∷ []) p.played.events ∙ sym (map-append event_of es (e ∷ []));
        answers = map-append (λ (moment : protocol.Moment). moment.answer) p.played.moments (m ∷ []) ∙ ap (λ (xs : List protocol.Answer). xs ++ answer_of a ∷ []) p.played.answers
            ∙ sym (map-append (λ (entry : TranscriptEntry). answer_of entry.answer) p.played.added (one ∷ []));
        opening = s.opening ∙ p.opening;
        entries = s.transcript ∙ ap (λ (xs : List TranscriptEntry). xs ++ one ∷ []) p.played.entries ∙ append_assoc w.transcript p.played.added (one ∷ []);
        commits = next.2.commits ∙ ap (λ (x : protocol.World). committed_names x.server.commits) (sym last);
      };
      limits = s.limits ∙ p.limits;
      opening = s.opening ∙ p.opening;
      sound = p.sound;
      reached = subst (λ (x : protocol.World). ReachedWorld (limits_of w.limits) on_cycle o x) (sym last) reached;
      represents = subst (λ (x : protocol.World). Represents v x) (sym last) next.2;
    }

-- what was told is what the last world tells
pub played_end : (w : WorldState) (es : List Event) (v : WorldState) (t : TranscriptState) → PlayedTo w es v → t ≡ told v → Played w es t
played_end w es v t p e = subst (λ (x : TranscriptState). Played w es x) (sym e) p.played
