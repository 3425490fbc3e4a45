-- What an event makes of a world, and what a list of events does, both told by the protocol.
use Rattle.std.specs.Prelude.{◌≡◌, ℕ, false, List, [], ◌∷◌, ◌++◌, length, map}
use Rattle.std.specs.List.{AllByRecursion}
use Rattle.cb_schedule.specs.NetState.{limits_in}
use Rattle.cb_schedule.specs.Packets.{IsSpelled}
use Rattle.cb_transcript.specs.ProtocolEvents.{event_of, answer_of}
use Rattle.cb_cache.specs.CacheState.{limits_of}
use Rattle.cb_transcript.specs.Transcripts.{IsSerialOnOpening, TranscriptState}
use Rattle.cb_transcript.specs.declared.transcript.TransactionName.{TransactionName}
use Rattle.cb_schedule.specs.WorldState.{WorldState, Represents, TellsCommits, opened, told}
use Rattle.cb_transcript.specs.declared.event.Event.{Event}
use Rattle.cb_transcript.specs.declared.answer.Answer.{Answer}
use Rattle.cb_transcript.specs.declared.answer.TranscriptEntry.{TranscriptEntry}
use Rattle.cb_protocol.specs.Headline.{Promise, SoundOpening}
use Rattle.cb_protocol.specs.World.{ReachedWorld}
use Rattle.cb_protocol.specs.WaitsFor.{on_cycle}
use Rattle.cb_protocol.specs.World as protocol

-- The world is a world of the protocol that is reached from its opening store, and no page of that
-- store is newer than its last commit.
pub record IsReached (v : WorldState) : Type 0 where
  pub limits : limits_in v.net ≡ v.limits
  pub sound : SoundOpening (opened v)
  pub world : protocol.World
  pub represents : Represents v world
  pub reached : ReachedWorld (limits_of v.limits) on_cycle (opened v) world

-- every packet that was ever sent is the spelling of a frame, what the world tells is serial, and
-- the world is such a one while it runs
pub record IsWorld (v : WorldState) : Type 0 where
  pub packets : AllByRecursion (IsSpelled v.limits) v.net.packets.sent
  pub serial : IsSerialOnOpening (told v)
  pub running : v.stopped ≡ false → IsReached v

-- The world w answers a to event e and becomes v; both are running. If w is a world of the
-- protocol, then v is what that world becomes by this event with this answer. The packets are the
-- old ones and as many more as the answer names, what was told stays told, and the whole promise
-- holds of v.
pub record Steps (w : WorldState) (e : Event) (a : Answer) (v : WorldState) : Type 0 where
  pub ran : w.stopped ≡ false
  pub runs : v.stopped ≡ false
  pub limits : v.limits ≡ w.limits
  pub opening : v.opening ≡ w.opening
  pub transcript : v.transcript ≡ w.transcript ++ record { event = e; answer = a } ∷ []
  pub commits : (later : List TransactionName) × (v.commits ≡ w.commits ++ later)
  pub packets : (sent : List (List ℕ)) × (v.net.packets.sent ≡ w.net.packets.sent ++ sent)
      × (length sent ≡ length a.sent)
  pub becomes : (u : protocol.World) → Represents w u → (x : protocol.World)
      × protocol.Becomes (limits_of w.limits) on_cycle u (event_of e) (answer_of a) x
      × Represents v x
  pub promise : (x : protocol.World) × Represents v x
      × ReachedWorld (limits_of w.limits) on_cycle (opened w) x × Promise (opened w) x

-- The world w plays these events, in order: there is a world of the protocol that it is, reached
-- from its opening store, and a run from there with just these events and the answers told, and of
-- each world on the way the whole promise holds. What is told is all that was told before, these
-- events with their answers, and the commits of the last world.
pub record Played (w : WorldState) (es : List Event) (transcript : TranscriptState) : Type 0 where
  pub ran : w.stopped ≡ false
  pub first : protocol.World
  pub represents : Represents w first
  pub reached : ReachedWorld (limits_of w.limits) on_cycle (opened w) first
  pub moments : List protocol.Moment
  pub plays : protocol.Plays (limits_of w.limits) on_cycle first moments
  pub first_promise : Promise (opened w) first
  pub promises : AllByRecursion (λ moment. Promise (opened w) moment.world) moments
  pub added : List TranscriptEntry
  pub by_events : map (λ entry. entry.event) added ≡ es
  pub events : map (λ moment. moment.event) moments ≡ map event_of es
  pub answers : map (λ moment. moment.answer) moments ≡ map (λ entry. answer_of entry.answer) added
  pub opening : transcript.opening ≡ w.opening
  pub entries : transcript.entries ≡ w.transcript ++ added
  pub commits : TellsCommits transcript.commits (protocol.world_after first moments).server.commits
