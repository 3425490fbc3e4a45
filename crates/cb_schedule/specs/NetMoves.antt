-- What an event makes of the net.
use Rattle.std.specs.Prelude.{◌≡◌, ◌+◌, ◌++◌, ℕ, Bool, true, false, List, [], ◌∷◌, length, map}
use Rattle.std.specs.Prelude.{Option, None, Some}
use Rattle.std.specs.List.{AllByRecursion}
use Rattle.cb_cache.specs.CacheState.{limits_of}
use Rattle.cb_frame.specs.Kinds.{kind_of_body}
use Rattle.cb_frame.specs.Spelling.{spelling}
use Rattle.cb_frame.specs.declared.frame.Frame.{Frame}
use Rattle.cb_schedule.specs.Packets.{IsSpelled}
use Rattle.cb_protocol.specs.Answers.{AnswerWord, NoClient, NoPacket, Refused}
use Rattle.cb_protocol.specs.Flush.{can_flush}
use Rattle.cb_protocol.specs.Messages.{Message}
use Rattle.cb_protocol.specs.WaitsFor.{on_cycle}
use Rattle.cb_protocol.specs.World.{Event, EventChoiceAllowed, World, answer_with, flush_up_to}
use Rattle.cb_protocol.specs.World.{numbered_from, step}
use Rattle.cb_server.specs.ServerValue.{commits_of, server_of}
use Rattle.cb_transcript.specs.ProtocolEvents.{sent_of, word_of}
use Rattle.cb_transcript.specs.declared.answer.Answer.{Answer}
use Rattle.cb_transcript.specs.declared.answer.AnswerWord.{AnswerWord as Word}
use Rattle.cb_transcript.specs.declared.answer.SentPacket.{SentPacket}
use Rattle.cb_schedule.specs.NetState.{NetState, RepresentsNet, limits_in}

-- the packets that frames are sent as, numbered from there on
abbrev pub sent_as : (number : ℕ) → List Frame → List SentPacket
sent_as number [] = []
sent_as number (frame ∷ frames) =
    record { number = number; kind = kind_of_body frame.body; client = frame.client }
    ∷ sent_as (number + 1) frames

-- the net once these frames were sent
abbrev pub sending : NetState → List Frame → NetState
sending net frames = record net {
  packets = record net.packets { sent = net.packets.sent ++ map spelling frames };
}

-- The new net has the packets of the old one, and behind them as many more as that, each the
-- spelling of a frame.
pub record Adds (old : NetState) (count : ℕ) (new : NetState) : Type 0 where
  pub sent : List (List ℕ)
  pub all : new.packets.sent ≡ old.packets.sent ++ sent
  pub counted : length sent ≡ count
  pub spelled : AllByRecursion (IsSpelled (limits_in old)) sent

-- The frames were sent, in order, and the answer names them behind that word.
pub record Sends (old : NetState) (said : Word) (frames : List Frame) (answer : Answer)
    (new : NetState) : Type 0 where
  pub word : answer.word ≡ said
  pub sent : answer.sent ≡ sent_as (length old.packets.sent) frames
  pub becomes : new ≡ sending old frames

-- One event of the protocol's world, so answered, makes the old net the new one: whatever world of
-- the protocol the old one is, the new one is what that becomes, by some choice of the page let go
-- that the pool's law allows. The limits, and the store before the server's first commit, stay.
pub record NetBecomes (old : NetState) (event : Event) (answer : Answer) (new : NetState)
    : Type 0 where
  pub limits : limits_in new ≡ limits_in old
  pub opening : (commits_of new.server).opening ≡ (commits_of old.server).opening
  pub packets : Adds old (length answer.sent) new
  pub by_event : (world : World) → RepresentsNet old world
      → (let_go : Option ℕ) × (messages : List Message) × (after : World)
      × EventChoiceAllowed (limits_of (limits_in old)) world event let_go
      × (step (limits_of (limits_in old)) on_cycle world event let_go
      ≡ answer_with world event (word_of answer.word) messages after)
      × (numbered_from (length old.packets.sent) messages ≡ map sent_of answer.sent)
      × RepresentsNet new (answer_with world event (word_of answer.word) messages after).world

-- the word by which a client refuses a call, or that says that what the event names isn't there
abbrev pub is_refusal_word : AnswerWord → Bool
is_refusal_word (Refused reason) = true
is_refusal_word NoClient = true
is_refusal_word NoPacket = true
is_refusal_word _ = false

-- The protocol answers the event by no such word: so in whatever world of it the net is.
abbrev pub IsAccepted : NetState → Event → Type 0
IsAccepted net event = (world : World) → RepresentsNet net world → (let_go : Option ℕ)
    → is_refusal_word
    (step (limits_of (limits_in net)) on_cycle world event let_go).answer.word
    ≡ false

-- The event says that the commits up to that number are on disk: so in whatever world of the
-- protocol the net is.
abbrev pub FlushesTo : NetState → Event → (number : ℕ) → Type 0
FlushesTo net event number = (world : World) → RepresentsNet net world
    → EventChoiceAllowed (limits_of (limits_in net)) world event None
    × (step (limits_of (limits_in net)) on_cycle world event None
    ≡ flush_up_to world event number)

-- the number of a commit that is made and not on disk yet, if that number is one
abbrev pub CanFlush : NetState → (number : ℕ) → Option ℕ → Type 0
CanFlush net number None = can_flush (server_of net.server) number ≡ false
CanFlush net number (Some commit) =
    (commit ≡ number) × (can_flush (server_of net.server) number ≡ true)
