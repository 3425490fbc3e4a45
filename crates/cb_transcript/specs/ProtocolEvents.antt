-- What an event and its answer are in the protocol.
use Rattle.std.specs.Prelude.{List, map, reverse}
use Rattle.cb_transcript.specs.declared.event.Call.{Call}
use Rattle.cb_transcript.specs.declared.event.Call.TheVariants as call
use Rattle.cb_transcript.specs.declared.event.Event.{Event}
use Rattle.cb_transcript.specs.declared.event.Event.TheVariants as event
use Rattle.cb_transcript.specs.declared.answer.AnswerWord.{AnswerWord}
use Rattle.cb_transcript.specs.declared.answer.AnswerWord.TheVariants as word
use Rattle.cb_transcript.specs.declared.answer.SentPacket.{SentPacket}
use Rattle.cb_transcript.specs.declared.answer.Answer.{Answer}
use Rattle.cb_transcript.specs.declared.answer.TranscriptEntry.{TranscriptEntry}
use Rattle.cb_transcript.specs.declared.refusal.Refusal.{Refusal}
use Rattle.cb_transcript.specs.declared.refusal.Refusal.TheVariants as refusal
use Rattle.cb_frame.specs.Kinds.{code_of}
use Rattle.cb_protocol.specs.Answers as answers
use Rattle.cb_protocol.specs.ClientCalls as calls
use Rattle.cb_protocol.specs.World as world

abbrev pub call_of : Call → calls.Call
call_of call.Hello = calls.CallHello
call_of call.Begin = calls.CallBegin
call_of (call.Read page) = calls.CallRead page
call_of (call.Want page) = calls.CallWant page
call_of (call.Write page bytes) = calls.CallWrite page bytes
call_of call.Finish = calls.CallFinish
call_of call.Drop = calls.CallDrop
call_of call.Again = calls.CallAgain
call_of (call.Peek page) = calls.CallPeek page

-- the protocol's event
abbrev pub event_of : Event → world.Event
event_of (event.Call client made) = world.ClientCalls client (call_of made)
event_of (event.Take packet) = world.TakePacket packet
event_of (event.Restart client) = world.Restart client
event_of event.AgainServer = world.ServerAgain
event_of event.Flush = world.FlushAll
event_of (event.FlushTo number) = world.FlushTo number

-- the protocol's refusal
abbrev pub fault_of : Refusal → answers.ClientFault
fault_of refusal.NotWelcome = answers.NotWelcome
fault_of refusal.NoTransaction = answers.NoTransaction
fault_of refusal.TransactionOpen = answers.TransactionOpen
fault_of refusal.Committing = answers.Committing
fault_of refusal.Waiting = answers.Waiting
fault_of refusal.PageRange = answers.PageRange
fault_of refusal.NotRead = answers.NotRead
fault_of refusal.NotHere = answers.NotHere
fault_of refusal.NotWritable = answers.NotWritable
fault_of refusal.WrongLength = answers.WrongLength
fault_of refusal.PoolFull = answers.PoolFull
fault_of refusal.Exhausted = answers.Exhausted

-- the protocol's word
abbrev pub word_of : AnswerWord → answers.AnswerWord
word_of word.Ok = answers.AnsweredOk
word_of (word.Bytes bytes) = answers.AnsweredBytes bytes
word_of word.Asked = answers.Asked
word_of word.Permitted = answers.Permitted
word_of word.Nothing = answers.Nothing
word_of (word.Flushed number) = answers.Flushed number
word_of word.Taken = answers.Taken
word_of word.NoPacket = answers.NoPacket
word_of (word.Refused fault) = answers.Refused (fault_of fault)
word_of word.ServerExhausted = answers.ServerExhausted
word_of word.NoClient = answers.NoClient

abbrev pub sent_of : SentPacket → world.SentPacket
sent_of s = record { number = s.number; kind = code_of s.kind; client = s.client }

-- the protocol's answer
abbrev pub answer_of : Answer → world.Answer
answer_of a = record { word = word_of a.word; sent = map sent_of a.sent }

abbrev pub entry_of : TranscriptEntry → world.TranscriptEntry
entry_of e = record { event = event_of e.event; word = word_of e.answer.word }

-- the protocol's transcript, the newest entry first
abbrev pub transcript_of : List TranscriptEntry → List world.TranscriptEntry
transcript_of entries = reverse (map entry_of entries)
