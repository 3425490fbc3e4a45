-- The protocol's messages that frames carry.
use Rattle.std.specs.Prelude.{List, map}
use Rattle.cb_frame.specs.declared.frame.Frame.{Frame}
use Rattle.cb_frame.specs.declared.frame.Body.{Body}
use Rattle.cb_frame.specs.declared.frame.Body.TheVariants as body
use Rattle.cb_frame.specs.declared.frame.ShortBody.{ShortBody}
use Rattle.cb_frame.specs.declared.frame.ShortBody.TheVariants as short
use Rattle.cb_frame.specs.declared.writes.Write.{Write}
use Rattle.cb_protocol.specs.Messages as protocol

-- a page of a commit
abbrev pub page_write : Write → protocol.PageWrite
page_write write = record { page = write.page; grant = write.grant; bytes = write.bytes }

abbrev pub page_writes : List Write → List protocol.PageWrite
page_writes writes = map page_write writes

-- what a body without page bytes says
abbrev pub short_of : ShortBody → protocol.Body
short_of short.Hello = protocol.Hello
short_of (short.AskRead txn page) = protocol.AskRead txn page
short_of (short.AskWrite txn page grant) = protocol.AskWrite txn page grant
short_of (short.GiveBack page grant) = protocol.GiveBack page grant
short_of (short.InUse txn page grant) = protocol.InUse txn page grant
short_of (short.Drop txn) = protocol.Drop txn
short_of short.Welcome = protocol.Welcome
short_of (short.MayWrite txn page grant) = protocol.MayWrite txn page grant
short_of (short.Callback page grant) = protocol.Callback page grant
short_of (short.Done txn number) = protocol.Done txn number
short_of (short.AbortNow txn) = protocol.AbortNow txn
short_of (short.Downgraded page grant txn) = protocol.Downgraded page grant txn
short_of (short.Downgrade page grant txn) = protocol.Downgrade page grant txn

-- what a frame's body says
abbrev pub body_of : Body → protocol.Body
body_of (body.Short said) = short_of said
body_of (body.Commit txn writes) = protocol.Commit txn (page_writes writes)
body_of (body.Granted page grant version bytes) = protocol.Granted page grant version bytes

-- the message that a frame carries
abbrev pub message_of : Frame → protocol.Message
message_of frame = record {
  client = frame.client;
  incarnation = frame.incarnation;
  body = body_of frame.body;
}

abbrev pub messages_of : List Frame → List protocol.Message
messages_of frames = map message_of frames
