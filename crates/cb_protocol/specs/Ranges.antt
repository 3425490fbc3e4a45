-- Which numbers and bytes a message has: every message that is decoded, and every one that is said.
use Rattle.std.specs.Prelude.{◌≡◌, ◌<◌, ◌≤◌, ℕ, false, length, List, [], ◌∷◌, ⊤}
use Rattle.cb_protocol.specs.Client.{Client, bodies_said}
use Rattle.cb_protocol.specs.Basics.{Bytes, Limits, max_number}
use Rattle.cb_protocol.specs.Messages.{PageWrite, Body, Hello, AskRead, AskWrite, GiveBack, InUse}
use Rattle.cb_protocol.specs.Messages.{Commit, Drop, Downgraded, Welcome, Granted, MayWrite}
use Rattle.cb_protocol.specs.Messages.{Callback, Done, AbortNow, Downgrade, Message}
use Rattle.cb_protocol.specs.ClientAlone.{Arises, ClientInput, ReceivesCall, ReceivesMessage}
use Rattle.cb_protocol.specs.ClientAlone.{client_steps_at, InputAllowed}
use Rattle.cb_protocol.specs.Server.{DeadlockTest, Server}
use Rattle.cb_protocol.specs.ServerMessages.{is_exhausted}
use Rattle.cb_protocol.specs.AnyMessages.{Input, MessageComes, ReachedBy, input_steps}
use Rattle.cb_protocol.specs.World.{Opening, messages_sent}
-- a transaction, grant or commit number, or an incarnation: 1 to 2^62 - 1; the version of a page: 0
-- to 2^62 - 1
pub use Rattle.cb_page.specs.Numbers.{IsNumber, IsVersion}

-- a page that there is
abbrev pub IsPage : Limits → ℕ → Type 0
IsPage limits page = page < limits.pages

-- the bytes of one page
abbrev pub IsPageBytes : Limits → Bytes → Type 0
IsPageBytes limits bytes = length bytes ≡ limits.page_size

-- a write of a commit
abbrev pub WriteFits : Limits → PageWrite → Type 0
WriteFits limits write =
    IsPage limits write.page × IsNumber write.grant × IsPageBytes limits write.bytes

-- each of them is of a later page
abbrev pub Above : (page : ℕ) → List PageWrite → Type 0
Above page [] = ⊤
Above page (write ∷ writes) = (page < write.page) × Above page writes

-- each write fits, and their pages rise strictly
abbrev pub WritesFit : Limits → List PageWrite → Type 0
WritesFit limits [] = ⊤
WritesFit limits (write ∷ writes) =
    WriteFits limits write × Above write.page writes × WritesFit limits writes

-- the body of a message, by its kind
abbrev pub BodyFits : Limits → Body → Type 0
BodyFits limits Hello = ⊤
BodyFits limits (AskRead txn page) = IsNumber txn × IsPage limits page
BodyFits limits (AskWrite txn page grant) = IsNumber txn × IsPage limits page × IsNumber grant
BodyFits limits (GiveBack page grant) = IsPage limits page × IsNumber grant
BodyFits limits (InUse txn page grant) = IsNumber txn × IsPage limits page × IsNumber grant
BodyFits limits (Commit txn writes) = IsNumber txn × WritesFit limits writes
BodyFits limits (Drop txn) = IsNumber txn
BodyFits limits (Downgraded page grant tag) = IsPage limits page × IsNumber grant × IsNumber tag
BodyFits limits Welcome = ⊤
BodyFits limits (Granted page grant version bytes) =
    IsPage limits page × IsNumber grant × IsVersion version × IsPageBytes limits bytes
BodyFits limits (MayWrite txn page grant) = IsNumber txn × IsPage limits page × IsNumber grant
BodyFits limits (Callback page grant) = IsPage limits page × IsNumber grant
BodyFits limits (Done txn number) = IsNumber txn × IsNumber number
BodyFits limits (AbortNow txn) = IsNumber txn
BodyFits limits (Downgrade page grant tag) = IsPage limits page × IsNumber grant × IsNumber tag

-- a message is of a client that there is, and of an incarnation
abbrev pub MessageFits : Limits → Message → Type 0
MessageFits limits message =
    (message.client < limits.clients) × IsNumber message.incarnation × BodyFits limits message.body

-- each of them fits
abbrev pub AllBodiesFit : Limits → List Body → Type 0
AllBodiesFit limits [] = ⊤
AllBodiesFit limits (body ∷ bodies) = BodyFits limits body × AllBodiesFit limits bodies

-- each of them fits
abbrev pub AllMessagesFit : Limits → List Message → Type 0
AllMessagesFit limits [] = ⊤
AllMessagesFit limits (message ∷ messages) =
    MessageFits limits message × AllMessagesFit limits messages

-- messages that come fit; a call may name any page and any bytes, since it is refused where they
-- don't fit
abbrev pub InputFits : Limits → ClientInput → Type 0
InputFits limits (ReceivesCall call) = ⊤
InputFits limits (ReceivesMessage body let_go) = BodyFits limits body

-- Where what comes to a client fits, all that it says fits.
abbrev pub ClientMessagesInRange : Limits → Type 0
ClientMessagesInRange limits = (client : Client) (input : ClientInput)
    → Arises limits (InputFits limits) client → InputAllowed limits client input
    → InputFits limits input
    → AllBodiesFit limits (bodies_said (client_steps_at limits client input))

-- the opening store's rule: each page has its bytes and is no newer than the last commit, whose
-- number is left room
pub record StoreFits (limits : Limits) (opening : Opening) : Type 0 where
  pub number : opening.number ≤ max_number
  pub version : (page : ℕ) → IsPage limits page → opening.version page ≤ opening.number
  pub bytes : (page : ℕ) → IsPage limits page → IsPageBytes limits (opening.bytes page)

-- a message fits, and the server does not refuse it as exhausted
abbrev pub InputTaken : Limits → Server → Input → Type 0
InputTaken limits server (MessageComes client incarnation body) =
    MessageFits limits (record { client = client; incarnation = incarnation; body = body })
    × (is_exhausted server client incarnation body ≡ false)
InputTaken limits server _ = ⊤

-- Over a store that fits, where what comes fits, every message that the server sends fits.
abbrev pub ServerMessagesInRange : Limits → DeadlockTest → Type 0
ServerMessagesInRange limits cycle = (opening : Opening) (server : Server) (input : Input)
    → StoreFits limits opening → ReachedBy limits cycle opening (InputTaken limits) server
    → InputTaken limits server input
    → AllMessagesFit limits (messages_sent (input_steps cycle server input))
