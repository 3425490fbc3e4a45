-- What holds of every server, whatever was called before, by the contracts of its calls.
use Rattle.std.specs.Prelude.{◌≡◌, ◌⊎◌, ℕ, true, false, List, ◌∷◌, ◌++◌, Option}
use Rattle.cb_frame.specs.Grammar.{Fits}
use Rattle.cb_frame.specs.declared.frame.Frame.{Frame}
use Rattle.cb_laws.specs.RowVersions.{GrantedSent, HasRow}
use Rattle.cb_protocol.specs.AnyMessages.{Input, RulesHold, input_steps}
use Rattle.cb_protocol.specs.AskLaws.{MayBeMet}
use Rattle.cb_protocol.specs.Basics.{Bytes}
use Rattle.cb_protocol.specs.Deadlock.{OneAsk}
use Rattle.cb_protocol.specs.Messages.{AbortNow, Message}
use Rattle.cb_protocol.specs.Ranges.{InputTaken}
use Rattle.cb_protocol.specs.Server.{Doom, RemoveAsk, ServerStep, WaitingAsk, server_after}
use Rattle.cb_protocol.specs.WaitsFor.{HasAsk, LiesOnCycle, NoCycle, WaitsFor, on_cycle}
use Rattle.cb_protocol.specs.LeavingLaws.{IsMet, IsTold, TransactionEnds, WaitsIn}
use Rattle.cb_server.specs.ServerValue.{IsServer, ServerValue, limits_at, opening_at, server_of}
use Rattle.cb_server.specs.Taking.{Does, input_of, lacks_number_for}

-- The directory rule: a page with a write holder has rows of no other client. The ledger: no
-- transaction commits twice, and the store is the opening store with the commits written over it.
abbrev pub RulesAreKept : Type 0
RulesAreKept = (state : ServerValue) → IsServer state
    → RulesHold (opening_at state) (server_of state)

-- nobody lies on a cycle of waits
abbrev pub NobodyIsDeadlocked : Type 0
NobodyIsDeadlocked = (state : ServerValue) → IsServer state → NoCycle (server_of state)

-- a client has at most one ask, and none while its transaction is doomed
abbrev pub AsksAreFew : Type 0
AsksAreFew = (state : ServerValue) → IsServer state
    → OneAsk (server_of state).queue
    × ((client : ℕ) → (server_of state).doomed client ≡ true
    → (page : ℕ) → HasAsk client ((server_of state).queue page) → ⊥)

-- as its ask was taken away, right before its transaction was doomed, the client lay on a cycle
abbrev pub LayOnCycle : ServerValue → Input → (client : ℕ) → Type 0
LayOnCycle old input client = (before after : List ServerStep)
    × (input_steps on_cycle (server_of old) input
    ≡ before ++ RemoveAsk client ∷ Doom client ∷ after)
    × LiesOnCycle (WaitsFor (server_after (server_of old) before)) client

-- A transaction becomes doomed only where its client lay on a cycle of waits.
abbrev pub DoomedLayOnCycle : Type 0
DoomedLayOnCycle = (old new : ServerValue) (input : Input) (messages : List Message)
    → IsServer old → InputTaken (limits_at old) (server_of old) input → Does old input messages new
    → (client : ℕ) → (server_of old).doomed client ≡ false → (server_of new).doomed client ≡ true
    → LayOnCycle old input client

-- a frame that fits, and for which no number is lacking, is such an input
abbrev pub FramesAreTaken : Type 0
FramesAreTaken = (state : ServerValue) (frame : Frame) → Fits state.limits frame
    → lacks_number_for state frame ≡ false
    → InputTaken (limits_at state) (server_of state) (input_of frame)

-- An ask leaves its queue only where it is met, where its client is told that its transaction is
-- aborted, or where that transaction ends.
abbrev pub NoAskIsForgotten : Type 0
NoAskIsForgotten = (old new : ServerValue) (input : Input) (messages : List Message)
    → Does old input messages new → (page client : ℕ) (write_grant : Option ℕ)
    → WaitsIn client write_grant ((server_of old).queue page)
    → WaitsIn client write_grant ((server_of new).queue page)
    ⊎ (IsMet (server_of old) page client write_grant messages
    ⊎ (IsTold (server_of old) client (AbortNow ((server_of old).session client).txn) messages
    ⊎ TransactionEnds client (input_steps on_cycle (server_of old) input)))

-- At no server does a page's first ask wait that may have what it asks for.
abbrev pub NobodyWaitsInVain : Type 0
NobodyWaitsInVain = (state : ServerValue) → IsServer state
    → (page : ℕ) (ask : WaitingAsk) (behind : List WaitingAsk)
    → (server_of state).queue page ≡ ask ∷ behind → MayBeMet (server_of state) page ask → ⊥

-- A row that is there after an input was there before, or its copy is among what that input sent.
abbrev pub NewRowsAreAnswered : Type 0
NewRowsAreAnswered = (old new : ServerValue) (input : Input) (messages : List Message)
    → Does old input messages new → (client page grant : ℕ)
    → HasRow (server_of new) client page grant
    → HasRow (server_of old) client page grant
    ⊎ ((version : ℕ) × (bytes : Bytes)
    × GrantedSent messages client ((server_of new).session client).current page grant version
    bytes)
