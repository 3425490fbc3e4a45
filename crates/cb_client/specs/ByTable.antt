-- What a client's calls are refused for, by the protocol's tables.
use Rattle.std.specs.Prelude.{◌≡◌, List, Option, Some, None, Result, Ok, Err}
use Rattle.std.specs.Option.{option_map}
use Rattle.cb_protocol.specs.Answers as table
use Rattle.cb_protocol.specs.Client.{Client}
use Rattle.cb_protocol.specs.ClientCalls.{Call, Cause, call_fault, first_refusal}
use Rattle.cb_protocol.specs.Serial.{Operation}
use Rattle.cb_client.specs.declared.client_fault.ClientFault.{ClientFault}
use Rattle.cb_client.specs.declared.client_fault.ClientFault.TheVariants as fault
use Rattle.cb_client_core.specs.ClientState.{ClientState, client_of}
-- what a client does for calls and messages
pub use Rattle.cb_client_core.specs.ByTable.{Called, Calls, Makes, Takes}
pub use Rattle.cb_client_core.specs.ByTable.{as_before, limits_at, messages_from, over}
pub use Rattle.cb_client_core.specs.ByTable.{references_of, with_brought, with_read}

-- the protocol's refusal that a fault is; the protocol has no want of memory
abbrev pub refusal : ClientFault → Option table.ClientFault
refusal fault.NotWelcome = Some table.NotWelcome
refusal fault.NoTransaction = Some table.NoTransaction
refusal fault.TransactionOpen = Some table.TransactionOpen
refusal fault.Committing = Some table.Committing
refusal fault.Waiting = Some table.Waiting
refusal fault.PageRange = Some table.PageRange
refusal fault.NotRead = Some table.NotRead
refusal fault.NotHere = Some table.NotHere
refusal fault.NotWritable = Some table.NotWritable
refusal fault.WrongLength = Some table.WrongLength
refusal fault.PoolFull = Some table.PoolFull
refusal fault.Exhausted = Some table.Exhausted
refusal fault.Memory = None

-- the table refuses the call for that reason, if any
abbrev pub IsRefusal : ClientState → Call → Option table.ClientFault → Type 0
IsRefusal client call reason =
    (operations : List Operation)
    → call_fault (limits_at client) (client_of client operations) call ≡ reason

-- The table refuses the call for the reason that this fault names.
pub record IsRefused (client : ClientState) (call : Call) (refused : ClientFault) : Type 0 where
  pub reason : table.ClientFault
  pub named : refusal refused ≡ Some reason
  pub refuses : IsRefusal client call (Some reason)

-- it is refused so, and nothing changes
abbrev pub Refuses : (old : ClientState) → Call → ClientFault → (new : ClientState) → Type 0
Refuses old call refused new = IsRefused old call refused × (new ≡ old)

-- a growth was refused for a call that the table accepts, and nothing changes
abbrev pub LacksMemory : (old : ClientState) → Call → (new : ClientState) → Type 0
LacksMemory old call new = IsRefusal old call None × (new ≡ old)

-- the call is refused by the table, or memory for it was
abbrev pub RefusesOrLacks : (old : ClientState) → Call → ClientFault → (new : ClientState) → Type 0
RefusesOrLacks old call fault.Memory new = LacksMemory old call new
RefusesOrLacks old call refused new = Refuses old call refused new

-- the fault that was found, and the refusal that it is
abbrev pub found : {X : Type 0} → Result X ClientFault → Option (Option table.ClientFault)
found (Ok accepted) = None
found (Err refused) = Some (refusal refused)

-- The fault found is the first whose cause holds: each by the table, so none is a want of memory.
abbrev pub IsFirst : {X : Type 0} → ClientState → (Client → List Cause) → Result X ClientFault
    → Type 0
IsFirst client causes result =
    (operations : List Operation)
    → found result ≡ option_map Some (first_refusal (causes (client_of client operations)))

-- so of a call
abbrev pub IsDecided : {X : Type 0} → ClientState → Call → Result X ClientFault → Type 0
IsDecided client call result =
    (operations : List Operation)
    → found result
    ≡ option_map Some (call_fault (limits_at client) (client_of client operations) call)
