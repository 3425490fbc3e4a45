-- A client as its callers see it, and the protocol's client that it is.
use Rattle.std.specs.Prelude.{◌≡◌, ℕ, ◌<◌, ◌≤◌, Bool, true, false, List, length, Option, Some}
use Rattle.std.specs.Prelude.{None, IfSome, unwrap_or}
use Rattle.std.specs.Option.{is_some}
use Rattle.cb_page.specs.Bounds.{Bounds}
use Rattle.cb_page.specs.Flags.{has}
use Rattle.cb_page.specs.Numbers.{IsNumber}
use Rattle.cb_cache.specs.CacheState.{CacheState, client_with, copy_at, limits_of}
use Rattle.cb_cache.specs.CacheState.{content_at, no_copies}
use Rattle.cb_locks.specs.Dues.{called_by, is_due}
use Rattle.cb_locks.specs.Locks.{LocksState, due_at, no_locks}
use Rattle.cb_protocol.specs.Basics.{Limits}
use Rattle.cb_protocol.specs.Cache.{Committing, Idle, Open, TransactionState, new_cache}
use Rattle.cb_protocol.specs.Client as protocol
use Rattle.cb_protocol.specs.ClientAlone.{Arises}
use Rattle.cb_protocol.specs.Ranges.{InputFits}
use Rattle.cb_protocol.specs.Serial.{Operation}
use Rattle.cb_client_core.specs.declared.stage.PendingAsk.{PendingAsk}
use Rattle.cb_client_core.specs.declared.stage.PendingAsk.TheVariants as asks
use Rattle.cb_client_core.specs.declared.stage.ClientStatus.{ClientStatus}
use Rattle.cb_client_core.specs.declared.stage.ClientStatus.TheVariants as statuses
use Rattle.cb_client_core.specs.declared.stage.Outcome.{Outcome}
use Rattle.cb_client_core.specs.declared.stage.Outcome.TheVariants as outcomes
use Rattle.cb_client_core.specs.declared.stage.Stage.{Stage}
use Rattle.cb_client_core.specs.declared.stage.Stage.TheVariants as stages
-- the client with what its locks say, and a downgrade that is due
pub use Rattle.cb_cache.specs.Owing.{downgrade_of, locks_with}

-- One incarnation of a client: its number and its own, whether the Welcome came, the last
-- transaction and where it is, the ask that is out, the last transaction dropped or aborted and how
-- the last one ended, the copies of pages, and what the transaction has locked and owes.
pub record ClientState : Type 0 where
  pub no : ℕ
  pub incarnation : ℕ
  pub welcomed : Bool
  pub txn : Option ℕ
  pub stage : Stage
  pub ask : PendingAsk
  pub dropped : Option ℕ
  pub last : Option Outcome
  pub copies : CacheState
  pub locks : LocksState

-- where the transaction is
abbrev pub stage_of : Stage → TransactionState
stage_of stages.Idle = Idle
stage_of stages.Open = Open
stage_of stages.Committing = Committing

-- the ask that is out
abbrev pub ask_of : PendingAsk → protocol.Ask
ask_of asks.Nothing = protocol.NoAsk
ask_of (asks.Read page) = protocol.ReadAsk page
ask_of (asks.Write page) = protocol.WriteAsk page

-- how the last transaction ended
abbrev pub outcome_of : Option Outcome → protocol.LastOutcome
outcome_of None = protocol.NoneEnded
outcome_of (Some (outcomes.Committed number)) = protocol.Committed number
outcome_of (Some outcomes.Dropped) = protocol.Dropped
outcome_of (Some outcomes.Aborted) = protocol.Aborted

-- it was dropped or aborted
abbrev pub is_gone : Option Outcome → Bool
is_gone None = false
is_gone (Some (outcomes.Committed number)) = false
is_gone (Some outcomes.Dropped) = true
is_gone (Some outcomes.Aborted) = true

-- what a client says of itself
abbrev pub status_of : ClientStatus → protocol.ClientStatus
status_of statuses.NotWelcome = protocol.StatusNotWelcome
status_of statuses.Idle = protocol.StatusIdle
status_of statuses.Open = protocol.StatusOpen
status_of statuses.Waiting = protocol.StatusWaiting
status_of statuses.Committing = protocol.StatusCommitting

-- the protocol's client save its copies and its locks
abbrev pub base_of : ClientState → List Operation → protocol.Client
base_of client operations = record protocol.new_client {
  cache = record new_cache {
    welcomed = client.welcomed;
    number = unwrap_or client.txn 0;
    status = stage_of client.stage;
    dropped = unwrap_or client.dropped 0;
    operations = operations;
  };
  ask = ask_of client.ask;
  last_outcome = outcome_of client.last;
}

-- The protocol's client that this one is, where its transaction did these operations: they are a
-- history variable, which no code keeps.
abbrev pub client_of : ClientState → List Operation → protocol.Client
client_of client operations =
    client_with client.copies (locks_with client.locks (base_of client operations))

-- a client at the start of an incarnation
abbrev pub new_state : (number incarnation : ℕ) → Bounds → ClientState
new_state number incarnation limits = record {
  no = number;
  incarnation = incarnation;
  welcomed = false;
  txn = None;
  stage = stages.Idle;
  ask = asks.Nothing;
  dropped = None;
  last = None;
  copies = no_copies limits;
  locks = no_locks number incarnation limits.pages;
}

-- It is what the protocol's client can become, whatever is called, by messages that fit.
pub record IsReached (client : ClientState) : Type 0 where
  pub operations : List Operation
  pub arises : Arises (limits_of client.copies.limits) (InputFits (limits_of client.copies.limits))
      (client_of client operations)

-- the pool can take one more page, and holds no more than it has slots for
pub record HasRoomLeft (limits : Limits) (client : protocol.Client) : Type 0 where
  pub room : protocol.has_room limits client ≡ true
  pub within : protocol.pages_in_pool client limits.pages ≤ limits.slots

-- What holds of every client (this project's rules): its parts are of one store, one client, one
-- incarnation and one transaction, and it was reached by the protocol's steps.
pub record IsClient (client : ClientState) : Type 0 where
  pub no : client.no < client.copies.limits.clients
  pub incarnation : IsNumber client.incarnation
  pub locked : length client.locks.locked ≡ client.copies.limits.pages
  pub dues : length client.locks.dues ≡ client.copies.limits.pages
  pub same_client : client.locks.client ≡ client.no
  pub same_incarnation : client.locks.incarnation ≡ client.incarnation
  pub same_txn : client.locks.txn ≡ client.txn
  -- a callback that is due names the grant held
  pub due_held : (page : ℕ) → IfSome (called_by (due_at client.locks page))
      (λ called. (copy_at client.copies page).held ≡ Some called.0)
  -- a page of which something is due is locked, and so is one that is held without its bytes
  pub due_locked : (page : ℕ) → is_due (due_at client.locks page) ≡ true
      → has client.locks.locked page ≡ true
  pub bare_locked : (page : ℕ) → is_some (copy_at client.copies page).held ≡ true
      → content_at client.copies page ≡ None → has client.locks.locked page ≡ true
  -- while an ask to read is out the pool has room
  pub room : (page : ℕ) → client.ask ≡ asks.Read page → (other : protocol.Client)
      → HasRoomLeft (limits_of client.copies.limits) (client_with client.copies other)
  pub reached : IsReached client
