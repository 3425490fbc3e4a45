-- A worker as its owner sees it, and what it reads without the office.
use Rattle.std.specs.Prelude.{◌≡◌, ◌≢◌, ◌==◌, ◌&&◌, if◌then◌else◌, ℕ, Bool, true, false, List, []}
use Rattle.std.specs.Prelude.{Option, Some, None, unwrap_or}
use Rattle.cb_client.specs.CallAnswers.{Answers, held_copy, page_read, reads_here}
use Rattle.cb_client_core.specs.ClientState.{ClientState, client_of}
use Rattle.cb_frame.specs.declared.frame.Frame.{Frame}
use Rattle.cb_hands.specs.Hands.{HandState, held_at}
use Rattle.cb_hands.specs.declared.grant.Held.{Held}
use Rattle.cb_protocol.specs.Answers.{AnsweredBytes}
use Rattle.cb_protocol.specs.Basics.{Bytes}
use Rattle.cb_protocol.specs.Cache.{Idle}
use Rattle.cb_protocol.specs.Client.{Aborted, Client, LastOutcome}
use Rattle.cb_protocol.specs.ClientCalls.{CallRead}
use Rattle.cb_protocol.specs.Serial.{Operation}

-- a client with its hand; the frame that was collected and not yet taken, and what the client said
-- and nobody handed in yet, the oldest frame first
pub record WorkerState : Type 0 where
  pub client : ClientState
  pub hand : HandState
  pub collected : Option Frame
  pub said : List Frame

-- The worker is of the client with that number, in that incarnation: so are its client and its
-- hand.
pub record IsOf (worker : WorkerState) (number current : ℕ) : Type 0 where
  pub no : worker.client.no ≡ number
  pub incarnation : worker.client.incarnation ≡ current
  pub hand : worker.hand.client ≡ number
  pub hand_incarnation : worker.hand.incarnation ≡ current

-- the number of the client's last transaction, open or over; 0 before its first
abbrev pub last_txn : ClientState → ℕ
last_txn client = unwrap_or client.txn 0

-- its client as the protocol has it
abbrev pub seen_by : WorkerState → Client
seen_by worker = client_of worker.client []

-- only the client changes
abbrev pub with_client : WorkerState → ClientState → WorkerState
with_client worker client = record worker { client = client }

-- the hand's copy is the client's: by the same grant, of the same version
abbrev pub is_same : Option (ℕ × ℕ) → Option Held → Bool
is_same (Some copy) (Some held) = (held.grant == copy.0) && (held.version == copy.1)
is_same _ _ = false

-- the hand shows the client's copy of the page
abbrev pub shows_copy : WorkerState → (page : ℕ) → Bool
shows_copy worker page = is_same (held_copy worker.client page) (held_at worker.hand.held page)

-- the page can be read without the office: the hand shows the copy, and the client can read it
-- without the server
abbrev pub may_hit : WorkerState → (page : ℕ) → Bool
may_hit worker page = shows_copy worker page && reads_here worker.client page

-- the worker once it was asked for the page: read where it may be, else as it was
abbrev pub after_hit : WorkerState → (page : ℕ) → WorkerState
after_hit worker page =
    if may_hit worker page then with_client worker (page_read worker.client page) else worker

-- the page was read at once, without the office
abbrev pub ReadsAtHand : (old : WorkerState) → (page : ℕ) → (new : WorkerState) → Type 0
ReadsAtHand old page new = (may_hit old page ≡ true) × (new ≡ after_hit old page)

-- The page is read as the protocol's table says, with these bytes. The hand holds a grant of it,
-- which is the client's, at the client's version.
pub record Hit (worker : WorkerState) (page : ℕ) (bytes : Bytes) : Type 0 where
  pub may : may_hit worker page ≡ true
  pub held : Held
  pub in_hand : held_at worker.hand.held page ≡ Some held
  pub same : held_copy worker.client page ≡ Some (held.grant, held.version)
  pub answers : Answers worker.client (CallRead page) (AnsweredBytes bytes) []

-- the bytes are lent, or it can't be read without the office
abbrev pub Hits : WorkerState → (page : ℕ) → Option Bytes → Type 0
Hits worker page None = may_hit worker page ≡ false
Hits worker page (Some bytes) = Hit worker page bytes

-- no transaction is open, and none is committing
abbrev pub IsIdle : WorkerState → Type 0
IsIdle worker = (operations : List Operation)
    → (client_of worker.client operations).cache.status ≡ Idle

-- A transaction is open, or committing, and so the last one isn't over; the client is welcomed.
pub record HasTransaction (worker : WorkerState) : Type 0 where
  pub welcomed : worker.client.welcomed ≡ true
  pub busy : (operations : List Operation)
      → (client_of worker.client operations).cache.status ≢ Idle

-- The worker's last transaction is over, and ended so, whatever operations it did.
pub record Ended (worker : WorkerState) (outcome : LastOutcome) : Type 0 where
  pub idle : IsIdle worker
  pub so : (operations : List Operation)
      → (client_of worker.client operations).last_outcome ≡ outcome

-- The client is welcomed, and its last transaction is over and was aborted.
pub record WasAborted (worker : WorkerState) : Type 0 where
  pub welcomed : worker.client.welcomed ≡ true
  pub ended : Ended worker Aborted

-- The transaction that was open or committing is over, and ended so: none began since.
pub record Ends (old new : WorkerState) (outcome : LastOutcome) : Type 0 where
  pub had : HasTransaction old
  pub same : last_txn new.client ≡ last_txn old.client
  pub ended : Ended new outcome
