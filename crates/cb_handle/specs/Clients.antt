-- What is said of a client here: what it shows of itself, as numbers.
use Rattle.std.specs.Prelude.{◌≡◌, ℕ, Bool, ◌&&◌, List}
use Rattle.cb_client_core.specs.ClientState.{ClientState, client_of}
use Rattle.cb_protocol.specs.Cache.{is_open}
use Rattle.cb_protocol.specs.Client as protocol
use Rattle.cb_protocol.specs.Serial.{Operation}

-- the number of a status (this project's rule); 0 is none
abbrev pub status_number : protocol.ClientStatus → ℕ
status_number protocol.StatusNotWelcome = 1
status_number protocol.StatusIdle = 2
status_number protocol.StatusOpen = 3
status_number protocol.StatusWaiting = 4
status_number protocol.StatusCommitting = 5

-- the numbers of an outcome: how the last transaction ended, and by which commit, else 0
abbrev pub outcome_numbers : protocol.LastOutcome → ℕ × ℕ
outcome_numbers protocol.NoneEnded = (0, 0)
outcome_numbers (protocol.Committed number) = (1, number)
outcome_numbers protocol.Dropped = (2, 0)
outcome_numbers protocol.Aborted = (3, 0)

-- that is what the client says of itself
abbrev pub IsStatus : ClientState → (status : ℕ) → Type 0
IsStatus client status =
    (operations : List Operation)
    → status ≡ status_number (protocol.client_status (client_of client operations))

-- so its last transaction ended
abbrev pub IsOutcome : ClientState → (how number : ℕ) → Type 0
IsOutcome client how number =
    (operations : List Operation)
    → (how, number) ≡ outcome_numbers (client_of client operations).last_outcome

-- whether it may write the page in the transaction that is open
abbrev pub MayWrite : ClientState → (page : ℕ) → Bool → Type 0
MayWrite client page may =
    (operations : List Operation)
    → may ≡ (is_open (client_of client operations).cache.status
    && (client_of client operations).cache.may_write page)
