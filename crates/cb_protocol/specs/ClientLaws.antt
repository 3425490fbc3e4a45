-- Laws of what a client's transaction has of its pages until it ends, and of how it ended.
-- This project's rules.
use Rattle.std.specs.Prelude.{◌≡◌, ◌≢◌, ℕ, true, Option, Some, None}
use Rattle.cb_protocol.specs.Basics.{Bytes, Limits}
use Rattle.cb_protocol.specs.Client.{Aborted, Client, Committed, Dropped, LastOutcome, NoAsk}
use Rattle.cb_protocol.specs.Client.{is_fixed}
use Rattle.cb_protocol.specs.ClientAlone.{Arises, ClientInput, EndsCommitted, EndsDropped, Ending}
use Rattle.cb_protocol.specs.ClientAlone.{GoesOn, InputAllowed, Reading, ReceivesCall}
use Rattle.cb_protocol.specs.ClientAlone.{ReceivesMessage, after_input, ending}
use Rattle.cb_protocol.specs.ClientCalls.{CallDrop}
use Rattle.cb_protocol.specs.ClientMessages.{brings_page, client_take}
use Rattle.cb_protocol.specs.Messages.{AbortNow, Done, Granted}

-- the page's bytes are in the pool, and the transaction reads it
pub record IsHere (client : Client) (page : ℕ) : Type 0 where
  pub bytes : client.cache.content page ≢ None
  pub read : client.cache.locked page ≡ true

-- what stays of the pages while a transaction goes on
pub record PagesStay (old new : Client) : Type 0 where
  -- one that it reads, with its grant
  pub read : (page grant : ℕ) → Reading old page grant → Reading new page grant
  -- one that it wants to write or wrote
  pub fixed : (page : ℕ) → is_fixed old page ≡ true → is_fixed new page ≡ true

-- A page that the transaction wants to write or wrote is here. It stays fixed, and so here, until
-- the transaction ends; one that it reads stays held and read as long.
abbrev pub FixedPagesStay : Limits → (ClientInput → Type 0) → Type 0
FixedPagesStay L Allowed = (client : Client) → Arises L Allowed client
    → ((page : ℕ) → is_fixed client page ≡ true → IsHere client page)
    × ((input : ClientInput) → InputAllowed L client input → ending L client input ≡ GoesOn
    → PagesStay client (after_input L client input))

-- A copy that comes in is read by the transaction that asked for it, and answers the ask.
abbrev pub NewCopyIsRead : Limits → Type 0
NewCopyIsRead L = (client : Client) (page grant version : ℕ) (bytes : Bytes) (let_go : Option ℕ)
    → client.cache.held page ≡ None
    → brings_page (client_take L client (Granted page grant version bytes) let_go) ≡ true
    → let granted = ReceivesMessage (Granted page grant version bytes) let_go in
    let after = after_input L client granted in
    Reading after page grant × (after.cache.content page ≡ Some bytes)
    × (after.cache.version page ≡ version)
    × (after.ask ≡ NoAsk)

-- how the transaction that ends at this input ended; where none does, how the last one did
abbrev pub outcome_by : LastOutcome → ClientInput → Ending → LastOutcome
outcome_by last (ReceivesMessage (Done txn number) let_go) EndsCommitted = Committed number
outcome_by last (ReceivesMessage (AbortNow txn) let_go) EndsDropped = Aborted
outcome_by last (ReceivesCall CallDrop) EndsDropped = Dropped
outcome_by last _ _ = last

-- A client's last outcome is how its last transaction ended.
abbrev pub LastOutcomeIsTrue : Limits → Type 0
LastOutcomeIsTrue L = (client : Client) (input : ClientInput)
    → (after_input L client input).last_outcome
    ≡ outcome_by client.last_outcome input (ending L client input)
