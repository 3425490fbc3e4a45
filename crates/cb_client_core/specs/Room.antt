-- How many frames a client makes room for at a message, and which messages may need memory of its
-- pool beside.
use Rattle.std.specs.Prelude.{if◌then◌else◌, ◌+◌, ℕ, Bool, true, false, not, ◌&&◌, []}
use Rattle.cb_cache.specs.Room.{room_below}
use Rattle.cb_page.specs.Counting.{bit}
use Rattle.cb_pool.specs.PoolState.{has_free_slot}
use Rattle.cb_protocol.specs.ClientMessages.{of_committing_txn, of_open_txn}
use Rattle.cb_protocol.specs.Messages.{AbortNow, Body, Callback, Done, Downgrade, Granted}
use Rattle.cb_client_core.specs.ClientState.{ClientState, client_of}
use Rattle.cb_client_core.specs.GrantCases.{case_at}
use Rattle.cb_client_core.specs.declared.client_core.granted.GrantCase.{GrantCase}
use Rattle.cb_client_core.specs.declared.client_core.granted.GrantCase.TheVariants as cases

-- One for a grant that is given back. One for a page that may go for the one that comes in: none
-- goes where a slot is free.
abbrev pub room_of_grant : (free : Bool) → GrantCase → ℕ
room_of_grant free cases.Ignored = 0
room_of_grant free cases.Refused = 1
room_of_grant free cases.Filled = bit (not free)
room_of_grant free cases.Installed = bit (not free)

-- the page comes into the pool, which may need memory of its own for it
abbrev pub comes_in : GrantCase → Bool
comes_in cases.Ignored = false
comes_in cases.Refused = false
comes_in cases.Filled = true
comes_in cases.Installed = true

-- of a welcomed client: the end of its transaction needs room for the pages that it may say
-- something of, and a drop for itself
abbrev pub room_welcomed : ClientState → Body → ℕ
room_welcomed client (Granted page grant version bytes) =
    room_of_grant (has_free_slot client.copies.pool) (case_at client page grant version)
room_welcomed client (Callback page grant) = 1
room_welcomed client (Downgrade page grant tag) = bit client.copies.limits.keep_write
room_welcomed client (Done txn number) =
    if of_committing_txn (client_of client []) txn
    then room_below client.copies client.locks false client.copies.limits.pages else 0
room_welcomed client (AbortNow txn) =
    if of_open_txn (client_of client []) txn
    then room_below client.copies client.locks true client.copies.limits.pages + 1 else 0
room_welcomed client _ = 0

-- before the Welcome none is made
abbrev pub room_at : ClientState → Body → ℕ
room_at client body = if client.welcomed then room_welcomed client body else 0

-- the message brings a page into the pool
abbrev pub brings_in : ClientState → Body → Bool
brings_in client (Granted page grant version bytes) =
    client.welcomed && comes_in (case_at client page grant version)
brings_in client _ = false
