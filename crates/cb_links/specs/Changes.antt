-- What the server knows of one client, and what each change makes of it.
use Rattle.std.specs.Prelude.{◌≡◌, ℕ, Bool, true, false, IsTrue, List, Option, Some, None}
use Rattle.std.specs.Prelude.{slice_index_or, slice_set}
use Rattle.cb_links.specs.declared.sessions.Session.{Session}
use Rattle.cb_links.specs.declared.sessions.Transaction.{Transaction}
use Rattle.cb_links.specs.declared.sessions.Transaction.TheVariants.{NotBegun, Live, Ended}

-- a client that has not greeted the server (this project's rule)
abbrev pub unknown : Session
unknown = record { incarnation = None; transaction = NotBegun }

-- the session of a client; of one that there isn't, that of a client which never greeted
abbrev pub session_of : List Session → ℕ → Session
session_of sessions client = slice_index_or sessions client unknown

-- this client's session becomes this, and no other's changes
abbrev pub Becomes : List Session → ℕ → Session → List Session → Type 0
Becomes before client session after = after ≡ slice_set before client session

-- the incarnation stays
abbrev pub with_transaction : Session → Transaction → Session
with_transaction session transaction = record session { transaction = transaction }

-- a new incarnation has no transaction
abbrev pub greeted : ℕ → Session
greeted incarnation = record { incarnation = Some incarnation; transaction = NotBegun }

-- a transaction begins, and is not doomed
abbrev pub begun : Session → ℕ → Session
begun session txn = with_transaction session (Live txn false)

-- the number of the transaction, if one has begun
abbrev pub txn_of : Transaction → Option ℕ
txn_of NotBegun = None
txn_of (Live txn is_doomed) = Some txn
txn_of (Ended txn commit) = Some txn

-- the commit by which it ended
abbrev pub commit_of : Transaction → Option ℕ
commit_of (Ended txn commit) = commit
commit_of transaction = None

-- the client's transaction has begun and not ended
abbrev pub is_live_transaction : Transaction → Bool
is_live_transaction (Live txn is_doomed) = true
is_live_transaction _ = false

abbrev pub is_live : Session → Type 0
is_live session = IsTrue (is_live_transaction session.transaction)

-- a live transaction becomes the victim of a deadlock
abbrev pub doomed_transaction : Transaction → Transaction
doomed_transaction (Live txn is_doomed) = Live txn true
doomed_transaction transaction = transaction

abbrev pub doomed : Session → Session
doomed session = with_transaction session (doomed_transaction session.transaction)

-- a live transaction ends, by a commit or as dropped
abbrev pub ended_transaction : Transaction → Option ℕ → Transaction
ended_transaction (Live txn is_doomed) commit = Ended txn commit
ended_transaction transaction commit = transaction

abbrev pub ended : Session → Option ℕ → Session
ended session commit =
    with_transaction session (ended_transaction session.transaction commit)
