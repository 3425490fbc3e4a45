-- What a page server has of its clients and pages, who waits and who uses a page, and the
-- protocol's server that it is.
use Rattle.std.specs.Prelude.{◌≡◌, ℕ, ◌-◌, ◌<◌, ◌≤◌, Bool, true, false, if◌then◌else◌, List, []}
use Rattle.std.specs.Prelude.{◌∷◌, length, map, reverse, Option, Some, None}
use Rattle.cb_asks.specs.Asks.{queue_at, room_at}
use Rattle.cb_asks.specs.Marks.{is_in_use}
use Rattle.cb_commit.specs.History as history
use Rattle.cb_commit.specs.Stores.{IsOf, StoreState, bytes_at, version_at}
use Rattle.cb_commit.specs.declared.commit.Commit.{Commit}
use Rattle.cb_directory.specs.Directories.{holder, row, tag}
use Rattle.cb_links.specs.Changes.{commit_of, is_live_transaction, session_of, txn_of}
use Rattle.cb_links.specs.declared.sessions.Transaction.{Transaction}
use Rattle.cb_links.specs.declared.sessions.Transaction.TheVariants.{NotBegun, Live, Ended}
use Rattle.cb_outbox.specs.Saying.{OutboxState}
use Rattle.cb_page.specs.Bounds.{Bounds}
use Rattle.cb_protocol.specs.Basics.{same_transaction}
use Rattle.cb_protocol.specs.Server.{AppliedCommit, Server, ServerStep, server_after}
use Rattle.cb_protocol.specs.Session as protocol
pub use Rattle.cb_protocol.specs.StoreLimits.{limits_of}
use Rattle.cb_protocol.specs.World.{Opening}
use Rattle.cb_server_state.specs.Commits.{applied_commit}
use Rattle.cb_server_state.specs.declared.server_state.ServerState.{ServerState}

-- 0 stands for no number
abbrev pub or_zero : Option ℕ → ℕ
or_zero None = 0
or_zero (Some number) = number

-- the greatest transaction begun
abbrev pub begun_txn : Transaction → ℕ
begun_txn transaction = or_zero (txn_of transaction)

-- the greatest transaction ended
abbrev pub ended_txn : Transaction → ℕ
ended_txn NotBegun = 0
ended_txn (Live txn is_doomed) = txn - 1
ended_txn (Ended txn commit) = txn

-- the transaction lives, as the victim of a deadlock
abbrev pub is_victim : Transaction → Bool
is_victim (Live txn is_doomed) = is_doomed
is_victim transaction = false

-- the last transaction of a client
abbrev pub transaction_of : ServerState → ℕ → Transaction
transaction_of state client = (session_of state.sessions client).transaction

-- a client's session, its rows among them
abbrev pub client_session : ServerState → ℕ → protocol.Session
client_session state client = record {
  current = or_zero (session_of state.sessions client).incarnation;
  row = row state.directory client;
  txn = begun_txn (transaction_of state client);
  ended = ended_txn (transaction_of state client);
}

-- the commits, the newest first
abbrev pub newest_first : List Commit → List AppliedCommit
newest_first commits = reverse (map applied_commit commits)

-- the number of a transaction's commit
abbrev pub commit_number_in : List AppliedCommit → (client incarnation txn : ℕ) → Option ℕ
commit_number_in [] client incarnation txn = None
commit_number_in (last ∷ earlier) client incarnation txn =
    if same_transaction client incarnation txn last.client last.incarnation last.txn
    then Some last.number else commit_number_in earlier client incarnation txn

-- pages, permissions and commits
abbrev pub store_of : ServerState → protocol.Store
store_of state = record {
  holder = holder state.directory;
  tag = λ page. or_zero (tag state.directory page);
  keep_write = state.keep_write;
  version = version_at state.commits.store;
  bytes = bytes_at state.commits.store;
  last_commit = state.commits.store.number;
  commit_number = commit_number_in (newest_first state.commits.commits);
}

-- The protocol's server.
abbrev pub server_of : ServerState → Server
server_of state = record {
  store = store_of state;
  session = client_session state;
  queue = queue_at state.asks;
  in_use = is_in_use state.marks;
  doomed = λ client. is_victim (transaction_of state client);
  outcome = λ client. commit_of (transaction_of state client);
  next_grant = state.directory.next_grant;
  commits = newest_first state.commits.commits;
  flushed = state.commits.flushed;
  clients = length state.sessions;
  pages = length state.commits.store.pages;
}

-- a store before the first commit on it
abbrev pub opening_of : StoreState → Opening
opening_of store =
    record { bytes = bytes_at store; version = version_at store; number = store.number }

-- There is such a client; such a page.
abbrev pub HasClient : ServerState → ℕ → Type 0
HasClient state client = client < length state.sessions

abbrev pub HasPage : ServerState → ℕ → Type 0
HasPage state page = page < length state.commits.store.pages

-- They are of these limits.
pub record AreOf (limits : Bounds) (state : ServerState) : Type 0 where
  pub clients : length state.sessions ≡ limits.clients
  pub store : IsOf limits state.commits.store
  pub keep_write : state.keep_write ≡ limits.keep_write

-- copies that are sent are as large as the store's pages
abbrev pub IsAsLarge : OutboxState → ServerState → Type 0
IsAsLarge outbox state = outbox.page_size ≡ state.commits.store.page_size

-- How the parts agree: clients and pages are as many in each, and a live transaction is numbered
-- from 1.
pub record PartsAgree (state : ServerState) : Type 0 where
  pub clients : length state.directory.tables.clients ≡ length state.sessions
  pub pages : length state.directory.tables.pages ≡ length state.commits.store.pages
  pub numbered : (client : ℕ) → is_live_transaction (transaction_of state client) ≡ true
      → 1 ≤ begun_txn (transaction_of state client)
  pub queues : length state.asks.queues ≡ length state.commits.store.pages
  pub marked_clients : length state.marks.by_client ≡ length state.sessions
  pub marked_pages : length state.marks.by_page ≡ length state.commits.store.pages

-- Clients and pages are as many and pages as large, over the same opening store and setting, and no
-- commit is forgotten.
pub record Stays (before after : ServerState) : Type 0 where
  pub keep_write : after.keep_write ≡ before.keep_write
  pub clients : length after.sessions ≡ length before.sessions
  pub pages : length after.commits.store.pages ≡ length before.commits.store.pages
  pub page_size : after.commits.store.page_size ≡ before.commits.store.page_size
  pub opening : after.commits.opening ≡ before.commits.opening
  pub forgotten : after.commits.forgotten ≡ before.commits.forgotten

-- the commits up to a number are forgotten
abbrev pub forgot : ServerState → ℕ → ServerState
forgot state number = record state { commits = history.forgot state.commits number }

-- It becomes what the protocol's server becomes by these steps, with no less room for asks.
pub record Does (before : ServerState) (steps : List ServerStep) (after : ServerState)
    : Type 0 where
  pub becomes : server_of after ≡ server_after (server_of before) steps
  pub stays : Stays before after
  pub room : (page : ℕ) → room_at before.asks page ≤ room_at after.asks page
