-- The server: sessions, store, queues of asks, in-use marks, commits, and each step that it makes.
use Rattle.std.specs.Prelude.{ℕ, ◌+◌, nat_lt, Bool, true, false, ◌&&◌, ◌||◌, if◌then◌else◌, ◌==◌}
use Rattle.std.specs.Prelude.{List, [], ◌∷◌, ◌++◌, Option, Some, None}
use Rattle.cb_protocol.specs.Basics.{is_exactly, update}
use Rattle.cb_protocol.specs.Messages.{Body, PageWrite}
use Rattle.cb_protocol.specs.Session.{Admit, ApplyCommit, BeginTransaction, DropTransaction}
use Rattle.cb_protocol.specs.Session.{GrantRow, Session, SessionChange, Store, has_live_txn}
use Rattle.cb_protocol.specs.Session.{session_after, store_after}

-- an ask that waits in a page's queue, of its client's current transaction
pub record WaitingAsk : Type 0 where
  pub client : ℕ
  pub write_grant : Option ℕ  -- none: it asks to read; else to write, by that grant
  pub called_back : Bool  -- the Callbacks for it were sent
  -- the tag of the last permission for which a Downgrade was sent for it
  pub downgrade_sent : Option ℕ

-- a commit that was applied
pub record AppliedCommit : Type 0 where
  pub client : ℕ
  pub incarnation : ℕ
  pub txn : ℕ
  pub number : ℕ
  pub writes : List PageWrite

-- the server; each client's and each page's part by its number
pub record Server : Type 0 where
  pub store : Store
  pub session : ℕ → Session  -- of each client
  pub queue : ℕ → List WaitingAsk  -- of each page, in order of arrival
  -- the client said that its transaction reads the page, when it was called back (TODS 1997)
  pub in_use : ℕ → ℕ → Bool
  pub doomed : ℕ → Bool  -- the client's current transaction is the victim of a deadlock
  -- the commit number of the client's current transaction, if it ended by a commit
  pub outcome : ℕ → Option ℕ
  pub next_grant : ℕ  -- the next grant's number, over all clients and pages
  pub commits : List AppliedCommit  -- the newest first
  -- the number of the last commit that is on disk, as far as the server was told
  pub flushed : ℕ
  pub clients : ℕ
  pub pages : ℕ

-- A test that a client lies on a cycle of waits, as the server is. Who is picked as the victim of a
-- deadlock is left to it.
abbrev pub DeadlockTest : Type 0
DeadlockTest = Server → ℕ → Bool

-- One step of the server. A message makes it do a list of steps, in order.
pub data ServerStep : Type 0 where
  ChangeSession : (client : ℕ) → SessionChange → ServerStep
  Send : (client incarnation : ℕ) → Body → ServerStep
  EnterQueue : (page : ℕ) → WaitingAsk → ServerStep  -- an ask goes to the end of the queue
  LeaveQueue : (page : ℕ) → ServerStep  -- the first ask leaves
  MarkCalledBack : (page : ℕ) → ServerStep  -- the Callbacks for the first ask were sent
  MarkDowngradeSent : (page tag : ℕ) → ServerStep  -- a Downgrade for it was sent
  MarkInUse : (client page : ℕ) → ServerStep
  UnmarkInUse : (client page : ℕ) → ServerStep
  RemoveAsk : (client : ℕ) → ServerStep  -- the client's ask goes, wherever it waits
  Doom : (client : ℕ) → ServerStep
  ForgetTransaction : (client : ℕ) → ServerStep  -- the client's ask, marks and doom go
  SetFlushed : (number : ℕ) → ServerStep

-- the queue without its first ask
abbrev pub after_first : List WaitingAsk → List WaitingAsk
after_first [] = []
after_first (ask ∷ queue) = queue

-- the queue without the asks of a client
abbrev pub without_client : ℕ → List WaitingAsk → List WaitingAsk
without_client client [] = []
without_client client (ask ∷ queue) =
    if ask.client == client then without_client client queue
    else ask ∷ without_client client queue

-- the first ask is noted as called back
abbrev pub set_called_back : List WaitingAsk → List WaitingAsk
set_called_back [] = []
set_called_back (ask ∷ queue) = record ask { called_back = true } ∷ queue

-- a Downgrade of that tag is noted as sent for the first ask
abbrev pub set_downgrade_sent : ℕ → List WaitingAsk → List WaitingAsk
set_downgrade_sent tag [] = []
set_downgrade_sent tag (ask ∷ queue) = record ask { downgrade_sent = Some tag } ∷ queue

-- the in-use marks with that of a client on a page set or taken off
abbrev pub set_in_use : (ℕ → ℕ → Bool) → ℕ → ℕ → Bool → ℕ → ℕ → Bool
set_in_use marks client page marked at_client at_page =
    if (at_client == client) && (at_page == page) then marked else marks at_client at_page

-- the in-use marks without those of a client
abbrev pub without_marks : (ℕ → ℕ → Bool) → ℕ → ℕ → ℕ → Bool
without_marks marks client at_client at_page =
    if at_client == client then false else marks at_client at_page

-- what a change makes of the next grant number
abbrev pub next_grant_after : ℕ → SessionChange → ℕ
next_grant_after next_grant (GrantRow page grant) = next_grant + 1
next_grant_after next_grant _ = next_grant

-- what a change makes of its client's outcome
abbrev pub outcome_after : Option ℕ → (last_commit : ℕ) → SessionChange → Option ℕ
outcome_after outcome last_commit (Admit incarnation) = None
outcome_after outcome last_commit (BeginTransaction txn) = None
outcome_after outcome last_commit (DropTransaction txn) = None
outcome_after outcome last_commit (ApplyCommit txn writes) = Some (last_commit + 1)
outcome_after outcome last_commit _ = outcome

-- what a change makes of the list of commits
abbrev pub commits_after : List AppliedCommit → ℕ → ℕ → (last_commit : ℕ) → SessionChange
    → List AppliedCommit
commits_after commits client incarnation last_commit (ApplyCommit txn writes) =
    record {
      client = client;
      incarnation = incarnation;
      txn = txn;
      number = last_commit + 1;
      writes = writes;
    } ∷ commits
commits_after commits client incarnation last_commit _ = commits

-- the server after a step
abbrev pub after_server_step : Server → ServerStep → Server
after_server_step server (ChangeSession client change) = let session = server.session client in
    record server {
      store = store_after server.store client session change;
      session = update server.session client (session_after session change);
      next_grant = next_grant_after server.next_grant change;
      outcome = update server.outcome client
          (outcome_after (server.outcome client) server.store.last_commit change);
      commits = commits_after server.commits client session.current server.store.last_commit change;
    }
after_server_step server (Send client incarnation body) = server
after_server_step server (EnterQueue page ask) =
    record server { queue = update server.queue page (server.queue page ++ ask ∷ []) }
after_server_step server (LeaveQueue page) =
    record server { queue = update server.queue page (after_first (server.queue page)) }
after_server_step server (MarkCalledBack page) =
    record server { queue = update server.queue page (set_called_back (server.queue page)) }
after_server_step server (MarkDowngradeSent page tag) =
    record server { queue = update server.queue page (set_downgrade_sent tag (server.queue page)) }
after_server_step server (MarkInUse client page) =
    record server { in_use = set_in_use server.in_use client page true }
after_server_step server (UnmarkInUse client page) =
    record server { in_use = set_in_use server.in_use client page false }
after_server_step server (RemoveAsk client) =
    record server { queue = λ page. without_client client (server.queue page) }
after_server_step server (Doom client) =
    record server { doomed = update server.doomed client true }
after_server_step server (ForgetTransaction client) = record server {
  queue = λ page. without_client client (server.queue page);
  in_use = without_marks server.in_use client;
  doomed = update server.doomed client false;
}
after_server_step server (SetFlushed number) = record server { flushed = number }

-- the server after these steps
abbrev pub server_after : Server → List ServerStep → Server
server_after server [] = server
server_after server (step ∷ steps) = server_after (after_server_step server step) steps

-- a server over a store, all of which is on disk; no client is known
abbrev pub new_server : (clients pages : ℕ) → Store → Server
new_server clients pages store = record {
  store = store;
  session = λ client. record { current = 0; row = λ page. None; txn = 0; ended = 0 };
  queue = λ page. [];
  in_use = λ client page. false;
  doomed = λ client. false;
  outcome = λ client. None;
  next_grant = 1;
  commits = [];
  flushed = store.last_commit;
  clients = clients;
  pages = pages;
}

-- an ask of the client waits in the queue
abbrev pub has_ask : ℕ → List WaitingAsk → Bool
has_ask client [] = false
has_ask client (ask ∷ queue) = (ask.client == client) || has_ask client queue

-- the client's permission for the page is of its live transaction, so not merely kept
abbrev pub is_live_permission : Server → ℕ → ℕ → Bool
is_live_permission server client page =
    has_live_txn (server.session client)
    && (server.store.tag page == (server.session client).txn)

-- the client's row of the page has this grant
abbrev pub has_row : Server → ℕ → ℕ → ℕ → Bool
has_row server client page grant = is_exactly ((server.session client).row page) grant

-- the client is the page's write holder
abbrev pub is_write_holder : Server → ℕ → ℕ → Bool
is_write_holder server client page = is_exactly (server.store.holder page) client

-- that transaction of the client has not ended
abbrev pub has_not_ended : Server → ℕ → ℕ → Bool
has_not_ended server client txn = nat_lt (server.session client).ended txn
