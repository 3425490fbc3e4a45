-- What the server does at each message: incarnations, transactions, the direct answer, then
-- settling. `cycle server client` is the test that the client lies on a cycle of waits.
use Rattle.std.specs.Prelude.{ℕ, ◌+◌, nat_lt, nat_le, Bool, true, false, not, ◌&&◌, ◌||◌}
use Rattle.std.specs.Prelude.{if◌then◌else◌, ◌==◌, List, [], ◌∷◌, ◌++◌, Option, Some, None, zero}
use Rattle.std.specs.Prelude.{suc}
use Rattle.cb_protocol.specs.Basics.{is_none, max_number}
use Rattle.cb_protocol.specs.Messages.{AbortNow, AskRead, AskWrite, Body, Commit, Done, Downgraded}
use Rattle.cb_protocol.specs.Messages.{Drop, GiveBack, Hello, InUse, PageWrite, Welcome}
use Rattle.cb_protocol.specs.Server.{DeadlockTest, ChangeSession, EnterQueue, ForgetTransaction}
use Rattle.cb_protocol.specs.Server.{MarkInUse, Send, Server, ServerStep, UnmarkInUse, WaitingAsk}
use Rattle.cb_protocol.specs.Server.{after_server_step, has_ask, has_not_ended, has_row}
use Rattle.cb_protocol.specs.Server.{is_write_holder, server_after}
use Rattle.cb_protocol.specs.Session.{Admit, ApplyCommit, BeginTransaction, DropTransaction}
use Rattle.cb_protocol.specs.Session.{EndPermission, RemoveRow}
use Rattle.cb_protocol.specs.Settling.{doom_client, send_granted, give_permission, send_to}
use Rattle.cb_protocol.specs.Settling.{settle_pages}

-- A message of a later transaction than the client's current one ends that one, as dropped if it
-- lives, and begins the later.
abbrev pub begin_transaction : Server → ℕ → ℕ → List ServerStep
begin_transaction server client txn =
    if nat_lt (server.session client).txn txn
    then ForgetTransaction client ∷ ChangeSession client (BeginTransaction txn) ∷ []
    else []

-- nobody waits
abbrev pub is_empty : List WaitingAsk → Bool
is_empty [] = true
is_empty (ask ∷ queue) = false

-- An ask enters the queue; where it is not first and closes a cycle, its client is doomed at once.
abbrev pub enter_queue : DeadlockTest → Server → ℕ → WaitingAsk → List ServerStep
enter_queue cycle server page ask =
    let entered = after_server_step server (EnterQueue page ask) in
    if not (is_empty (server.queue page)) && cycle entered ask.client
    then EnterQueue page ask ∷ doom_client entered ask.client
    else EnterQueue page ask ∷ []

-- an ask of the client waits at a page before `end`
abbrev pub has_waiting_ask : Server → ℕ → (end : ℕ) → Bool
has_waiting_ask server client zero = false
has_waiting_ask server client (suc page) =
    has_waiting_ask server client page || has_ask client (server.queue page)

-- an ask as it enters: to read, or to write by a grant
abbrev pub new_ask : ℕ → Option ℕ → WaitingAsk
new_ask client write_grant = record {
  client = client;
  write_grant = write_grant;
  called_back = false;
  downgrade_sent = None;
}

-- AskRead, by the client's row of the page: with a row it gets that grant again, with the present
-- bytes; while an ask of it waits, nothing; else its ask enters the queue.
abbrev pub take_ask_read : DeadlockTest → Server → ℕ → ℕ → Option ℕ → List ServerStep
take_ask_read cycle server client page (Some grant) = send_granted server client page grant ∷ []
take_ask_read cycle server client page None =
    if has_waiting_ask server client server.pages then []
    else enter_queue cycle server page (new_ask client None)

-- AskWrite, which names the grant of a row: without that row, nothing. The write holder is
-- permitted again, for its present transaction; while an ask of the client waits, nothing; else its
-- ask enters the queue.
abbrev pub take_ask_write : DeadlockTest → Server → ℕ → ℕ → ℕ → List ServerStep
take_ask_write cycle server client page grant =
    if not (has_row server client page grant) then []
    else if is_write_holder server client page then give_permission server client page grant
    else if has_waiting_ask server client server.pages then []
    else enter_queue cycle server page (new_ask client (Some grant))

-- A message of a doomed transaction is answered AbortNow alone, else by these steps.
abbrev pub unless_doomed : Server → ℕ → ℕ → List ServerStep → List ServerStep
unless_doomed server client txn steps =
    if server.doomed client then send_to server client (AbortNow txn) ∷ [] else steps

-- A message of a transaction that has ended is ignored; else by these steps, unless it is doomed.
abbrev pub if_live : Server → ℕ → ℕ → List ServerStep → List ServerStep
if_live server client txn steps =
    if has_not_ended server client txn then unless_doomed server client txn steps else []

-- each page written has the client as write holder, and the row that the commit names
abbrev pub commit_allowed : Server → ℕ → List PageWrite → Bool
commit_allowed server client [] = true
commit_allowed server client (write ∷ writes) =
    is_write_holder server client write.page && has_row server client write.page write.grant
    && commit_allowed server client writes

-- A repeated Commit, by the number that it was given: Done where that commit is on disk, else
-- nothing.
abbrev pub repeat_done : Server → ℕ → ℕ → Option ℕ → List ServerStep
repeat_done server client txn None = []
repeat_done server client txn (Some number) =
    if nat_le number server.flushed then send_to server client (Done txn number) ∷ [] else []

-- A Commit is applied where it is allowed, and its transaction ends as committed; else nothing.
abbrev pub apply_commit : Server → ℕ → ℕ → List PageWrite → List ServerStep
apply_commit server client txn writes =
    if commit_allowed server client writes
    then ForgetTransaction client ∷ ChangeSession client (ApplyCommit txn writes) ∷ [] else []

-- Commit: of a live transaction it is applied; of the transaction that ended last it is a
-- repetition; of an older one it is ignored.
abbrev pub take_commit : Server → ℕ → ℕ → List PageWrite → List ServerStep
take_commit server client txn writes =
    if has_not_ended server client txn
    then unless_doomed server client txn (apply_commit server client txn writes)
    else if txn == (server.session client).ended
    then repeat_done server client txn (server.outcome client) else []

-- The direct answer to a message of the current incarnation, after its transaction has begun. The
-- asks and Commit: as above. GiveBack: the row of that grant goes, with its mark. InUse: that row
-- is marked as in use. Drop: the transaction ends as dropped. Downgraded: the write permission of
-- that very grant and tag ends, and the row stays. Other kinds are for clients: nothing.
abbrev pub direct_answer : DeadlockTest → Server → ℕ → Body → List ServerStep
direct_answer cycle server client (AskRead txn page) =
    if_live server client txn
    (take_ask_read cycle server client page ((server.session client).row page))
direct_answer cycle server client (AskWrite txn page grant) =
    if_live server client txn (take_ask_write cycle server client page grant)
direct_answer cycle server client (GiveBack page grant) =
    if has_row server client page grant
    then UnmarkInUse client page ∷ ChangeSession client (RemoveRow page grant) ∷ [] else []
direct_answer cycle server client (InUse txn page grant) =
    if has_not_ended server client txn && has_row server client page grant
    then MarkInUse client page ∷ [] else []
direct_answer cycle server client (Commit txn writes) = take_commit server client txn writes
direct_answer cycle server client (Drop txn) =
    if has_not_ended server client txn
    then ForgetTransaction client ∷ ChangeSession client (DropTransaction txn) ∷ [] else []
direct_answer cycle server client (Downgraded page grant tag) =
    if server.store.keep_write && has_row server client page grant
    && is_write_holder server client page && (server.store.tag page == tag)
    then ChangeSession client (EndPermission page grant tag) ∷ [] else []
direct_answer cycle server client _ = []

-- The transaction that a message is of; 0: of none. What Downgraded names is a permission's tag.
abbrev pub named_txn : Body → ℕ
named_txn (AskRead txn page) = txn
named_txn (AskWrite txn page grant) = txn
named_txn (InUse txn page grant) = txn
named_txn (Commit txn writes) = txn
named_txn (Drop txn) = txn
named_txn _ = 0

-- these steps, and then those that follow from the server as they leave it
abbrev pub and_then : Server → List ServerStep → (Server → List ServerStep) → List ServerStep
and_then server steps next = steps ++ next (server_after server steps)

-- A message of the current incarnation other than Hello: its transaction begins, it is answered,
-- and all pages are settled.
abbrev pub take_current : DeadlockTest → Server → ℕ → Body → List ServerStep
take_current cycle server client body =
    and_then server (begin_transaction server client (named_txn body)) (λ begun.
    and_then begun (direct_answer cycle begun client body) (λ answered.
    settle_pages cycle answered answered.pages))

-- A greater Hello: everything of the old incarnation goes, the new one is current and welcomed, and
-- all pages are settled.
abbrev pub admit_incarnation : DeadlockTest → Server → ℕ → ℕ → List ServerStep
admit_incarnation cycle server client incarnation =
    and_then server (
    ForgetTransaction client ∷ ChangeSession client (Admit incarnation)
    ∷ Send client incarnation Welcome ∷ []
    ) (λ admitted. settle_pages cycle admitted admitted.pages)

-- What the server does when a message of that client and incarnation comes. Hello of a greater
-- incarnation is admitted, one of the current incarnation is answered by Welcome, and every other
-- message counts only at the current incarnation. Proofs open it by the case lemmas of
-- proofs/Cases.
unfoldable pub server_take : DeadlockTest → Server → ℕ → ℕ → Body → List ServerStep
server_take cycle server client incarnation Hello =
    if nat_lt (server.session client).current incarnation
    then admit_incarnation cycle server client incarnation
    else if incarnation == (server.session client).current
    then Send client incarnation Welcome ∷ [] else []
server_take cycle server client incarnation body =
    if incarnation == (server.session client).current then take_current cycle server client body
    else []

-- how many asks to read wait in a queue
abbrev pub read_asks_in : List WaitingAsk → ℕ
read_asks_in [] = 0
read_asks_in (ask ∷ queue) =
    if is_none ask.write_grant then read_asks_in queue + 1 else read_asks_in queue

-- how many wait at the pages before `end`
abbrev pub read_asks_below : Server → (end : ℕ) → ℕ
read_asks_below server zero = 0
read_asks_below server (suc page) =
    read_asks_below server page + read_asks_in (server.queue page)

-- the transaction has not ended and is not doomed
abbrev pub may_proceed : Server → ℕ → ℕ → Bool
may_proceed server client txn = has_not_ended server client txn && not (server.doomed client)

-- No number is left: no grant number for the read ask that would enter, beyond one for each that
-- waits; or no commit number for the commit that would be applied.
abbrev pub lacks_number : Server → ℕ → Body → Bool
lacks_number server client (AskRead txn page) =
    may_proceed server client txn && is_none ((server.session client).row page)
    && not (has_waiting_ask server client server.pages)
    && nat_lt max_number (server.next_grant + read_asks_below server server.pages)
lacks_number server client (Commit txn writes) =
    may_proceed server client txn && commit_allowed server client writes
    && nat_le max_number server.store.last_commit
lacks_number server client _ = false

-- The message is refused as exhausted: it is of the current incarnation, and once its transaction
-- has begun, no number is left. Then nothing changes, and that transaction hasn't begun either.
abbrev pub is_exhausted : Server → ℕ → ℕ → Body → Bool
is_exhausted server client incarnation body =
    (incarnation == (server.session client).current)
    && (let begun = server_after server (begin_transaction server client (named_txn body)) in
    lacks_number begun client body)
