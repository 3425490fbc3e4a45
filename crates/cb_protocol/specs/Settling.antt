-- Settling a page: who is next in its queue gets what it asks for, or those in its way are called
-- back, or its client is doomed (callback locking: TODS 1997; when each is done is this project's
-- rule). `cycle server client` is the test that the client lies on a cycle of waits.
use Rattle.std.specs.Prelude.{ℕ, ◌+◌, length, Bool, true, false, not, ◌&&◌, ◌||◌, if◌then◌else◌}
use Rattle.std.specs.Prelude.{◌==◌, List, [], ◌∷◌, ◌++◌, Option, Some, None, zero, suc}
use Rattle.cb_protocol.specs.Basics.{is_exactly, is_none}
use Rattle.cb_protocol.specs.Messages.{AbortNow, Body, Callback, Downgrade, Granted, MayWrite}
use Rattle.cb_protocol.specs.Server.{DeadlockTest, ChangeSession, Doom, LeaveQueue, MarkCalledBack}
use Rattle.cb_protocol.specs.Server.{MarkDowngradeSent, RemoveAsk, Send, Server, ServerStep}
use Rattle.cb_protocol.specs.Server.{WaitingAsk, has_row, is_live_permission, server_after}
use Rattle.cb_protocol.specs.Session.{GrantRow, PermitWrite}

-- a message to a client, at its current incarnation
abbrev pub send_to : Server → ℕ → Body → ServerStep
send_to server client body = Send client (server.session client).current body

-- Granted: the page as it is now, by that grant
abbrev pub send_granted : Server → ℕ → ℕ → ℕ → ServerStep
send_granted server client page grant =
    send_to server client (Granted page grant (server.store.version page) (server.store.bytes page))

-- the client becomes write holder, for its present transaction, and hears so
abbrev pub give_permission : Server → ℕ → ℕ → ℕ → List ServerStep
give_permission server client page grant =
    ChangeSession client (PermitWrite page grant)
    ∷ send_to server client (MayWrite (server.session client).txn page grant) ∷ []

-- nobody but the asker is write holder
abbrev pub no_other_holder : Option ℕ → ℕ → Bool
no_other_holder None asker = true
no_other_holder (Some holder) asker = holder == asker

-- of the clients before `end` none but the asker has a row of the page
abbrev pub sole_row : Server → ℕ → ℕ → (end : ℕ) → Bool
sole_row server page asker zero = true
sole_row server page asker (suc client) =
    sole_row server page asker client
    && ((client == asker) || is_none ((server.session client).row page))

-- a Callback to the client, if it has a row
abbrev pub send_callback : Server → ℕ → ℕ → Option ℕ → List ServerStep
send_callback server client page None = []
send_callback server client page (Some grant) = send_to server client (Callback page grant) ∷ []

-- Callbacks to all rows of other clients than the asker, by rising client, save those left out
abbrev pub send_callbacks : Server → (ℕ → Bool) → ℕ → ℕ → (end : ℕ) → List ServerStep
send_callbacks server left_out page asker zero = []
send_callbacks server left_out page asker (suc client) =
    send_callbacks server left_out page asker client
    ++ (if (client == asker) || left_out client then []
    else send_callback server client page ((server.session client).row page))

-- nobody is left out
abbrev pub nobody : ℕ → Bool
nobody client = false

-- a Downgrade to the client, if it has a row
abbrev pub send_downgrade : Server → ℕ → ℕ → Option ℕ → List ServerStep
send_downgrade server client page None = []
send_downgrade server client page (Some grant) =
    send_to server client (Downgrade page grant (server.store.tag page)) ∷ []

-- the write holder is another client than the asker, and merely keeps its permission: it is not of
-- the transaction that it has now
abbrev pub keeps_permission : Server → ℕ → ℕ → Option ℕ → Bool
keeps_permission server page asker None = false
keeps_permission server page asker (Some holder) =
    not (holder == asker) && not (is_live_permission server holder page)

-- a Downgrade to a client that merely keeps its permission, save where it is left out
abbrev pub send_downgrades : Server → (ℕ → Bool) → ℕ → ℕ → Option ℕ → List ServerStep
send_downgrades server left_out page asker None = []
send_downgrades server left_out page asker (Some holder) =
    if keeps_permission server page asker (Some holder) && not (left_out holder)
    then send_downgrade server holder page ((server.session holder).row page) else []

-- the client's transaction is the victim of a deadlock: its ask goes, and it hears AbortNow; its
-- permissions, rows and marks stay
abbrev pub doom_client : Server → ℕ → List ServerStep
doom_client server client =
    RemoveAsk client ∷ Doom client
    ∷ send_to server client (AbortNow (server.session client).txn) ∷ []

-- What is done about the first ask of a page: decided, and the next ask is looked at, or the page
-- is settled.
pub data Decision : Type 0 where
  Settled : List ServerStep → Decision
  Decided : List ServerStep → Decision

-- what is done
abbrev pub decision_steps : Decision → List ServerStep
decision_steps (Settled steps) = steps
decision_steps (Decided steps) = steps

-- The ask can't be met now: after these steps its client is doomed where it lies on a cycle, else
-- the page is settled.
abbrev pub wait_or_doom : DeadlockTest → Server → ℕ → List ServerStep → Decision
wait_or_doom cycle server client steps =
    if cycle (server_after server steps) client
    then Decided (steps ++ doom_client (server_after server steps) client) else Settled steps

-- the client becomes write holder and hears so; the ask leaves
abbrev pub permit_write : Server → ℕ → ℕ → ℕ → List ServerStep
permit_write server page client grant =
    give_permission server client page grant ++ LeaveQueue page ∷ []

-- the client gets a row with the next grant number, and a copy; the ask leaves
abbrev pub grant_row : Server → ℕ → ℕ → List ServerStep
grant_row server page client =
    ChangeSession client (GrantRow page server.next_grant)
    ∷ send_granted server client page server.next_grant ∷ LeaveQueue page ∷ []

-- Callbacks to every other row, once for each ask
abbrev pub call_back_once : Server → ℕ → WaitingAsk → List ServerStep
call_back_once server page ask =
    if ask.called_back then []
    else send_callbacks server nobody page ask.client server.clients ++ MarkCalledBack page ∷ []

-- A Downgrade to a client that merely keeps its permission, once for each ask and tag: the tags of
-- an ask only rise, so the last one tells.
abbrev pub downgrade_once : Server → ℕ → WaitingAsk → List ServerStep
downgrade_once server page ask =
    if server.store.keep_write
    && keeps_permission server page ask.client (server.store.holder page)
    && not (is_exactly ask.downgrade_sent (server.store.tag page))
    then send_downgrades server nobody page ask.client (server.store.holder page)
    ++ MarkDowngradeSent page (server.store.tag page) ∷ []
    else []

-- A first write ask: permitted where no other client is write holder and the only row of the page
-- is the asker's, of the grant that it names; else the other rows are called back.
abbrev pub decide_write : DeadlockTest → Server → ℕ → WaitingAsk → ℕ → Decision
decide_write cycle server page ask grant =
    if no_other_holder (server.store.holder page) ask.client
    && has_row server ask.client page grant && sole_row server page ask.client server.clients
    then Decided (permit_write server page ask.client grant)
    else wait_or_doom cycle server ask.client (call_back_once server page ask)

-- A first read ask: granted where no other client is write holder and the asker has no row; else
-- the holder of a kept permission is asked to give it up.
abbrev pub decide_read : DeadlockTest → Server → ℕ → WaitingAsk → Decision
decide_read cycle server page ask =
    if no_other_holder (server.store.holder page) ask.client
    && is_none ((server.session ask.client).row page)
    then Decided (grant_row server page ask.client)
    else wait_or_doom cycle server ask.client (downgrade_once server page ask)

-- the first ask of a page, by its queue
abbrev pub decide : DeadlockTest → Server → ℕ → List WaitingAsk → Decision
decide cycle server page [] = Settled []
decide cycle server page (ask ∷ queue) = elim ask.write_grant [
  | None ↦ decide_read cycle server page ask
  | Some grant ↦ decide_write cycle server page ask grant
]

-- Settling a page, in so many decisions at most: each but the last takes an ask off the queue.
abbrev pub settle_page : DeadlockTest → (most : ℕ) → Server → ℕ → List ServerStep
settle_page cycle zero server page = []
settle_page cycle (suc most) server page = elim (decide cycle server page (server.queue page)) [
  | Settled steps ↦ steps
  | Decided steps ↦ steps ++ settle_page cycle most (server_after server steps) page
]

-- settling the pages before `end`, rising
abbrev pub settle_pages : DeadlockTest → Server → (end : ℕ) → List ServerStep
settle_pages cycle server zero = []
settle_pages cycle server (suc page) =
    let steps = settle_pages cycle server page in
    steps ++ settle_page cycle (length (server.queue page) + 1) (server_after server steps) page
