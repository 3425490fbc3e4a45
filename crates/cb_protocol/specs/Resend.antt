-- What the server sends again, since messages may be lost.
use Rattle.std.specs.Prelude.{ℕ, Bool, if◌then◌else◌, List, [], ◌∷◌, ◌++◌, zero, suc}
use Rattle.cb_protocol.specs.Basics.{is_none}
use Rattle.cb_protocol.specs.Messages.{AbortNow}
use Rattle.cb_protocol.specs.Server.{Server, ServerStep, WaitingAsk}
use Rattle.cb_protocol.specs.Settling.{send_callbacks, send_downgrades, send_to}

-- the client said InUse of the page
abbrev pub uses_page : Server → (page client : ℕ) → Bool
uses_page server page client = server.in_use client page

-- a Downgrade to a client that merely keeps its permission, if it has not said InUse
abbrev pub again_downgrade : Server → (page : ℕ) → WaitingAsk → List ServerStep
again_downgrade server page ask =
    if server.store.keep_write
    then send_downgrades server (uses_page server page) page ask.client (server.store.holder page)
    else []

-- for the first ask of a page, by its queue: Callbacks, or a Downgrade, to those that have not said
-- InUse
abbrev pub again_page : Server → (page : ℕ) → List WaitingAsk → List ServerStep
again_page server page [] = []
again_page server page (ask ∷ queue) =
    if is_none ask.write_grant then again_downgrade server page ask
    else send_callbacks server (uses_page server page) page ask.client server.clients

-- for the pages before `end`, rising
abbrev pub again_pages : Server → (end : ℕ) → List ServerStep
again_pages server zero = []
again_pages server (suc page) =
    again_pages server page ++ again_page server page (server.queue page)

-- AbortNow to each client before `end` whose transaction is doomed
abbrev pub again_doomed : Server → (end : ℕ) → List ServerStep
again_doomed server zero = []
again_doomed server (suc client) =
    again_doomed server client
    ++ (if server.doomed client
    then send_to server client (AbortNow (server.session client).txn) ∷ [] else [])

-- what may be lost is sent again; nothing else changes
abbrev pub server_again : Server → List ServerStep
server_again server = again_pages server server.pages ++ again_doomed server server.clients
