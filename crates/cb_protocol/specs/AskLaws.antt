-- Laws of asks at the server, whatever messages come: who is granted a page and when. This
-- project's rules.
use Rattle.std.specs.Prelude.{◌≡◌, ◌≢◌, ◌<◌, ◌⊎◌, ⊤, ◌==◌, if◌then◌else◌, ℕ, List, [], ◌∷◌, ◌++◌}
use Rattle.std.specs.Prelude.{Option, Some, None}
use Rattle.cb_protocol.specs.AnyMessages.{Input, input_steps}
use Rattle.cb_protocol.specs.Deadlock.{ReachedServer}
use Rattle.cb_protocol.specs.Messages.{Granted, MayWrite}
use Rattle.cb_protocol.specs.Server.{ChangeSession, DeadlockTest, EnterQueue, Send, Server}
use Rattle.cb_protocol.specs.Server.{ServerStep, WaitingAsk, after_server_step, server_after}
use Rattle.cb_protocol.specs.Session.{GrantRow, PermitWrite}

-- the first ask for the page is that client's: to write by that grant, or to read
abbrev pub IsFirst : Server → (page client : ℕ) → (write_grant : Option ℕ) → Type 0
IsFirst server page client write_grant = (ask : WaitingAsk) × (behind : List WaitingAsk)
    × (server.queue page ≡ ask ∷ behind) × (ask.client ≡ client) × (ask.write_grant ≡ write_grant)

-- no other client is write holder of the page
abbrev pub NoOtherHolder : Server → (page client : ℕ) → Type 0
NoOtherHolder server page client =
    (other : ℕ) → server.store.holder page ≡ Some other → other ≡ client

-- the client may get a copy of the page: it has none, and no other client is write holder
abbrev pub MayBeGranted : Server → (page client : ℕ) → Type 0
MayBeGranted server page client =
    ((server.session client).row page ≡ None) × NoOtherHolder server page client

-- the client may write its copy of that grant: no other client is write holder or has a copy
abbrev pub MayBePermitted : Server → (page client grant : ℕ) → Type 0
MayBePermitted server page client grant =
    ((server.session client).row page ≡ Some grant) × NoOtherHolder server page client
    × ((other : ℕ) → other < server.clients → other ≢ client
    → (server.session other).row page ≡ None)

-- the first of these steps tells the client that it has a copy, as the page is now
abbrev pub GrantIsSent : Server → List ServerStep → (client page grant : ℕ) → Type 0
GrantIsSent server steps client page grant = (more : List ServerStep) × (steps ≡
    Send client (server.session client).current
    (Granted page grant (server.store.version page) (server.store.bytes page)) ∷ more)

-- the first of these steps tells the client that its transaction may write its copy
abbrev pub PermissionIsSent : Server → List ServerStep → (client page grant : ℕ) → Type 0
PermissionIsSent server steps client page grant = (more : List ServerStep) × (steps ≡
    Send client (server.session client).current
    (MayWrite (server.session client).txn page grant) ∷ more)

-- Each grant among the steps is a first read ask's, that may have it as things stand then. It has
-- the next number, and is sent at once.
abbrev pub GrantsInOrder : Server → List ServerStep → Type 0
GrantsInOrder server steps = (before after : List ServerStep) (client page grant : ℕ)
    → steps ≡ before ++ ChangeSession client (GrantRow page grant) ∷ after
    → let there = server_after server before in IsFirst there page client None
    × MayBeGranted there page client × (grant ≡ there.next_grant)
    × GrantIsSent there after client page grant

-- Each write permission among the steps is a first write ask's, that may have it as things stand
-- then; or its client is the write holder already and is told again. It is sent at once.
abbrev pub PermissionsInOrder : Server → List ServerStep → Type 0
PermissionsInOrder server steps = (before after : List ServerStep) (client page grant : ℕ)
    → steps ≡ before ++ ChangeSession client (PermitWrite page grant) ∷ after
    → let there = server_after server before in
    ((IsFirst there page client (Some grant) × MayBePermitted there page client grant)
    ⊎ ((there.store.holder page ≡ Some client) × ((there.session client).row page ≡ Some grant)))
    × PermissionIsSent there after client page grant

-- At any server, at every input, grants and permissions go to the first asks alone, and never too
-- early.
abbrev pub FirstAsksAreMet : Type 0
FirstAsksAreMet = (cycle : DeadlockTest) (server : Server) (input : Input)
    → GrantsInOrder server (input_steps cycle server input)
    × PermissionsInOrder server (input_steps cycle server input)

-- the ask may have what it asks for
abbrev pub MayBeMet : Server → (page : ℕ) → WaitingAsk → Type 0
MayBeMet server page ask = ((ask.write_grant ≡ None) × MayBeGranted server page ask.client)
    ⊎ ((grant : ℕ) × (ask.write_grant ≡ Some grant) × MayBePermitted server page ask.client grant)

-- And never too late: after every step, no first ask may have what it waits for.
abbrev pub NoneWaitsInVain : Type 0
NoneWaitsInVain = (server : Server) → ReachedServer server
    → (page : ℕ) (ask : WaitingAsk) (behind : List WaitingAsk)
    → server.queue page ≡ ask ∷ behind → MayBeMet server page ask → ⊥

-- these asks are some of a queue's, in its order; what is noted of an ask may have changed
abbrev pub AreInOrderOf : (asks queue : List WaitingAsk) → Type 0
AreInOrderOf [] queue = ⊤
AreInOrderOf (ask ∷ asks) [] = ⊥
AreInOrderOf (ask ∷ asks) (first ∷ behind) =
    ((ask.client ≡ first.client) × (ask.write_grant ≡ first.write_grant)
    × AreInOrderOf asks behind)
    ⊎ AreInOrderOf (ask ∷ asks) behind

-- the asks that a step brings into a page's queue
abbrev pub asks_entering : ServerStep → (page : ℕ) → List WaitingAsk
asks_entering (EnterQueue asked ask) page = if page == asked then ask ∷ [] else []
asks_entering _ page = []

-- Asks wait in the order of their coming: after every step of any server a page's queue has those
-- asks that stay, in the order in which they stood, and behind them the one that came.
abbrev pub AsksKeepTheirOrder : Type 0
AsksKeepTheirOrder = (server : Server) (step : ServerStep) (page : ℕ)
    → (staying : List WaitingAsk)
    × ((after_server_step server step).queue page ≡ staying ++ asks_entering step page)
    × AreInOrderOf staying (server.queue page)
