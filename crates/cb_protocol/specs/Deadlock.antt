-- Laws of deadlocks: the test is exact, no step of the server leaves a cycle, and only who lies on
-- one is doomed. This project's rules.
use Rattle.std.specs.Prelude.{◌≡◌, ◌≢◌, ◌≤◌, ◌↔◌, ◌⊎◌, ◌<◌, ◌+◌, ◌==◌, if◌then◌else◌, ℕ, true}
use Rattle.std.specs.Prelude.{false, List, [], ◌∷◌, ◌++◌, length, Some, None, ⊤}
use Rattle.cb_protocol.specs.Basics.{Limits, IsIn}
use Rattle.cb_protocol.specs.Messages.{Body, AskRead, AskWrite}
use Rattle.cb_protocol.specs.Server.{DeadlockTest, WaitingAsk, Server, ServerStep, RemoveAsk, Doom}
use Rattle.cb_protocol.specs.Server.{server_after, is_live_permission}
use Rattle.cb_protocol.specs.ServerMessages.{begin_transaction, direct_answer, take_current}
use Rattle.cb_protocol.specs.ServerMessages.{named_txn}
use Rattle.cb_protocol.specs.Settling.{settle_page, settle_pages}
use Rattle.cb_protocol.specs.WaitsFor.{HasAsk, HoldsUp, WaitsFor, LiesOnCycle, NoCycle, AsksInRange}
use Rattle.cb_protocol.specs.WaitsFor.{on_cycle}
use Rattle.cb_protocol.specs.World.{Opening}
use Rattle.cb_protocol.specs.AnyMessages.{Input, MessageComes, ReachedBy, input_steps}

-- an ask is for a page that there is
abbrev pub AskInRange : (pages : ℕ) → Body → Type 0
AskInRange pages (AskRead txn page) = page < pages
AskInRange pages (AskWrite txn page grant) = page < pages
AskInRange pages _ = ⊤

-- the input is of a client that there is, and for a page that there is where it asks for one;
-- nothing else is asked of it
abbrev pub InputInRange : Server → Input → Type 0
InputInRange server (MessageComes client incarnation body) =
    (client < server.clients) × AskInRange server.pages body
InputInRange server _ = ⊤

-- a server that is reached from some opening store by inputs in range, whoever sends them
abbrev pub ReachedServer : Server → Type 0
ReachedServer server = (limits : Limits) × (opening : Opening)
    × ReachedBy limits on_cycle opening InputInRange server

-- the asks of a client in a queue
abbrev pub ask_count : (client : ℕ) → List WaitingAsk → ℕ
ask_count client [] = 0
ask_count client (ask ∷ queue) =
    (if ask.client == client then 1 else 0) + ask_count client queue

-- a client has at most one ask in all queues
pub record OneAsk (queue : ℕ → List WaitingAsk) : Type 0 where
  pub here : (page client : ℕ) → ask_count client (queue page) ≤ 1
  pub apart : (page other client : ℕ) → page ≢ other
      → ask_count client (queue page) + ask_count client (queue other) ≤ 1

-- Each doom comes right after its client's ask was taken away, and as the server was just before
-- that, the client lay on a cycle.
abbrev pub DoomsOnCycle : Server → List ServerStep → Type 0
DoomsOnCycle server steps = (before after : List ServerStep) (client : ℕ)
    → steps ≡ before ++ Doom client ∷ after
    → (earlier : List ServerStep) × (before ≡ earlier ++ RemoveAsk client ∷ [])
    × LiesOnCycle (WaitsFor (server_after server earlier)) client

-- The test is true exactly of the clients that lie on a cycle.
abbrev pub CycleTestExact : Type 0
CycleTestExact = (server : Server) → AsksInRange server → (client : ℕ)
    → (on_cycle server client ≡ true) ↔ LiesOnCycle (WaitsFor server) client

-- After every step nobody lies on a cycle.
abbrev pub NoCycleStays : Type 0
NoCycleStays = (server : Server) → ReachedServer server → NoCycle server

-- At every moment of a step, also before the first and after the last of what is done in it, a
-- client has at most one ask, and all asks are in range.
abbrev pub OneAskAlways : Type 0
OneAskAlways = (server : Server) → ReachedServer server
    → (input : Input) → InputInRange server input
    → (before after : List ServerStep) → input_steps on_cycle server input ≡ before ++ after
    → OneAsk (server_after server before).queue × AsksInRange (server_after server before)

-- Whoever is doomed lay on a cycle at that moment.
abbrev pub DoomedOnlyOnCycle : Type 0
DoomedOnlyOnCycle = (server : Server) → ReachedServer server
    → (input : Input) → InputInRange server input
    → DoomsOnCycle server (input_steps on_cycle server input)

-- A client whose transaction is doomed has no ask.
abbrev pub DoomedHaveNoAsk : Type 0
DoomedHaveNoAsk = (server : Server) → ReachedServer server
    → (client : ℕ) → server.doomed client ≡ true
    → (page : ℕ) → HasAsk client (server.queue page) → ⊥

-- Settling all pages once more does nothing.
abbrev pub SettledStaysSettled : Type 0
SettledStaysSettled = (server : Server) → ReachedServer server
    → settle_pages on_cycle server server.pages ≡ []

-- A message that changes nothing is answered, and no page needs settling.
abbrev pub UnchangedNeedsNoSettling : Type 0
UnchangedNeedsNoSettling = (server : Server) → ReachedServer server → (client : ℕ) (body : Body)
    → begin_transaction server client (named_txn body) ≡ []
    → server_after server (direct_answer on_cycle server client body) ≡ server
    → take_current on_cycle server client body ≡ direct_answer on_cycle server client body

-- settling these pages, in that order
abbrev pub settle_listed : DeadlockTest → Server → List ℕ → List ServerStep
settle_listed cycle server [] = []
settle_listed cycle server (page ∷ pages) =
    let steps = settle_page cycle (length (server.queue page) + 1) server page in
    steps ++ settle_listed cycle (server_after server steps) pages

-- numbers that rise, from one number on and below another
abbrev pub RisingWithin : (from end : ℕ) → List ℕ → Type 0
RisingWithin from end [] = ⊤
RisingWithin from end (page ∷ pages) =
    (from ≤ page) × (page < end) × RisingWithin (page + 1) end pages

-- Settling a page takes at most as many decisions as asks wait for it, and one.
abbrev pub SettlingEnds : Type 0
SettlingEnds = (cycle : DeadlockTest) (server : Server) (page most : ℕ)
    → length (server.queue page) < most
    → settle_page cycle most server page
    ≡ settle_page cycle (length (server.queue page) + 1) server page

-- Settling a page with no ask does nothing.
abbrev pub EmptyNeedsNoSettling : Type 0
EmptyNeedsNoSettling = (cycle : DeadlockTest) (server : Server) (page most : ℕ)
    → server.queue page ≡ [] → settle_page cycle most server page ≡ []

-- Pages with no ask, when settling begins, are passed over.
abbrev pub EmptyPassedOver : Type 0
EmptyPassedOver = (cycle : DeadlockTest) (server : Server) (from end : ℕ) → from ≤ end
    → ((page : ℕ) → from ≤ page → page < end → server.queue page ≡ [])
    → settle_pages cycle server end ≡ settle_pages cycle server from

-- Settling rising pages, among them each with an ask when settling begins, is settling all.
abbrev pub ListedAreEnough : Type 0
ListedAreEnough = (cycle : DeadlockTest) (server : Server) (end : ℕ) (pages : List ℕ)
    → RisingWithin 0 end pages
    → ((page : ℕ) → page < end → server.queue page ≢ [] → IsIn page pages)
    → settle_listed cycle server pages ≡ settle_pages cycle server end

-- Without kept write permission, every permission is of its holder's live transaction.
abbrev pub PermissionsLive : Type 0
PermissionsLive = (server : Server) → ReachedServer server → server.store.keep_write ≡ false
    → (page holder : ℕ) → server.store.holder page ≡ Some holder
    → is_live_permission server holder page ≡ true

-- So a first ask is then held up by exactly the write holder, and one to write by each client that
-- uses the page.
abbrev pub PlainHoldsUp : Type 0
PlainHoldsUp = (server : Server) → ReachedServer server → server.store.keep_write ≡ false
    → (page : ℕ) (ask : WaitingAsk) (client : ℕ)
    → HoldsUp server page ask client
    ↔ ((server.store.holder page ≡ Some client)
    ⊎ ((ask.write_grant ≢ None) × (server.in_use client page ≡ true)))
