-- What a step of the server can need: grant numbers for the rows that it gives, and room for the
-- messages that it sends. With these laws code knows both before it begins. This project's rules.
use Rattle.std.specs.Prelude.{◌≡◌, ◌≤◌, ◌<◌, ◌+◌, ◌*◌, ℕ, false, if◌then◌else◌, List, [], ◌∷◌}
use Rattle.std.specs.Prelude.{length, Option, zero, suc, ⊤}
use Rattle.cb_protocol.specs.AnyMessages.{Input, MessageComes, input_steps}
use Rattle.cb_protocol.specs.Basics.{IsIn, Limits, is_none, max_number}
use Rattle.cb_protocol.specs.Deadlock.{InputInRange, ReachedServer}
use Rattle.cb_protocol.specs.Messages.{Granted}
use Rattle.cb_protocol.specs.Server.{DeadlockTest, ChangeSession, Send, Server, ServerStep}
use Rattle.cb_protocol.specs.Server.{WaitingAsk, new_server, server_after}
use Rattle.cb_protocol.specs.ServerMessages.{is_exhausted, read_asks_below, read_asks_in}
use Rattle.cb_protocol.specs.Session.{GrantRow}
use Rattle.cb_protocol.specs.Settling.{decide, decision_steps, settle_page, settle_pages}
use Rattle.cb_protocol.specs.WaitsFor.{on_cycle}
use Rattle.cb_protocol.specs.World.{Opening, messages_sent, opening_store}

-- the first grant number that is left once every read ask that waits has one
abbrev pub first_free_grant : Server → ℕ
first_free_grant server = server.next_grant + read_asks_below server server.pages

-- every read ask that waits can have a grant number
abbrev pub HasGrantsLeft : Server → Type 0
HasGrantsLeft server = (1 ≤ server.next_grant) × (first_free_grant server ≤ max_number + 1)

-- a message is not refused as exhausted
abbrev pub IsTaken : Server → Input → Type 0
IsTaken server (MessageComes client incarnation body) =
    is_exhausted server client incarnation body ≡ false
IsTaken server _ = ⊤

-- these steps take no grant number but those kept for the asks that wait
abbrev pub TakesKeptGrants : Server → List ServerStep → Type 0
TakesKeptGrants server steps =
    first_free_grant (server_after server steps) ≤ first_free_grant server

-- So does settling: one decision, one page, and all.
pub record SettlingTakesKeptGrants (cycle : DeadlockTest) (server : Server) : Type 0 where
  pub decision : (page : ℕ) → page < server.pages
      → TakesKeptGrants server (decision_steps (decide cycle server page (server.queue page)))
  pub one_page : (decisions page : ℕ) → page < server.pages
      → TakesKeptGrants server (settle_page cycle decisions server page)
  pub all_pages : TakesKeptGrants server (settle_pages cycle server server.pages)

-- a new server, over any store
abbrev pub GrantsLeftAtFirst : Limits → Type 0
GrantsLeftAtFirst limits = (opening : Opening)
    → HasGrantsLeft (new_server limits.clients limits.pages (opening_store limits opening))

-- the steps give a row with that grant
abbrev pub GivesGrant : List ServerStep → ℕ → Type 0
GivesGrant steps grant =
    (client : ℕ) × ((page : ℕ) × IsIn (ChangeSession client (GrantRow page grant)) steps)

-- So a server that takes what is not refused as exhausted, whatever it is, never lacks a number:
-- each new row has a grant number in range, and the asks that wait can still have one.
abbrev pub GrantsNeverRunOut : DeadlockTest → Server → Input → Type 0
GrantsNeverRunOut cycle server input = HasGrantsLeft server → IsTaken server input
    → HasGrantsLeft (server_after server (input_steps cycle server input))
    × ((grant : ℕ) → GivesGrant (input_steps cycle server input) grant
    → (1 ≤ grant) × (grant ≤ max_number))

-- how many messages settling may send for an ask: to read, a Downgrade and an AbortNow; to write,
-- a Callback to each client and an AbortNow
abbrev pub messages_for : ℕ → Option ℕ → ℕ
messages_for clients write_grant = if is_none write_grant then 2 else clients + 1

-- for the asks of a queue
abbrev pub messages_for_queue : ℕ → List WaitingAsk → ℕ
messages_for_queue clients [] = 0
messages_for_queue clients (ask ∷ queue) =
    messages_for clients ask.write_grant + messages_for_queue clients queue

-- for the asks at the pages before `end`
abbrev pub messages_for_pages : Server → ℕ → ℕ
messages_for_pages server zero = 0
messages_for_pages server (suc page) =
    messages_for_pages server page + messages_for_queue server.clients (server.queue page)

-- how many of these steps send a copy of a page
abbrev pub copies_sent : List ServerStep → ℕ
copies_sent [] = 0
copies_sent (Send client incarnation (Granted page grant version bytes) ∷ steps) =
    copies_sent steps + 1
copies_sent (_ ∷ steps) = copies_sent steps

-- these steps send at most n messages
abbrev pub SendsAtMost : List ServerStep → ℕ → Type 0
SendsAtMost steps most = length (messages_sent steps) ≤ most

-- Settling sends at most so many messages, by the asks that wait as it begins, and a copy of
-- a page at most for each read ask. Of any server, and for any test of deadlock.
pub record SettlingSendsAtMost (cycle : DeadlockTest) (server : Server) : Type 0 where
  pub decision : (page : ℕ) (first : WaitingAsk) (others : List WaitingAsk)
      → server.queue page ≡ first ∷ others
      → SendsAtMost (decision_steps (decide cycle server page (server.queue page)))
      (messages_for server.clients first.write_grant)
  pub one_page : (decisions page : ℕ)
      → SendsAtMost (settle_page cycle decisions server page)
      (messages_for_queue server.clients (server.queue page))
  pub all_pages : (pages : ℕ)
      → SendsAtMost (settle_pages cycle server pages) (messages_for_pages server pages)
  pub page_copies : (decisions page : ℕ)
      → copies_sent (settle_page cycle decisions server page) ≤ read_asks_in (server.queue page)
  pub all_copies : (pages : ℕ)
      → copies_sent (settle_pages cycle server pages) ≤ read_asks_below server pages

-- a message comes: no resending, no flush
abbrev pub IsMessage : Input → Type 0
IsMessage (MessageComes client incarnation body) = ⊤
IsMessage _ = ⊥

-- A client has one ask at most. So a message is answered by one message, and settling sends for
-- each client at most one to each client and one.
abbrev pub StepSendsAtMost : Type 0
StepSendsAtMost = (server : Server) → ReachedServer server
    → (input : Input) → InputInRange server input → IsMessage input
    → SendsAtMost (input_steps on_cycle server input) (server.clients * (server.clients + 1) + 1)
