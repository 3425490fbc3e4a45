-- A station as the owner of it sees it, and what holds of every station whenever nobody has it.
use Rattle.std.specs.Prelude.{◌≡◌, ◌<◌, ℕ, true, false, List, drop, length, reverse, Option, Some}
use Rattle.std.specs.Prelude.{IsSome}
use Rattle.cb_hands.specs.Agreement.{Agrees}
use Rattle.cb_mailboxes.specs.Dispatching as dispatching
use Rattle.cb_mailboxes.specs.Dispatching.{DispatcherState}
use Rattle.cb_frame.specs.declared.frame.Frame.{Frame}
use Rattle.cb_hands.specs.Hands.{HandState, IsHand}
use Rattle.cb_hands.specs.Running.{IsLegal, Replays}
use Rattle.cb_hands.specs.declared.entry.Entry.{Entry}
use Rattle.cb_hands.specs.Joined.{stored_at}
use Rattle.cb_station.specs.Flags.{AreFlags}
use Rattle.cb_station.specs.declared.station.flags.Flags.{Flags}
use Rattle.cb_page.specs.Flags.{has}
use Rattle.cb_protocol.specs.Server.{Server}
use Rattle.cb_protocol.specs.World.{Opening}
use Rattle.cb_server.specs.ServerValue.{IsServer, commits_of, opening_at}

-- the server with its mailboxes, what is stored of each client's hand, the history of commits, the
-- first one first, and what the threads that share it tell each other
pub record StationState : Type 0 where
  pub dispatcher : DispatcherState
  pub hands : List (Option HandState)
  pub history : List Entry
  pub flags : Flags

-- the protocol's server that it has, and the store before the first commit
abbrev pub server_of : StationState → Server
server_of station = dispatching.server_of station.dispatcher

abbrev pub opening_of : StationState → Opening
opening_of station = opening_at station.dispatcher.server

-- how many commits were forgotten, and their entries with them
abbrev pub forgotten_in : StationState → ℕ
forgotten_in station = (commits_of station.dispatcher.server).forgotten

-- the entries of the history that weren't forgotten, the first one first
abbrev pub remembered : StationState → List Entry
remembered station = drop (forgotten_in station) station.history

-- the commits up to a number are forgotten, and their entries with them
abbrev pub forgot : StationState → ℕ → StationState
forgot station number =
    record station { dispatcher = dispatching.forgot station.dispatcher number }

-- what is to be sent to a client, the oldest frame first
abbrev pub mailbox_of : StationState → (client : ℕ) → List Frame
mailbox_of station client = dispatching.mailbox_of station.dispatcher client

-- Nothing changes but room.
pub record IsUnchanged (old new : StationState) : Type 0 where
  pub dispatcher : dispatching.IsUnchanged old.dispatcher new.dispatcher
  pub hands : new.hands ≡ old.hands
  pub history : new.history ≡ old.history
  pub flags : new.flags ≡ old.flags

-- What holds of each hand that is stored: it is its client's, of the incarnation that is current,
-- over the store's pages. What it holds the server has in its rows, at the store's versions; where
-- it shows that a page may be written, its client has the permission, and the transaction that was
-- told so lasts (this project's).
pub record IsStored (server : Server) (pages client : ℕ) (hand : HandState) : Type 0 where
  pub name : hand.client ≡ client
  pub current : (server.session client).current ≡ hand.incarnation
  pub flags : IsHand hand
  pub size : length hand.held ≡ pages
  pub agrees : Agrees server hand
  pub lasts : (txn : ℕ) → hand.txn ≡ Some txn
      → ((server.session client).txn ≡ txn) × ((server.session client).ended < txn)
  pub told : (page : ℕ) → has hand.writable page ≡ true → IsSome hand.txn

-- What holds of every station. The server arose by the protocol's steps, and keeps no write
-- permission after a commit; the history is legal and replays to the server; every stored hand is
-- as the server has it; a halted one is closed (this project's).
pub record IsStation (station : StationState) : Type 0 where
  pub arisen : IsServer station.dispatcher.server
  pub plain : station.dispatcher.server.limits.keep_write ≡ false
  pub clients : length station.hands ≡ station.dispatcher.server.limits.clients
  pub legal : IsLegal (opening_of station) (reverse station.history)
  pub replays : Replays (opening_of station) (reverse station.history) (server_of station)
  pub hand : (client : ℕ) (hand : HandState) → stored_at station.hands client ≡ Some hand
      → IsStored (server_of station) station.dispatcher.server.limits.pages client hand
  pub flags : AreFlags station.flags
