-- A server as its callers see it: the protocol's server, and how it arose.
use Rattle.std.specs.Prelude.{◌≡◌, ◌≤◌, ◌+◌, ℕ, []}
use Rattle.cb_commit.specs.History.{CommitsState, begun}
use Rattle.cb_commit.specs.Stores.{StoreState}
use Rattle.cb_outbox.specs.Saying.{OutboxState}
use Rattle.cb_page.specs.Bounds.{Bounds}
use Rattle.cb_protocol.specs.AnyMessages.{ReachedBy}
use Rattle.cb_protocol.specs.Basics.{Limits}
use Rattle.cb_protocol.specs.LivesWorld.{server_of_life}
use Rattle.cb_protocol.specs.Numbers.{messages_for_pages}
use Rattle.cb_protocol.specs.Ranges.{InputTaken, StoreFits}
use Rattle.cb_protocol.specs.Server.{Server, new_server}
use Rattle.cb_protocol.specs.WaitsFor.{on_cycle}
use Rattle.cb_protocol.specs.World.{Opening, opening_store}
use Rattle.cb_server_state.specs.States as states
use Rattle.cb_server_state.specs.States.{AreOf, limits_of, opening_of}
use Rattle.cb_server_state.specs.declared.server_state.ServerState.{ServerState}

-- its limits, and what it has of its clients and pages, with the room that there is
pub record ServerValue : Type 0 where
  pub limits : Bounds
  pub state : ServerState

-- the protocol's server that it is
abbrev pub server_of : ServerValue → Server
server_of value = states.server_of value.state

-- the commits over its opening store
abbrev pub commits_of : ServerValue → CommitsState
commits_of value = value.state.commits

-- the commits up to a number are forgotten
abbrev pub forgot : ServerValue → ℕ → ServerValue
forgot value number = record value { state = states.forgot value.state number }

-- the limits that the protocol speaks of, and the store before the first commit
abbrev pub limits_at : ServerValue → Limits
limits_at value = limits_of value.limits

abbrev pub opening_at : ServerValue → Opening
opening_at value = opening_of (commits_of value).opening

-- A server over a sound store that arose from a new one by frames that fit its limits and weren't
-- refused, by resending and by commits that reached the disk: whatever the protocol says of such
-- servers holds of it.
pub record IsServer (value : ServerValue) : Type 0 where
  pub opening : StoreFits (limits_at value) (opening_at value)
  pub reached : ReachedBy (limits_at value) on_cycle (opening_at value)
      (InputTaken (limits_at value)) (server_of value)
  pub of : AreOf value.limits value.state

-- A server as it begins over a store: no client is known.
pub record IsNew (bounds : Bounds) (store : StoreState) (value : ServerValue) : Type 0 where
  pub limits : value.limits ≡ bounds
  pub commits : commits_of value ≡ begun store
  pub server : server_of value ≡ new_server bounds.clients bounds.pages
      (opening_store (limits_of bounds) (opening_of store))

-- A server as it begins over a store that a former life of it left: of each client it knows the
-- floor, as its current incarnation, and nothing else.
pub record IsResumed (bounds : Bounds) (store : StoreState) (floor : ℕ) (value : ServerValue)
    : Type 0 where
  pub limits : value.limits ≡ bounds
  pub opening : (commits_of value).opening ≡ store
  pub forgotten : (commits_of value).forgotten ≡ 0
  pub server : server_of value ≡ server_of_life (limits_of bounds) (opening_of store) floor

-- Nothing changes but room.
pub record IsUnchanged (old new : ServerValue) : Type 0 where
  pub limits : new.limits ≡ old.limits
  pub server : server_of new ≡ server_of old
  pub rest : new.state ≡ record old.state { asks = new.state.asks }

-- For how many frames a call asks for room at most: what settling may send for the asks that wait,
-- and 33 more, as an ask to write sends one to each of 32 clients and one to its own.
abbrev pub most_frames : Server → ℕ
most_frames server = messages_for_pages server server.pages + 33

-- Between two calls nothing is to be sent, and there is no more room for frames than one message
-- can need, and no more spare pages: at most 32 asks to read wait, and its own comes.
pub record IsAtRest (value : ServerValue) (outbox : OutboxState) : Type 0 where
  pub is : IsServer value
  pub sent : outbox.sent ≡ []
  pub page_size : outbox.page_size ≡ value.limits.page_size
  pub room : outbox.room ≤ most_frames (server_of value)
  pub spare : outbox.spare ≤ 33
