-- The clients of a world as their callers see them, and the part of the protocol's world that they
-- are.
use Rattle.std.specs.Prelude.{◌≡◌, ◌<◌, ℕ, List, length, map, slice_index_or, slice_set}
use Rattle.std.specs.List.{range_with_len}
use Rattle.cb_client.specs.ClientState.{ClientState, client_of, new_state}
use Rattle.cb_page.specs.Bounds.{AreInRange, Bounds}
use Rattle.cb_protocol.specs.World as protocol

-- the limits of the world, and the present incarnation of each client, by its number
pub record WorldClientsState : Type 0 where
  pub limits : Bounds
  pub clients : List ClientState

-- the client of this number
abbrev pub client_at : WorldClientsState → (client : ℕ) → ClientState
client_at world_clients client =
    slice_index_or world_clients.clients client (new_state client 1 world_clients.limits)

-- the clients with another state of one
abbrev pub with_client : WorldClientsState → (client : ℕ) → ClientState → WorldClientsState
with_client world_clients client state = record {
  limits = world_clients.limits;
  clients = slice_set world_clients.clients client state;
}

-- the first of the clients at the start of a world, by rising number
abbrev pub first_clients : Bounds → (count : ℕ) → List ClientState
first_clients limits count = map (λ number. new_state number 1 limits) (range_with_len 0 count)

-- it has this number, and the limits of the world
pub record IsWorldClient (bounds : Bounds) (number : ℕ) (client : ClientState) : Type 0 where
  pub no : client.no ≡ number
  pub limits : client.copies.limits ≡ bounds

-- What holds of all clients: there are as many as the limits say, each in its place.
pub record AreWorldClients (world_clients : WorldClientsState) : Type 0 where
  pub limits : AreInRange world_clients.limits
  pub count : length world_clients.clients ≡ world_clients.limits.clients
  pub each : (client : ℕ) → client < world_clients.limits.clients
      → IsWorldClient world_clients.limits client (client_at world_clients client)

-- The protocol's world has these clients, at these incarnations. What their transactions have done
-- so far, their operations, no code keeps.
pub record Represents (world_clients : WorldClientsState) (world : protocol.World) : Type 0 where
  pub clients : (client : ℕ) → client < world_clients.limits.clients
      → world.client client
      ≡ client_of (client_at world_clients client) (world.client client).cache.operations
  pub incarnations : (client : ℕ) → client < world_clients.limits.clients
      → world.incarnation client ≡ (client_at world_clients client).incarnation
