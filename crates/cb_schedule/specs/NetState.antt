-- A net as its callers see it, and the part of the protocol's world that it is.
use Rattle.std.specs.Prelude.{◌≡◌}
use Rattle.cb_schedule.specs.Packets.{PacketsState}
use Rattle.cb_schedule.specs.Wire.{AllSpell}
use Rattle.cb_page.specs.Bounds.{Bounds}
use Rattle.cb_protocol.specs.World as protocol
use Rattle.cb_server.specs.ServerValue.{ServerValue, commits_of, server_of}
use Rattle.cb_schedule.specs.WorldClientsState as world_clients
use Rattle.cb_schedule.specs.WorldClientsState.{WorldClientsState}

-- the server, the clients at their present incarnations, and every packet that was ever sent
pub record NetState : Type 0 where
  pub server : ServerValue
  pub world_clients : WorldClientsState
  pub packets : PacketsState

-- the limits of all of them
abbrev pub limits_in : NetState → Bounds
limits_in net = net.world_clients.limits

-- What holds of every net: its parts are of the same limits, and no commit is forgotten.
pub record IsNet (net : NetState) : Type 0 where
  pub server : net.server.limits ≡ net.world_clients.limits
  pub packets : net.packets.limits ≡ net.world_clients.limits
  pub forgotten : (commits_of net.server).forgotten ≡ 0

-- The protocol's world has this server, these clients and these packets.
pub record RepresentsNet (net : NetState) (world : protocol.World) : Type 0 where
  pub server : world.server ≡ server_of net.server
  pub world_clients : world_clients.Represents net.world_clients world
  pub packets : AllSpell net.world_clients.limits net.packets.sent world.packets
