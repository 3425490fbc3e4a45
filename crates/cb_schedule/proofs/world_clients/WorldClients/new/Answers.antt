-- Goals of `WorldClients::new`.
use Rattle.std.proofs.Common.{List, subst, sym}
use Rattle.cb_client.specs.ClientState.{ClientState}
use Rattle.cb_cache.specs.CacheState.{limits_of}
use Rattle.cb_protocol.specs.World.{new_world}
use Rattle.cb_schedule.specs.WorldClientsState.{AreWorldClients, Represents}
use Rattle.cb_schedule.proofs.ClientWorlds.{first_world_clients, first_world}
use Rattle.cb_schedule.proofs.world_clients.WorldClients.new.Goals as goal

pub invariant_of-result : goal.invariant_of-result
invariant_of-result g c =
    subst (λ (x : List ClientState). AreWorldClients (record { limits = c.args.limits.now; clients = x })) (sym c.in_ok-clients.ensures) (first_world_clients c.args.limits.now c.clients-known.ensures.in_range)

pub returns-clause-opening : goal.returns-clause-opening
returns-clause-opening g c opening =
    subst (λ (x : List ClientState). Represents (record { limits = c.args.limits.now; clients = x }) (new_world (limits_of c.args.limits.now) opening)) (sym c.in_ok-clients.ensures)
    (first_world c.args.limits.now opening)
