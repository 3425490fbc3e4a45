-- Goals of `WorldClients::call_at`.
use Rattle.cb_schedule.specs.WorldClientsState.{WorldClientsState}
use Rattle.cb_transcript.specs.ProtocolEvents.{call_of}
use Rattle.cb_schedule.proofs.ClientWorlds.{IsLent, called_fails, called_world_clients, called_stays}
use Rattle.cb_schedule.proofs.world_clients.WorldClients.call_at.Goals as goal

pub invariant_of-self : goal.invariant_of-self
invariant_of-self g c =
    let world_clients : WorldClientsState = record { limits = c.self.inside.limits; clients = c.self.inside.clients.items } in
    let lent : IsLent world_clients c.args.self.now c.index.result c.args.client c.index_mut-caller.result.now = record {
      world_clients = c.self.invariant;
      same = c.self.view_is;
      has = c.requires;
      place = c.index.ensures.value;
      read = c.index_mut-caller.ensures.value;
    } in
    called_world_clients world_clients c.args.self.now c.index.result c.args.client c.index_mut-caller.result.now c.answer.new.client lent c.answer.ensures.stays

pub returns-clause-stays : goal.returns-clause-stays
returns-clause-stays g c =
    let world_clients : WorldClientsState = record { limits = c.self.inside.limits; clients = c.self.inside.clients.items } in
    let lent : IsLent world_clients c.args.self.now c.index.result c.args.client c.index_mut-caller.result.now = record {
      world_clients = c.self.invariant;
      same = c.self.view_is;
      has = c.requires;
      place = c.index.ensures.value;
      read = c.index_mut-caller.ensures.value;
    } in
    called_stays world_clients c.args.self.now c.index.result c.args.client c.index_mut-caller.result.now c.answer.new.client lent c.answer.ensures.stays

pub returns-clause-fails : goal.returns-clause-fails
returns-clause-fails g c =
    let world_clients : WorldClientsState = record { limits = c.self.inside.limits; clients = c.self.inside.clients.items } in
    let lent : IsLent world_clients c.args.self.now c.index.result c.args.client c.index_mut-caller.result.now = record {
      world_clients = c.self.invariant;
      same = c.self.view_is;
      has = c.requires;
      place = c.index.ensures.value;
      read = c.index_mut-caller.ensures.value;
    } in
    called_fails world_clients c.args.self.now c.index.result c.args.client (call_of c.args.call.now) c.index_mut-caller.result.now c.answer.result lent c.answer.ensures.fails
