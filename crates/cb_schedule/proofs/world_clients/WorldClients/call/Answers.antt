-- Goals of `WorldClients::call`.
use Rattle.std.proofs.Common.{◌<◌, ◌≤◌, refl, subst}
use Rattle.std.proofs.lemmas.Result.{on_err_weaker}
use Rattle.cb_schedule.specs.WorldClientsState.{AreWorldClients, WorldClientsState}
use Rattle.cb_schedule.proofs.ClientWorlds.{called_answers, called_fits, has_it, lacks_it}
use Rattle.cb_schedule.proofs.ClientWorlds.{no_client_answers}
use Rattle.cb_transcript.specs.ProtocolEvents.{call_of}
use Rattle.cb_schedule.proofs.world_clients.WorldClients.call.Goals as goal

pub returns-then-not-has_client-clause-ok : goal.returns-then-not-has_client-clause-ok
returns-then-not-has_client-clause-ok g c =
    let world_clients : WorldClientsState = record { limits = c.self.inside.limits; clients = c.self.inside.clients.items } in
    let lacks : c.args.self.now.limits.clients ≤ c.args.client
    = lacks_it world_clients c.args.self.now c.args.client c.get.result c.self.view_is c.get.ensures.value c.if-not-has_client.ensures.value.1 in
    rw (c.silent.ensures.word, c.silent.ensures.said) (no_client_answers c.args.self.now c.args.client (call_of c.args.call.now) lacks)

pub returns-clause-ok : goal.returns-clause-ok
returns-clause-ok g c =
    let world_clients : WorldClientsState = record { limits = c.self.inside.limits; clients = c.self.inside.clients.items } in
    let has : c.args.client < c.args.self.now.limits.clients
    = has_it world_clients c.args.self.now c.args.client c.get.result c.self.view_is c.get.ensures.value (c.if-not-has_client.ensures.value.0 refl) in
    called_answers c.args.self.now c.call_at.new.self c.args.client (call_of c.args.call.now) c.call_at.result (subst AreWorldClients c.self.view_is c.self.invariant) has
    c.call_at.ensures.rest c.call_at.ensures.called

pub returns-clause-fits : goal.returns-clause-fits
returns-clause-fits g c =
    let world_clients : WorldClientsState = record { limits = c.self.inside.limits; clients = c.self.inside.clients.items } in
    let has : c.args.client < c.args.self.now.limits.clients
    = has_it world_clients c.args.self.now c.args.client c.get.result c.self.view_is c.get.ensures.value (c.if-not-has_client.ensures.value.0 refl) in
    called_fits c.args.self.now c.call_at.new.self c.args.client (call_of c.args.call.now) c.call_at.result (subst AreWorldClients c.self.view_is c.self.invariant) has c.call_at.ensures.called

pub returns-clause-fails : goal.returns-clause-fails
returns-clause-fails g c =
    let world_clients : WorldClientsState = record { limits = c.self.inside.limits; clients = c.self.inside.clients.items } in
    let has : c.args.client < c.args.self.now.limits.clients
    = has_it world_clients c.args.self.now c.args.client c.get.result c.self.view_is c.get.ensures.value (c.if-not-has_client.ensures.value.0 refl) in
    on_err_weaker c.call_at.result (λ accepts. (has, accepts)) c.call_at.ensures.fails
