-- Goals of `WorldClients::restart`.
use Rattle.std.proofs.Common.{◌≡◌, ◌≤◌, ◌∙◌, ap, refl, sym}
use Rattle.cb_page.specs.Bounds.{Bounds}
use Rattle.cb_client.specs.ClientState.{new_state}
use Rattle.cb_schedule.specs.WorldClientsState.{WorldClientsState}
use Rattle.cb_schedule.proofs.Replying.{on_any_err}
use Rattle.cb_schedule.proofs.ClientWorlds.{IsLent, has_it, lacks_it, lent_limits, restarted_is}
use Rattle.cb_schedule.proofs.ClientWorlds.{restart_becomes, restart_fails, restart_full}
use Rattle.cb_schedule.proofs.ClientWorlds.{restart_nobody, restart_world_clients}
use Rattle.cb_schedule.proofs.world_clients.WorldClients.restart.Goals as goal

pub returns-then-not-has_client-clause-ok : goal.returns-then-not-has_client-clause-ok
returns-then-not-has_client-clause-ok g c =
    let world_clients : WorldClientsState = record { limits = c.self.inside.limits; clients = c.self.inside.clients.items } in
    let lacks : c.args.self.now.limits.clients ≤ c.args.client
    = lacks_it world_clients c.args.self.now c.args.client c.get.result c.self.view_is c.get.ensures.value c.if-not-has_client.ensures.value.1 in
    restart_nobody c.args.self.now c.args.client lacks

pub returns-in_default-clause-ok : goal.returns-in_default-clause-ok
returns-in_default-clause-ok g c =
    let world_clients : WorldClientsState = record { limits = c.self.inside.limits; clients = c.self.inside.clients.items } in
    let lent : IsLent world_clients c.args.self.now c.index.result c.args.client c.index-2.result.now = record {
      world_clients = c.self.invariant;
      same = c.self.view_is;
      has = has_it world_clients c.args.self.now c.args.client c.get.result c.self.view_is c.get.ensures.value (c.if-not-has_client.ensures.value.0 refl);
      place = c.index.ensures.value;
      read = c.index-2.ensures;
    } in
    restart_full world_clients c.args.self.now c.index.result c.args.client c.incarnation.result c.index-2.result.now lent c.incarnation.ensures c.in_default.ensures.succeeds.1

pub restart-requires-clause-slots : goal.restart-requires-clause-slots
restart-requires-clause-slots g c =
    let world_clients : WorldClientsState = record { limits = c.self.inside.limits; clients = c.self.inside.clients.items } in
    let restarted : IsLent world_clients c.args.self.now c.index-3.result c.args.client c.index_mut-restarted.result.now = record {
      world_clients = c.self.invariant;
      same = c.self.view_is;
      has = has_it world_clients c.args.self.now c.args.client c.get.result c.self.view_is c.get.ensures.value (c.if-not-has_client.ensures.value.0 refl);
      place = c.index-3.ensures.value;
      read = c.index_mut-restarted.ensures.value;
    } in
    c.in_ok-chooser.ensures.slots ∙ ap (λ (x : WorldClientsState). x.limits.slots) c.self.view_is
    ∙ ap (λ (x : Bounds). x.slots) (sym (lent_limits world_clients c.args.self.now c.index-3.result c.args.client c.index_mut-restarted.result.now restarted))

pub invariant_of-self : goal.invariant_of-self
invariant_of-self g c =
    let world_clients : WorldClientsState = record { limits = c.self.inside.limits; clients = c.self.inside.clients.items } in
    let restarted : IsLent world_clients c.args.self.now c.index-3.result c.args.client c.index_mut-restarted.result.now = record {
      world_clients = c.self.invariant;
      same = c.self.view_is;
      has = has_it world_clients c.args.self.now c.args.client c.get.result c.self.view_is c.get.ensures.value (c.if-not-has_client.ensures.value.0 refl);
      place = c.index-3.ensures.value;
      read = c.index_mut-restarted.ensures.value;
    } in
    let made : c.restart.new.self ≡ new_state c.args.client c.in-Some.next world_clients.limits
    = restarted_is world_clients c.args.self.now c.index-3.result c.args.client c.in-Some.next c.index_mut-restarted.result.now c.restart.new.self restarted c.restart.ensures.state in
    restart_world_clients world_clients c.args.self.now c.index-3.result c.args.client c.in-Some.next c.index_mut-restarted.result.now c.restart.new.self restarted made

pub returns-clause-ok : goal.returns-clause-ok
returns-clause-ok g c =
    let world_clients : WorldClientsState = record { limits = c.self.inside.limits; clients = c.self.inside.clients.items } in
    let lent : IsLent world_clients c.args.self.now c.index.result c.args.client c.index-2.result.now = record {
      world_clients = c.self.invariant;
      same = c.self.view_is;
      has = has_it world_clients c.args.self.now c.args.client c.get.result c.self.view_is c.get.ensures.value (c.if-not-has_client.ensures.value.0 refl);
      place = c.index.ensures.value;
      read = c.index-2.ensures;
    } in
    let restarted : IsLent world_clients c.args.self.now c.index-3.result c.args.client c.index_mut-restarted.result.now = record {
      world_clients = c.self.invariant;
      same = c.self.view_is;
      has = has_it world_clients c.args.self.now c.args.client c.get.result c.self.view_is c.get.ensures.value (c.if-not-has_client.ensures.value.0 refl);
      place = c.index-3.ensures.value;
      read = c.index_mut-restarted.ensures.value;
    } in
    let made : c.restart.new.self ≡ new_state c.args.client c.in-Some.next world_clients.limits
    = restarted_is world_clients c.args.self.now c.index-3.result c.args.client c.in-Some.next c.index_mut-restarted.result.now c.restart.new.self restarted c.restart.ensures.state in
    restart_becomes world_clients c.args.self.now c.index.result c.index-3.result c.args.client c.incarnation.result c.in-Some.next c.index-2.result.now c.restart.new.self lent
    c.incarnation.ensures c.in-Some.ensures.value (c.in-Some.ensures.succeeds.0 refl) c.index-3.ensures.value made

pub returns-in_err-chooser-clause-fails : goal.returns-in_err-chooser-clause-fails
returns-in_err-chooser-clause-fails g c =
    let world_clients : WorldClientsState = record { limits = c.self.inside.limits; clients = c.self.inside.clients.items } in
    let lent : IsLent world_clients c.args.self.now c.index.result c.args.client c.index-2.result.now = record {
      world_clients = c.self.invariant;
      same = c.self.view_is;
      has = has_it world_clients c.args.self.now c.args.client c.get.result c.self.view_is c.get.ensures.value (c.if-not-has_client.ensures.value.0 refl);
      place = c.index.ensures.value;
      read = c.index-2.ensures;
    } in
    on_any_err c.from_residual.result
    (restart_fails world_clients c.args.self.now c.index.result c.args.client c.incarnation.result c.index-2.result.now lent c.incarnation.ensures (c.in-Some.ensures.succeeds.0 refl))
