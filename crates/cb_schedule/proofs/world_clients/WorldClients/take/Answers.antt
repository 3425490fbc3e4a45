-- Goals of `WorldClients::take`.
use Rattle.std.proofs.Common.{◌≡◌, Vec, Global, false, subst, sym}
use Rattle.cb_client.specs.ClientState.{ClientState}
use Rattle.cb_client.specs.FramesTaken.{brings_page, room_to_take}
use Rattle.std.proofs.lemmas.Result.{on_err_weaker}
use Rattle.std.specs.List.{AllByRecursion}
use Rattle.std.specs.Prelude.{IfOk}
use Rattle.cb_frame.specs.Grammar.{Fits}
use Rattle.cb_frame.specs.declared.frame.Frame.{Frame}
use Rattle.cb_outbox.specs.Messages.{messages_of}
use Rattle.cb_page.specs.Bounds.{Bounds}
use Rattle.cb_schedule.specs.WorldClientsState.{WorldClientsState}
use Rattle.cb_schedule.proofs.ClientWorlds.{IsLent, called_world_clients, frame_delivers}
use Rattle.cb_schedule.proofs.ClientWorlds.{left_as_before, lent_limits, own_before}
use Rattle.cb_schedule.proofs.world_clients.WorldClients.take.Goals as goal

pub deliver-requires : goal.deliver-requires
deliver-requires g c =
    let world_clients : WorldClientsState = record { limits = c.self.inside.limits; clients = c.self.inside.clients.items } in
    let lent : IsLent world_clients c.args.self.now c.index.result c.args.frame.client c.index_mut-taker.result.now = record {
      world_clients = c.self.invariant;
      same = c.self.view_is;
      has = c.requires.client;
      place = c.index.ensures.value;
      read = c.index_mut-taker.ensures.value;
    } in
    subst (λ (x : Bounds). Fits x c.args.frame) (sym (lent_limits world_clients c.args.self.now c.index.result c.args.frame.client c.index_mut-taker.result.now lent)) c.requires

pub invariant_of-self : goal.invariant_of-self
invariant_of-self g c =
    let world_clients : WorldClientsState = record { limits = c.self.inside.limits; clients = c.self.inside.clients.items } in
    let lent : IsLent world_clients c.args.self.now c.index.result c.args.frame.client c.index_mut-taker.result.now = record {
      world_clients = c.self.invariant;
      same = c.self.view_is;
      has = c.requires.client;
      place = c.index.ensures.value;
      read = c.index_mut-taker.ensures.value;
    } in
    called_world_clients world_clients c.args.self.now c.index.result c.args.frame.client c.index_mut-taker.result.now c.deliver.new.client lent c.deliver.ensures.stays

pub returns-clause-ok : goal.returns-clause-ok
returns-clause-ok g c =
    let world_clients : WorldClientsState = record { limits = c.self.inside.limits; clients = c.self.inside.clients.items } in
    let lent : IsLent world_clients c.args.self.now c.index.result c.args.frame.client c.index_mut-taker.result.now = record {
      world_clients = c.self.invariant;
      same = c.self.view_is;
      has = c.requires.client;
      place = c.index.ensures.value;
      read = c.index_mut-taker.ensures.value;
    } in
    frame_delivers world_clients c.args.self.now c.index.result c.args.frame c.index_mut-taker.result.now c.deliver.new.client (λ (said : Vec Frame Global). messages_of said.items) c.deliver.result lent
    c.deliver.ensures.ok

pub returns-clause-fits : goal.returns-clause-fits
returns-clause-fits g c =
    let world_clients : WorldClientsState = record { limits = c.self.inside.limits; clients = c.self.inside.clients.items } in
    let lent : IsLent world_clients c.args.self.now c.index.result c.args.frame.client c.index_mut-taker.result.now = record {
      world_clients = c.self.invariant;
      same = c.self.view_is;
      has = c.requires.client;
      place = c.index.ensures.value;
      read = c.index_mut-taker.ensures.value;
    } in
    subst (λ (x : Bounds). IfOk c.deliver.result (λ said. AllByRecursion (Fits x) said.items))
    (lent_limits world_clients c.args.self.now c.index.result c.args.frame.client c.index_mut-taker.result.now lent) c.deliver.ensures.fits

pub returns-clause-err : goal.returns-clause-err
returns-clause-err g c =
    let world_clients : WorldClientsState = record { limits = c.self.inside.limits; clients = c.self.inside.clients.items } in
    let lent : IsLent world_clients c.args.self.now c.index.result c.args.frame.client c.index_mut-taker.result.now = record {
      world_clients = c.self.invariant;
      same = c.self.view_is;
      has = c.requires.client;
      place = c.index.ensures.value;
      read = c.index_mut-taker.ensures.value;
    } in
    on_err_weaker c.deliver.result (λ same. left_as_before world_clients c.args.self.now c.index.result c.args.frame.client c.index_mut-taker.result.now c.deliver.new.client lent same) c.deliver.ensures.err

pub returns-clause-none : goal.returns-clause-none
returns-clause-none g c room brings =
    let world_clients : WorldClientsState = record { limits = c.self.inside.limits; clients = c.self.inside.clients.items } in
    let lent : IsLent world_clients c.args.self.now c.index.result c.args.frame.client c.index_mut-taker.result.now = record {
      world_clients = c.self.invariant;
      same = c.self.view_is;
      has = c.requires.client;
      place = c.index.ensures.value;
      read = c.index_mut-taker.ensures.value;
    } in
    let own = sym (own_before world_clients c.args.self.now c.index.result c.args.frame.client c.index_mut-taker.result.now lent) in
    c.deliver.ensures.none (subst (λ (x : ClientState). room_to_take x c.args.frame ≡ 0) own room) (subst (λ (x : ClientState). brings_page x c.args.frame ≡ false) own brings)
