-- Goals of `Station::collect_if_known`.
use Rattle.std.proofs.Common.{rules, ◌≡◌, ℕ, Option, Some, None, refl, sym, ap, ◌∙◌, subst}
use Rattle.cb_station.proofs.Calls.{collected_stored, hand_station, received_by, store_pages}
use Rattle.cb_station.proofs.Stations.{unchanged_station}
use Rattle.cb_station.proofs.Following.{follow_same}
use Rattle.cb_station.specs.Stations.{IsStored, StationState, mailbox_of, server_of}
use Rattle.cb_mailboxes.specs.Dispatching as dispatching
use Rattle.cb_mailboxes.specs.Dispatching.{without_oldest}
use Rattle.cb_hands.specs.Hands.{HandState}
use Rattle.cb_hands.specs.Joined.{Follow, IsHeld}
use Rattle.cb_server.specs.ServerValue.{ServerValue, commits_of}
use Rattle.cb_station.specs.Moves.{collected}
use Rattle.cb_station.proofs.Remembering.{still_forgotten}
use Rattle.std.specs.Prelude.{IfSome}
use Rattle.cb_frame.specs.declared.frame.Frame.{Frame}
use Rattle.cb_mailboxes.specs.Mail.{IsMailFor}
use Rattle.cb_station.proofs.Bringing.{brings}
use Rattle.cb_station.specs.Copies.{BringsCopy}
use Rattle.cb_station.proofs.Holding.{holds_collected, holds_unchanged}
use Rattle.cb_station.proofs.station.Station.collect_if_known.Goals as goal

pub invariant_of-self : goal.invariant_of-self
invariant_of-self c = (
  unchanged_station (record { dispatcher = c.self.inside.dispatcher; hands = c.self.inside.hands; history = c.self.inside.history.items; flags = c.self.inside.flags }) (record { dispatcher = c.collect.new.self; hands = c.self.inside.hands; history = c.self.inside.history.items; flags = c.self.inside.flags }) c.self.invariant.0 (record { dispatcher = c.in_err-frame.ensures.unchanged; hands = refl; history = refl; flags = refl }),
  still_forgotten _ _ _ c.self.invariant.1 (c.in_err-frame.ensures.unchanged),
  holds_unchanged c.self.inside.dispatcher c.collect.new.self c.self.inside.hands c.self.inside.hands (c.in_err-frame.ensures.unchanged) refl c.self.invariant.2,
)

pub invariant_of-self-in_default : goal.invariant_of-self-in_default
invariant_of-self-in_default c =
    let held : IsHeld c.self.inside.hands c.args.hand.now = subst (λ (v : StationState). IsHeld v.hands c.args.hand.now) (sym c.self.view_is) (c.requires.known.0 (search rules)) in
    let stored = c.self.invariant.0.hand c.args.hand.now.client c.args.hand.now held in (
      hand_station (record { dispatcher = c.self.inside.dispatcher; hands = c.self.inside.hands; history = c.self.inside.history.items; flags = c.self.inside.flags }) (record { dispatcher = c.collect.new.self; hands = c.self.inside.hands; history = c.self.inside.history.items; flags = c.self.inside.flags }) c.args.hand.now c.args.hand.now c.self.invariant.0 c.collect.ensures.server refl refl held (follow_same c.self.inside.hands c.args.hand.now held) stored,
      c.self.invariant.1 ∙ sym (ap (λ (x : ServerValue). (commits_of x).forgotten) c.collect.ensures.server),
      holds_collected c.self.inside.dispatcher.server c.collect.new.self.server c.self.inside.dispatcher.server.limits.pages None c.args.hand.now c.args.hand.now c.self.inside.hands c.self.inside.hands c.collect.ensures.server held stored refl (follow_same c.self.inside.hands c.args.hand.now held) c.self.invariant.2,
    )

pub take_in-requires-clause-pages : goal.take_in-requires-clause-pages
take_in-requires-clause-pages c =
    let held : IsHeld c.self.inside.hands c.args.hand.now = subst (λ (v : StationState). IsHeld v.hands c.args.hand.now) (sym c.self.view_is) (c.requires.known.0 (search rules)) in
    let state : c.state-state.result.now ≡ c.self.inside.dispatcher.server.state = c.state-state.ensures.value ∙ ap (λ (x : ServerValue). x.state) (c.server.ensures.value ∙ c.collect.ensures.server) in
    store_pages (record { dispatcher = c.self.inside.dispatcher; hands = c.self.inside.hands; history = c.self.inside.history.items; flags = c.self.inside.flags }) c.args.hand.now c.state-state.result.now c.self.invariant.0 held state

pub invariant_of-self-2 : goal.invariant_of-self-2
invariant_of-self-2 c =
    let held : IsHeld c.self.inside.hands c.args.hand.now = subst (λ (v : StationState). IsHeld v.hands c.args.hand.now) (sym c.self.view_is) (c.requires.known.0 (search rules)) in
    let stored = c.self.invariant.0.hand c.args.hand.now.client c.args.hand.now held in
    let state : c.state-state.result.now ≡ c.self.inside.dispatcher.server.state = c.state-state.ensures.value ∙ ap (λ (x : ServerValue). x.state) (c.server.ensures.value ∙ c.collect.ensures.server) in
    let other : c.take_in.new.hand ≡ collected (server_of (record { dispatcher = c.self.inside.dispatcher; hands = c.self.inside.hands; history = c.self.inside.history.items; flags = c.self.inside.flags })) c.args.hand.now (Some c.in-Some.frame) =
    c.take_in.ensures.hand ∙ received_by c.self.inside.dispatcher.server c.state-state.result.now c.args.hand.now c.in-Some.frame.body state in (
      hand_station (record { dispatcher = c.self.inside.dispatcher; hands = c.self.inside.hands; history = c.self.inside.history.items; flags = c.self.inside.flags }) (record { dispatcher = c.collect.new.self; hands = c.take_in.new.hands; history = c.self.inside.history.items; flags = c.self.inside.flags }) c.args.hand.now c.take_in.new.hand c.self.invariant.0 c.collect.ensures.server refl refl held c.take_in.ensures.stored
          (subst (λ (h : HandState). IsStored (server_of (record { dispatcher = c.self.inside.dispatcher; hands = c.self.inside.hands; history = c.self.inside.history.items; flags = c.self.inside.flags })) c.self.inside.dispatcher.server.limits.pages c.args.hand.now.client h) (sym other)
          (collected_stored (server_of (record { dispatcher = c.self.inside.dispatcher; hands = c.self.inside.hands; history = c.self.inside.history.items; flags = c.self.inside.flags })) c.self.inside.dispatcher.server.limits.pages c.args.hand.now.client c.args.hand.now (Some c.in-Some.frame) stored)),
      c.self.invariant.1 ∙ sym (ap (λ (x : ServerValue). (commits_of x).forgotten) c.collect.ensures.server),
      holds_collected c.self.inside.dispatcher.server c.collect.new.self.server c.self.inside.dispatcher.server.limits.pages (Some c.in-Some.frame) c.args.hand.now c.take_in.new.hand c.self.inside.hands c.take_in.new.hands c.collect.ensures.server held stored other c.take_in.ensures.stored c.self.invariant.2,
    )

pub returns : goal.returns
returns c =
    let held : IsHeld c.self.inside.hands c.args.hand.now = subst (λ (v : StationState). IsHeld v.hands c.args.hand.now) (sym c.self.view_is) (c.requires.known.0 (search rules)) in
    let rest : (client : ℕ) → dispatching.mailbox_of c.collect.new.self client ≡ without_oldest (dispatching.mailbox_of c.self.inside.dispatcher) c.args.hand.now.client client =
    subst (λ (k : ℕ). (client : ℕ) → dispatching.mailbox_of c.collect.new.self client ≡ without_oldest (dispatching.mailbox_of c.self.inside.dispatcher) k client) c.client.ensures c.in_ok-frame.ensures.rest in
    let sent : IsMailFor (dispatching.server_of c.self.inside.dispatcher) c.args.hand.now.client c.in-Some.frame = subst (λ (k : ℕ). IsMailFor (dispatching.server_of c.self.inside.dispatcher) k c.in-Some.frame) c.client.ensures
    (subst (λ (o : Option Frame). IfSome o (IsMailFor (dispatching.server_of c.self.inside.dispatcher) c.client.result)) c.in-Some.is c.in_ok-frame.ensures.sent) in
    let state : c.state-state.result.now ≡ c.self.inside.dispatcher.server.state = c.state-state.ensures.value ∙ ap (λ (x : ServerValue). x.state) (c.server.ensures.value ∙ c.collect.ensures.server) in
    let moved : c.take_in.new.hand ≡ collected (dispatching.server_of c.self.inside.dispatcher) c.args.hand.now (Some c.in-Some.frame) =
    c.take_in.ensures.hand ∙ received_by c.self.inside.dispatcher.server c.state-state.result.now c.args.hand.now c.in-Some.frame.body state in
    record {
      foreign = search rules;
      faults = tt;
      err = tt;
      oldest = search rules;
      sent = subst (λ (v : StationState). IsMailFor (server_of v) c.args.hand.now.client c.in-Some.frame) c.self.view_is sent;
      brings = subst (λ (v : StationState). BringsCopy (server_of v) c.args.hand.now c.take_in.new.hand c.in-Some.frame) c.self.view_is
          (brings (dispatching.server_of c.self.inside.dispatcher) c.self.inside.hands c.args.hand.now c.take_in.new.hand c.in-Some.frame c.self.invariant.2 held (c.self.invariant.0.hand c.args.hand.now.client c.args.hand.now held).current sent moved);
      rest = subst (λ (v : StationState). (client : ℕ) → dispatching.mailbox_of c.collect.new.self client ≡ without_oldest (mailbox_of v) c.args.hand.now.client client) c.self.view_is rest;
      server = search rules;
      untold = search rules;
      moved = subst (λ (v : StationState). c.take_in.new.hand ≡ collected (server_of v) c.args.hand.now (Some c.in-Some.frame)) c.self.view_is moved;
      stored = subst (λ (v : StationState). Follow v.hands c.take_in.new.hands c.args.hand.now c.take_in.new.hand) c.self.view_is c.take_in.ensures.stored;
      history = search rules;
      flags = search rules;
    }
