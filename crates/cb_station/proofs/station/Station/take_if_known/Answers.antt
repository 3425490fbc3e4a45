-- Goals of `Station::take_if_known`.
use Rattle.std.proofs.Common.{rules, ◌≡◌, true, false, refl, sym, ap, ◌∙◌, subst}
use Rattle.cb_station.proofs.Calls.{ended_by, same_client, takes_station}
use Rattle.cb_station.proofs.Stations.{unchanged_station}
use Rattle.cb_station.proofs.Following.{follow_then}
use Rattle.cb_station.specs.Stations.{StationState, server_of}
use Rattle.cb_hands.specs.Hands.{HandState}
use Rattle.cb_hands.specs.Joined.{Follow}
use Rattle.cb_outbox.specs.Messages.{messages_of}
use Rattle.cb_server.specs.ServerValue.{ServerValue}
use Rattle.cb_station.specs.Moves.{IsOwn, ended_if_over, given_back, is_plain, is_stray}
use Rattle.cb_station.proofs.Remembering.{still_forgotten}
use Rattle.cb_station.proofs.Holding.{holds_taken, holds_unchanged}
use Rattle.cb_station.proofs.station.Station.take_if_known.Goals as goal

pub invariant_of-self : goal.invariant_of-self
invariant_of-self c = (
  unchanged_station (record { dispatcher = c.self.inside.dispatcher; hands = c.self.inside.hands; history = c.self.inside.history.items; flags = c.self.inside.flags }) (record { dispatcher = c.take.new.self; hands = c.self.inside.hands; history = c.self.inside.history.items; flags = c.self.inside.flags }) c.self.invariant.0 (record { dispatcher = c.in-Err-Exhausted.ensures.unchanged; hands = refl; history = refl; flags = refl }),
  still_forgotten _ _ _ c.self.invariant.1 (c.in-Err-Exhausted.ensures.unchanged),
  holds_unchanged c.self.inside.dispatcher c.take.new.self c.self.inside.hands c.self.inside.hands (c.in-Err-Exhausted.ensures.unchanged) refl c.self.invariant.2,
)

pub invariant_of-self-in-Err-Memory : goal.invariant_of-self-in-Err-Memory
invariant_of-self-in-Err-Memory c = (
  unchanged_station (record { dispatcher = c.self.inside.dispatcher; hands = c.self.inside.hands; history = c.self.inside.history.items; flags = c.self.inside.flags }) (record { dispatcher = c.take.new.self; hands = c.self.inside.hands; history = c.self.inside.history.items; flags = c.self.inside.flags }) c.self.invariant.0 (record { dispatcher = c.in-Err-Memory.ensures.unchanged; hands = refl; history = refl; flags = refl }),
  still_forgotten _ _ _ c.self.invariant.1 (c.in-Err-Memory.ensures.unchanged),
  holds_unchanged c.self.inside.dispatcher c.take.new.self c.self.inside.hands c.self.inside.hands (c.in-Err-Memory.ensures.unchanged) refl c.self.invariant.2,
)

pub invariant_of-self-2 : goal.invariant_of-self-2
invariant_of-self-2 c =
    let own : IsOwn (record { dispatcher = c.self.inside.dispatcher; hands = c.self.inside.hands; history = c.self.inside.history.items; flags = c.self.inside.flags }) c.args.frame.now c.args.hand.now = subst (λ (v : StationState). IsOwn v c.args.frame.now c.args.hand.now) (sym c.self.view_is) (search rules) in
    let plain : is_plain c.args.frame.now.body ≡ true = search rules in
    let there : is_stray c.args.hand.now c.args.frame.now.body ≡ false = search rules in
    let back : c.give_back.new.hand.client ≡ c.args.hand.now.client = ap (λ (h : HandState). h.client) c.give_back.ensures.hand ∙ same_client c.args.hand.now c.args.frame.now.body in
    let follow = follow_then c.self.inside.hands c.give_back.new.hands c.end_if_over.new.hands c.args.hand.now c.give_back.new.hand c.end_if_over.new.hand c.give_back.ensures.stored c.end_if_over.ensures.stored back in
    let posts = c.in-Ok.ensures.ok in
    let becomes : c.end_if_over.new.hand ≡ ended_if_over (server_of (record { dispatcher = c.take.new.self; hands = c.end_if_over.new.hands; history = c.self.inside.history.items; flags = c.self.inside.flags })) (given_back c.args.hand.now c.args.frame.now.body) =
    c.end_if_over.ensures.hand ∙ ended_by c.take.new.self.server c.state.result.now c.give_back.new.hand (c.state.ensures.value ∙ ap (λ (x : ServerValue). x.state) c.server.ensures.value)
    ∙ ap (λ (h : HandState). ended_if_over (server_of (record { dispatcher = c.take.new.self; hands = c.end_if_over.new.hands; history = c.self.inside.history.items; flags = c.self.inside.flags })) h) c.give_back.ensures.hand in
    let does = posts.does in (
      takes_station (record { dispatcher = c.self.inside.dispatcher; hands = c.self.inside.hands; history = c.self.inside.history.items; flags = c.self.inside.flags }) (record { dispatcher = c.take.new.self; hands = c.end_if_over.new.hands; history = c.self.inside.history.items; flags = c.self.inside.flags }) c.self.invariant.0 c.in-Ok.ensures.arose c.args.frame.now (messages_of posts.said) c.args.hand.now c.end_if_over.new.hand does own.held own.client plain there
          becomes follow refl refl,
      c.self.invariant.1 ∙ sym posts.does.forgotten,
      holds_taken c.self.inside.dispatcher.server c.take.new.self.server c.self.invariant.0.arisen c.self.inside.dispatcher.server.limits.pages c.args.frame.now c.args.hand.now c.end_if_over.new.hand (messages_of posts.said) does c.self.inside.hands c.end_if_over.new.hands c.self.invariant.0.clients own.held
          (c.self.invariant.0.hand c.args.hand.now.client c.args.hand.now own.held) own.client own.incarnation plain there becomes follow c.self.invariant.2,
    )

pub returns : goal.returns
returns c =
    let back : c.give_back.new.hand.client ≡ c.args.hand.now.client = ap (λ (h : HandState). h.client) c.give_back.ensures.hand ∙ same_client c.args.hand.now c.args.frame.now.body in
    let follow = follow_then c.self.inside.hands c.give_back.new.hands c.end_if_over.new.hands c.args.hand.now c.give_back.new.hand c.end_if_over.new.hand c.give_back.ensures.stored c.end_if_over.ensures.stored back in
    record {
      foreign = search rules;
      exhausted = search rules;
      faults = tt;
      err = tt;
      stray = search rules;
      posts = search rules;
      taken = search rules;
      moved = search rules;
      stored = subst (λ (v : StationState). Follow v.hands c.end_if_over.new.hands c.args.hand.now c.end_if_over.new.hand) c.self.view_is follow;
      history = search rules;
      flags = search rules;
    }
