-- Goals of `Station::leave`.
use Rattle.std.proofs.Common.{rules, ◌≡◌, ◌<◌, ◌+◌, ℕ, Option, None, true, false, is_err, length, refl, sym, ap, ◌∙◌, subst, slice_set}
use Rattle.cb_station.proofs.Calls.{err_fact, leaves_station, ok_fact}
use Rattle.cb_station.proofs.Stations.{unchanged_station}
use Rattle.cb_station.proofs.Following.{has_place}
use Rattle.cb_station.specs.Stations.{StationState, mailbox_of}
use Rattle.cb_mailboxes.specs.Dispatching as dispatching
use Rattle.cb_mailboxes.specs.Dispatching.{Everybody, Others, Posts, emptied, without_oldest}
use Rattle.cb_hands.specs.Hands.{HandState}
use Rattle.cb_hands.specs.Joined.{IsHeld}
use Rattle.cb_outbox.specs.Messages.{messages_of}
use Rattle.cb_protocol.specs.AnyMessages.{MessageComes}
use Rattle.cb_protocol.specs.Messages.{Hello}
use Rattle.cb_station.proofs.Remembering.{still_forgotten}
use Rattle.cb_station.proofs.Holding.{holds_left, holds_unchanged}
use Rattle.cb_station.proofs.station.Station.leave.Goals as goal

pub invariant_of-self : goal.invariant_of-self
invariant_of-self c =
    let failed : is_err c.dismiss.result ≡ true = sym c.is_err.ensures.value ∙ c.if-is_err.true in (
      unchanged_station (record { dispatcher = c.self.inside.dispatcher; hands = c.self.inside.hands; history = c.self.inside.history.items; flags = c.self.inside.flags }) (record { dispatcher = c.dismiss.new.self; hands = c.self.inside.hands; history = c.self.inside.history.items; flags = c.self.inside.flags }) c.self.invariant.0
          (record { dispatcher = err_fact c.dismiss.result _ failed c.dismiss.ensures.unchanged; hands = refl; history = refl; flags = refl }),
      still_forgotten _ _ _ c.self.invariant.1 (err_fact c.dismiss.result _ failed c.dismiss.ensures.unchanged),
      holds_unchanged c.self.inside.dispatcher c.dismiss.new.self c.self.inside.hands c.self.inside.hands (err_fact c.dismiss.result _ failed c.dismiss.ensures.unchanged) refl c.self.invariant.2,
    )

pub invariant_of-self-2 : goal.invariant_of-self-2
invariant_of-self-2 c =
    let done : is_err c.dismiss.result ≡ false = sym c.is_err.ensures.value ∙ c.if-is_err.false in
    let posts = ok_fact c.dismiss.result _ done c.dismiss.ensures.ok in
    let none : Option HandState = None in
    let held : IsHeld c.self.inside.hands c.args.hand = search rules in
    let lt : c.client-client.result < length c.self.inside.hands = subst (λ (k : ℕ). k < length c.self.inside.hands) (sym c.client-client.ensures) (has_place c.self.inside.hands c.args.hand.client c.args.hand held) in (
      leaves_station (record { dispatcher = c.self.inside.dispatcher; hands = c.self.inside.hands; history = c.self.inside.history.items; flags = c.self.inside.flags }) (record { dispatcher = c.dismiss.new.self; hands = c.leave.new.self; history = c.self.inside.history.items; flags = c.self.inside.flags }) c.self.invariant.0 (ok_fact c.dismiss.result _ done c.dismiss.ensures.arose) c.client-client.result c.in-Some.incarnation (messages_of posts.said) posts.does (c.leave.ensures ∙ ap (λ (k : ℕ). slice_set c.self.inside.hands k none) (sym c.client-client.ensures)) lt refl refl,
      c.self.invariant.1 ∙ sym posts.does.forgotten,
      holds_left c.self.inside.dispatcher.server c.dismiss.new.self.server c.self.invariant.0.arisen c.client-client.result c.in-Some.incarnation (messages_of posts.said) posts.does c.self.inside.hands c.leave.new.self c.self.invariant.0.clients lt c.self.invariant.2 (c.leave.ensures ∙ ap (λ (k : ℕ). slice_set c.self.inside.hands k none) (sym c.client-client.ensures)),
    )

pub returns : goal.returns
returns c =
    let done : is_err c.dismiss.result ≡ false = sym c.is_err.ensures.value ∙ c.if-is_err.false in
    let posts = ok_fact c.dismiss.result _ done c.dismiss.ensures.ok in
    let number : c.in-Some.incarnation ≡ c.args.hand.incarnation + 1 = c.in-Some.ensures.value ∙ ap (λ (n : ℕ). n + 1) c.incarnation.ensures in
    let none : Option HandState = None in
    record {
      refused = tt;
      foreign = tt;
      exhausted = tt;
      faults = tt;
      ok = search rules;
      posts = subst (λ (v : StationState). Posts v.dispatcher (MessageComes c.args.hand.client (c.args.hand.incarnation + 1) Hello) (mailbox_of v) (Others c.args.hand.client) c.dismiss.new.self) c.self.view_is
          (subst (λ (n : ℕ). Posts c.self.inside.dispatcher (MessageComes c.args.hand.client n Hello) (dispatching.mailbox_of c.self.inside.dispatcher) (Others c.args.hand.client) c.dismiss.new.self) number
          (subst (λ (k : ℕ). Posts c.self.inside.dispatcher (MessageComes k c.in-Some.incarnation Hello) (dispatching.mailbox_of c.self.inside.dispatcher) (Others k) c.dismiss.new.self) c.client-client.ensures posts));
      silent = search rules;
      hands = c.leave.ensures ∙ ap (λ (v : StationState). slice_set v.hands c.args.hand.client none) c.self.view_is;
      history = search rules;
      flags = search rules;
    }
