-- Goals of `Station::join`.
use Rattle.std.proofs.Common.{rules, ◌≡◌, ◌<◌, ◌+◌, ℕ, None, true, false, is_err, length, refl, sym, ap, ◌∙◌, subst, arith}
use Rattle.cb_station.proofs.Calls.{enters_station, err_fact, ok_fact}
use Rattle.cb_station.proofs.Stations.{unchanged_station}
use Rattle.cb_station.proofs.Following.{joined_held, left_again}
use Rattle.cb_station.specs.Stations.{IsUnchanged, StationState, mailbox_of, server_of}
use Rattle.cb_mailboxes.specs.Dispatching.{Everybody, Posts, emptied}
use Rattle.cb_hands.specs.Hands.{HandState, empty_hand}
use Rattle.cb_hands.specs.Joined.{stored_at}
use Rattle.cb_outbox.specs.Messages.{messages_of}
use Rattle.cb_protocol.specs.AnyMessages.{MessageComes}
use Rattle.cb_protocol.specs.Messages.{Hello}
use Rattle.cb_station.proofs.Remembering.{still_forgotten}
use Rattle.cb_station.proofs.Holding.{holds_entered, holds_unchanged}
use Rattle.cb_station.proofs.station.Station.join.Goals as goal

pub invariant_of-self : goal.invariant_of-self
invariant_of-self c = rw c.in_err-hand.ensures.err c.self.invariant

pub invariant_of-self-then-is_err : goal.invariant_of-self-then-is_err
invariant_of-self-then-is_err c =
    let failed : is_err c.greet.result ≡ true = sym c.is_err.ensures.value ∙ c.if-is_err.true in
    let none : stored_at c.self.inside.hands c.args.client ≡ None = search rules in
    let name : c.in_ok-hand.hand.client ≡ c.args.client = ap (λ (h : HandState). h.client) c.in_ok-hand.ensures.hand in (
      unchanged_station (record { dispatcher = c.self.inside.dispatcher; hands = c.self.inside.hands; history = c.self.inside.history.items; flags = c.self.inside.flags }) (record { dispatcher = c.greet.new.self; hands = c.leave.new.self; history = c.self.inside.history.items; flags = c.self.inside.flags }) c.self.invariant.0
          (record { dispatcher = err_fact c.greet.result _ failed c.greet.ensures.unchanged; hands = left_again c.self.inside.hands c.join.new.self c.leave.new.self c.args.client c.in_ok-hand.hand name none c.in_ok-hand.ensures.stored c.leave.ensures; history = refl; flags = refl }),
      still_forgotten _ _ _ c.self.invariant.1 (err_fact c.greet.result _ failed c.greet.ensures.unchanged),
      holds_unchanged c.self.inside.dispatcher c.greet.new.self c.self.inside.hands c.leave.new.self (err_fact c.greet.result _ failed c.greet.ensures.unchanged)
          (left_again c.self.inside.hands c.join.new.self c.leave.new.self c.args.client c.in_ok-hand.hand name none c.in_ok-hand.ensures.stored c.leave.ensures) c.self.invariant.2,
    )

pub returns-then-is_err : goal.returns-then-is_err
returns-then-is_err c =
    let failed : is_err c.greet.result ≡ true = sym c.is_err.ensures.value ∙ c.if-is_err.true in
    let none : stored_at c.self.inside.hands c.args.client ≡ None = search rules in
    let name : c.in_ok-hand.hand.client ≡ c.args.client = ap (λ (h : HandState). h.client) c.in_ok-hand.ensures.hand in
    record {
      foreign = search rules;
      joined = search rules;
      exhausted = search rules;
      others = search rules;
      err = subst (λ (v : StationState). IsUnchanged v (record { dispatcher = c.greet.new.self; hands = c.leave.new.self; history = c.self.inside.history.items; flags = c.self.inside.flags })) c.self.view_is
          (record { dispatcher = err_fact c.greet.result _ failed c.greet.ensures.unchanged; hands = left_again c.self.inside.hands c.join.new.self c.leave.new.self c.args.client c.in_ok-hand.hand name none c.in_ok-hand.ensures.stored c.leave.ensures; history = refl; flags = refl });
      hand = tt;
      posts = tt;
      hands = tt;
      history = search rules;
      flags = search rules;
    }

pub leave-requires : goal.leave-requires
leave-requires c =
    let name : c.in_ok-hand.hand.client ≡ c.args.client = ap (λ (h : HandState). h.client) c.in_ok-hand.ensures.hand in
    let lt : c.args.client < length c.self.inside.hands = search rules in
    joined_held c.self.inside.hands c.join.new.self c.args.client c.in_ok-hand.hand name lt c.in_ok-hand.ensures.stored

pub invariant_of-self-else-is_err : goal.invariant_of-self-else-is_err
invariant_of-self-else-is_err c =
    let done : is_err c.greet.result ≡ false = sym c.is_err.ensures.value ∙ c.if-is_err.false in
    let posts = ok_fact c.greet.result _ done c.greet.ensures.ok in
    let next : c.in_ok-incarnation.incarnation ≡ ((server_of (record { dispatcher = c.self.inside.dispatcher; hands = c.self.inside.hands; history = c.self.inside.history.items; flags = c.self.inside.flags })).session c.args.client).current + 1 =
    c.in_ok-incarnation.ensures.ok ∙ ap (λ (v : StationState). ((server_of v).session c.args.client).current + 1) (sym c.self.view_is) in
    let lt : c.args.client < length c.self.inside.hands = search rules in
    let pages : c.pages-pages.result ≡ c.self.inside.dispatcher.server.limits.pages = search rules in (
      enters_station (record { dispatcher = c.self.inside.dispatcher; hands = c.self.inside.hands; history = c.self.inside.history.items; flags = c.self.inside.flags }) (record { dispatcher = c.greet.new.self; hands = c.join.new.self; history = c.self.inside.history.items; flags = c.self.inside.flags }) c.self.invariant.0 (ok_fact c.greet.result _ done c.greet.ensures.arose) c.args.client c.in_ok-incarnation.incarnation (messages_of posts.said) c.in_ok-hand.hand
          posts.does (omega (arith, next)) (c.in_ok-hand.ensures.hand ∙ ap (λ (n : ℕ). empty_hand c.args.client c.in_ok-incarnation.incarnation n) pages)
          c.in_ok-hand.ensures.stored lt refl refl,
      c.self.invariant.1 ∙ sym posts.does.forgotten,
      holds_entered c.self.inside.dispatcher.server c.greet.new.self.server c.self.invariant.0.arisen c.args.client c.in_ok-incarnation.incarnation (messages_of posts.said) posts.does c.self.inside.hands c.join.new.self c.self.invariant.0.clients lt c.self.invariant.2 c.in_ok-hand.hand
          (omega (arith, next)) (c.in_ok-hand.ensures.hand ∙ ap (λ (n : ℕ). empty_hand c.args.client c.in_ok-incarnation.incarnation n) pages) c.in_ok-hand.ensures.stored,
    )

pub returns : goal.returns
returns c =
    let done : is_err c.greet.result ≡ false = sym c.is_err.ensures.value ∙ c.if-is_err.false in
    let posts = ok_fact c.greet.result _ done c.greet.ensures.ok in
    record {
      foreign = search rules;
      joined = search rules;
      exhausted = search rules;
      others = search rules;
      err = tt;
      hand = search rules;
      posts = subst (λ (n : ℕ). Posts c.args.self.now.dispatcher (MessageComes c.args.client n Hello) (emptied (mailbox_of c.args.self.now) c.args.client) Everybody c.greet.new.self) c.in_ok-incarnation.ensures.ok
          (subst (λ (v : StationState). Posts v.dispatcher (MessageComes c.args.client c.in_ok-incarnation.incarnation Hello) (emptied (mailbox_of v) c.args.client) Everybody c.greet.new.self) c.self.view_is posts);
      hands = search rules;
      history = search rules;
      flags = search rules;
    }
