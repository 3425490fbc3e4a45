-- Goals of `Station::restart`.
use Rattle.std.proofs.Common.{rules, ◌≡◌, ◌<◌, ℕ, true, false, is_err, refl, sym, ap, ◌∙◌, subst}
use Rattle.cb_station.proofs.Calls.{enters_station, err_fact, ok_fact}
use Rattle.cb_station.proofs.Stations.{unchanged_station}
use Rattle.cb_station.proofs.Following.{has_place}
use Rattle.cb_station.specs.Stations.{StationState, mailbox_of, server_of}
use Rattle.cb_mailboxes.specs.Dispatching as dispatching
use Rattle.cb_mailboxes.specs.Dispatching.{Everybody, Posts, emptied}
use Rattle.cb_hands.specs.Hands.{empty_hand}
use Rattle.cb_hands.specs.Joined.{IsHeld}
use Rattle.cb_outbox.specs.Messages.{messages_of}
use Rattle.cb_protocol.specs.AnyMessages.{MessageComes}
use Rattle.cb_protocol.specs.Messages.{Hello}
use Rattle.cb_server.specs.Taking.{Does}
use Rattle.cb_station.proofs.Remembering.{still_forgotten}
use Rattle.cb_station.proofs.Holding.{holds_entered, holds_unchanged}
use Rattle.cb_station.proofs.station.Station.restart.Goals as goal

pub invariant_of-self : goal.invariant_of-self
invariant_of-self c =
    let failed : is_err c.greet.result ≡ true = sym c.is_err.ensures.value ∙ c.if-is_err.true in (
      unchanged_station (record { dispatcher = c.self.inside.dispatcher; hands = c.self.inside.hands; history = c.self.inside.history.items; flags = c.self.inside.flags }) (record { dispatcher = c.greet.new.self; hands = c.self.inside.hands; history = c.self.inside.history.items; flags = c.self.inside.flags }) c.self.invariant.0
          (record { dispatcher = err_fact c.greet.result _ failed c.greet.ensures.unchanged; hands = refl; history = refl; flags = refl }),
      still_forgotten _ _ _ c.self.invariant.1 (err_fact c.greet.result _ failed c.greet.ensures.unchanged),
      holds_unchanged c.self.inside.dispatcher c.greet.new.self c.self.inside.hands c.self.inside.hands (err_fact c.greet.result _ failed c.greet.ensures.unchanged) refl c.self.invariant.2,
    )

pub invariant_of-self-2 : goal.invariant_of-self-2
invariant_of-self-2 c =
    let done : is_err c.greet.result ≡ false = sym c.is_err.ensures.value ∙ c.if-is_err.false in
    let posts = ok_fact c.greet.result _ done c.greet.ensures.ok in
    let held : IsHeld c.self.inside.hands c.args.hand = search rules in
    let stored = c.self.invariant.0.hand c.args.hand.client c.args.hand held in
    let greater : c.args.hand.incarnation < c.args.incarnation = search rules in
    let current : ((server_of (record { dispatcher = c.self.inside.dispatcher; hands = c.self.inside.hands; history = c.self.inside.history.items; flags = c.self.inside.flags })).session c.args.hand.client).current ≡ c.args.hand.incarnation = stored.current in (
      enters_station (record { dispatcher = c.self.inside.dispatcher; hands = c.self.inside.hands; history = c.self.inside.history.items; flags = c.self.inside.flags }) (record { dispatcher = c.greet.new.self; hands = c.renew.new.self; history = c.self.inside.history.items; flags = c.self.inside.flags }) c.self.invariant.0 (ok_fact c.greet.result _ done c.greet.ensures.arose) c.args.hand.client c.args.incarnation (messages_of posts.said) c.renew.new.hand
          (subst (λ (k : ℕ). Does c.self.inside.dispatcher.server (MessageComes k c.args.incarnation Hello) (messages_of posts.said) c.greet.new.self.server) c.client.ensures posts.does)
          (subst (λ (n : ℕ). n < c.args.incarnation) (sym current) greater) (c.renew.ensures.hand ∙ ap (λ (n : ℕ). empty_hand c.args.hand.client c.args.incarnation n) stored.size)
          c.renew.ensures.stored.hands (has_place c.self.inside.hands c.args.hand.client c.args.hand held) refl refl,
      c.self.invariant.1 ∙ sym posts.does.forgotten,
      holds_entered c.self.inside.dispatcher.server c.greet.new.self.server c.self.invariant.0.arisen c.args.hand.client c.args.incarnation (messages_of posts.said)
          (subst (λ (k : ℕ). Does c.self.inside.dispatcher.server (MessageComes k c.args.incarnation Hello) (messages_of posts.said) c.greet.new.self.server) c.client.ensures posts.does)
          c.self.inside.hands c.renew.new.self c.self.invariant.0.clients (has_place c.self.inside.hands c.args.hand.client c.args.hand held) c.self.invariant.2 c.renew.new.hand
          (subst (λ (n : ℕ). n < c.args.incarnation) (sym current) greater) (c.renew.ensures.hand ∙ ap (λ (n : ℕ). empty_hand c.args.hand.client c.args.incarnation n) stored.size) c.renew.ensures.stored.hands,
    )

pub returns : goal.returns
returns c =
    let held : IsHeld c.self.inside.hands c.args.hand = search rules in
    let stored = c.self.invariant.0.hand c.args.hand.client c.args.hand held in
    let done : is_err c.greet.result ≡ false = sym c.is_err.ensures.value ∙ c.if-is_err.false in
    let posts = ok_fact c.greet.result _ done c.greet.ensures.ok in
    record {
      refused = tt;
      foreign = tt;
      old = tt;
      faults = tt;
      ok = search rules;
      next = c.renew.ensures.hand ∙ ap (λ (n : ℕ). empty_hand c.args.hand.client c.args.incarnation n) (stored.size ∙ ap (λ (v : StationState). v.dispatcher.server.limits.pages) c.self.view_is);
      posts = subst (λ (v : StationState). Posts v.dispatcher (MessageComes c.args.hand.client c.args.incarnation Hello) (emptied (mailbox_of v) c.args.hand.client) Everybody c.greet.new.self) c.self.view_is
          (subst (λ (k : ℕ). Posts c.self.inside.dispatcher (MessageComes k c.args.incarnation Hello) (emptied (dispatching.mailbox_of c.self.inside.dispatcher) k) Everybody c.greet.new.self) c.client.ensures posts);
      stored = search rules;
      history = search rules;
      flags = search rules;
    }
