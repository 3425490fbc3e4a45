-- Goals of `Station::flushed`.
use Rattle.std.proofs.Common.{◌≡◌, ℕ, true, false, true≢false, refl, rules, sym, ap, ◌∙◌, subst}
use Rattle.cb_mailboxes.specs.Dispatching.{Everybody, Posts}
use Rattle.cb_station.proofs.Calls.{flushed_station}
use Rattle.cb_station.proofs.Stations.{unchanged_station}
use Rattle.cb_station.specs.Stations.{StationState, mailbox_of, server_of}
use Rattle.cb_outbox.specs.Messages.{messages_of}
use Rattle.cb_protocol.specs.AnyMessages.{ReachesDisk}
use Rattle.cb_protocol.specs.Flush.{can_flush}
use Rattle.cb_server.specs.ServerValue.{ServerValue, server_of as server_in}
use Rattle.cb_station.proofs.Remembering.{still_forgotten}
use Rattle.cb_station.proofs.Reporting.{greater_flushed, still_flushed}
use Rattle.cb_station.proofs.Holding.{holds_flushed, holds_unchanged}
use Rattle.cb_station.proofs.station.Station.flushed.Goals as goal

pub invariant_of-self : goal.invariant_of-self
invariant_of-self c = (
  unchanged_station (record { dispatcher = c.self.inside.dispatcher; hands = c.self.inside.hands; history = c.self.inside.history.items; flags = c.self.inside.flags }) (record { dispatcher = c.flushed.new.self; hands = c.self.inside.hands; history = c.self.inside.history.items; flags = c.self.inside.flags }) c.self.invariant.0 (record { dispatcher = c.in_err-flushed.ensures.unchanged; hands = refl; history = refl; flags = refl }),
  still_forgotten _ _ _ c.self.invariant.1 (c.in_err-flushed.ensures.unchanged),
  holds_unchanged c.self.inside.dispatcher c.flushed.new.self c.self.inside.hands c.self.inside.hands (c.in_err-flushed.ensures.unchanged) refl c.self.invariant.2,
)

pub invariant_of-self-2 : goal.invariant_of-self-2
invariant_of-self-2 c = (
  flushed_station (record { dispatcher = c.self.inside.dispatcher; hands = c.self.inside.hands; history = c.self.inside.history.items; flags = c.self.inside.flags }) (record { dispatcher = c.flushed.new.self; hands = c.self.inside.hands; history = c.self.inside.history.items; flags = c.self.inside.flags }) c.self.invariant.0 c.in_ok-flushed.ensures.arose c.number-number.result (messages_of c.in_ok-flushed.ensures.ok.said) c.in_ok-flushed.ensures.ok.does refl refl refl,
  c.self.invariant.1 ∙ sym c.in_ok-flushed.ensures.ok.does.forgotten,
  holds_flushed c.self.inside.dispatcher.server c.flushed.new.self.server c.self.inside.hands c.number-number.result (messages_of c.in_ok-flushed.ensures.ok.said) c.self.invariant.0.arisen c.in_ok-flushed.ensures.ok.does c.self.invariant.2,
)

pub flushed-requires : goal.flushed-requires
flushed-requires c = sym (c.can_flush.ensures ∙ ap (λ (x : ServerValue). can_flush (server_in x) c.number-number.result) c.server.ensures.value) ∙ c.if-not-can_flush.false

pub returns-then-not-can_flush : goal.returns-then-not-can_flush
returns-then-not-can_flush c =
    let is : can_flush (server_of c.args.self.now) c.args.written.now ≡ false = search rules in
    record {
      number = λ made. still_flushed (server_of c.args.self.now) c.args.written.now is made;
      idle = search rules;
      posts = λ can. absurd (true≢false (sym can ∙ is));
      faults = tt;
      err = tt;
      hands = search rules;
      history = search rules;
      flags = search rules;
    }

pub returns : goal.returns
returns c =
    let is : can_flush (server_of c.args.self.now) c.args.written.now ≡ true = search rules in
    let posts : Posts c.args.self.now.dispatcher (ReachesDisk c.args.written.now) (mailbox_of c.args.self.now) Everybody c.flushed.new.self =
    subst (λ (n : ℕ). Posts c.args.self.now.dispatcher (ReachesDisk n) (mailbox_of c.args.self.now) Everybody c.flushed.new.self) c.number-number.ensures
    (subst (λ (v : StationState). Posts v.dispatcher (ReachesDisk c.number-number.result) (mailbox_of v) Everybody c.flushed.new.self) c.self.view_is c.in_ok-flushed.ensures.ok) in
    record {
      number = λ made. greater_flushed c.args.self.now (record { dispatcher = c.flushed.new.self; hands = c.self.inside.hands; history = c.self.inside.history.items; flags = c.self.inside.flags }) c.args.written.now is posts;
      idle = λ can_not. absurd (true≢false (sym is ∙ can_not));
      posts = λ can. posts;
      faults = tt;
      err = tt;
      hands = search rules;
      history = search rules;
      flags = search rules;
    }
