-- Goals of `Callbacks::downgrade_once`.
use Rattle.std.proofs.Common.{◌≡◌, false, true, rules, subst}
use Rattle.cb_asks.specs.Queues.{waiting_ask}
use Rattle.cb_callbacks.specs.Callbacks.{CallbacksState}
use Rattle.cb_outbox.specs.Saying.{Says}
use Rattle.cb_protocol.specs.Basics.{is_exactly}
use Rattle.cb_protocol.specs.Settling.{downgrade_once}
use Rattle.cb_server_state.specs.States.{server_of}
use Rattle.cb_protocol.specs.Server.{set_downgrade_sent}
use Rattle.cb_callbacks.proofs.Noted.{downgraded, kept_noted, notes_sent}
use Rattle.cb_callbacks.proofs.callbacks.Callbacks.downgrade_once.Goals as goal

pub invariant_of-self : goal.invariant_of-self
invariant_of-self c =
    kept_noted c.self.inside.state c.self.inside.view c.mark_downgrade_sent.new.self c.args.page (set_downgrade_sent c.tag-tag.result)
    (notes_sent c.tag-tag.result) c.self.invariant c.mark_downgrade_sent.ensures.has

pub returns-then-not-self-clause-says : goal.returns-then-not-self-clause-says
returns-then-not-self-clause-says c = search rules

pub returns-in_default-clause-says : goal.returns-in_default-clause-says
returns-in_default-clause-says c = search rules

pub tag-tag-requires-clause-tagged : goal.tag-tag-requires-clause-tagged
tag-tag-requires-clause-tagged c = search rules

pub returns-then-eq-clause-says : goal.returns-then-eq-clause-says
returns-then-eq-clause-says c = search rules

pub ask_down-requires-clause-room : goal.ask_down-requires-clause-room
ask_down-requires-clause-room c = search rules

pub returns-clause-says : goal.returns-clause-says
returns-clause-says c =
    let setting : c.self.inside.state.keep_write ≡ true = search rules in
    let other : is_exactly c.args.first.downgrade_sent c.tag-tag.result ≡ false = search rules in
    subst (λ (v : CallbacksState). Says (server_of v.state) (λ server. downgrade_once server c.args.page (waiting_ask c.args.first))
    (server_of (record c.self.inside.state { asks = c.mark_downgrade_sent.new.self })) c.args.outbox.now c.ask_down.new.outbox) c.self.view_is
    (downgraded c.self.inside.state c.mark_downgrade_sent.new.self c.args.page c.in-Some.keeper c.tag-tag.result (waiting_ask c.args.first)
    c.args.outbox.now c.ask_down.new.outbox setting c.in-Some.ensures.holds c.in-Some.ensures.keeps c.tag-tag.ensures other
    c.ask_down.ensures c.mark_downgrade_sent.ensures.has)

pub returns-clause-here : goal.returns-clause-here
returns-clause-here c = search rules
