-- Goals of `Callbacks::enter`.
use Rattle.std.proofs.Common.{◌≡◌, ◌∙◌, false, rules, sym}
use Rattle.cb_server_state.specs.States.{server_of}
use Rattle.cb_callbacks.proofs.Entering.{entered_has, enters_doomed}
use Rattle.cb_protocol.specs.ServerMessages.{is_empty, new_ask}
use Rattle.cb_callbacks.proofs.callbacks.Callbacks.enter.Goals as goal

pub doom-requires-clause-here : goal.doom-requires-clause-here
doom-requires-clause-here c =
    entered_has (server_of c.args.self.now.state) (server_of c.enter_last.new.self.state) c.args.page (new_ask c.args.client c.args.write_grant) c.enter_last.ensures.becomes

pub doom-requires-clause-room : goal.doom-requires-clause-room
doom-requires-clause-room c = search rules

pub returns-then-closes_cycle-clause-says : goal.returns-then-closes_cycle-clause-says
returns-then-closes_cycle-clause-says c =
    let some : is_empty ((server_of c.args.self.now.state).queue c.args.page) ≡ false = search rules in
    enters_doomed (server_of c.args.self.now.state) (server_of c.enter_last.new.self.state) _ c.args.page (new_ask c.args.client c.args.write_grant)
    c.args.outbox.now c.doom.new.outbox c.enter_last.ensures.becomes some (sym c.closes_cycle.ensures ∙ c.if-closes_cycle.true) c.doom.ensures.says
