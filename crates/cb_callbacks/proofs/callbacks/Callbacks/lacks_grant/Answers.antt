-- Goals of `Callbacks::lacks_grant`.
use Rattle.std.proofs.Common.{rules, ◌≡◌, ◌∙◌, false, true, not, sym, ap, subst}
use Rattle.cb_links.specs.declared.sessions.Standing.{Standing}
use Rattle.cb_protocol.specs.ServerMessages.{has_waiting_ask}
use Rattle.cb_server_state.specs.Questions.{IsLastIfLive}
use Rattle.cb_server_state.specs.States.{server_of}
use Rattle.cb_callbacks.proofs.Lacking.{has_copy_already, lacks_as_idle, lacks_as_later, lacks_none_doomed, lacks_none_ended, lacks_none_waiting, none_found, some_found}
use Rattle.cb_callbacks.proofs.callbacks.Callbacks.lacks_grant.Goals as goal

pub returns-then-has_row : goal.returns-then-has_row
returns-then-has_row c = λ txn page stands row.
    has_copy_already (server_of c.args.self.now.state) c.args.client txn page (some_found _ c.args.has_row c.if-has_row.true row)

pub returns-in-Later : goal.returns-in-Later
returns-in-Later c = λ txn page stands row.
    lacks_as_later (server_of c.args.self.now.state) c.args.client txn page c.read_asks_of_others.result (sym c.in-Later.is ∙ stands.is)
    (none_found _ c.args.has_row c.if-has_row.false row) c.read_asks_of_others.ensures
    ∙ sym c.lacks_grant_after.ensures

pub returns-then-not-waits : goal.returns-then-not-waits
returns-then-not-waits c = λ txn page stands row.
    let idle : has_waiting_ask (server_of c.args.self.now.state) c.args.client (server_of c.args.self.now.state).pages ≡ false = search rules in
    lacks_as_idle (server_of c.args.self.now.state) c.args.client txn page c.read_asks.result (sym c.in-Live.is ∙ stands.is)
    (subst (λ (x : Standing). IsLastIfLive x (server_of c.args.self.now.state) c.args.client txn) c.in-Live.is stands.last)
    (none_found _ c.args.has_row c.if-has_row.false row) c.read_asks.ensures.reads idle
    ∙ sym c.lacks_grant_after-then-not-waits.ensures

pub returns-else-not-waits : goal.returns-else-not-waits
returns-else-not-waits c = λ txn page stands row.
    let waiting : has_waiting_ask (server_of c.args.self.now.state) c.args.client (server_of c.args.self.now.state).pages ≡ true = search rules in
    lacks_none_waiting (server_of c.args.self.now.state) c.args.client txn page (sym c.in-Live.is ∙ stands.is)
    (subst (λ (x : Standing). IsLastIfLive x (server_of c.args.self.now.state) c.args.client txn) c.in-Live.is stands.last)
    (none_found _ c.args.has_row c.if-has_row.false row) waiting
    ∙ sym (ap not (c.waits.ensures ∙ waiting))

pub returns-in-Doomed : goal.returns-in-Doomed
returns-in-Doomed c = λ txn page stands row.
    lacks_none_doomed (server_of c.args.self.now.state) c.args.client txn page (sym c.in-Doomed.is ∙ stands.is)
    (subst (λ (x : Standing). IsLastIfLive x (server_of c.args.self.now.state) c.args.client txn) c.in-Doomed.is stands.last)

pub returns-in-Ended : goal.returns-in-Ended
returns-in-Ended c = λ txn page stands row.
    lacks_none_ended (server_of c.args.self.now.state) c.args.client txn page (sym c.in-Ended.is ∙ stands.is)
