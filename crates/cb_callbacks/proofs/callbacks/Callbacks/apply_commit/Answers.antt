-- Goals of `Callbacks::apply_commit`.
use Rattle.std.proofs.Common.{◌≡◌, ◌+◌, subst}
use Rattle.cb_callbacks.specs.Callbacks.{CallbacksState}
use Rattle.cb_callbacks.proofs.Ending.{commits_ends, ended, kept_ended, waits_forgot}
use Rattle.cb_outbox.specs.Messages.{page_writes}
use Rattle.cb_protocol.specs.Session.{ApplyCommit}
use Rattle.cb_server_state.specs.States.{Does, server_of}
use Rattle.cb_callbacks.proofs.callbacks.Callbacks.apply_commit.Goals as goal

pub follow_all-requires-clause-waits : goal.follow_all-requires-clause-waits
follow_all-requires-clause-waits c =
    waits_forgot c.self.inside.state c.apply_commit.new.self c.args.client (ApplyCommit c.args.txn (page_writes c.args.writes)) c.self.invariant.waits
    c.in_ok-number.ensures.ok.becomes (commits_ends c.args.client c.args.txn (page_writes c.args.writes) (server_of c.self.inside.state))

pub invariant_of-self-2 : goal.invariant_of-self-2
invariant_of-self-2 c =
    kept_ended c.self.inside.state c.self.inside.view c.apply_commit.new.self c.follow_all.new.view c.args.client (ApplyCommit c.args.txn (page_writes c.args.writes))
    c.self.invariant c.in_ok-number.ensures.agree c.in_ok-number.ensures.ok.becomes
    (commits_ends c.args.client c.args.txn (page_writes c.args.writes) (server_of c.self.inside.state)) c.follow_all.ensures

pub returns-clause-ok : goal.returns-clause-ok
returns-clause-ok c =
    subst (λ (v : CallbacksState). Does v.state (ended c.args.client (ApplyCommit c.args.txn (page_writes c.args.writes))) c.apply_commit.new.self)
    c.self.view_is c.in_ok-number.ensures.ok

pub returns-clause-number : goal.returns-clause-number
returns-clause-number c = subst (λ (v : CallbacksState). c.in_ok-number.number ≡ (server_of v.state).store.last_commit + 1) c.self.view_is c.in_ok-number.ensures.number
