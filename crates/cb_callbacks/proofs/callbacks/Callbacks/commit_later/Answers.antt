-- Goals of `Callbacks::commit_later`.
use Rattle.std.proofs.Common.{subst}
use Rattle.cb_callbacks.specs.Callbacks.{CallbacksState}
use Rattle.cb_callbacks.proofs.Ending.{begins_ends, commits_ends, ended, ended_twice, kept_twice, waits_forgot_twice}
use Rattle.cb_outbox.specs.Messages.{page_writes}
use Rattle.cb_protocol.specs.Server.{server_after}
use Rattle.cb_protocol.specs.Session.{ApplyCommit, BeginTransaction}
use Rattle.cb_server_state.specs.States.{Does, server_of}
use Rattle.cb_callbacks.proofs.callbacks.Callbacks.commit_later.Goals as goal

pub follow_all-requires-clause-waits : goal.follow_all-requires-clause-waits
follow_all-requires-clause-waits c =
    waits_forgot_twice c.self.inside.state c.commit_later.new.self c.args.client (BeginTransaction c.args.txn) (ApplyCommit c.args.txn (page_writes c.args.writes))
    c.self.invariant.waits c.in_ok-commit.ensures.ok.becomes (begins_ends c.args.client c.args.txn (server_of c.self.inside.state))
    (commits_ends c.args.client c.args.txn (page_writes c.args.writes) (server_after (server_of c.self.inside.state) (ended c.args.client (BeginTransaction c.args.txn))))

pub invariant_of-self-2 : goal.invariant_of-self-2
invariant_of-self-2 c =
    kept_twice c.self.inside.state c.self.inside.view c.commit_later.new.self c.follow_all.new.view c.args.client (BeginTransaction c.args.txn) (ApplyCommit c.args.txn (page_writes c.args.writes))
    c.self.invariant c.in_ok-commit.ensures.agree c.in_ok-commit.ensures.ok.becomes
    (begins_ends c.args.client c.args.txn (server_of c.self.inside.state))
    (commits_ends c.args.client c.args.txn (page_writes c.args.writes) (server_after (server_of c.self.inside.state) (ended c.args.client (BeginTransaction c.args.txn))))
    c.follow_all.ensures

pub returns-clause-ok : goal.returns-clause-ok
returns-clause-ok c =
    subst (λ (v : CallbacksState). Does v.state (ended_twice c.args.client (BeginTransaction c.args.txn) (ApplyCommit c.args.txn (page_writes c.args.writes))) c.commit_later.new.self)
    c.self.view_is c.in_ok-commit.ensures.ok
