-- Goals of `Callbacks::begin`.
use Rattle.cb_callbacks.proofs.Ending.{begins_ends, kept_ended, waits_forgot}
use Rattle.cb_protocol.specs.Session.{BeginTransaction}
use Rattle.cb_server_state.specs.States.{server_of}
use Rattle.cb_callbacks.proofs.callbacks.Callbacks.begin.Goals as goal

pub follow_all-requires-clause-waits : goal.follow_all-requires-clause-waits
follow_all-requires-clause-waits c =
    waits_forgot c.self.inside.state c.begin.new.self c.args.client (BeginTransaction c.args.txn) c.self.invariant.waits c.begin.ensures.does.becomes
    (begins_ends c.args.client c.args.txn (server_of c.self.inside.state))

pub invariant_of-self : goal.invariant_of-self
invariant_of-self c =
    kept_ended c.self.inside.state c.self.inside.view c.begin.new.self c.follow_all.new.view c.args.client (BeginTransaction c.args.txn) c.self.invariant
    c.begin.ensures.agree c.begin.ensures.does.becomes
    (begins_ends c.args.client c.args.txn (server_of c.self.inside.state)) c.follow_all.ensures
