-- Goals of `Callbacks::drop_transaction`.
use Rattle.std.proofs.Common.{subst}
use Rattle.cb_callbacks.specs.Callbacks.{CallbacksState}
use Rattle.cb_callbacks.proofs.Ending.{drops_ends, ended, kept_ended, waits_forgot}
use Rattle.cb_protocol.specs.Session.{DropTransaction}
use Rattle.cb_server_state.specs.States.{Does, server_of}
use Rattle.cb_callbacks.proofs.callbacks.Callbacks.drop_transaction.Goals as goal

pub follow_all-requires-clause-waits : goal.follow_all-requires-clause-waits
follow_all-requires-clause-waits c =
    waits_forgot c.self.inside.state c.drop_transaction.new.self c.args.client (DropTransaction ((server_of c.self.inside.state).session c.args.client).txn) c.self.invariant.waits c.drop_transaction.ensures.does.becomes
    (drops_ends c.args.client ((server_of c.self.inside.state).session c.args.client).txn (server_of c.self.inside.state))

pub invariant_of-self : goal.invariant_of-self
invariant_of-self c =
    kept_ended c.self.inside.state c.self.inside.view c.drop_transaction.new.self c.follow_all.new.view c.args.client (DropTransaction ((server_of c.self.inside.state).session c.args.client).txn) c.self.invariant
    c.drop_transaction.ensures.agree c.drop_transaction.ensures.does.becomes
    (drops_ends c.args.client ((server_of c.self.inside.state).session c.args.client).txn (server_of c.self.inside.state)) c.follow_all.ensures

pub returns : goal.returns
returns c =
    subst (λ (v : CallbacksState). Does v.state (ended c.args.client (DropTransaction ((server_of v.state).session c.args.client).txn)) c.drop_transaction.new.self)
    c.self.view_is c.drop_transaction.ensures.does
