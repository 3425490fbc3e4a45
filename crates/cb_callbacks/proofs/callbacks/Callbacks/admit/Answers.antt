-- Goals of `Callbacks::admit`.
use Rattle.cb_callbacks.proofs.Ending.{admits_ends, kept_ended, waits_forgot}
use Rattle.cb_protocol.specs.Session.{Admit}
use Rattle.cb_server_state.specs.States.{server_of}
use Rattle.cb_callbacks.proofs.callbacks.Callbacks.admit.Goals as goal

pub follow_all-requires-clause-waits : goal.follow_all-requires-clause-waits
follow_all-requires-clause-waits c =
    waits_forgot c.self.inside.state c.admit.new.self c.args.client (Admit c.args.incarnation) c.self.invariant.waits c.admit.ensures.does.becomes
    (admits_ends c.args.client c.args.incarnation (server_of c.self.inside.state))

pub invariant_of-self : goal.invariant_of-self
invariant_of-self c =
    kept_ended c.self.inside.state c.self.inside.view c.admit.new.self c.follow_all.new.view c.args.client (Admit c.args.incarnation) c.self.invariant
    c.admit.ensures.agree c.admit.ensures.does.becomes
    (admits_ends c.args.client c.args.incarnation (server_of c.self.inside.state)) c.follow_all.ensures
