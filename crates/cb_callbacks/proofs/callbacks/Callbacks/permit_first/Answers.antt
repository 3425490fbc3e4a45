-- Goals of `Callbacks::permit_first`.
use Rattle.std.proofs.Common.{sym, subst}
use Rattle.cb_protocol.specs.Settling.{permit_write}
use Rattle.cb_callbacks.specs.Callbacks.{CallbacksState}
use Rattle.cb_callbacks.specs.Deciding.{StartsWith}
use Rattle.cb_server_state.specs.States.{server_of}
use Rattle.cb_callbacks.proofs.Kept.{begun, kept_left, known}
use Rattle.cb_callbacks.proofs.Left.{permits_left}
use Rattle.cb_callbacks.proofs.Queues.{first_has}
use Rattle.cb_callbacks.proofs.callbacks.Callbacks.permit_first.Goals as goal

pub permit_first-requires-clause-client : goal.permit_first-requires-clause-client
permit_first-requires-clause-client c =
    known c.self.inside.state c.args.client c.args.page c.self.invariant.waits
    (first_has c.args.client _ (subst (λ (v : CallbacksState). StartsWith c.args.client ((server_of v.state).queue c.args.page)) (sym c.self.view_is) c.requires.first))

pub permit_first-requires-clause-greeted : goal.permit_first-requires-clause-greeted
permit_first-requires-clause-greeted c =
    c.self.invariant.waits.greeted c.args.client c.args.page
    (first_has c.args.client _ (subst (λ (v : CallbacksState). StartsWith c.args.client ((server_of v.state).queue c.args.page)) (sym c.self.view_is) c.requires.first))

pub permit_first-requires-clause-begun : goal.permit_first-requires-clause-begun
permit_first-requires-clause-begun c =
    begun c.self.inside.state c.args.client c.args.page c.self.invariant.waits
    (first_has c.args.client _ (subst (λ (v : CallbacksState). StartsWith c.args.client ((server_of v.state).queue c.args.page)) (sym c.self.view_is) c.requires.first))

pub invariant_of-self : goal.invariant_of-self
invariant_of-self c =
    let here = first_has c.args.client ((server_of c.self.inside.state).queue c.args.page) first in
    kept_left c.self.inside.state c.self.inside.view c.permit_first.new.self c.follow_left.new.view c.args.client c.args.page
    (permit_write (server_of c.self.inside.state) c.args.page c.args.client c.args.grant) c.self.invariant
    here c.permit_first.ensures.agree c.permit_first.ensures.says.becomes
    (permits_left c.args.client c.args.page c.args.grant (server_of c.self.inside.state) c.self.invariant.waits first
    (begun c.self.inside.state c.args.client c.args.page c.self.invariant.waits here)) c.follow_left.ensures
  where
    first : StartsWith c.args.client ((server_of c.self.inside.state).queue c.args.page)
    first = subst (λ (v : CallbacksState). StartsWith c.args.client ((server_of v.state).queue c.args.page)) (sym c.self.view_is) c.requires.first
