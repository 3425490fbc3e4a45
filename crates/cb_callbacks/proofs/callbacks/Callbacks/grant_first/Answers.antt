-- Goals of `Callbacks::grant_first`.
use Rattle.std.proofs.Common.{sym, subst}
use Rattle.cb_protocol.specs.Settling.{grant_row}
use Rattle.cb_callbacks.specs.Callbacks.{CallbacksState}
use Rattle.cb_callbacks.specs.Deciding.{StartsWith}
use Rattle.cb_server_state.specs.States.{server_of}
use Rattle.cb_callbacks.proofs.Kept.{kept_left, known}
use Rattle.cb_callbacks.proofs.Left.{grants_left}
use Rattle.cb_callbacks.proofs.Queues.{first_has}
use Rattle.cb_callbacks.proofs.callbacks.Callbacks.grant_first.Goals as goal

pub grant_first-requires-clause-client : goal.grant_first-requires-clause-client
grant_first-requires-clause-client c =
    known c.self.inside.state c.args.client c.args.page c.self.invariant.waits
    (first_has c.args.client _ (subst (λ (v : CallbacksState). StartsWith c.args.client ((server_of v.state).queue c.args.page)) (sym c.self.view_is) c.requires.first))

pub grant_first-requires-clause-greeted : goal.grant_first-requires-clause-greeted
grant_first-requires-clause-greeted c =
    c.self.invariant.waits.greeted c.args.client c.args.page
    (first_has c.args.client _ (subst (λ (v : CallbacksState). StartsWith c.args.client ((server_of v.state).queue c.args.page)) (sym c.self.view_is) c.requires.first))

pub invariant_of-self : goal.invariant_of-self
invariant_of-self c =
    let here = first_has c.args.client ((server_of c.self.inside.state).queue c.args.page) first in
    kept_left c.self.inside.state c.self.inside.view c.grant_first.new.self c.follow_left.new.view c.args.client c.args.page
    (grant_row (server_of c.self.inside.state) c.args.page c.args.client) c.self.invariant
    here c.grant_first.ensures.agree c.grant_first.ensures.says.becomes
    (grants_left c.args.client c.args.page (server_of c.self.inside.state) c.self.invariant.waits first) c.follow_left.ensures
  where
    first : StartsWith c.args.client ((server_of c.self.inside.state).queue c.args.page)
    first = subst (λ (v : CallbacksState). StartsWith c.args.client ((server_of v.state).queue c.args.page)) (sym c.self.view_is) c.requires.first
