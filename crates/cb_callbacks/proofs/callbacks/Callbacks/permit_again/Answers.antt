-- Goals of `Callbacks::permit_again`.
use Rattle.std.proofs.Common.{rules, sym, subst}
use Rattle.cb_callbacks.specs.Callbacks.{CallbacksState}
use Rattle.cb_server_state.specs.States.{HasPage, server_of}
use Rattle.cb_server_state.specs.Waits.{HasBegun}
use Rattle.cb_callbacks.proofs.Page.{kept_page, permits_at}
use Rattle.cb_protocol.specs.Settling.{give_permission}
use Rattle.cb_callbacks.proofs.callbacks.Callbacks.permit_again.Goals as goal

pub invariant_of-self : goal.invariant_of-self
invariant_of-self c =
    kept_page c.self.inside.state c.self.inside.view c.give_permission.new.self c.follow_page.new.view c.args.page
    (give_permission (server_of c.self.inside.state) c.args.client c.args.page c.args.grant) c.self.invariant
    (subst (λ (v : CallbacksState). HasPage v.state c.args.page) (sym c.self.view_is) c.requires.page)
    c.give_permission.ensures.agree c.give_permission.ensures.says.becomes
    (permits_at c.args.client c.args.page c.args.grant (server_of c.self.inside.state) c.self.invariant.waits
    (subst (λ (v : CallbacksState). HasBegun (server_of v.state) c.args.client) (sym c.self.view_is) c.requires.begun)) c.follow_page.ensures

pub returns-clause-says : goal.returns-clause-says
returns-clause-says c = search rules
