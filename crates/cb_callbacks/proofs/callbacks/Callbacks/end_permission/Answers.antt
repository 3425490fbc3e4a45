-- Goals of `Callbacks::end_permission`.
use Rattle.std.proofs.Common.{◌<◌, [], ◌∷◌, ℕ, sym, subst}
use Rattle.cb_callbacks.specs.Callbacks.{CallbacksState}
use Rattle.cb_callbacks.proofs.Page.{ends_at, kept_page}
use Rattle.cb_protocol.specs.Server.{ChangeSession}
use Rattle.cb_protocol.specs.Session.{EndPermission}
use Rattle.cb_server_state.specs.States.{Does, HasPage, server_of}
use Rattle.cb_callbacks.proofs.callbacks.Callbacks.end_permission.Goals as goal

pub follow_page-requires-clause-page : goal.follow_page-requires-clause-page
follow_page-requires-clause-page c =
    subst (λ (n : ℕ). c.args.page < n) (sym (c.end_permission.ensures.does 0 0).stays.pages)
    (subst (λ (v : CallbacksState). HasPage v.state c.args.page) (sym c.self.view_is) c.requires.page)

pub invariant_of-self : goal.invariant_of-self
invariant_of-self c =
    kept_page c.self.inside.state c.self.inside.view _ c.follow_page.new.view c.args.page (ChangeSession c.args.client (EndPermission c.args.page 0 0) ∷ []) c.self.invariant
    (subst (λ (v : CallbacksState). HasPage v.state c.args.page) (sym c.self.view_is) c.requires.page)
    c.end_permission.ensures.agree (c.end_permission.ensures.does 0 0).becomes
    (ends_at c.args.client c.args.page 0 0 (server_of c.self.inside.state) c.self.invariant.waits) c.follow_page.ensures

pub returns : goal.returns
returns c grant tag =
    subst (λ (v : CallbacksState). Does v.state (ChangeSession c.args.client (EndPermission c.args.page grant tag) ∷ []) c.end_permission.new.self) c.self.view_is
    (c.end_permission.ensures.does grant tag)
