-- Goals of `Callbacks::mark_in_use`.
use Rattle.std.proofs.Common.{[], ◌∷◌, sym, subst}
use Rattle.cb_callbacks.specs.Callbacks.{CallbacksState}
use Rattle.cb_callbacks.proofs.Page.{kept_page, marks_at}
use Rattle.cb_protocol.specs.Server.{MarkInUse}
use Rattle.cb_server_state.specs.States.{HasPage, server_of}
use Rattle.cb_server_state.proofs.Changes.{agree_marks, marked}
use Rattle.cb_callbacks.proofs.callbacks.Callbacks.mark_in_use.Goals as goal

pub follow_page-requires-clause-agree : goal.follow_page-requires-clause-agree
follow_page-requires-clause-agree c =
    agree_marks c.self.inside.state c.mark.new.self c.self.invariant.agree c.mark.ensures.clients c.mark.ensures.pages

pub invariant_of-self : goal.invariant_of-self
invariant_of-self c =
    kept_page c.self.inside.state c.self.inside.view _ c.follow_page.new.view c.args.page (MarkInUse c.args.client c.args.page ∷ []) c.self.invariant
    (subst (λ (v : CallbacksState). HasPage v.state c.args.page) (sym c.self.view_is) c.requires.page)
    (agree_marks c.self.inside.state c.mark.new.self c.self.invariant.agree c.mark.ensures.clients c.mark.ensures.pages)
    (marked c.self.inside.state c.mark.new.self _ c.mark.ensures.marks)
    (marks_at c.args.client c.args.page (server_of c.self.inside.state) c.self.invariant.waits) c.follow_page.ensures
