-- Goals of `Callbacks::give_back`.
use Rattle.std.proofs.Common.{◌<◌, [], ◌∷◌, ℕ, sym, subst}
use Rattle.cb_callbacks.specs.Callbacks.{CallbacksState}
use Rattle.cb_callbacks.proofs.Page.{kept_page, removes_at, removes_becomes}
use Rattle.cb_protocol.specs.Server.{ChangeSession, UnmarkInUse}
use Rattle.cb_protocol.specs.Session.{RemoveRow}
use Rattle.cb_server_state.specs.States.{Does, HasPage, server_of}
use Rattle.cb_server_state.proofs.Changes.{agree_marks}
use Rattle.cb_callbacks.proofs.callbacks.Callbacks.give_back.Goals as goal

pub give_back-requires-clause-agree : goal.give_back-requires-clause-agree
give_back-requires-clause-agree c =
    agree_marks c.self.inside.state c.unmark.new.self c.self.invariant.agree c.unmark.ensures.clients c.unmark.ensures.pages

pub follow_page-requires-clause-page : goal.follow_page-requires-clause-page
follow_page-requires-clause-page c =
    subst (λ (n : ℕ). c.args.page < n) (sym (c.give_back.ensures.does 0).stays.pages)
    (subst (λ (v : CallbacksState). HasPage v.state c.args.page) (sym c.self.view_is) c.requires.page)

pub invariant_of-self : goal.invariant_of-self
invariant_of-self c =
    kept_page c.self.inside.state c.self.inside.view _ c.follow_page.new.view c.args.page
    (UnmarkInUse c.args.client c.args.page ∷ ChangeSession c.args.client (RemoveRow c.args.page 0) ∷ []) c.self.invariant
    (subst (λ (v : CallbacksState). HasPage v.state c.args.page) (sym c.self.view_is) c.requires.page) c.give_back.ensures.agree
    (removes_becomes c.self.inside.state c.give_back.new.self c.unmark.new.self c.args.client c.args.page 0 c.unmark.ensures (c.give_back.ensures.does 0))
    (removes_at c.args.client c.args.page 0 (server_of c.self.inside.state) c.self.invariant.waits) c.follow_page.ensures

pub returns : goal.returns
returns c grant =
    subst (λ (v : CallbacksState). Does v.state (UnmarkInUse c.args.client c.args.page ∷ ChangeSession c.args.client (RemoveRow c.args.page grant) ∷ [])
    c.give_back.new.self) c.self.view_is (record {
      becomes = removes_becomes c.self.inside.state c.give_back.new.self c.unmark.new.self c.args.client c.args.page grant c.unmark.ensures (c.give_back.ensures.does grant);
      stays = record {
        keep_write = (c.give_back.ensures.does grant).stays.keep_write;
        clients = (c.give_back.ensures.does grant).stays.clients;
        pages = (c.give_back.ensures.does grant).stays.pages;
        page_size = (c.give_back.ensures.does grant).stays.page_size;
        opening = (c.give_back.ensures.does grant).stays.opening;
        forgotten = (c.give_back.ensures.does grant).stays.forgotten;
      };
      room = (c.give_back.ensures.does grant).room;
    })
