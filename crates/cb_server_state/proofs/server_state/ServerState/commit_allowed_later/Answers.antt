-- Goals of `ServerState::commit_allowed_later`.
use Rattle.std.proofs.Common.{◌≡◌, ◌∙◌, sym, ap, true}
use Rattle.cb_links.specs.Changes.{is_live_transaction}
use Rattle.cb_links.specs.declared.sessions.Session.{Session}
use Rattle.cb_protocol.specs.Session.{has_live_txn}
use Rattle.cb_server_state.specs.States.{client_session, server_of}
use Rattle.cb_server_state.proofs.Later.{none_allowed}
use Rattle.cb_server_state.proofs.Steps.{lives}
use Rattle.cb_server_state.proofs.server_state.ServerState.commit_allowed_later.Goals as goal

pub returns-then-is_live : goal.returns-then-is_live
returns-then-is_live c txn =
    none_allowed (server_of c.args.self.now) c.args.client txn c.args.writes.now c.is_empty.result live c.is_empty.ensures
  where
    live : has_live_txn (client_session c.args.self.now c.args.client) ≡ true
    live = lives c.args.self.now c.args.client c.requires.agree
        ∙ (ap (λ (s : Session). is_live_transaction s.transaction) (sym c.session.ensures) ∙ (sym c.is_live.ensures ∙ c.if-is_live.true))
