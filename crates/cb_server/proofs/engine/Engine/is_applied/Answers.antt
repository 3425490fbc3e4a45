-- Goals of `Engine::is_applied`.
use Rattle.std.proofs.Common.{◌∙◌, List, ap, subst, sym}
use Rattle.cb_frame.specs.declared.writes.Write.{Write}
use Rattle.cb_links.specs.declared.sessions.Standing.{Standing}
use Rattle.cb_outbox.specs.Messages.{page_writes}
use Rattle.cb_protocol.specs.ServerMessages.{commit_allowed}
use Rattle.cb_server_state.specs.Questions.{IsLast, IsLastIfLive, begun_server}
use Rattle.cb_server_state.specs.States.{server_of}
use Rattle.cb_server_state.specs.declared.server_state.ServerState.{ServerState}
use Rattle.cb_server.specs.Answering.{server_in}
use Rattle.cb_server.proofs.Committing.{applies_doomed, applies_ended, applies_later, applies_live}
use Rattle.cb_server.proofs.engine.Engine.is_applied.Goals as goal

pub returns-in-Later : goal.returns-in-Later
returns-in-Later c = c.commit_allowed_later.ensures c.args.txn
    ∙ (ap (λ (h : ServerState). commit_allowed (begun_server (server_of h) c.args.client c.args.txn) c.args.client (page_writes c.as_slice.result.now)) c.state-state.ensures.value
    ∙ (ap (λ (writes : List Write). commit_allowed (begun_server (server_in c.args.self.now) c.args.client c.args.txn) c.args.client (page_writes writes)) c.as_slice.ensures
    ∙ sym (applies_later (server_in c.args.self.now) c.args.client c.args.txn (page_writes c.args.writes.now) (sym c.in-Later.is ∙ c.requires.stands.is))))

pub returns-in-Live : goal.returns-in-Live
returns-in-Live c = c.commit_allowed.ensures
    ∙ (ap (λ (h : ServerState). commit_allowed (server_of h) c.args.client (page_writes c.as_slice-in-Live.result.now)) c.state-state.ensures.value
    ∙ (ap (λ (writes : List Write). commit_allowed (server_in c.args.self.now) c.args.client (page_writes writes)) c.as_slice-in-Live.ensures
    ∙ sym (applies_live (server_in c.args.self.now) c.args.client c.args.txn (page_writes c.args.writes.now) (sym c.in-Live.is ∙ c.requires.stands.is) last)))
  where
    last : IsLast (server_in c.args.self.now) c.args.client c.args.txn
    last = subst (λ (x : Standing). IsLastIfLive x (server_in c.args.self.now) c.args.client c.args.txn) c.in-Live.is c.requires.stands.last

pub returns-in-Doomed : goal.returns-in-Doomed
returns-in-Doomed c = sym (applies_doomed (server_in c.args.self.now) c.args.client c.args.txn (page_writes c.args.writes.now) (sym c.in-Doomed.is ∙ c.requires.stands.is) last)
  where
    last : IsLast (server_in c.args.self.now) c.args.client c.args.txn
    last = subst (λ (x : Standing). IsLastIfLive x (server_in c.args.self.now) c.args.client c.args.txn) c.in-Doomed.is c.requires.stands.last

pub returns-in-Ended : goal.returns-in-Ended
returns-in-Ended c = sym (applies_ended (server_in c.args.self.now) c.args.client c.args.txn (page_writes c.args.writes.now) (sym c.in-Ended.is ∙ c.requires.stands.is))
