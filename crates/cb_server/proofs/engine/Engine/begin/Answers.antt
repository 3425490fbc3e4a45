-- Goals of `Engine::begin`.
use Rattle.std.proofs.Common.{◌∙◌, false, sym, subst}
use Rattle.cb_links.specs.declared.sessions.Standing.{Standing}
use Rattle.cb_protocol.specs.Server.{Server}
use Rattle.cb_server_state.specs.Questions.{IsLast, IsLastIfLive}
use Rattle.cb_callbacks.specs.Numbers.{IsLiveOne}
use Rattle.cb_callbacks.proofs.Standing.{doomed_stands, is_later, later_lives, live_stands}
use Rattle.cb_server.specs.Answering.{server_in}
use Rattle.cb_server.proofs.engine.Engine.begin.Goals as goal

pub returns-in-Later-clause-stands : goal.returns-in-Later-clause-stands
returns-in-Later-clause-stands c =
    subst (λ (s : Server). IsLiveOne s c.args.client c.args.txn false) (sym c.begin.ensures.becomes)
    (later_lives (server_in c.args.self.now) c.args.client c.args.txn (is_later (server_in c.args.self.now) c.args.client c.args.txn (sym c.in-Later.is ∙ c.requires.stands.is)))

pub returns-in-Live-clause-stands : goal.returns-in-Live-clause-stands
returns-in-Live-clause-stands c = live_stands (server_in c.args.self.now) c.args.client c.args.txn (sym c.in-Live.is ∙ c.requires.stands.is) last
  where
    last : IsLast (server_in c.args.self.now) c.args.client c.args.txn
    last = subst (λ (x : Standing). IsLastIfLive x (server_in c.args.self.now) c.args.client c.args.txn) c.in-Live.is c.requires.stands.last

pub returns-in-Doomed-clause-stands : goal.returns-in-Doomed-clause-stands
returns-in-Doomed-clause-stands c = doomed_stands (server_in c.args.self.now) c.args.client c.args.txn (sym c.in-Doomed.is ∙ c.requires.stands.is) last
  where
    last : IsLast (server_in c.args.self.now) c.args.client c.args.txn
    last = subst (λ (x : Standing). IsLastIfLive x (server_in c.args.self.now) c.args.client c.args.txn) c.in-Doomed.is c.requires.stands.last
