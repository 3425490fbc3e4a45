-- Goals of `ServerState::sends_again`.
use Rattle.std.proofs.Common.{sym, ◌∙◌}
use Rattle.cb_protocol.specs.Resend.{again_doomed, again_pages}
use Rattle.cb_protocol.specs.Server.{Server}
use Rattle.cb_server_state.specs.States.{server_of}
use Rattle.cb_server_state.proofs.Lost.{as_the_second, some_before}
use Rattle.cb_server_state.proofs.server_state.ServerState.sends_again.Goals as goal

pub returns-then-asks_again : goal.returns-then-asks_again
returns-then-asks_again c =
    c.if-asks_again.true ∙ sym (some_before (again_pages s s.pages) (again_doomed s s.clients) (sym c.asks_again.ensures ∙ c.if-asks_again.true))
  where
    s : Server
    s = server_of c.args.self.now

pub returns-else-asks_again : goal.returns-else-asks_again
returns-else-asks_again c =
    as_the_second (again_pages s s.pages) s c.args.clients c.aborts_again.result c.requires.all (sym c.asks_again.ensures ∙ c.if-asks_again.false) c.aborts_again.ensures
  where
    s : Server
    s = server_of c.args.self.now
