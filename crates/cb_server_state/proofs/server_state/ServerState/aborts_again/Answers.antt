-- Goals of `ServerState::aborts_again`.
use Rattle.std.proofs.Common.{◌≡◌, ◌<◌, ◌≤◌, true, rules, sym, arith}
use Rattle.cb_protocol.specs.Resend.{again_doomed}
use Rattle.cb_protocol.specs.Server.{Server}
use Rattle.cb_server_state.specs.Asking.{abort_to, sends_any}
use Rattle.cb_server_state.specs.States.{server_of}
use Rattle.cb_server_state.proofs.Again.{doomed_walk}
use Rattle.cb_server_state.proofs.Lost.{none_walked_all, some_walked}
use Rattle.cb_server_state.proofs.server_state.ServerState.aborts_again.Goals as goal

pub returns-then-is_some : goal.returns-then-is_some
returns-then-is_some c =
    let lt : c.loop-client.client < c.args.clients = search rules in
    let here : sends_any (abort_to s c.loop-client.client) ≡ true = search rules in
    sym (some_walked (abort_to s) (again_doomed s c.args.clients) c.loop-client.client c.loop-client.client c.args.clients
    (omega arith) lt (λ other above below. absurd (omega (arith, above, below))) (doomed_walk s c.args.clients) here)
  where
    s : Server
    s = server_of c.args.self.now

pub returns : goal.returns
returns c =
    let past : c.args.clients ≤ c.loop-client.client = search rules in
    let within : c.loop-client.client ≤ c.args.clients = search rules in
    sym (none_walked_all (abort_to s) (again_doomed s c.args.clients) c.loop-client.client c.args.clients within
    (λ number above below. absurd (omega (arith, above, below, past))) (doomed_walk s c.args.clients) c.loop-client.invariant)
  where
    s : Server
    s = server_of c.args.self.now
