-- Goals of `ServerState::again_doomed`.
use Rattle.std.proofs.Common.{◌<◌, ◌≤◌, rules, sym, ap, arith}
use Rattle.cb_protocol.specs.Resend.{again_doomed}
use Rattle.cb_protocol.specs.Server.{Server}
use Rattle.cb_server_state.specs.Asking.{abort_to}
use Rattle.cb_server_state.specs.States.{server_of}
use Rattle.cb_server_state.proofs.Again.{doomed_walk}
use Rattle.cb_server_state.proofs.Walks.{walk_room, walked, walked_all}
use Rattle.cb_server_state.proofs.server_state.ServerState.again_doomed.Goals as goal

pub abort_again-requires-clause-room : goal.abort_again-requires-clause-room
abort_again-requires-clause-room c =
    let lt : c.loop-client.client < c.args.clients = search rules in
    walk_room s (abort_to s) (again_doomed s c.args.clients) (abort_to s c.new.result) c.loop-client.client c.loop-client.client c.args.clients c.args.outbox.now c.loop-client.outbox
    (omega arith) lt (λ other above below. absurd (omega (arith, above, below))) (doomed_walk s c.args.clients) (ap (abort_to s) (sym c.new.ensures))
    c.requires.room c.loop-client.invariant
  where
    s : Server
    s = server_of c.args.self.now

pub loop-client-preserved : goal.loop-client-preserved
loop-client-preserved c =
    walked s (abort_to s) (λ server. abort_to server c.new.result) c.loop-client.client c.loop-client.client c.args.outbox.now c.loop-client.outbox c.abort_again.new.outbox
    (omega arith) (λ other above below. absurd (omega (arith, above, below))) (ap (abort_to s) c.new.ensures) c.loop-client.invariant c.abort_again.ensures
  where
    s : Server
    s = server_of c.args.self.now

pub returns : goal.returns
returns c =
    let past : c.args.clients ≤ c.loop-client.client = search rules in
    let within : c.loop-client.client ≤ c.args.clients = search rules in
    walked_all s (abort_to s) (λ server. again_doomed server c.args.clients) c.loop-client.client c.args.clients c.args.outbox.now c.loop-client.outbox within
    (λ number above below. absurd (omega (arith, above, below, past))) (doomed_walk s c.args.clients) c.loop-client.invariant
  where
    s : Server
    s = server_of c.args.self.now
