-- Goals of `ServerState::call_back`.
use Rattle.std.proofs.Common.{◌≡◌, ◌+◌, ◌<◌, ℕ, refl, sym, subst, arith, ap}
use Rattle.cb_page.specs.Clients.{has}
use Rattle.cb_outbox.specs.Saying.{Says}
use Rattle.cb_protocol.specs.Server.{Server}
use Rattle.cb_protocol.specs.Settling.{send_callbacks}
use Rattle.cb_server_state.specs.Asking.{callback_to}
use Rattle.cb_server_state.specs.States.{server_of}
use Rattle.cb_server_state.proofs.Calling.{calls, no_row, none_to, some_row}
use Rattle.cb_server_state.proofs.Walks.{up_to, walk_room, walked, walked_all}
use Rattle.cb_server_state.proofs.server_state.ServerState.call_back.Goals as goal

pub call_back_one-requires-clause-room : goal.call_back_one-requires-clause-room
call_back_one-requires-clause-room c =
    walk_room s (callback_to s (has c.args.left_out) c.args.page c.args.asker) (send_callbacks s (has c.args.left_out) c.args.page c.args.asker s.clients)
    (callback_to s (has c.args.left_out) c.args.page c.args.asker c.in-Some.client) c.loop-client.from c.in-Some.client s.clients c.args.outbox.now c.loop-client.outbox
    c.in-Some.ensures.above
    (c.requires.waits.rows c.in-Some.client c.args.page (some_row _ _ (c.rows_of_page-rows.ensures.members c.in-Some.client) c.in-Some.ensures.here)).0
    (λ other above lt. none_to s (has c.args.left_out) c.args.page c.args.asker other (no_row _ _ (c.rows_of_page-rows.ensures.members other) (c.in-Some.ensures.none_between other above lt)))
    (calls s (has c.args.left_out) c.args.page c.args.asker s.clients) refl c.requires.room c.loop-client.invariant.says
  where
    s : Server
    s = server_of c.args.self.now

pub loop-client-preserved : goal.loop-client-preserved
loop-client-preserved c = record {
  says = subst (λ (n : ℕ). Says s (λ server. up_to (callback_to s (has c.args.left_out) c.args.page c.args.asker) n) s c.args.outbox.now c.call_back_one.new.outbox) next
      (walked s (callback_to s (has c.args.left_out) c.args.page c.args.asker) (λ server. callback_to server (has c.args.left_out) c.args.page c.args.asker c.in-Some.client)
      c.loop-client.from c.in-Some.client c.args.outbox.now c.loop-client.outbox c.call_back_one.new.outbox c.in-Some.ensures.above
      (λ other above lt. none_to s (has c.args.left_out) c.args.page c.args.asker other (no_row _ _ (c.rows_of_page-rows.ensures.members other) (c.in-Some.ensures.none_between other above lt)))
      refl c.loop-client.invariant.says c.call_back_one.ensures);
  within = let value = c.index-from.ensures.value in let lt = in_range in omega (arith, value, lt);
}
  where
    s : Server
    s = server_of c.args.self.now

    next : c.in-Some.client + 1 ≡ c.index-from.result + 1
    next = ap (λ (n : ℕ). n + 1) (sym c.index-from.ensures.value)

    in_range : c.in-Some.client < (server_of c.args.self.now).clients
    in_range = (c.requires.waits.rows c.in-Some.client c.args.page (some_row _ _ (c.rows_of_page-rows.ensures.members c.in-Some.client) c.in-Some.ensures.here)).0

pub returns : goal.returns
returns c = walked_all s (callback_to s (has c.args.left_out) c.args.page c.args.asker) (λ server. send_callbacks server (has c.args.left_out) c.args.page c.args.asker server.clients)
    c.loop-client.from s.clients c.args.outbox.now c.loop-client.outbox c.loop-client.invariant.within
    (λ client above lt. none_to s (has c.args.left_out) c.args.page c.args.asker client (no_row _ _ (c.rows_of_page-rows.ensures.members client) (c.in_default.ensures client above)))
    (calls s (has c.args.left_out) c.args.page c.args.asker s.clients) c.loop-client.invariant.says
  where
    s : Server
    s = server_of c.args.self.now
