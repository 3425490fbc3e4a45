-- Goals of `ServerState::calls_any_back`.
use Rattle.std.proofs.Common.{◌≡◌, ◌+◌, ◌<◌, ℕ, List, false, sym, subst, arith, ap, ◌∙◌}
use Rattle.cb_page.specs.Clients.{has}
use Rattle.cb_protocol.specs.Server.{Server, ServerStep}
use Rattle.cb_protocol.specs.Settling.{send_callbacks}
use Rattle.cb_server_state.specs.Asking.{callback_to, sends_any}
use Rattle.cb_server_state.specs.States.{server_of}
use Rattle.cb_server_state.proofs.Calling.{calls, no_row, none_to, some_row}
use Rattle.cb_server_state.proofs.Lost.{none_walked, none_walked_all, some_walked}
use Rattle.cb_server_state.proofs.Walks.{up_to}
use Rattle.cb_server_state.proofs.server_state.ServerState.calls_any_back.Goals as goal

pub returns-then-calls_one_back : goal.returns-then-calls_one_back
returns-then-calls_one_back c =
    sym (some_walked each (send_callbacks s (has c.args.left_out) c.args.page c.args.asker s.clients) c.loop-client.from c.in-Some.client s.clients
    c.in-Some.ensures.above
    (c.requires.waits.rows c.in-Some.client c.args.page (some_row _ _ (c.rows_of_page-rows.ensures.members c.in-Some.client) c.in-Some.ensures.here)).0
    (λ other above lt. none_to s (has c.args.left_out) c.args.page c.args.asker other (no_row _ _ (c.rows_of_page-rows.ensures.members other) (c.in-Some.ensures.none_between other above lt)))
    (calls s (has c.args.left_out) c.args.page c.args.asker s.clients) (sym c.calls_one_back.ensures ∙ c.if-calls_one_back.true))
  where
    s : Server
    s = server_of c.args.self.now

    each : ℕ → List ServerStep
    each = callback_to s (has c.args.left_out) c.args.page c.args.asker

pub loop-client-preserved : goal.loop-client-preserved
loop-client-preserved c = record {
  none = subst (λ (n : ℕ). sends_any (up_to each n) ≡ false) next
      (none_walked each c.loop-client.from c.in-Some.client c.in-Some.ensures.above
      (λ other above lt. none_to s (has c.args.left_out) c.args.page c.args.asker other (no_row _ _ (c.rows_of_page-rows.ensures.members other) (c.in-Some.ensures.none_between other above lt)))
      c.loop-client.invariant.none (sym c.calls_one_back.ensures ∙ c.if-calls_one_back.false));
  within = let value = c.index-from.ensures.value in let lt = in_range in omega (arith, value, lt);
}
  where
    s : Server
    s = server_of c.args.self.now

    each : ℕ → List ServerStep
    each = callback_to s (has c.args.left_out) c.args.page c.args.asker

    next : c.in-Some.client + 1 ≡ c.index-from.result + 1
    next = ap (λ (n : ℕ). n + 1) (sym c.index-from.ensures.value)

    in_range : c.in-Some.client < (server_of c.args.self.now).clients
    in_range = (c.requires.waits.rows c.in-Some.client c.args.page (some_row _ _ (c.rows_of_page-rows.ensures.members c.in-Some.client) c.in-Some.ensures.here)).0

pub returns : goal.returns
returns c = sym (none_walked_all (callback_to s (has c.args.left_out) c.args.page c.args.asker) (send_callbacks s (has c.args.left_out) c.args.page c.args.asker s.clients)
    c.loop-client.from s.clients c.loop-client.invariant.within
    (λ client above lt. none_to s (has c.args.left_out) c.args.page c.args.asker client (no_row _ _ (c.rows_of_page-rows.ensures.members client) (c.in_default.ensures client above)))
    (calls s (has c.args.left_out) c.args.page c.args.asker s.clients) c.loop-client.invariant.none)
  where
    s : Server
    s = server_of c.args.self.now
