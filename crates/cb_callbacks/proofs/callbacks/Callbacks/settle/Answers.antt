-- Goals of `Callbacks::settle`.
use Rattle.std.proofs.Common.{◌≡◌, ◌∙◌, ◌+◌, ◌<◌, ◌≤◌, [], ℕ, length, sym, subst, ap, arith}
use Rattle.cb_asks.specs.Asks.{queue_at}
use Rattle.cb_asks.specs.Queues.{QueueState}
use Rattle.cb_outbox.specs.Saying.{Says}
use Rattle.cb_protocol.specs.Settling.{settle_pages}
use Rattle.cb_protocol.specs.WaitsFor.{on_cycle}
use Rattle.cb_callbacks.specs.Callbacks.{CallbacksState}
use Rattle.cb_server_state.specs.States.{server_of}
use Rattle.cb_callbacks.proofs.Settling.{left_settled, page_room, pages_all, pages_more}
use Rattle.cb_server_state.proofs.Later.{stays_then}
use Rattle.cb_callbacks.proofs.callbacks.Callbacks.settle.Goals as goal

pub settle_page-requires-clause-room : goal.settle_page-requires-clause-room
settle_page-requires-clause-room c =
    page_room (server_of c.args.self.now.state) (server_of c.loop-page.self.state) c.loop-page.from c.in-Some.page (c.len-asks.result + 1) c.args.outbox.now c.loop-page.outbox
    c.loop-page.invariant.waits c.in-Some.ensures.0 (subst (λ (n : ℕ). c.in-Some.page < n) c.loop-page.invariant.stays.pages within) empty as_many
    c.requires.room c.loop-page.invariant.says
  where
    empty : (at : ℕ) → c.loop-page.from ≤ at → at < c.in-Some.page → (server_of c.loop-page.self.state).queue at ≡ []
    empty at above lt = subst (λ (v : CallbacksState). queue_at v.state.asks at ≡ []) c.self-in-loop-page.view_is (c.in-Some.ensures.3 at above lt)

    as_many : c.len-asks.result + 1 ≡ length ((server_of c.loop-page.self.state).queue c.in-Some.page) + 1
    as_many = subst (λ (v : CallbacksState). c.len-asks.result + 1 ≡ length (queue_at v.state.asks c.in-Some.page) + 1) c.self-in-loop-page.view_is
        (ap (λ (n : ℕ). n + 1) (c.len-asks.ensures ∙ ap (λ (q : QueueState). length q.asks) c.queue.ensures))

    within : c.in-Some.page < (server_of c.loop-page.self.state).pages
    within = subst (λ (v : CallbacksState). c.in-Some.page < (server_of v.state).pages) c.self-in-loop-page.view_is
        (subst (λ (n : ℕ). c.in-Some.page < n) c.self-in-loop-page.invariant.agree.queues c.in-Some.ensures.1)

pub loop-page-preserved : goal.loop-page-preserved
loop-page-preserved c = record {
  says = subst (λ (n : ℕ). Says (server_of c.args.self.now.state) (λ server. settle_pages on_cycle server n) (server_of c.settle_page.new.self.state) c.args.outbox.now c.settle_page.new.outbox) next
      (pages_more (server_of c.args.self.now.state) (server_of c.loop-page.self.state) (server_of c.settle_page.new.self.state) c.loop-page.from c.in-Some.page (c.len-asks.result + 1)
      c.args.outbox.now c.loop-page.outbox c.settle_page.new.outbox c.loop-page.invariant.waits c.in-Some.ensures.0 empty as_many c.loop-page.invariant.says c.settle_page.ensures.says);
  within = let value = c.index-from.ensures.value in let lt = within in let pages = c.settle_page.ensures.stays.pages in omega (arith, value, lt, pages);
  left = left_settled on_cycle (server_of c.loop-page.self.state) (server_of c.settle_page.new.self.state) c.in-Some.page (c.len-asks.result + 1) c.loop-page.outbox c.settle_page.new.outbox
      within c.settle_page.ensures.says c.loop-page.invariant.left;
  waits = c.loop-page.invariant.waits;
  stays = stays_then _ _ _ c.loop-page.invariant.stays c.settle_page.ensures.stays;
}
  where
    next : c.in-Some.page + 1 ≡ c.index-from.result + 1
    next = ap (λ (n : ℕ). n + 1) (sym c.index-from.ensures.value)

    empty : (at : ℕ) → c.loop-page.from ≤ at → at < c.in-Some.page → (server_of c.loop-page.self.state).queue at ≡ []
    empty at above lt = subst (λ (v : CallbacksState). queue_at v.state.asks at ≡ []) c.self-in-loop-page.view_is (c.in-Some.ensures.3 at above lt)

    as_many : c.len-asks.result + 1 ≡ length ((server_of c.loop-page.self.state).queue c.in-Some.page) + 1
    as_many = subst (λ (v : CallbacksState). c.len-asks.result + 1 ≡ length (queue_at v.state.asks c.in-Some.page) + 1) c.self-in-loop-page.view_is
        (ap (λ (n : ℕ). n + 1) (c.len-asks.ensures ∙ ap (λ (q : QueueState). length q.asks) c.queue.ensures))

    within : c.in-Some.page < (server_of c.loop-page.self.state).pages
    within = subst (λ (v : CallbacksState). c.in-Some.page < (server_of v.state).pages) c.self-in-loop-page.view_is
        (subst (λ (n : ℕ). c.in-Some.page < n) c.self-in-loop-page.invariant.agree.queues c.in-Some.ensures.1)

pub returns-clause-says : goal.returns-clause-says
returns-clause-says c =
    pages_all (server_of c.args.self.now.state) (server_of c.loop-page.self.state) c.loop-page.from c.args.outbox.now c.loop-page.outbox
    (subst (λ (n : ℕ). c.loop-page.from ≤ n) c.loop-page.invariant.stays.pages c.loop-page.invariant.within)
    (λ page above. subst (λ (v : CallbacksState). queue_at v.state.asks page ≡ []) c.self-in-loop-page.view_is (c.in_default.ensures page above))
    c.loop-page.invariant.says
