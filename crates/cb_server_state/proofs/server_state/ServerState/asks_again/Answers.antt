-- Goals of `ServerState::asks_again`.
use Rattle.std.proofs.Common.{◌≡◌, ◌+◌, ◌<◌, ℕ, false, sym, subst, arith, ap, ◌∙◌}
use Rattle.cb_protocol.specs.Resend.{again_pages}
use Rattle.cb_protocol.specs.Server.{Server}
use Rattle.cb_server_state.specs.Asking.{sends_any}
use Rattle.cb_server_state.specs.States.{server_of}
use Rattle.cb_server_state.proofs.Again.{none_again, page_again, pages_walk}
use Rattle.cb_server_state.proofs.Lost.{none_walked, none_walked_all, some_walked}
use Rattle.cb_server_state.proofs.Walks.{up_to}
use Rattle.cb_server_state.proofs.server_state.ServerState.asks_again.Goals as goal

pub returns-then-asks_again_at : goal.returns-then-asks_again_at
returns-then-asks_again_at c =
    sym (some_walked (page_again s) (again_pages s s.pages) c.loop-page.from c.in-Some.page s.pages
    c.in-Some.ensures.0 (subst (λ (n : ℕ). c.in-Some.page < n) c.requires.agree.queues c.in-Some.ensures.1)
    (λ other above lt. none_again s other (c.in-Some.ensures.3 other above lt)) (pages_walk s s.pages) (sym c.asks_again_at.ensures ∙ c.if-asks_again_at.true))
  where
    s : Server
    s = server_of c.args.self.now

pub loop-page-preserved : goal.loop-page-preserved
loop-page-preserved c = record {
  none = subst (λ (n : ℕ). sends_any (up_to (page_again s) n) ≡ false) next
      (none_walked (page_again s) c.loop-page.from c.in-Some.page c.in-Some.ensures.0
      (λ other above lt. none_again s other (c.in-Some.ensures.3 other above lt)) c.loop-page.invariant.none (sym c.asks_again_at.ensures ∙ c.if-asks_again_at.false));
  within = let value = c.index-from.ensures.value in let lt = subst (λ (n : ℕ). c.in-Some.page < n) c.requires.agree.queues c.in-Some.ensures.1 in omega (arith, value, lt);
}
  where
    s : Server
    s = server_of c.args.self.now

    next : c.in-Some.page + 1 ≡ c.index-from.result + 1
    next = ap (λ (n : ℕ). n + 1) (sym c.index-from.ensures.value)

pub returns : goal.returns
returns c = sym (none_walked_all (page_again s) (again_pages s s.pages) c.loop-page.from s.pages c.loop-page.invariant.within
    (λ page above lt. none_again s page (c.in_default.ensures page above)) (pages_walk s s.pages) c.loop-page.invariant.none)
  where
    s : Server
    s = server_of c.args.self.now
