-- Goals of `ServerState::again_pages`.
use Rattle.std.proofs.Common.{◌≡◌, ◌+◌, ◌<◌, ℕ, refl, sym, subst, arith, ap}
use Rattle.cb_outbox.specs.Saying.{Says}
use Rattle.cb_protocol.specs.Resend.{again_page, again_pages}
use Rattle.cb_protocol.specs.Server.{Server}
use Rattle.cb_server_state.specs.States.{server_of}
use Rattle.cb_server_state.proofs.Again.{none_again, page_again, pages_walk}
use Rattle.cb_server_state.proofs.Walks.{up_to, walk_room, walked, walked_all}
use Rattle.cb_server_state.proofs.server_state.ServerState.again_pages.Goals as goal

pub again_page-requires-clause-room : goal.again_page-requires-clause-room
again_page-requires-clause-room c =
    walk_room s (page_again s) (again_pages s s.pages) (page_again s c.in-Some.page) c.loop-page.from c.in-Some.page s.pages c.args.outbox.now c.loop-page.outbox
    c.in-Some.ensures.0 (subst (λ (n : ℕ). c.in-Some.page < n) c.requires.agree.queues c.in-Some.ensures.1)
    (λ other above lt. none_again s other (c.in-Some.ensures.3 other above lt)) (pages_walk s s.pages) refl c.requires.room c.loop-page.invariant.says
  where
    s : Server
    s = server_of c.args.self.now

pub loop-page-preserved : goal.loop-page-preserved
loop-page-preserved c = record {
  says = subst (λ (n : ℕ). Says s (λ server. up_to (page_again s) n) s c.args.outbox.now c.again_page.new.outbox) next
      (walked s (page_again s) (λ server. again_page server c.in-Some.page (server.queue c.in-Some.page)) c.loop-page.from c.in-Some.page
      c.args.outbox.now c.loop-page.outbox c.again_page.new.outbox c.in-Some.ensures.0
      (λ other above lt. none_again s other (c.in-Some.ensures.3 other above lt)) refl c.loop-page.invariant.says c.again_page.ensures);
  within = let value = c.index-from.ensures.value in let lt = subst (λ (n : ℕ). c.in-Some.page < n) c.requires.agree.queues c.in-Some.ensures.1 in omega (arith, value, lt);
}
  where
    s : Server
    s = server_of c.args.self.now

    next : c.in-Some.page + 1 ≡ c.index-from.result + 1
    next = ap (λ (n : ℕ). n + 1) (sym c.index-from.ensures.value)

pub returns : goal.returns
returns c = walked_all s (page_again s) (λ server. again_pages server server.pages) c.loop-page.from s.pages c.args.outbox.now c.loop-page.outbox c.loop-page.invariant.within
    (λ page above lt. none_again s page (c.in_default.ensures page above)) (pages_walk s s.pages) c.loop-page.invariant.says
  where
    s : Server
    s = server_of c.args.self.now
