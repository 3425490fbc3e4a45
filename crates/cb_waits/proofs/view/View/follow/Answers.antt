-- Goals of `View::follow`.
use Rattle.std.proofs.Common.{◌≡◌, ℕ, ◌+◌, suc, Some, None, take, length, refl, sym, ◌∙◌, ap, subst, arith, rules}
use Rattle.cb_page.specs.Clients.{has}
use Rattle.cb_protocol.specs.Server.{has_ask}
use Rattle.cb_asks.specs.Queues.{client_at}
use Rattle.cb_waits.specs.Follows.{waited_for}
use Rattle.cb_waits.proofs.Following.{Followed, ahead_more, follow_all, follow_more, place_has, row_more}
use Rattle.cb_waits.proofs.view.View.follow.Goals as goal

pub loop-place-preserved : goal.loop-place-preserved
loop-place-preserved c = record {
  followed = follow_more c.args.self.now c.loop-place.self c.put_row.new.self c.args.queue.now.asks c.args.held_up_by c.loop-place.waited_for c.loop-place.place c.in-Some.client
      c.loop-place.invariant.followed at c.loop-place.invariant.row c.put_row.ensures.row c.put_row.ensures.rest;
  ahead = λ other. ahead other ∙ ap (λ n. has_ask other (take n c.args.queue.now.asks)) next;
  row = λ other. row_more (has c.args.held_up_by) c.insert.new.self c.args.queue.now.asks c.loop-place.place c.in-Some.client other at (ahead other)
      ∙ ap (λ n. waited_for (has c.args.held_up_by) (take n c.args.queue.now.asks) other) next;
}
  where
    at : client_at c.args.queue.now.asks c.loop-place.place ≡ Some c.in-Some.client
    at = sym c.client_at.ensures ∙ c.in-Some.is

    next : suc c.loop-place.place ≡ c.loop-place.place + 1
    next = omega arith

    ahead : (other : ℕ) → has c.insert.new.self other ≡ has_ask other (take (suc c.loop-place.place) c.args.queue.now.asks)
    ahead = ahead_more c.loop-place.ahead c.insert.new.self c.args.queue.now.asks c.loop-place.place c.in-Some.client at c.loop-place.invariant.ahead c.insert.ensures.members

pub loop-place-init : goal.loop-place-init
loop-place-init c = record {
  followed = record { done = λ place client lt. absurd (omega (arith, lt)); rest = λ client other none. refl };
  ahead = λ other. c.empty-ahead.ensures other;
  row = λ other. refl;
}

pub unreachable-requires : goal.unreachable-requires
unreachable-requires c =
    let none : c.client_at.result ≡ None = search rules in
    place_has c.args.queue.now.asks c.loop-place.place (let test = c.loop-place-test.true in let count = c.len-place-end.ensures in omega arith) (sym c.client_at.ensures ∙ none)

pub returns : goal.returns
returns c =
    let all : c.loop-place.place ≡ length c.args.queue.now.asks = search rules in
    follow_all c.args.self.now c.loop-place.self c.args.queue.now.asks c.args.held_up_by
    (subst (λ (n : ℕ). Followed c.args.self.now c.args.queue.now.asks c.args.held_up_by n c.loop-place.self) all c.loop-place.invariant.followed)
