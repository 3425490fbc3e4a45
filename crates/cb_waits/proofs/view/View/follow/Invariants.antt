-- What holds at each turn of the loops of `View::follow`.
use Rattle.std.proofs.Common.{◌≡◌, ℕ, take}
use Rattle.cb_page.specs.Clients.{has}
use Rattle.cb_protocol.specs.Server.{has_ask}
use Rattle.cb_waits.specs.Follows.{waited_for}
use Rattle.cb_waits.proofs.Following.{Followed}
use Rattle.cb_waits.proofs.view.View.follow.Given as goal

abbrev pub invariant-loop-place : goal.invariant-loop-place
invariant-loop-place l = record {
  followed : Followed l.initial.self l.queue.asks l.fn.held_up_by l.place l.self;
  ahead : (other : ℕ) → has l.ahead other ≡ has_ask other (take l.place l.queue.asks);
  row : (other : ℕ) → has l.waited_for other ≡ waited_for (has l.fn.held_up_by) (take l.place l.queue.asks) other;
}
