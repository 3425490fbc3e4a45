-- Goals of `Asks::new`.
use Rattle.std.proofs.Common.{arith}
use Rattle.cb_asks.proofs.Calls.{new_is}
use Rattle.cb_asks.proofs.Maps.{none_used}
use Rattle.cb_asks.proofs.asks.Asks.new.Goals as goal

pub invariant_of-result : goal.invariant_of-result
invariant_of-result c = (
  new_is c.in_ok-empty_queues.field-0.items c.new.result
      (let count = c.in_ok-empty_queues.ensures.0 in let pages = c.pages.ensures.value in let most = c.pages.ensures.in_range.pages in omega arith)
      c.in_ok-empty_queues.ensures.1 c.new.ensures,
  none_used c.in_ok-empty_queues.field-0.items c.in_ok-new.field-0 c.in_ok-empty_queues.ensures.1 c.in_ok-new.ensures,
)
