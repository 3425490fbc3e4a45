-- What holds at each turn of the loops of `Asks::waiting_asks`.
use Rattle.std.proofs.Common.{◌≡◌, ◌≤◌, ◌-◌}
use Rattle.cb_page.specs.Clients.{has}
use Rattle.cb_asks.specs.Sums.{one_if, sum_below}
use Rattle.cb_asks.proofs.asks.Asks.waiting_asks.Given as goal

-- the clients before `from` were counted
abbrev pub invariant-loop-client : goal.invariant-loop-client
invariant-loop-client l = record {
  counted : l.asks ≡ sum_below (λ client. one_if (has l.waiting client)) l.from;
  within : l.from ≤ 32;
}

abbrev pub decreases-loop-client : goal.decreases-loop-client
decreases-loop-client l = 32 - l.from
