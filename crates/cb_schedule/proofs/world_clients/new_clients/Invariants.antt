-- What holds at each turn of the loops of `new_clients`.
use Rattle.std.proofs.Common.{◌≡◌}
use Rattle.cb_schedule.specs.WorldClientsState.{first_clients}
use Rattle.cb_schedule.proofs.world_clients.new_clients.Given as goal

-- those of the numbers so far
abbrev pub invariant-loop-number : goal.invariant-loop-number
invariant-loop-number g l = l.clients.items ≡ first_clients l.limits l.number
