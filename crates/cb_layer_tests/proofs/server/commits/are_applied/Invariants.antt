-- What holds at each turn of the loops of `are_applied`.
use Rattle.cb_commit.specs.Stores.{IsOf}
use Rattle.cb_layer_tests.proofs.server.commits.are_applied.Given as goal

abbrev pub invariant-loop-number : goal.invariant-loop-number
invariant-loop-number l = IsOf l.limits l.commits.store
