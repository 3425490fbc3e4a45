-- What holds at each turn of the loops of `use_all`.
use Rattle.std.proofs.Common.{◌≡◌, length}
use Rattle.cb_layer_tests.proofs.client.locks.use_all.Given as goal

-- there are as many pages, and the transaction is the same
abbrev pub invariant-loop-page : goal.invariant-loop-page
invariant-loop-page l = (length l.locks.locked ≡ length l.initial.locks.locked) × (l.locks.txn ≡ l.initial.locks.txn)
