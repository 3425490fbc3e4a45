-- What holds at each turn of the loops of `none_done`.
use Rattle.std.proofs.Common.{◌≡◌, false, replicate}
use Rattle.cb_office.proofs.tally.none_done.Given as goal

-- so many rows were made
abbrev pub invariant-loop-client : goal.invariant-loop-client
invariant-loop-client l = l.made.items ≡ replicate l._client (replicate l.jobs false)
