-- What holds at each turn of the loops of `run_job`.
use Rattle.std.proofs.Common.{◌≤◌}
use Rattle.cb_worker.specs.Workers.{last_txn}
use Rattle.cb_office.proofs.job.run_job.Given as goal

-- the last transaction is no earlier one
abbrev pub invariant-loop : goal.invariant-loop
invariant-loop g l =
    (goal.iterator-loop g).can_next l.iterator' × (goal.iterator-loop g).is_finite l.iterator'
    × (last_txn l.fn.worker.client ≤ last_txn l.worker.client)
