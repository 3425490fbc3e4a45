-- What holds at each turn of the loops of `store_on_disk`.
use Rattle.std.proofs.Common.{◌≡◌, take}
use Rattle.cb_schedule.proofs.DiskStores.{replayed}
use Rattle.cb_schedule.proofs.life.store_on_disk.Given as goal

abbrev pub invariant-loop-commit : goal.invariant-loop-commit
invariant-loop-commit l = l.written ≡ replayed l.opening (take l.commit-index l.commits)
