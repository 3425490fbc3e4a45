-- Goals of `Worker::hand_frame_in`.
use Rattle.std.proofs.Common.{ℕ, Result, refl, subst}
use Rattle.cb_frame.specs.declared.frame.Frame.{Frame}
use Rattle.cb_station.specs.Calls.{Committed}
use Rattle.cb_station.specs.Commits.{answer_of}
use Rattle.cb_station.specs.declared.office_fault.OfficeFault.{OfficeFault}
use Rattle.cb_worker.proofs.worker.Worker.hand_frame_in.Goals as goal

pub returns-in-Ok-clause-hands : goal.returns-in-Ok-clause-hands
returns-in-Ok-clause-hands g c =
    record {
      reads = c.locked-reads.result.now;
      locked = rw (← c.self.view_is) c.locked-reads.ensures;
      committed = rw (← c.self.view_is) c.in-Ok.ensures.committed;
      rest = rw (← c.self.view_is) refl;
    }

pub returns-clause-hands : goal.returns-clause-hands
returns-clause-hands g c =
    rw c.fault_of.ensures (record {
      reads = c.locked-reads.result.now;
      locked = rw (← c.self.view_is) c.locked-reads.ensures;
      committed = rw (← c.self.view_is) c.in-Err.ensures.committed;
      rest = rw (← c.self.view_is) refl;
    })
