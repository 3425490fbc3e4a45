-- Goals of `run_job`.
use Rattle.cb_office.proofs.JobCounts.{aborts_since, commits_since}
use Rattle.cb_office.specs.Jobs.{CommitsJob, IsAborted}
use Rattle.cb_office.proofs.job.run_job.Goals as goal

pub returns-in-Some-2 : goal.returns-in-Some-2
returns-in-Some-2 g c =
    let commits : CommitsJob c.args.client c.in-Some-2.number c.loop.worker c.admitted.new.worker = rw c.in-Some-2.is at c.in_ok-number.ensures in
    commits_since c.args.client c.in-Some-2.number c.args.worker.now c.loop.worker c.admitted.new.worker c.loop.invariant.2 commits

pub loop-preserved : goal.loop-preserved
loop-preserved g c =
    let aborted : IsAborted c.loop.worker c.admitted.new.worker = rw c.in_default.is at c.in_ok-number.ensures in
    (tt, tt, aborts_since c.args.worker.now c.loop.worker c.admitted.new.worker c.loop.invariant.2 aborted)
