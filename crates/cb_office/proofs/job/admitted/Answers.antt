-- Goals of `admitted`.
use Rattle.std.proofs.Common.{◌≡◌}
use Rattle.cb_office.proofs.JobCounts.{if_ended_since}
use Rattle.cb_worker.specs.Workers.{last_txn}
use Rattle.cb_office.proofs.job.admitted.Goals as goal

pub returns : goal.returns
returns g c =
    let same : last_txn c.enter_next.new.worker.client ≡ last_txn c.args.worker.now.client = c.enter_next.ensures.txn in
    if_ended_since c.args.client c.try_job-tried.result c.args.worker.now c.enter_next.new.worker c.try_job-tried.new.worker same c.try_job-tried.ensures
