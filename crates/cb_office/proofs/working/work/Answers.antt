-- Goals of `work`.
use Rattle.cb_office.proofs.Leaving.{handed_on}
use Rattle.cb_office.proofs.working.work.Goals as goal

pub returns-clause-left : goal.returns-clause-left
returns-clause-left g c = handed_on c.of_client.result c.end-ended.result c.run_jobs-worked.new.worker.hand c.of_client.ensures.same c.end-ended.ensures.left c.end-ended.ensures.client
