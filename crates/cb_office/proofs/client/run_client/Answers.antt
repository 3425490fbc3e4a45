-- Goals of `run_client`.
use Rattle.cb_office.proofs.Leaving.{ends_so}
use Rattle.cb_office.proofs.client.run_client.Goals as goal

pub returns : goal.returns
returns g c = ends_so _ _ c.args.client c.join_and_work-worked.result c.end_part.result c.join_and_work-worked.ensures.office c.join_and_work-worked.ensures.client c.end_part.ensures
