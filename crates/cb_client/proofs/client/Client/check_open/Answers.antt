-- Goals of `Client::check_open`.
use Rattle.cb_client.proofs.Refusals.{open_committing, open_free}
use Rattle.cb_client.proofs.client.Client.check_open.Goals as goal

pub returns-in-Open-clause-causes : goal.returns-in-Open-clause-causes
returns-in-Open-clause-causes g c = rw (← c.self.view_is) (open_free _ c.self.invariant c.in-Open.is)

pub returns-in-Committing-clause-causes : goal.returns-in-Committing-clause-causes
returns-in-Committing-clause-causes g c = rw (← c.self.view_is) (open_committing _ c.self.invariant c.in-Committing.is)
