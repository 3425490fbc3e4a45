-- Goals of `Client::peek`.
use Rattle.cb_client.proofs.CallSteps.{peeks}
use Rattle.cb_client.proofs.client.Client.peek.Goals as goal

pub returns : goal.returns
returns g c = rw (← c.self.view_is) (peeks _ c.args.page _ c.peek.ensures.bytes)
