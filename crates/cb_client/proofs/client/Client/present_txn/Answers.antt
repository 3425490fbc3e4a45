-- Goals of `Client::present_txn`.
use Rattle.std.proofs.Common.{refl}
use Rattle.cb_client.proofs.CallSteps.{has_begun}
use Rattle.cb_client.proofs.client.Client.present_txn.Goals as goal

pub unreachable-requires : goal.unreachable-requires
unreachable-requires g c = has_begun _ c.self.invariant (rw (← c.self.view_is) at c.requires) (rw c.in_default.is refl)
