-- Goals of `Client::last_drop`.
use Rattle.std.proofs.Common.{refl}
use Rattle.cb_client.proofs.SayingAgain.{has_dropped}
use Rattle.cb_client.proofs.client.Client.last_drop.Goals as goal

pub unreachable-requires : goal.unreachable-requires
unreachable-requires g c = has_dropped _ c.self.invariant (rw (← c.self.view_is) at c.requires) (rw c.in_default.is refl)
