-- Goals of `hellos_alone_are_known`.
use Rattle.cb_server.proofs.Knowing.{knows_after, knows_floor}
use Rattle.cb_server.proofs.laws.hellos_alone_are_known.Goals as goal

pub returns : goal.returns
returns c = record { known = knows_after; resumed = knows_floor }
