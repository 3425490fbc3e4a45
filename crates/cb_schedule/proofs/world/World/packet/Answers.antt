-- Goals of `World::packet`.
use Rattle.std.proofs.Common.{rules}
use Rattle.cb_schedule.proofs.world.World.packet.Goals as goal

pub returns-clause-bytes : goal.returns-clause-bytes
returns-clause-bytes g c = search rules
