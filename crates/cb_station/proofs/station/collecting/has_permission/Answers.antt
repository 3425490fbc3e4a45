-- Goals of `has_permission`.
use Rattle.std.proofs.Common.{rules}
use Rattle.cb_station.proofs.station.collecting.has_permission.Goals as goal

pub returns-in-Ended : goal.returns-in-Ended
returns-in-Ended c = search rules
