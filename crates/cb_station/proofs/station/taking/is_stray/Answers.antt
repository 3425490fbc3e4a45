-- Goals of `is_stray`.
use Rattle.std.proofs.Common.{rules}
use Rattle.cb_station.proofs.station.taking.is_stray.Goals as goal

pub returns-in-Some : goal.returns-in-Some
returns-in-Some c = search rules
