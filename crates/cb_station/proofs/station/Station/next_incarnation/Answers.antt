-- Goals of `Station::next_incarnation`.
use Rattle.std.proofs.Common.{rules}
use Rattle.cb_station.proofs.station.Station.next_incarnation.Goals as goal

pub returns-in-None-clause-ok : goal.returns-in-None-clause-ok
returns-in-None-clause-ok c = search rules
