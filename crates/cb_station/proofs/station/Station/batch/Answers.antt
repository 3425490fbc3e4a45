-- Goals of `Station::batch`.
use Rattle.std.proofs.Common.{rules}
use Rattle.cb_station.proofs.station.Station.batch.Goals as goal

pub returns-clause-batch : goal.returns-clause-batch
returns-clause-batch c = search rules
