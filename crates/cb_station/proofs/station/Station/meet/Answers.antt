-- Goals of `Station::meet`.
use Rattle.std.proofs.Common.{rules}
use Rattle.cb_station.proofs.Calls.{meets}
use Rattle.cb_station.proofs.station.Station.meet.Goals as goal

pub returns-then-ne-clause-met : goal.returns-then-ne-clause-met
returns-then-ne-clause-met c = meets c.args.self.now c.args.one.now c.args.other.now c.history-known.ensures.sound (search rules) (search rules) (search rules)
