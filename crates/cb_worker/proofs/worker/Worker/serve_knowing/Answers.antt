-- Goals of `Worker::serve_knowing`.
use Rattle.std.proofs.Common.{ap, refl}
use Rattle.cb_station.specs.Stations.{StationState}
use Rattle.cb_worker.proofs.Knowing.{same_known}
use Rattle.cb_worker.proofs.worker.Worker.serve_knowing.Goals as goal

pub returns-clause-serves : goal.returns-clause-serves
returns-clause-serves g c = (c.make_turns-served.new.station, c.make_turns-served.ensures.serves, c.tell.ensures)

pub returns-clause-known : goal.returns-clause-known
returns-clause-known g c = same_known c.args.known c.make_turns-served.new.station c.tell.new.station c.make_turns-served.new.self.hand c.make_turns-served.new.self.hand (ap (λ (s : StationState). s.hands) c.tell.ensures.rest) refl c.make_turns-served.ensures.known
