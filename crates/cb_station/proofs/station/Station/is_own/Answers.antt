-- Goals of `Station::is_own`.
use Rattle.std.proofs.Common.{rules}
use Rattle.cb_station.proofs.station.Station.is_own.Goals as goal

pub returns-then-fits : goal.returns-then-fits
returns-then-fits c = (
  λ t. record {
    held = c.requires.0 t;
    client = search rules;
    incarnation = search rules;
    fits = search rules;
  },
  λ own. c.requires.1 own.held,
)
