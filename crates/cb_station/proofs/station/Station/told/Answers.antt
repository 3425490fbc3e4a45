-- Goals of `Station::told`.
use Rattle.cb_station.proofs.Telling.{as_forgotten, with_others}
use Rattle.cb_station.proofs.Holding.{holds_told}
use Rattle.cb_station.proofs.station.Station.told.Goals as goal

pub invariant_of-self : goal.invariant_of-self
invariant_of-self c = (
  with_others c.self.inside.dispatcher c.self.inside.hands c.self.inside.history.items c.self.inside.flags c.self.invariant.0 c.told.new.self _ c.self.inside.flags c.told.ensures.rest c.self.invariant.0.flags,
  as_forgotten c.self.inside.dispatcher c.told.new.self _ c.self.inside.history.forgotten c.told.ensures.rest c.self.invariant.1,
  holds_told c.self.inside.dispatcher c.told.new.self _ c.self.inside.hands c.told.ensures.rest c.self.invariant.2,
)
