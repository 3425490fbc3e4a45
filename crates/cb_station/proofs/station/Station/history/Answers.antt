-- Goals of `Station::history`.
use Rattle.std.proofs.Common.{◌∙◌, ℕ, ap, drop, subst}
use Rattle.cb_station.specs.Stations.{IsStation, StationState, remembered}
use Rattle.cb_station.proofs.station.Station.history.Goals as goal

pub returns-clause-value : goal.returns-clause-value
returns-clause-value c =
    c.remembered.ensures.value ∙ ap (λ (n : ℕ). drop n c.self.inside.history.items) c.self.invariant.1
    ∙ ap (λ (v : StationState). remembered v) c.self.view_is

pub returns-clause-sound : goal.returns-clause-sound
returns-clause-sound c = subst (λ (v : StationState). IsStation v) c.self.view_is c.self.invariant.0
