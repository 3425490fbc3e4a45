-- Goals of `Station::halt`.
use Rattle.std.proofs.Common.{◌≡◌, ◌∙◌, ap, true}
use Rattle.cb_station.proofs.Telling.{as_forgotten, closed_flags, with_others}
use Rattle.cb_station.specs.Stations.{StationState}
use Rattle.cb_station.proofs.Holding.{holds_told}
use Rattle.cb_station.proofs.station.Station.halt.Goals as goal

pub invariant_of-self : goal.invariant_of-self
invariant_of-self c =
    let closed : c.self.inside.flags.closed ≡ true = ap (λ (s : StationState). s.flags.closed) (c.self.view_is ∙ c.close.ensures) in (
      with_others c.self.inside.dispatcher c.self.inside.hands c.self.inside.history.items c.self.inside.flags c.self.invariant.0 c.notice_all.new.self _ _ c.notice_all.ensures.rest (closed_flags _ closed),
      as_forgotten c.self.inside.dispatcher c.notice_all.new.self _ c.self.inside.history.forgotten c.notice_all.ensures.rest c.self.invariant.1,
      holds_told c.self.inside.dispatcher c.notice_all.new.self _ c.self.inside.hands c.notice_all.ensures.rest c.self.invariant.2,
    )
