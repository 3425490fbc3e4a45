-- Goals of `lives_stay_in_range`.
use Rattle.cb_laws.proofs.LifeBegins.{ranges_give_floors}
use Rattle.cb_laws.proofs.LimitsHold.{floors_in_range, incarnations_in_range, servers_have_limits}
use Rattle.cb_laws.proofs.lives_stay_in_range.Goals as goal

pub returns : goal.returns
returns c = record { limits = servers_have_limits; incarnations = incarnations_in_range; floors = ranges_give_floors; range = floors_in_range }
