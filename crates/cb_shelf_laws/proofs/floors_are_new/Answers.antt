-- Goals of `floors_are_new`.
use Rattle.cb_shelf_laws.proofs.LivesAfterStops.{floors_are_new as are_new}
use Rattle.cb_shelf_laws.proofs.floors_are_new.Goals as goal

pub returns : goal.returns
returns g c = record { law = are_new g.S.Store }
