-- Goals of `lives_keep_the_disk`.
use Rattle.cb_laws.proofs.LivesGoOn.{lives_go_on}
use Rattle.cb_laws.proofs.LivesStand.{disk_stands, events_keep, restarts_leave}
use Rattle.cb_laws.proofs.lives_keep_the_disk.Goals as goal

pub returns : goal.returns
returns c = record { restarts = restarts_leave; keeps = events_keep; for_ever = disk_stands; goes_on = lives_go_on }
