-- Goals of `lives_follow`.
use Rattle.cb_shelf_laws.proofs.Lives.{follows, unlived_follows}
use Rattle.cb_shelf_laws.proofs.lives_follow.Goals as goal

pub returns-clause-follow : goal.returns-clause-follow
returns-clause-follow c = follows

pub returns-clause-unlived : goal.returns-clause-unlived
returns-clause-unlived c = unlived_follows
