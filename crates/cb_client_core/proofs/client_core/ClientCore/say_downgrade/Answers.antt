-- Goals of `ClientCore::say_downgrade`.
use Rattle.std.proofs.Common.{rules}
use Rattle.cb_client_core.proofs.Taking.{downgrade_ignored}
use Rattle.cb_client_core.proofs.client_core.ClientCore.say_downgrade.Goals as goal

pub returns-then-not-keep_write-clause-ok : goal.returns-then-not-keep_write-clause-ok
returns-then-not-keep_write-clause-ok g c = rw c.new.ensures.items (downgrade_ignored _ c.args.page c.args.grant c.args.tag c.requires.welcomed (search rules))
