-- Goals of `ClientCore::take_may_write`.
use Rattle.std.proofs.Common.{rules}
use Rattle.cb_client_core.proofs.Taking.{may_write_ignored, may_write_keeps, may_write_taken}
use Rattle.cb_client_core.proofs.client_core.ClientCore.take_may_write.Goals as goal

pub returns-then-not-answers_ask-clause-by_table : goal.returns-then-not-answers_ask-clause-by_table
returns-then-not-answers_ask-clause-by_table g c = may_write_ignored _ c.args.txn c.args.page c.args.grant c.requires.welcomed (search rules)

pub returns-clause-sound : goal.returns-clause-sound
returns-clause-sound g c = may_write_keeps _ c.args.txn c.args.page c.args.grant _ c.requires.sound (search rules) c.requires.fits (search rules) (c.take_permission.ensures.by_table)

pub returns-clause-by_table : goal.returns-clause-by_table
returns-clause-by_table g c = (may_write_taken _ c.args.txn c.args.page c.args.grant _ (search rules) (search rules) (c.take_permission.ensures.by_table))
