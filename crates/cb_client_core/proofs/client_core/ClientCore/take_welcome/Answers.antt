-- Goals of `ClientCore::take_welcome`.
use Rattle.cb_client_core.proofs.Taking.{welcome_keeps, welcomes}
use Rattle.cb_client_core.proofs.client_core.ClientCore.take_welcome.Goals as goal

pub returns-clause-sound : goal.returns-clause-sound
returns-clause-sound g c = welcome_keeps _ c.requires

pub returns-clause-by_table : goal.returns-clause-by_table
returns-clause-by_table g c = (welcomes _)
