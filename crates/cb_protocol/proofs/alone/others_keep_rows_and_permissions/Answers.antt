-- Goals of `others_keep_rows_and_permissions`.
use Rattle.cb_protocol.proofs.OthersKeep.{others_keep_rows_and_permissions}
use Rattle.cb_protocol.proofs.alone.others_keep_rows_and_permissions.Goals as goal

pub returns : goal.returns
returns c = record { law = others_keep_rows_and_permissions }
