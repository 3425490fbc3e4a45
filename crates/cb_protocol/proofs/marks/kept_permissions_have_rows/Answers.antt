-- Goals of `kept_permissions_have_rows`.
use Rattle.cb_protocol.proofs.Permissions.{kept_holders_have_rows, kept_holds_up}
use Rattle.cb_protocol.proofs.marks.kept_permissions_have_rows.Goals as goal

pub returns : goal.returns
returns c = record { rows = kept_holders_have_rows; holds_up = kept_holds_up }
