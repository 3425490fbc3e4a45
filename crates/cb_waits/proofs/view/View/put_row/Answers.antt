-- Goals of `View::put_row`.
use Rattle.std.proofs.Common.{rules}
use Rattle.cb_waits.proofs.view.View.put_row.Goals as goal

pub returns-clause-row : goal.returns-clause-row
returns-clause-row c = search rules
