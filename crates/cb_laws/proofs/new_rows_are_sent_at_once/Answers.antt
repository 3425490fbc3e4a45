-- Goals of `new_rows_are_sent_at_once`.
use Rattle.cb_laws.proofs.NewRows.{new_rows_are_sent}
use Rattle.cb_laws.proofs.new_rows_are_sent_at_once.Goals as goal

pub returns : goal.returns
returns c = record { law = new_rows_are_sent }
