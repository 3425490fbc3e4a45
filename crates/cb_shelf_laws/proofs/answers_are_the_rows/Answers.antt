-- Goals of `answers_are_the_rows`.
use Rattle.cb_shelf_laws.proofs.Answering.{answered_rows}
use Rattle.cb_shelf_laws.proofs.answers_are_the_rows.Goals as goal

pub returns : goal.returns
returns c = record { law = answered_rows }
