-- Goals of `clients_are_told_the_truth`.
use Rattle.cb_laws.proofs.AccountsKept.{told_the_truth}
use Rattle.cb_laws.proofs.OutcomesNamed.{outcomes_name_transactions}
use Rattle.cb_laws.proofs.clients_are_told_the_truth.Goals as goal

pub returns : goal.returns
returns c = record { names = outcomes_name_transactions; told = told_the_truth }
