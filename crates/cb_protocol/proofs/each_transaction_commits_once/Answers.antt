-- Goals of `each_transaction_commits_once`.
use Rattle.cb_protocol.proofs.Laws.{commits_once}
use Rattle.cb_protocol.proofs.each_transaction_commits_once.Goals as goal

pub returns : goal.returns
returns c = record { law = commits_once }
