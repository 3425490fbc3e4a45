-- Goals of `Client::commit_again`.
use Rattle.std.proofs.Common.{rules}
use Rattle.cb_client.proofs.client.Client.commit_again.Goals as goal

pub returns-in_ok-commit_frame-in-Committing-clause-by_table : goal.returns-in_ok-commit_frame-in-Committing-clause-by_table
returns-in_ok-commit_frame-in-Committing-clause-by_table g c = search rules
