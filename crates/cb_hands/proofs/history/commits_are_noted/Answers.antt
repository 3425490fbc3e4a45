-- Goals of `commits_are_noted`.
use Rattle.cb_hands.proofs.Noting.{new_server_is_noted, no_other_changes, noted_commit_follows}
use Rattle.cb_hands.proofs.history.commits_are_noted.Goals as goal

pub returns : goal.returns
returns c = record { opens = new_server_is_noted; commit = noted_commit_follows; others = no_other_changes }
