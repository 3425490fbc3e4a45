-- Goals of `tables_follow_commits`.
use Rattle.cb_shelf.proofs.Following.{tables_follow}
use Rattle.cb_shelf.proofs.laws.tables_follow_commits.Goals as goal

pub returns : goal.returns
returns c = record { law = tables_follow }
