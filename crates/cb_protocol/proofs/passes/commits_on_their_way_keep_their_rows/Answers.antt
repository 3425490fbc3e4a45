-- Goals of `commits_on_their_way_keep_their_rows`.
use Rattle.cb_protocol.proofs.LockedPages.{commits_find_their_rows, commits_keep_their_rows}
use Rattle.cb_protocol.proofs.passes.commits_on_their_way_keep_their_rows.Goals as goal

pub returns : goal.returns
returns c = record { law = commits_keep_their_rows; writes = commits_find_their_rows }
