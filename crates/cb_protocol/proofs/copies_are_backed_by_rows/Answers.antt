-- Goals of `copies_are_backed_by_rows`.
use Rattle.cb_protocol.proofs.Laws.{copies_backed, directory_kept}
use Rattle.cb_protocol.proofs.copies_are_backed_by_rows.Goals as goal

pub returns : goal.returns
returns c = record { law = copies_backed; directory = directory_kept }
