-- Goals of `each_done_names_its_commit`.
use Rattle.cb_protocol.proofs.Laws.{dones_name_commits, dones_on_disk}
use Rattle.cb_protocol.proofs.each_done_names_its_commit.Goals as goal

pub returns : goal.returns
returns c = record { law = dones_name_commits; on_disk = dones_on_disk }
