-- Goals of `ClientCore::receive`.
use Rattle.std.proofs.Common.{◌∙◌, [], sym}
use Rattle.cb_client_core.specs.Parts.{client_in}
use Rattle.cb_client_core.proofs.Frames.{commit_ignored}
use Rattle.cb_client_core.proofs.Room.{commit_room}
use Rattle.cb_client_core.proofs.client_core.ClientCore.receive.Goals as goal

pub returns-in-Commit-clause-receives : goal.returns-in-Commit-clause-receives
returns-in-Commit-clause-receives g c = rw c.in-Commit.is (
  rw c.new.ensures.items (commit_ignored (client_in c.args.self.now) _ _),
  c.new.ensures.capacity ∙ sym (commit_room (client_in c.args.self.now) 0 []),
)

pub returns-in-Granted-clause-none : goal.returns-in-Granted-clause-none
returns-in-Granted-clause-none g c = rw c.in-Granted.is (c.receive_granted.ensures.none [])
