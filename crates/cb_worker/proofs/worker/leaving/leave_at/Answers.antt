-- Goals of `leave_at`.
use Rattle.cb_worker.proofs.worker.leaving.leave_at.Goals as goal

pub returns : goal.returns
returns c = (c.leave-left.new.self, c.leave-left.ensures, c.tell.ensures)
