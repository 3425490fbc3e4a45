-- Goals of `join_at`.
use Rattle.cb_worker.proofs.worker.joining.join_at.Goals as goal

pub returns : goal.returns
returns c = (c.join-joined.new.self, c.join-joined.ensures, c.tell.ensures)
