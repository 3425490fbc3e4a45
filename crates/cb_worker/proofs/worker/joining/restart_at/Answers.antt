-- Goals of `restart_at`.
use Rattle.cb_worker.proofs.worker.joining.restart_at.Goals as goal

pub returns : goal.returns
returns c = (c.restart-restarted.new.self, c.restart-restarted.ensures, c.tell.ensures)
