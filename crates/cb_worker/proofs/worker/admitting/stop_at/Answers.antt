-- Goals of `stop_at`.
use Rattle.cb_worker.proofs.worker.admitting.stop_at.Goals as goal

pub returns : goal.returns
returns c = (c.stop_waiting.new.self, record { gives_up = c.stop_waiting.ensures.gives_up; rest = c.stop_waiting.ensures.rest; next = c.stop_waiting.ensures.next }, c.tell.ensures)
