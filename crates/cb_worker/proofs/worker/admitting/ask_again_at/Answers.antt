-- Goals of `ask_again_at`.
use Rattle.cb_worker.proofs.worker.admitting.ask_again_at.Goals as goal

pub returns : goal.returns
returns c = (c.try_again-again.new.self, (record { exact = c.try_again-again.ensures.exact; through = c.try_again-again.ensures.after; rest = c.try_again-again.ensures.rest }, c.try_again-again.ensures.next), c.tell.ensures)
