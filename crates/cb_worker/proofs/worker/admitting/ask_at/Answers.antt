-- Goals of `ask_at`.
use Rattle.cb_worker.proofs.worker.admitting.ask_at.Goals as goal

pub returns : goal.returns
returns c = (c.admit-ticket.new.self, (record { exact = c.admit-ticket.ensures.exact; through = c.admit-ticket.ensures.after; rest = c.admit-ticket.ensures.rest }, c.admit-ticket.ensures.next), c.tell.ensures)
