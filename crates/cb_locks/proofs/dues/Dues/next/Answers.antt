-- Goals of `Dues::next`.
use Rattle.cb_locks.proofs.Counted.{next_due}
use Rattle.cb_locks.proofs.dues.Dues.next.Goals as goal

pub returns : goal.returns
returns c = rw (← c.self.view_is) (next_due c.self.inside.entries.items c.self.inside.pages c.args.from c.next.result c.self.invariant.flags_are c.next.ensures)
