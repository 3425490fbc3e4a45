-- Goals of `Queue::mark_called_back`.
use Rattle.std.proofs.Common.{ap, ◌∙◌}
use Rattle.cb_protocol.specs.Server.{set_called_back}
use Rattle.cb_asks.proofs.Entries.{first_called}
use Rattle.cb_asks.proofs.Maps.{asks_read, some_left}
use Rattle.cb_asks.proofs.queue.Queue.mark_called_back.Goals as goal

pub returns-clause-asks : goal.returns-clause-asks
returns-clause-asks c = rw (← c.self.view_is) (first_called c.deref_mut.result.now.entries c.in-Some-first_mut.entry.now c.in-Some-first_mut.ensures.value
    ∙ ap set_called_back (asks_read _ _ _ c.in-Some.is c.deref_mut.ensures.value))

pub invariant_of-self-2 : goal.invariant_of-self-2
invariant_of-self-2 c = some_left c.deref_mut.result.now.entries c.in-Some-first_mut.entry.now _ c.in-Some-first_mut.ensures.value
