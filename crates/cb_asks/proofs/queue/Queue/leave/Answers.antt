-- Goals of `Queue::leave`.
use Rattle.std.proofs.Common.{arith, rules}
use Rattle.std.proofs.lemmas.Grind.{common_steps}
use Rattle.cb_asks.proofs.queue.Queue.leave.Goals as goal

pub close-requires-clause-some : goal.close-requires-clause-some
close-requires-clause-some c = search rules

pub close-requires-clause-few : goal.close-requires-clause-few
close-requires-clause-few c = search rules

pub returns-then-len-eq1-clause-first : goal.returns-then-len-eq1-clause-first
returns-then-len-eq1-clause-first c = search rules

pub returns-then-len-eq1-clause-asks : goal.returns-then-len-eq1-clause-asks
returns-then-len-eq1-clause-asks c = grind (arith, common_steps)

pub returns-then-len-eq1-clause-maps : goal.returns-then-len-eq1-clause-maps
returns-then-len-eq1-clause-maps c = search rules

pub returns-in_default-clause-first : goal.returns-in_default-clause-first
returns-in_default-clause-first c = search rules

pub invariant_of-self-in_err-key : goal.invariant_of-self-in_err-key
invariant_of-self-in_err-key c = search rules

pub returns-in_err-key-clause-first : goal.returns-in_err-key-clause-first
returns-in_err-key-clause-first c = search rules

pub returns-in_err-key-clause-asks : goal.returns-in_err-key-clause-asks
returns-in_err-key-clause-asks c = search rules

pub returns-in_err-key-clause-room : goal.returns-in_err-key-clause-room
returns-in_err-key-clause-room c = search rules

pub returns-in_err-key-clause-maps : goal.returns-in_err-key-clause-maps
returns-in_err-key-clause-maps c = search rules

pub invariant_of-self-2 : goal.invariant_of-self-2
invariant_of-self-2 c = grind (arith, common_steps)

pub returns-clause-first : goal.returns-clause-first
returns-clause-first c = search rules

pub returns-clause-asks : goal.returns-clause-asks
returns-clause-asks c = search rules

pub returns-clause-room : goal.returns-clause-room
returns-clause-room c = search rules

pub returns-clause-maps : goal.returns-clause-maps
returns-clause-maps c = search rules
