-- Goals of `Limits::new`.
use Rattle.std.proofs.Common.{rules, arith}
use Rattle.std.proofs.lemmas.Grind.{common_steps}
use Rattle.cb_page.proofs.limits.Limits.new.Goals as goal

pub returns-then-is_outside-2-clause-fault : goal.returns-then-is_outside-2-clause-fault
returns-then-is_outside-2-clause-fault c = search rules

pub returns-then-is_outside-3-clause-fault : goal.returns-then-is_outside-3-clause-fault
returns-then-is_outside-3-clause-fault c = search rules

pub returns-then-is_outside-4-clause-fault : goal.returns-then-is_outside-4-clause-fault
returns-then-is_outside-4-clause-fault c = search rules

pub returns-then-is_outside-5-clause-fault : goal.returns-then-is_outside-5-clause-fault
returns-then-is_outside-5-clause-fault c = search rules

pub returns-then-is_outside-6-clause-fault : goal.returns-then-is_outside-6-clause-fault
returns-then-is_outside-6-clause-fault c = search rules

pub invariant_of-result : goal.invariant_of-result
invariant_of-result c = grind (arith, common_steps)

pub returns-clause-in_range : goal.returns-clause-in_range
returns-clause-in_range c = grind (arith, common_steps)

pub returns-clause-succeeds : goal.returns-clause-succeeds
returns-clause-succeeds c = search rules
