-- Goals of `Spare::new`.
use Rattle.std.proofs.Common.{arith, rules}
use Rattle.std.proofs.lemmas.Grind.{common_steps}
use Rattle.cb_asks.proofs.spare.Spare.new.Goals as goal

pub loop-init : goal.loop-init
loop-init c = search rules

pub push_reserved-requires : goal.push_reserved-requires
push_reserved-requires c = search rules

pub loop-preserved : goal.loop-preserved
loop-preserved c = grind (arith, common_steps)

pub invariant_of-result : goal.invariant_of-result
invariant_of-result c = search rules

pub returns : goal.returns
returns c = search rules
