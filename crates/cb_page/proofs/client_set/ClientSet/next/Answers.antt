-- Goals of `ClientSet::next`.
use Rattle.std.proofs.Common.{rules, arith, ◌∙◌, ap, sym}
use Rattle.cb_page.proofs.ClientBits.{next_there, none_from, none_past}
use Rattle.cb_page.proofs.client_set.ClientSet.next.Goals as goal

pub returns-then-from-ge32 : goal.returns-then-from-ge32
returns-then-from-ge32 c = rw (← c.self.view_is) (none_past c.self.inside.bits c.args.from c.self.invariant (omega (arith, c.if-from-ge32.true)))

pub new-requires : goal.new-requires
new-requires c = (next_there c.self.inside.bits c.args.from c.self.invariant (omega (arith, c.if-from-ge32.false)) (omega (arith, c.if-rest-eq0.false))).0

pub returns-then-rest-eq0 : goal.returns-then-rest-eq0
returns-then-rest-eq0 c = rw (← c.self.view_is) (none_from c.self.inside.bits c.args.from c.if-rest-eq0.true)

pub returns-else-rest-eq0 : goal.returns-else-rest-eq0
returns-else-rest-eq0 c = rw (← c.self.view_is, c.new.ensures) (next_there c.self.inside.bits c.args.from c.self.invariant (omega (arith, c.if-from-ge32.false)) (omega (arith, c.if-rest-eq0.false))).1
