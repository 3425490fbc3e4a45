-- Goals of `ClientSet::insert`.
use Rattle.std.proofs.Common.{arith}
use Rattle.cb_page.proofs.ClientBits.{grows, has_insert}
use Rattle.cb_page.proofs.client_set.ClientSet.insert.Goals as goal

pub returns : goal.returns
returns c = rw (← c.self.view_is, c.get.ensures.value) (record {
  members = λ other. has_insert c.self.inside.bits c.args.client other (omega (arith, c.get.ensures));
  grows = λ out. let more = grows c.self.inside.bits c.args.client (omega (arith, c.get.ensures)) out in omega (arith, c.self.invariant);
})
