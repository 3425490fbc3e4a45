-- Goals of `ClientSet::remove`.
use Rattle.std.proofs.Common.{rules, arith}
use Rattle.cb_page.proofs.ClientBits.{has_remove}
use Rattle.cb_page.proofs.client_set.ClientSet.remove.Goals as goal

pub returns : goal.returns
returns c = rw (← c.self.view_is, c.get.ensures.value) (λ other. has_remove c.self.inside.bits c.args.client other (search rules) (omega (arith, c.get.ensures)))
