-- Goals of `ClientSet::difference`.
use Rattle.std.proofs.Common.{rules}
use Rattle.cb_page.proofs.ClientBits.{has_difference}
use Rattle.cb_page.proofs.client_set.ClientSet.difference.Goals as goal

pub returns : goal.returns
returns c = rw (← c.self.view_is, ← c.other.view_is) (λ client. has_difference c.self.inside.bits c.other.inside.bits client (search rules) (search rules))
