-- Goals of `ClientSet::union`.
use Rattle.cb_page.proofs.ClientBits.{has_union}
use Rattle.cb_page.proofs.client_set.ClientSet.union.Goals as goal

pub returns : goal.returns
returns c = rw (← c.self.view_is, ← c.other.view_is) (has_union c.self.inside.bits c.other.inside.bits)
