-- Goals of `ClientSet::contains`.
use Rattle.cb_page.proofs.ClientBits.{has_test}
use Rattle.cb_page.proofs.client_set.ClientSet.contains.Goals as goal

pub returns : goal.returns
returns c = rw (← c.self.view_is, c.get.ensures.value) (has_test c.self.inside.bits c.args.client)
