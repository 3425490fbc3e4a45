-- Goals of `ClientSet::empty`.
use Rattle.cb_page.proofs.ClientBits.{has_none}
use Rattle.cb_page.proofs.client_set.ClientSet.empty.Goals as goal

pub returns : goal.returns
returns c = has_none
