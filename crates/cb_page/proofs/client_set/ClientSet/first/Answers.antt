-- Goals of `ClientSet::first`.
use Rattle.std.proofs.Common.{rules}
use Rattle.cb_page.proofs.ClientBits.{has_none, least}
use Rattle.cb_page.proofs.client_set.ClientSet.first.Goals as goal

pub returns-then-self-eq0 : goal.returns-then-self-eq0
returns-then-self-eq0 c = rw (← c.self.view_is, c.if-self-eq0.true) has_none

pub returns-else-self-eq0 : goal.returns-else-self-eq0
returns-else-self-eq0 c = rw (← c.self.view_is, c.new.ensures) (least c.self.inside.bits (search rules) (search rules)).1
