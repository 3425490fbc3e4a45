-- Goals of `Callbacks::reserve_ask`.
use Rattle.std.proofs.Common.{rules}
use Rattle.cb_callbacks.proofs.Page.{kept_reserved}
use Rattle.cb_callbacks.proofs.callbacks.Callbacks.reserve_ask.Goals as goal

pub invariant_of-self : goal.invariant_of-self
invariant_of-self c = kept_reserved c.self.inside.state c.self.inside.view c.reserve.new.self c.self.invariant c.reserve.ensures.reserves.has

pub returns-clause-ok : goal.returns-clause-ok
returns-clause-ok c = search rules

pub returns-clause-err : goal.returns-clause-err
returns-clause-err c = search rules

pub returns-clause-full : goal.returns-clause-full
returns-clause-full c = search rules
