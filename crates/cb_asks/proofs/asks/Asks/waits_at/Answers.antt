-- Goals of `Asks::waits_at`.
use Rattle.cb_asks.proofs.Steps.{if_within, one_ask, waits_below}
use Rattle.cb_asks.proofs.asks.Asks.waits_at.Goals as goal

pub returns-clause-page : goal.returns-clause-page
returns-clause-page c = rw (← c.self.view_is) (if_within _ c.self.invariant.0 c.args.client _ c.get.ensures)

pub returns-clause-waits : goal.returns-clause-waits
returns-clause-waits c = rw (← c.self.view_is, c.get.ensures) (λ server h. waits_below server _ h c.self.invariant.0 c.args.client)

pub returns-clause-one_ask : goal.returns-clause-one_ask
returns-clause-one_ask c = rw (← c.self.view_is) (one_ask _ c.self.invariant.0)
