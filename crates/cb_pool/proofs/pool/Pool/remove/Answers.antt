-- Goals of `Pool::remove`.
use Rattle.std.proofs.Common.{◌<◌, length, rules, ap}
use Rattle.cb_pool.specs.PoolState.{PoolState}
use Rattle.cb_twoq.proofs.Called.{led_on}
use Rattle.cb_pool.proofs.Agreeing.{recorded, removed}
use Rattle.cb_pool.proofs.pool.Pool.remove.Goals as goal

pub invariant_of-self : goal.invariant_of-self
invariant_of-self g c =
    let below : c.args.page < length c.self.inside.copies.fixed = rw (ap (λ (v : PoolState). length v.fixed) c.self.view_is) c.requires in (
      rw c.put.ensures (recorded _ _ _ _ (removed _ _ _ _ _ c.args.page c.self.invariant.0 c.forget.ensures.slots below c.forget.ensures.forgets)),
      rw c.and-self-inside.ensures (led_on g.Q.Chooser _ _ _ _ _ c.self.invariant.1 c.forget.ensures.takes_out),
    )

pub returns : goal.returns
returns g c = search rules
