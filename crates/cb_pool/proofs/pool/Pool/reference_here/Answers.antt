-- Goals of `Pool::reference_here`.
use Rattle.cb_pool.proofs.Agreeing.{referred_here}
use Rattle.cb_pool.proofs.pool.Pool.reference_here.Goals as goal

pub invariant_of-self : goal.invariant_of-self
invariant_of-self g c =
    referred_here g.Q.Chooser _ c.self.inside.chooser c.reference-gone.new.self c.args.page c.fixed-fixed.result.now c.reference-gone.result c.self.invariant.0 c.self.invariant.1
    (rw (← c.self.view_is) at c.requires) c.reference-gone.ensures.ok c.reference-gone.ensures.member c.reference-gone.ensures.slots c.reference-gone.ensures.refers _ c.and-self-inside.ensures
