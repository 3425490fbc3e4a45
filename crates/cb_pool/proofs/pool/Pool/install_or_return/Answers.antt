-- Goals of `Pool::install_or_return`.
use Rattle.std.proofs.Common.{◌≡◌, ◌<◌, length, ap, sym, subst, ◌∙◌}
use Rattle.cb_twoq.specs.Law.{Chooses}
use Rattle.cb_twoq.proofs.Called.{led_on}
use Rattle.cb_pool.specs.PoolState.{PoolState}
use Rattle.cb_pool.proofs.Agreeing.{gone_within, installed, recorded}
use Rattle.cb_pool.proofs.pool.Pool.install_or_return.Goals as goal

pub place-requires-clause-gone : goal.place-requires-clause-gone
place-requires-clause-gone g c =
    let chosen = subst (λ f. Chooses (g.Q.Chooser.slots c.self.inside.chooser) f (g.Q.Chooser.members c.self.inside.chooser) c.args.page c.in-Ok.gone (g.Q.Chooser.members c.reference.new.self)) c.fixed.ensures c.in-Ok.ensures.ok in
    gone_within _ _ _ _ c.args.page c.self.invariant.0 c.in-Ok.gone chosen

pub invariant_of-self : goal.invariant_of-self
invariant_of-self g c =
    let below : c.args.page < length c.self.inside.copies.fixed = rw (ap (λ (v : PoolState). length v.fixed) c.self.view_is) c.requires.below in
    let long : length c.args.bytes ≡ c.self.inside.page_size = c.requires.size ∙ sym (ap (λ (v : PoolState). v.page_size) c.self.view_is) in
    let chosen = subst (λ f. Chooses (g.Q.Chooser.slots c.self.inside.chooser) f (g.Q.Chooser.members c.self.inside.chooser) c.args.page c.in-Ok.gone (g.Q.Chooser.members c.reference.new.self)) c.fixed.ensures c.in-Ok.ensures.ok in (
      rw c.place.ensures (recorded _ _ _ _ (installed _ _ _ _ _ c.args.page c.args.bytes c.self.invariant.0 c.reference.ensures.slots below long c.reference.ensures.within c.in-Ok.gone chosen)),
      rw (c.and-self-inside.ensures, c.fixed-in-Ok.ensures) (led_on g.Q.Chooser _ _ _ _ _ c.self.invariant.1 (c.in-Ok.gone, rw c.fixed.ensures at c.in-Ok.ensures.refers)),
    )
