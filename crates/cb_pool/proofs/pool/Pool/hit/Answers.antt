-- Goals of `Pool::hit`.
use Rattle.std.proofs.Common.{rules, ◌≡◌, ◌∙◌, ap, sym, Bool, List, [], ◌∷◌, ◌++◌, true, None, slice_index_or}
use Rattle.std.specs.Option.{is_some}
use Rattle.cb_twoq.specs.declared.chooser.ChooserCall.TheVariants.{Reference}
use Rattle.cb_pool.proofs.Agreeing.{referred_here}
use Rattle.cb_pool.proofs.pool.Pool.hit.Goals as goal

pub invariant_of-self-2 : goal.invariant_of-self-2
invariant_of-self-2 g c =
    let here : is_some (slice_index_or c.self.inside.copies.pages c.args.page None) ≡ true = search rules in
    referred_here g.Q.Chooser _ c.self.inside.chooser c.reference-gone.new.self c.args.page c.fixed.result.now c.reference-gone.result c.self.invariant.0 c.self.invariant.1
    here c.reference-gone.ensures.ok c.reference-gone.ensures.member c.reference-gone.ensures.slots c.reference-gone.ensures.refers _
    (c.and-self-inside.ensures ∙ ap (λ (fixed : List Bool). c.self.inside.calls.items ++ (Reference c.args.page, fixed) ∷ []) (c.fixed-2.ensures ∙ sym c.fixed.ensures))
