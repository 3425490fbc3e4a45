-- Goals of `Copies::has_loose`.
use Rattle.std.proofs.Common.{◌<◌, arith}
use Rattle.std.proofs.lemmas.Grind.{common_steps}
use Rattle.cb_pool.proofs.Counted.{finds_loose, counts_loose}
use Rattle.cb_pool.proofs.copies.Copies.has_loose.Goals as goal

pub returns : goal.returns
returns c = rw (← c.self.view_is) (
  (λ t. let lt : c.self.inside.here_fixed < c.self.inside.here = grind (arith, common_steps) in finds_loose c.self.inside.pages.items c.self.inside.fixed c.self.invariant.flags (let a = c.self.invariant.here_is in let b = c.self.invariant.here_fixed_is in omega arith)),
  (λ h. let lt = counts_loose c.self.inside.pages.items c.self.inside.fixed h.0 h.1 h.2 c.self.invariant.flags in let a = c.self.invariant.here_is in let b = c.self.invariant.here_fixed_is in let less : c.self.inside.here_fixed < c.self.inside.here = omega arith in grind (arith, common_steps)),
)
