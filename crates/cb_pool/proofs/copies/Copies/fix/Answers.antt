-- Goals of `Copies::fix`.
use Rattle.std.proofs.Common.{◌≡◌, ◌<◌, ◌+◌, ◌&&◌, length, ap, arith}
use Rattle.cb_page.specs.Flags as flags
use Rattle.cb_page.specs.Counting.{bit}
use Rattle.cb_pool.specs.CopiesState.{CopiesState}
use Rattle.cb_pool.proofs.Counted.{here, some_fixed, at_most, counted_fix}
use Rattle.cb_pool.proofs.copies.Copies.fix.Goals as goal

pub recount-self-inside-requires-clause-some : goal.recount-self-inside-requires-clause-some
recount-self-inside-requires-clause-some c =
    let lt : c.args.page < length c.self.inside.pages.items = let f = ap (λ (v : CopiesState). length v.fixed) c.self.view_is in let g = c.self.invariant.flags in let r = c.requires in omega arith in
    rw (c.both-was.ensures, c.is_here-here.ensures, c.contains.ensures) (some_fixed _ _ _ _ c.self.invariant c.args.page lt)

pub recount-self-inside-requires-clause-most : goal.recount-self-inside-requires-clause-most
recount-self-inside-requires-clause-most c = (at_most _ _ _ _ c.self.invariant (omega arith)).1

pub invariant_of-self : goal.invariant_of-self
invariant_of-self c =
    let lt : c.args.page < length c.self.inside.pages.items = let f = ap (λ (v : CopiesState). length v.fixed) c.self.view_is in let g = c.self.invariant.flags in let r = c.requires in omega arith in
    let e : c.recount-self-inside.result + bit (here c.self.inside.pages.items c.args.page && flags.has c.self.inside.fixed c.args.page) ≡ c.self.inside.here_fixed + bit (here c.self.inside.pages.items c.args.page) =
    rw (← c.contains.ensures, ← c.is_here-here.ensures, ← c.both-was.ensures) c.recount-self-inside.ensures in
    rw c.insert.ensures (counted_fix _ _ _ _ c.self.invariant c.args.page _ lt e)
