-- Goals of `Copies::put`.
use Rattle.std.proofs.Common.{◌≡◌, ◌<◌, ◌+◌, ◌&&◌, length, ap, arith}
use Rattle.std.specs.Option.{is_some}
use Rattle.cb_page.specs.Flags as flags
use Rattle.cb_page.specs.Counting.{bit}
use Rattle.cb_pool.specs.CopiesState.{CopiesState}
use Rattle.cb_pool.proofs.Counted.{here, some_fixed, at_most, counted_put}
use Rattle.cb_pool.proofs.copies.Copies.put.Goals as goal

pub recount-self-inside-requires-2-clause-some : goal.recount-self-inside-requires-2-clause-some
recount-self-inside-requires-2-clause-some c =
    let lt : c.args.page < length c.self.inside.pages.items = let f = ap (λ (v : CopiesState). length v.pages) c.self.view_is in let r = c.requires in omega arith in
    rw (c.both.ensures, c.is_here-was.ensures, c.contains-is_fixed.ensures) (some_fixed _ _ _ _ c.self.invariant c.args.page lt)

pub recount-self-inside-requires-2-clause-most : goal.recount-self-inside-requires-2-clause-most
recount-self-inside-requires-2-clause-most c = (at_most _ _ _ _ c.self.invariant (omega arith)).1

pub invariant_of-self : goal.invariant_of-self
invariant_of-self c =
    let lt : c.args.page < length c.self.inside.pages.items = let f = ap (λ (v : CopiesState). length v.pages) c.self.view_is in let r = c.requires in omega arith in
    let e : c.recount-self-inside.result + bit (here c.self.inside.pages.items c.args.page) ≡ c.self.inside.here + bit (is_some c.args.bytes) =
    rw (← c.is_here-was.ensures, ← c.is_some-is.ensures) c.recount-self-inside.ensures in
    let f : c.recount-self-inside-2.result + bit (here c.self.inside.pages.items c.args.page && flags.has c.self.inside.fixed c.args.page) ≡ c.self.inside.here_fixed + bit (is_some c.args.bytes && flags.has c.self.inside.fixed c.args.page) =
    rw (← c.is_here-was.ensures, ← c.contains-is_fixed.ensures, ← c.is_some-is.ensures, ← c.both.ensures, ← c.both-2.ensures) c.recount-self-inside-2.ensures in
    rw c.index.ensures.value (counted_put _ _ _ _ c.self.invariant c.args.page c.args.bytes _ _ lt e f)
