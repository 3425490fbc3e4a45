-- Goals of `Copies::new`.
use Rattle.std.proofs.Common.{◌≡◌, None, replicate, ◌∙◌, ap, arith}
use Rattle.cb_pool.proofs.Counted.{counted_none}
use Rattle.cb_pool.proofs.copies.Copies.new.Goals as goal

pub invariant_of-result : goal.invariant_of-result
invariant_of-result c =
    let all : c.loop.counter ≡ c.args.count = omega arith in
    let pages : c.loop.pages.items ≡ replicate c.args.count None = c.loop.invariant.0 ∙ ap (λ n. replicate n None) all in
    rw (pages, c.in_ok-new.ensures) (counted_none c.args.count)
