-- Goals of `Copies::write`.
use Rattle.std.proofs.Common.{length, None, ap, slice_index_or}
use Rattle.cb_pool.specs.CopiesState.{CopiesState, IfHere}
use Rattle.cb_pool.proofs.Counted.{counted_write}
use Rattle.cb_pool.proofs.copies.Copies.write.Goals as goal

pub invariant_of-self : goal.invariant_of-self
invariant_of-self c =
    let long : IfHere (slice_index_or c.self.inside.pages.items c.args.page None) (length c.args.bytes.now) = rw (ap (λ (v : CopiesState). v.pages) c.self.view_is) c.requires in
    rw (c.write_to.ensures, c.index.ensures.value) (counted_write _ _ _ _ c.self.invariant c.args.page c.args.bytes.now long)
