-- Goals of `Dues::put`.
use Rattle.std.proofs.Common.{◌≡◌, ◌<◌, ◌+◌, ◌∙◌, sym, List, length, ap, arith}
use Rattle.std.proofs.Math.ListN.{get_or}
use Rattle.cb_locks.specs.declared.dues.PageDue.{PageDue}
use Rattle.cb_page.specs.Counting.{bit}
use Rattle.cb_locks.specs.Dues.{is_due, nothing_due}
use Rattle.cb_locks.proofs.Counted.{counted_put}
use Rattle.cb_locks.proofs.dues.Dues.put.Goals as goal

pub invariant_of-self : goal.invariant_of-self
invariant_of-self c =
    let lt : c.args.page < length c.self.inside.entries.items = let f = ap (λ (v : List PageDue). length v) c.self.view_is in let r = c.requires in omega arith in
    let was : c.is_due-was.result ≡ is_due (get_or c.self.inside.entries.items c.args.page nothing_due) =
    c.is_due-was.ensures ∙ ap is_due c.at.ensures ∙ ap (λ (v : List PageDue). is_due (get_or v c.args.page nothing_due)) (sym c.self.view_is) in
    let e : c.recount-self-inside.result + bit (is_due (get_or c.self.inside.entries.items c.args.page nothing_due)) ≡ c.self.inside.count + bit (is_due c.args.due) =
    rw (← was, ← c.is_due-is.ensures) c.recount-self-inside.ensures in
    rw (c.index.ensures.value, c.put.ensures, c.is_due-is.ensures) (counted_put _ _ _ c.self.invariant c.args.page c.args.due _ lt e)
