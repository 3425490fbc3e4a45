-- What holds at each turn of the loops of `Copies::new`.
use Rattle.std.proofs.Common.{◌≡◌, ◌≤◌, None, replicate}
use Rattle.std.specs.Vec.{vec_capacity}
use Rattle.cb_pool.proofs.copies.Copies.new.Given as goal

abbrev pub invariant-loop : goal.invariant-loop
invariant-loop l = (l.pages.items ≡ replicate l.counter None) × (l.count ≤ vec_capacity l.pages)
