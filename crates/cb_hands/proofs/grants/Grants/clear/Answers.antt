-- Goals of `Grants::clear`.
use Rattle.std.proofs.Common.{◌≡◌, ℕ, List, subst, Option, None}
use Rattle.cb_hands.specs.Hands.{held_at}
use Rattle.cb_hands.specs.declared.grant.Held.{Held}
use Rattle.cb_hands.proofs.Packing.{none_left}
use Rattle.cb_hands.proofs.grants.Grants.clear.Goals as goal

pub returns : goal.returns
returns c = none_left _ _ c.loop-page.invariant (subst (λ (held : List (Option Held)). (k : ℕ) → held_at held k ≡ None) c.copies.ensures c.in_default.ensures)
