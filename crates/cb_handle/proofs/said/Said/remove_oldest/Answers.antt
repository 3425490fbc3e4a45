-- Goals of `Said::remove_oldest`.
use Rattle.std.proofs.Common.{rules, ◌≡◌, ◌<◌, ◌-◌, List, [], ◌∷◌, ◌++◌, drop, length, reverse, subst, sym}
use Rattle.std.specs.List.{AllByRecursion}
use Rattle.std.specs.Option.{option_to_list}
use Rattle.cb_frame.specs.Grammar.{FitsSome}
use Rattle.cb_frame.specs.declared.frame.Frame.{Frame}
use Rattle.cb_handle.proofs.Kept.{others_left}
use Rattle.cb_handle.proofs.said.Said.remove_oldest.Goals as goal

rest_fit : (frames : List Frame) → AllByRecursion FitsSome frames → AllByRecursion FitsSome (drop 1 frames)
rest_fit [] fit = tt
rest_fit (frame ∷ rest) fit = fit.1

pub returns-in-Some : goal.returns-in-Some
returns-in-Some c =
    let some : 0 < length c.self.inside.frames.items = search rules in
    let left : c.in-Some.rest ≡ length c.self.inside.frames.items - 1 = search rules in
    rw (c.truncate.ensures.items, left, ← c.self.view_is) (others_left c.self.inside.frames.items (option_to_list c.self.inside.single) some)

pub invariant_of-self : goal.invariant_of-self
invariant_of-self c =
    let some : 0 < length c.self.inside.frames.items = search rules in
    let left : c.in-Some.rest ≡ length c.self.inside.frames.items - 1 = search rules in
    let more = option_to_list c.self.inside.single in
    let are : reverse c.truncate.new.self.items ++ more ≡ drop 1 (reverse c.self.inside.frames.items ++ more) = rw (c.truncate.ensures.items, left) (others_left c.self.inside.frames.items more some) in
    subst (λ (l : List Frame). AllByRecursion FitsSome l) (sym are) (rest_fit (reverse c.self.inside.frames.items ++ more) c.self.invariant)
