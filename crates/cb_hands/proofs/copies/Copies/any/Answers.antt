-- Goals of `Copies::any`.
use Rattle.std.proofs.Common.{◌-◌, ◌∙◌, ap, sym, length, slice_get, List}
use Rattle.cb_hands.proofs.Packing.{is_nothing, last_held, none_held}
use Rattle.cb_hands.specs.declared.copies.HeldPage.{HeldPage}
use Rattle.cb_hands.proofs.copies.Copies.any.Goals as goal

pub returns-in-Some : goal.returns-in-Some
returns-in-Some c = rw (← c.self.view_is) (last_held c.self.inside.packed.items c.self.inside.places.items c.self.invariant.0 (length c.self.inside.packed.items - 1) c.in-Some.last.now
    (ap (λ (xs : List HeldPage). slice_get xs (length xs - 1)) (sym c.as_slice.ensures.value) ∙ sym c.in-Some.ensures.value))

pub returns-in-None : goal.returns-in-None
returns-in-None c = rw (← c.self.view_is) (none_held c.self.inside.packed.items c.self.inside.places.items c.self.invariant.0 (is_nothing c.self.inside.packed.items
    (ap (λ (xs : List HeldPage). slice_get xs (length xs - 1)) (sym c.as_slice.ensures.value) ∙ sym c.in-None.ensures.value)))
