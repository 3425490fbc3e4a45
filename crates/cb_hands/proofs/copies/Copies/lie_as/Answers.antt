-- Goals of `Copies::lie_as`.
use Rattle.std.proofs.Common.{◌≡◌, ◌∙◌, sym, ap, length, rules}
use Rattle.cb_hands.proofs.Packing.{lies_alike, length-unpacked, same_entries}
use Rattle.cb_hands.proofs.copies.Copies.lie_as.Goals as goal

pub returns-then-pages : goal.returns-then-pages
returns-then-pages c = λ t.
    let size : length c.args.self.now ≡ length c.args.others.now = search rules in
    let same : c.self.inside.packed.items ≡ c.others.inside.packed.items =
    sym c.as_slice.ensures.value ∙ same_entries _ (λ a b e. search rules) c.as_slice.result.now c.as_slice-then-pages.result.now (sym c.eq.ensures ∙ t) ∙ c.as_slice-then-pages.ensures.value in
    let many = sym (length-unpacked c.self.inside.packed.items c.self.inside.places.items) ∙ ap length c.self.view_is ∙ size
    ∙ sym (ap length c.others.view_is) ∙ length-unpacked c.others.inside.packed.items c.others.inside.places.items in
    rw (← c.self.view_is, ← c.others.view_is) (lies_alike c.self.inside.packed.items c.others.inside.packed.items c.self.inside.places.items c.others.inside.places.items c.self.invariant.0 c.others.invariant.0 many same)
