-- Goals of `take_out`.
use Rattle.std.proofs.Common.{◌≡◌, ◌-◌, ◌<◌, ◌∙◌, ℕ, ap, suc, sym, List, length, arith}
use Rattle.std.proofs.Math.ListN.{get_or}
use Rattle.cb_hands.proofs.Packing.{last_gone, last_moved, moved_last, moved_place, next, place_within, unplaced}
use Rattle.cb_hands.proofs.copies.take_out.Goals as goal

pub returns-in_default-clause-held : goal.returns-in_default-clause-held
returns-in_default-clause-held c = unplaced c.args.packed.now.items c.args.places.now.items c.args.page
    (ap (λ (xs : List ℕ). get_or xs c.args.page 0) (sym c.deref.ensures.value) ∙ ap (λ k. get_or c.deref.result.now k 0) (sym c.index.ensures.value) ∙ c.in_default.ensures)

pub swap_remove-requires : goal.swap_remove-requires
swap_remove-requires c =
    let here : get_or c.args.places.now.items c.args.page 0 ≡ suc c.in-Some.place = ap (λ (xs : List ℕ). get_or xs c.args.page 0) (sym c.deref.ensures.value) ∙ ap (λ k. get_or c.deref.result.now k 0) (sym c.index.ensures.value) ∙ c.in-Some.ensures ∙ next c.in-Some.place in
    let w = place_within c.args.packed.now.items c.args.places.now.items c.requires.packed c.args.page c.in-Some.place here in let o = c.args.packed.now.ok in omega (arith, w, o)

pub index_mut-requires-then-place-len : goal.index_mut-requires-then-place-len
index_mut-requires-then-place-len c =
    let here : get_or c.args.places.now.items c.args.page 0 ≡ suc c.in-Some.place = ap (λ (xs : List ℕ). get_or xs c.args.page 0) (sym c.deref.ensures.value) ∙ ap (λ k. get_or c.deref.result.now k 0) (sym c.index.ensures.value) ∙ c.in-Some.ensures ∙ next c.in-Some.place in
    let o = c.args.packed.now.ok in let l = c.len.ensures in let m = c.swap_remove.ensures.len in let i = c.if-place-len.true in
    let lt : c.in-Some.place < length c.args.packed.now.items - 1 = omega (arith, o, l, m, i) in
    let last = moved_last c.args.packed.now.items c.args.places.now.items c.requires.packed c.args.page c.in-Some.place c.swap_remove.result here c.index-then-place-len.result.now c.swap_remove.new.self.items c.swap_remove.ensures.items lt c.index-then-place-len.ensures in
    let w = moved_place c.args.packed.now.items c.args.places.now.items c.requires.packed c.args.page c.in-Some.place c.swap_remove.result here c.index-then-place-len.result.now lt last in let v = c.index-then-place-len-2.ensures.value in let p = c.args.places.now.ok in omega (arith, w, v, p)

pub returns-then-place-len-clause-packed : goal.returns-then-place-len-clause-packed
returns-then-place-len-clause-packed c =
    let here : get_or c.args.places.now.items c.args.page 0 ≡ suc c.in-Some.place = ap (λ (xs : List ℕ). get_or xs c.args.page 0) (sym c.deref.ensures.value) ∙ ap (λ k. get_or c.deref.result.now k 0) (sym c.index.ensures.value) ∙ c.in-Some.ensures ∙ next c.in-Some.place in
    let o = c.args.packed.now.ok in let l = c.len.ensures in let m = c.swap_remove.ensures.len in let i = c.if-place-len.true in
    let lt : c.in-Some.place < length c.args.packed.now.items - 1 = omega (arith, o, l, m, i) in
    let last = moved_last c.args.packed.now.items c.args.places.now.items c.requires.packed c.args.page c.in-Some.place c.swap_remove.result here c.index-then-place-len.result.now c.swap_remove.new.self.items c.swap_remove.ensures.items lt c.index-then-place-len.ensures in
    rw (c.swap_remove.ensures.items, c.index-2.ensures.value, c.index-then-place-len-2.ensures.value, next c.in-Some.place) (last_moved c.args.packed.now.items c.args.places.now.items c.requires.packed c.args.page c.in-Some.place c.swap_remove.result here c.index-then-place-len.result.now lt last).0

pub returns-then-place-len-clause-held : goal.returns-then-place-len-clause-held
returns-then-place-len-clause-held c =
    let here : get_or c.args.places.now.items c.args.page 0 ≡ suc c.in-Some.place = ap (λ (xs : List ℕ). get_or xs c.args.page 0) (sym c.deref.ensures.value) ∙ ap (λ k. get_or c.deref.result.now k 0) (sym c.index.ensures.value) ∙ c.in-Some.ensures ∙ next c.in-Some.place in
    let o = c.args.packed.now.ok in let l = c.len.ensures in let m = c.swap_remove.ensures.len in let i = c.if-place-len.true in
    let lt : c.in-Some.place < length c.args.packed.now.items - 1 = omega (arith, o, l, m, i) in
    let last = moved_last c.args.packed.now.items c.args.places.now.items c.requires.packed c.args.page c.in-Some.place c.swap_remove.result here c.index-then-place-len.result.now c.swap_remove.new.self.items c.swap_remove.ensures.items lt c.index-then-place-len.ensures in
    rw (c.swap_remove.ensures.items, c.index-2.ensures.value, c.index-then-place-len-2.ensures.value, next c.in-Some.place) (last_moved c.args.packed.now.items c.args.places.now.items c.requires.packed c.args.page c.in-Some.place c.swap_remove.result here c.index-then-place-len.result.now lt last).1

pub returns-else-place-len-clause-packed : goal.returns-else-place-len-clause-packed
returns-else-place-len-clause-packed c =
    let here : get_or c.args.places.now.items c.args.page 0 ≡ suc c.in-Some.place = ap (λ (xs : List ℕ). get_or xs c.args.page 0) (sym c.deref.ensures.value) ∙ ap (λ k. get_or c.deref.result.now k 0) (sym c.index.ensures.value) ∙ c.in-Some.ensures ∙ next c.in-Some.place in
    let o = c.args.packed.now.ok in let l = c.len.ensures in let m = c.swap_remove.ensures.len in let i = c.if-place-len.false in
    let w = place_within c.args.packed.now.items c.args.places.now.items c.requires.packed c.args.page c.in-Some.place here in
    let final : c.in-Some.place ≡ length c.args.packed.now.items - 1 = omega (arith, o, l, m, i, w) in
    let gone = last_gone c.args.packed.now.items c.args.places.now.items c.requires.packed c.args.page c.in-Some.place c.swap_remove.result here final in
    rw (c.swap_remove.ensures.items, c.index-2.ensures.value) gone.0

pub returns-else-place-len-clause-held : goal.returns-else-place-len-clause-held
returns-else-place-len-clause-held c =
    let here : get_or c.args.places.now.items c.args.page 0 ≡ suc c.in-Some.place = ap (λ (xs : List ℕ). get_or xs c.args.page 0) (sym c.deref.ensures.value) ∙ ap (λ k. get_or c.deref.result.now k 0) (sym c.index.ensures.value) ∙ c.in-Some.ensures ∙ next c.in-Some.place in
    let o = c.args.packed.now.ok in let l = c.len.ensures in let m = c.swap_remove.ensures.len in let i = c.if-place-len.false in
    let w = place_within c.args.packed.now.items c.args.places.now.items c.requires.packed c.args.page c.in-Some.place here in
    let final : c.in-Some.place ≡ length c.args.packed.now.items - 1 = omega (arith, o, l, m, i, w) in
    let gone = last_gone c.args.packed.now.items c.args.places.now.items c.requires.packed c.args.page c.in-Some.place c.swap_remove.result here final in
    rw (c.swap_remove.ensures.items, c.index-2.ensures.value) gone.1
