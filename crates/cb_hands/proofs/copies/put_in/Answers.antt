-- Goals of `put_in`.
use Rattle.std.proofs.Common.{◌≡◌, ◌+◌, ◌∙◌, ℕ, ap, suc, sym, List, length, arith}
use Rattle.std.proofs.Math.ListN.{get_or}
use Rattle.cb_hands.proofs.Packing.{added, added_copy, has_room, next, place_within, replaced, replaced_copy}
use Rattle.cb_hands.proofs.copies.put_in.Goals as goal

pub index_mut-requires : goal.index_mut-requires
index_mut-requires c =
    let here : get_or c.args.places.now.items c.args.entry.page 0 ≡ suc c.in-Some.place = ap (λ (xs : List ℕ). get_or xs c.args.entry.page 0) (sym c.deref.ensures.value) ∙ ap (λ k. get_or c.deref.result.now k 0) (sym c.index.ensures.value) ∙ c.in-Some.ensures ∙ next c.in-Some.place in
    let w = place_within c.args.packed.now.items c.args.places.now.items c.requires.packed c.args.entry.page c.in-Some.place here in let o = c.args.packed.now.ok in omega (arith, w, o)

pub push_reserved-requires : goal.push_reserved-requires
push_reserved-requires c =
    let none : get_or c.args.places.now.items c.args.entry.page 0 ≡ 0 = ap (λ (xs : List ℕ). get_or xs c.args.entry.page 0) (sym c.deref.ensures.value) ∙ ap (λ k. get_or c.deref.result.now k 0) (sym c.index.ensures.value) ∙ c.in-None.ensures in
    let r = has_room c.args.packed.now.items c.args.places.now.items c.requires.packed c.args.entry.page c.requires.page none in let q = c.requires.room in let o = c.args.packed.now.ok in omega (arith, r, q, o)

pub returns-in-Some-clause-packed : goal.returns-in-Some-clause-packed
returns-in-Some-clause-packed c =
    let here : get_or c.args.places.now.items c.args.entry.page 0 ≡ suc c.in-Some.place = ap (λ (xs : List ℕ). get_or xs c.args.entry.page 0) (sym c.deref.ensures.value) ∙ ap (λ k. get_or c.deref.result.now k 0) (sym c.index.ensures.value) ∙ c.in-Some.ensures ∙ next c.in-Some.place in
    replaced c.args.packed.now.items c.args.places.now.items c.requires.packed c.in-Some.place c.args.entry here

pub returns-in-Some-clause-held : goal.returns-in-Some-clause-held
returns-in-Some-clause-held c =
    let here : get_or c.args.places.now.items c.args.entry.page 0 ≡ suc c.in-Some.place = ap (λ (xs : List ℕ). get_or xs c.args.entry.page 0) (sym c.deref.ensures.value) ∙ ap (λ k. get_or c.deref.result.now k 0) (sym c.index.ensures.value) ∙ c.in-Some.ensures ∙ next c.in-Some.place in
    replaced_copy c.args.packed.now.items c.args.places.now.items c.requires.packed c.in-Some.place c.args.entry here

pub returns-in-None-clause-packed : goal.returns-in-None-clause-packed
returns-in-None-clause-packed c =
    let none : get_or c.args.places.now.items c.args.entry.page 0 ≡ 0 = ap (λ (xs : List ℕ). get_or xs c.args.entry.page 0) (sym c.deref.ensures.value) ∙ ap (λ k. get_or c.deref.result.now k 0) (sym c.index.ensures.value) ∙ c.in-None.ensures in
    let size : c.len.result + 1 ≡ suc (length c.args.packed.now.items) = (let l = c.len.ensures in let o = c.args.packed.now.ok in omega (arith, l, o)) in
    rw (c.push_reserved.ensures.items, c.index-in-None.ensures.value, size) (added c.args.packed.now.items c.args.places.now.items c.requires.packed c.args.entry c.requires.page none)

pub returns-in-None-clause-held : goal.returns-in-None-clause-held
returns-in-None-clause-held c =
    let none : get_or c.args.places.now.items c.args.entry.page 0 ≡ 0 = ap (λ (xs : List ℕ). get_or xs c.args.entry.page 0) (sym c.deref.ensures.value) ∙ ap (λ k. get_or c.deref.result.now k 0) (sym c.index.ensures.value) ∙ c.in-None.ensures in
    let size : c.len.result + 1 ≡ suc (length c.args.packed.now.items) = (let l = c.len.ensures in let o = c.args.packed.now.ok in omega (arith, l, o)) in
    rw (c.push_reserved.ensures.items, c.index-in-None.ensures.value, size) (added_copy c.args.packed.now.items c.args.places.now.items c.requires.packed c.args.entry c.requires.page none)
