-- What is printed for one more of a list.
use Rattle.std.proofs.Common.{◌≡◌, ◌<◌, ◌+◌, ◌++◌, ◌∷◌, ℕ, List, [], Option, length, take, sym, ap, ◌∙◌, subst}
use Rattle.std.specs.Io.KnownBytes.{Appends}
use Rattle.std.specs.List.{flat_map}
use Rattle.std.specs.Prelude.{slice_index_or}
use Rattle.std.proofs.KnownBytes.{Appends-trans}
use Rattle.std.proofs.lemmas.Grind.{flat_map-append}
use Rattle.std.proofs.lemmas.List.{append-nil, take_more}

pub prints_more : {A : Type 0} (f : A → List ℕ) (old mid new : Option (List ℕ)) (items : List A) (i : ℕ) (item : A) → i < length items → item ≡ slice_index_or items i item
    → Appends old mid (flat_map f (take i items)) → Appends mid new (f item) → Appends old new (flat_map f (take (i + 1) items))
prints_more {A} f old mid new items i item within is before now =
    let more : take (i + 1) items ≡ take i items ++ item ∷ [] = take_more items i item within ∙ ap (λ (x : A). take i items ++ x ∷ []) (sym is) in
    let text : flat_map f (take i items ++ item ∷ []) ≡ flat_map f (take i items) ++ f item
    = flat_map-append f (take i items) (item ∷ []) ∙ ap (λ (xs : List ℕ). flat_map f (take i items) ++ xs) (append-nil (f item)) in
    subst (λ (xs : List ℕ). Appends old new xs) (sym (ap (flat_map f) more ∙ text)) (Appends-trans old mid new (flat_map f (take i items)) (f item) before now)
