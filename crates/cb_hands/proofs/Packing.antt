-- What is held of pages stays packed, and a change of it is one of the page alone.
use Rattle.std.proofs.Common.{◌≡◌, ◌≢◌, ◌&&◌, true≢false, ◌<◌, ◌≤◌, ◌+◌, ◌-◌, ℕ, suc, zero, Bool, true, false, List, [], ◌∷◌, ◌++◌, length, replicate, take, slice_get, refl, sym, ◌∙◌, ap, arith, Option, Some, None, inl, inr}
use Rattle.std.specs.Cmp.Lexicographic.{pointwise}
use Rattle.std.specs.List.{count_by, swap_remove}
use Rattle.std.specs.Option.{is_some, option_map}
use Rattle.std.proofs.Math.ListN.{get_or, set, get_or-map}
use Rattle.std.proofs.lemmas.Bool.{cases_eq, cases_lt}
use Rattle.std.proofs.lemmas.List.{get_or_past, ext_get_or, get_or-replicate, length-replicate, length-set, length-take-le, get_or-set_other, get_or-set_same, set-get_or}
use Rattle.std.proofs.lemmas.List.Sums.{count_by-le-length}
use Rattle.std.proofs.lemmas.Option.{slice_get-get_or, slice_get_past, slice_get_within}
use Rattle.cb_page.proofs.Counting.{count_set}
use Rattle.cb_page.specs.Counting.{bit}
use Rattle.cb_hands.specs.Packed.{IsPacked, copy_at, is_placed, unpacked}
use Rattle.cb_hands.specs.declared.copies.HeldPage.{HeldPage}
use Rattle.cb_hands.specs.declared.grant.Held.{Held}

-- an entry was put at a place
get_same : (xs : List HeldPage) (i : ℕ) (a : HeldPage) → i < length xs → slice_get (set xs i a) i ≡ Some a
get_same xs i a lt = let l = length-set xs i a in slice_get-get_or (set xs i a) i a (omega (arith, l, lt)) ∙ ap Some (get_or-set_same xs i a a lt)

get_other : (xs : List HeldPage) (i j : ℕ) (a : HeldPage) → j ≢ i → slice_get (set xs i a) j ≡ slice_get xs j
get_other xs i j a apart = let l = length-set xs i a in elim (cases_lt j (length xs)) [
  | inl lt ↦ slice_get-get_or (set xs i a) j a (omega (arith, l, lt)) ∙ ap Some (get_or-set_other xs i j a a apart) ∙ sym (slice_get-get_or xs j a lt)
  | inr le ↦ slice_get_past (set xs i a) j (omega (arith, l, le)) ∙ sym (slice_get_past xs j le)
]

-- a front
nothing_in : (n : ℕ) (none : List HeldPage) → none ≡ [] → take n none ≡ none
nothing_in zero none e = sym e
nothing_in (suc n) none e = rw e refl

get_front : (xs : List HeldPage) (n j : ℕ) → j < n → slice_get (take n xs) j ≡ slice_get xs j
get_front [] n j lt = ap (λ (xs : List HeldPage). slice_get xs j) (nothing_in n [] refl)
get_front (x ∷ xs) zero j lt = absurd (omega (arith, lt))
get_front (x ∷ xs) (suc n) zero lt = refl
get_front (x ∷ xs) (suc n) (suc j) lt = get_front xs n j (omega (arith, lt))

-- one more behind
get_before : (xs : List HeldPage) (a : HeldPage) (j : ℕ) → j < length xs → slice_get (xs ++ a ∷ []) j ≡ slice_get xs j
get_before [] a j lt = absurd (omega (arith, lt))
get_before (x ∷ xs) a zero lt = refl
get_before (x ∷ xs) a (suc j) lt = get_before xs a j (omega (arith, lt))

get_behind : (xs : List HeldPage) (a : HeldPage) → slice_get (xs ++ a ∷ []) (length xs) ≡ Some a
get_behind [] a = refl
get_behind (x ∷ xs) a = get_behind xs a

length-behind : (xs : List HeldPage) (a : HeldPage) → length (xs ++ a ∷ []) ≡ length xs + 1
length-behind [] a = refl
length-behind (x ∷ xs) a = let l = length-behind xs a in omega (arith, l)

pub length-unpacked : (packed : List HeldPage) (places : List ℕ) → length (unpacked packed places) ≡ length places
length-unpacked packed [] = refl
length-unpacked packed (place ∷ places) = ap (λ n. suc n) (length-unpacked packed places)

some_same : (a b : HeldPage) → Some a ≡ Some b → a ≡ b
some_same a b e = cc

-- what is held of a page
pub copy_is : (packed : List HeldPage) (places : List ℕ) (page : ℕ) → get_or (unpacked packed places) page None ≡ copy_at packed (get_or places page 0)
copy_is packed places page = get_or-map (copy_at packed) places page 0

-- nothing was held of it
pub unplaced : (packed : List HeldPage) (places : List ℕ) (page : ℕ) → get_or places page 0 ≡ 0 → unpacked packed places ≡ set (unpacked packed places) page None
unplaced packed places page e = sym (set-get_or (unpacked packed places) page None)
    ∙ ap (λ o. set (unpacked packed places) page o) (copy_is packed places page ∙ ap (λ n. copy_at packed n) e)

-- one page changed, and no other
changed : (packed after : List HeldPage) (places changes : List ℕ) (page : ℕ) (copy : Option Held) → length changes ≡ length places → page < length places
    → copy_at after (get_or changes page 0) ≡ copy → ((k : ℕ) → k ≢ page → copy_at after (get_or changes k 0) ≡ copy_at packed (get_or places k 0))
    → unpacked after changes ≡ set (unpacked packed places) page copy
changed packed after places changes page copy size within here there =
    let n : Option Held = None in let a = length-unpacked after changes in let b = length-unpacked packed places in let c = length-set (unpacked packed places) page copy in
    ext_get_or n (unpacked after changes) (set (unpacked packed places) page copy) (a ∙ size ∙ sym b ∙ sym c)
    (λ k lt. copy_is after changes k ∙ elim (cases_eq k page) [
      | inl is ↦ rw is (here ∙ sym (get_or-set_same (unpacked packed places) page copy n (omega (arith, b, within))))
      | inr apart ↦ there k apart ∙ sym (get_or-set_other (unpacked packed places) page k copy n apart ∙ copy_is packed places k)
    ])

module _ (packed : List HeldPage) (places : List ℕ) (is : IsPacked packed places) where
  -- two pages don't lie at one place
  one_place : (p q k : ℕ) → get_or places p 0 ≡ suc k → get_or places q 0 ≡ suc k → p ≡ q
  one_place p q k e f = let x = is.there p k e in let y = is.there q k f in
      sym x.2 ∙ ap (λ (entry : HeldPage). entry.page) (some_same x.0 y.0 (sym x.1 ∙ y.1)) ∙ y.2

  -- a page that has a place is one of the store's
  placed_within : (p k : ℕ) → get_or places p 0 ≡ suc k → p < length places
  placed_within p k e = elim (cases_lt p (length places)) [
    | inl lt ↦ lt
    | inr le ↦ let z = get_or_past places p 0 le in absurd (omega (arith, e, z))
  ]

  -- where something is held of a page, its place is one
  pub place_within : (p k : ℕ) → get_or places p 0 ≡ suc k → k < length packed
  place_within p k e = let x = is.there p k e in slice_get_within packed k x.0 x.1

  -- there is room for a page that has no place
  pub has_room : (page : ℕ) → page < length places → get_or places page 0 ≡ 0 → length packed < length places
  has_room page within none =
      let s = count_set is_placed places page 1 0 within in let z : bit (is_placed (get_or places page 0)) ≡ 0 = ap (λ n. bit (is_placed n)) none in
      let b : bit (is_placed 1) ≡ 1 = refl in
      let l = count_by-le-length is_placed (set places page 1) in let m = length-set places page 1 in let c = is.count in omega (arith, s, z, b, l, m, c)

  -- what is held of a page becomes another thing
  module _ (k : ℕ) (entry : HeldPage) (here : get_or places entry.page 0 ≡ suc k) where
    at_other : (p j : ℕ) → p ≢ entry.page → get_or places p 0 ≡ suc j → j ≢ k
    at_other p j apart e same = apart (one_place p entry.page k (e ∙ ap (λ n. suc n) same) here)

    pub replaced : IsPacked (set packed k entry) places
    replaced = record {
      there = λ p j e. let x = is.there p j e in elim (cases_eq j k) [
        | inl same ↦ (entry, ap (λ n. slice_get (set packed k entry) n) same ∙ get_same packed k entry (place_within entry.page k here), one_place entry.page p k here (e ∙ ap (λ n. suc n) same))
        | inr apart ↦ (x.0, get_other packed k j entry apart ∙ x.1, x.2)
      ];
      placed = λ j other e. elim (cases_eq j k) [
        | inl same ↦ let f : other ≡ entry = some_same other entry (sym e ∙ ap (λ n. slice_get (set packed k entry) n) same ∙ get_same packed k entry (place_within entry.page k here)) in
            ap (λ (x : HeldPage). get_or places x.page 0) f ∙ here ∙ ap (λ n. suc n) (sym same)
        | inr apart ↦ is.placed j other (sym (get_other packed k j entry apart) ∙ e)
      ];
      count = length-set packed k entry ∙ is.count;
    }

    pub replaced_copy : unpacked (set packed k entry) places ≡ set (unpacked packed places) entry.page (Some entry.held)
    replaced_copy = changed packed (set packed k entry) places places entry.page (Some entry.held) refl (placed_within entry.page k here)
        (ap (λ n. copy_at (set packed k entry) n) here ∙ ap (λ o. option_map (λ (x : HeldPage). x.held) o) (get_same packed k entry (place_within entry.page k here)))
        (λ p apart. by p apart (get_or places p 0) refl)
      where
        by : (p : ℕ) → p ≢ entry.page → (n : ℕ) → get_or places p 0 ≡ n → copy_at (set packed k entry) n ≡ copy_at packed n
        by p apart zero e = refl
        by p apart (suc j) e = ap (λ o. option_map (λ (x : HeldPage). x.held) o) (get_other packed k j entry (at_other p j apart e))

  -- something is held of one page more
  module _ (entry : HeldPage) (within : entry.page < length places) (none : get_or places entry.page 0 ≡ 0) where
    abbrev more : List HeldPage
    more = packed ++ entry ∷ []

    abbrev with_place : List ℕ
    with_place = set places entry.page (suc (length packed))

    here_now : get_or with_place entry.page 0 ≡ suc (length packed)
    here_now = get_or-set_same places entry.page (suc (length packed)) 0 within

    elsewhere : (p : ℕ) → p ≢ entry.page → get_or with_place p 0 ≡ get_or places p 0
    elsewhere p apart = get_or-set_other places entry.page p (suc (length packed)) 0 apart

    pub added : IsPacked more with_place
    added = record {
      there = λ p j e. elim (cases_eq p entry.page) [
        | inl same ↦ let f : suc (length packed) ≡ suc j = sym here_now ∙ ap (λ q. get_or with_place q 0) (sym same) ∙ e in
            (entry, ap (λ n. slice_get more n) (let g : j ≡ length packed = omega (arith, f) in g) ∙ get_behind packed entry, sym same)
        | inr apart ↦ let x = is.there p j (sym (elsewhere p apart) ∙ e) in (x.0, get_before packed entry j (slice_get_within packed j x.0 x.1) ∙ x.1, x.2)
      ];
      placed = λ j other e. elim (cases_lt j (length packed)) [
        | inl lt ↦ let f = is.placed j other (sym (get_before packed entry j lt) ∙ e) in elsewhere other.page (λ same. let z = ap (λ q. get_or places q 0) same ∙ none in omega (arith, f, z)) ∙ f
        | inr le ↦ let l = length-behind packed entry in let w = slice_get_within more j other e in let g : j ≡ length packed = omega (arith, l, w, le) in
            ap (λ (x : HeldPage). get_or with_place x.page 0) (some_same other entry (sym e ∙ ap (λ n. slice_get more n) g ∙ get_behind packed entry)) ∙ here_now ∙ ap (λ n. suc n) (sym g)
      ];
      count = (let s = count_set is_placed places entry.page (suc (length packed)) 0 within in let z : bit (is_placed (get_or places entry.page 0)) ≡ 0 = ap (λ n. bit (is_placed n)) none in
          let b : bit (is_placed (suc (length packed))) ≡ 1 = refl in let l = length-behind packed entry in let c = is.count in omega (arith, s, z, b, l, c));
    }

    pub added_copy : unpacked more with_place ≡ set (unpacked packed places) entry.page (Some entry.held)
    added_copy = changed packed more places with_place entry.page (Some entry.held) (length-set places entry.page (suc (length packed))) within
        (ap (λ n. copy_at more n) here_now ∙ ap (λ o. option_map (λ (x : HeldPage). x.held) o) (get_behind packed entry))
        (λ p apart. ap (λ n. copy_at more n) (elsewhere p apart) ∙ by p (get_or places p 0) refl)
      where
        by : (p n : ℕ) → get_or places p 0 ≡ n → copy_at more n ≡ copy_at packed n
        by p zero e = refl
        by p (suc j) e = ap (λ o. option_map (λ (x : HeldPage). x.held) o) (get_before packed entry j (place_within p j e))

  -- nothing is held of a page any more: the last of the others comes where it lay
  module _ (page k : ℕ) (d : HeldPage) (here : get_or places page 0 ≡ suc k) where
    abbrev last : ℕ
    last = length packed - 1

    abbrev rest : List HeldPage
    rest = swap_remove packed k d

    abbrev without_place : List ℕ
    without_place = set places page 0

    k_within : k < length packed
    k_within = place_within page k here

    rest_at : (j : ℕ) → j < last → j ≢ k → slice_get rest j ≡ slice_get packed j
    rest_at j lt apart = get_front (set packed k (get_or packed last d)) last j lt ∙ get_other packed k j (get_or packed last d) apart

    pub rest_moved : k < last → slice_get rest k ≡ slice_get packed last
    rest_moved lt = get_front (set packed k (get_or packed last d)) last k lt ∙ get_same packed k (get_or packed last d) k_within
        ∙ sym (slice_get-get_or packed last d (omega (arith, lt)))

    pub length-rest : length rest ≡ last
    length-rest = let l = length-set packed k (get_or packed last d) in length-take-le last (set packed k (get_or packed last d)) (omega (arith, l))

    gone : get_or without_place page 0 ≡ 0
    gone = get_or-set_same places page 0 0 (placed_within page k here)

    stays : (p : ℕ) → p ≢ page → get_or without_place p 0 ≡ get_or places p 0
    stays p apart = get_or-set_other places page p 0 0 apart

    count_less : count_by is_placed without_place + 1 ≡ count_by is_placed places
    count_less = let s = count_set is_placed places page 0 0 (placed_within page k here) in let z : bit (is_placed (get_or places page 0)) ≡ 1 = ap (λ n. bit (is_placed n)) here in
        let b : bit (is_placed 0) ≡ 0 = refl in omega (arith, s, z, b)

    -- an entry that lies elsewhere is of another page
    of_other : (j : ℕ) (entry : HeldPage) → j ≢ k → slice_get packed j ≡ Some entry → entry.page ≢ page
    of_other j entry apart e same = let a = is.placed j entry e in let b = ap (λ q. get_or places q 0) same in apart (let c : suc j ≡ suc k = sym a ∙ b ∙ here in omega (arith, c))

    -- what lies there now lay last
    pub moved_last : (moved : HeldPage) (after : List HeldPage) → after ≡ rest → k < last → moved ≡ get_or after k moved → slice_get packed last ≡ Some moved
    moved_last moved after same lt e = let l = length-rest in
        sym (rest_moved lt) ∙ slice_get-get_or rest k moved (omega (arith, l, lt)) ∙ ap Some (sym (e ∙ ap (λ (xs : List HeldPage). get_or xs k moved) same))

    -- the last one goes
    pub last_gone : k ≡ last → IsPacked rest without_place × (unpacked rest without_place ≡ set (unpacked packed places) page None)
    last_gone final = (
      record {
        there = λ p j e. elim (cases_eq p page) [
          | inl same ↦ absurd (let z = ap (λ q. get_or without_place q 0) same ∙ gone in omega (arith, e, z))
          | inr apart ↦ let x = is.there p j (sym (stays p apart) ∙ e) in (x.0, rest_at j (front p j apart (sym (stays p apart) ∙ e)) (away p j apart (sym (stays p apart) ∙ e)) ∙ x.1, x.2)
        ];
        placed = λ j entry e. let lt = slice_get_within rest j entry e in let l = length-rest in let apart : j ≢ k = (λ same. omega (arith, lt, l, final, same)) in
            let f = sym (rest_at j (omega (arith, lt, l)) apart) ∙ e in stays entry.page (of_other j entry apart f) ∙ is.placed j entry f;
        count = (let l = length-rest in let c = count_less in let s = is.count in let w = k_within in omega (arith, l, c, s, w));
      },
      changed packed rest places without_place page None (length-set places page 0) (placed_within page k here) (ap (λ n. copy_at rest n) gone)
          (λ p apart. ap (λ n. copy_at rest n) (stays p apart) ∙ by p apart (get_or places p 0) refl),
    )
      where
        away : (p j : ℕ) → p ≢ page → get_or places p 0 ≡ suc j → j ≢ k
        away p j apart e same = apart (one_place p page k (e ∙ ap (λ n. suc n) same) here)

        front : (p j : ℕ) → p ≢ page → get_or places p 0 ≡ suc j → j < last
        front p j apart e = let w = place_within p j e in let a = away p j apart e in omega (arith, w, a, final)

        by : (p : ℕ) → p ≢ page → (n : ℕ) → get_or places p 0 ≡ n → copy_at rest n ≡ copy_at packed n
        by p apart zero e = refl
        by p apart (suc j) e = ap (λ o. option_map (λ (x : HeldPage). x.held) o) (rest_at j (front p j apart e) (away p j apart e))

    -- the last one comes there
    module _ (moved : HeldPage) (lt : k < last) (is_last : slice_get packed last ≡ Some moved) where
      abbrev now : List ℕ
      now = set without_place moved.page (suc k)

      moved_apart : moved.page ≢ page
      moved_apart = of_other last moved (λ same. omega (arith, lt, same)) is_last

      pub moved_place : moved.page < length places
      moved_place = placed_within moved.page last (is.placed last moved is_last)

      moved_within : moved.page < length without_place
      moved_within = let l = length-set places page 0 in let w = moved_place in omega (arith, l, w)

      moved_now : get_or now moved.page 0 ≡ suc k
      moved_now = get_or-set_same without_place moved.page (suc k) 0 moved_within

      others_now : (p : ℕ) → p ≢ moved.page → get_or now p 0 ≡ get_or without_place p 0
      others_now p apart = get_or-set_other without_place moved.page p (suc k) 0 apart

      away : (p j : ℕ) → p ≢ page → get_or places p 0 ≡ suc j → j ≢ k
      away p j apart e same = apart (one_place p page k (e ∙ ap (λ n. suc n) same) here)

      front : (p j : ℕ) → p ≢ moved.page → get_or places p 0 ≡ suc j → j < last
      front p j other e = let w = place_within p j e in
          let a : j ≢ last = (λ same. other (one_place p moved.page last (e ∙ ap (λ n. suc n) same) (is.placed last moved is_last))) in omega (arith, w, a)

      by : (p : ℕ) → p ≢ page → p ≢ moved.page → (n : ℕ) → get_or places p 0 ≡ n → copy_at rest n ≡ copy_at packed n
      by p apart other zero e = refl
      by p apart other (suc j) e = ap (λ o. option_map (λ (x : HeldPage). x.held) o) (rest_at j (front p j other e) (away p j apart e))

      pub last_moved : IsPacked rest now × (unpacked rest now ≡ set (unpacked packed places) page None)
      last_moved = (
        record {
          there = λ p j e. elim (cases_eq p moved.page) [
            | inl same ↦ let f : suc j ≡ suc k = sym e ∙ ap (λ q. get_or now q 0) same ∙ moved_now in let g : j ≡ k = omega (arith, f) in
                (moved, ap (λ n. slice_get rest n) g ∙ rest_moved lt ∙ is_last, sym same)
            | inr other ↦ elim (cases_eq p page) [
              | inl same ↦ absurd (let z = sym (others_now p other) ∙ e in let y = ap (λ q. get_or without_place q 0) same ∙ gone in omega (arith, z, y))
              | inr apart ↦ let f = sym (stays p apart) ∙ sym (others_now p other) ∙ e in let x = is.there p j f in (x.0, rest_at j (front p j other f) (away p j apart f) ∙ x.1, x.2)
            ]
          ];
          placed = λ j entry e. elim (cases_eq j k) [
            | inl same ↦ let f : entry ≡ moved = some_same entry moved (sym e ∙ ap (λ n. slice_get rest n) same ∙ rest_moved lt ∙ is_last) in
                ap (λ (x : HeldPage). get_or now x.page 0) f ∙ moved_now ∙ ap (λ n. suc n) (sym same)
            | inr apart ↦ let w = slice_get_within rest j entry e in let l = length-rest in let f = sym (rest_at j (omega (arith, w, l)) apart) ∙ e in let a = is.placed j entry f in
                others_now entry.page (λ same. let b : suc j ≡ suc last = sym a ∙ ap (λ q. get_or places q 0) same ∙ is.placed last moved is_last in omega (arith, b, w, l)) ∙ stays entry.page (of_other j entry apart f) ∙ a
          ];
          count = (let l = length-rest in let c = count_less in let s = is.count in let w = k_within in
              let m = count_set is_placed without_place moved.page (suc k) 0 moved_within in let z : bit (is_placed (get_or without_place moved.page 0)) ≡ 1 = ap (λ n. bit (is_placed n)) (stays moved.page moved_apart ∙ is.placed last moved is_last) in
              let b : bit (is_placed (suc k)) ≡ 1 = refl in omega (arith, l, c, s, w, m, z, b));
        },
        changed packed rest places now page None (length-set without_place moved.page (suc k) ∙ length-set places page 0) (placed_within page k here)
            (ap (λ n. copy_at rest n) (others_now page (λ same. moved_apart (sym same)) ∙ gone))
            (λ p apart. elim (cases_eq p moved.page) [
              | inl same ↦ ap (λ q. copy_at rest (get_or now q 0)) same ∙ ap (λ n. copy_at rest n) moved_now ∙ ap (λ o. option_map (λ (x : HeldPage). x.held) o) (rest_moved lt)
                  ∙ ap (λ n. copy_at packed n) (sym (is.placed last moved is_last)) ∙ ap (λ q. copy_at packed (get_or places q 0)) (sym same)
              | inr other ↦ ap (λ n. copy_at rest n) (others_now p other ∙ stays p apart) ∙ by p apart other (get_or places p 0) refl
            ]),
      )

  -- what lies last is of a page of which something is held
  pub last_held : (k : ℕ) (entry : HeldPage) → slice_get packed k ≡ Some entry → (entry.page < length (unpacked packed places)) × (is_some (get_or (unpacked packed places) entry.page None) ≡ true)
  last_held k entry e = let l = length-unpacked packed places in let w = placed_within entry.page k (is.placed k entry e) in (
    omega (arith, l, w),
    ap is_some (copy_is packed places entry.page ∙ ap (λ n. copy_at packed n) (is.placed k entry e) ∙ ap (λ o. option_map (λ (x : HeldPage). x.held) o) e),
  )

  -- where nothing lies, nothing is held
  pub none_held : packed ≡ [] → (page : ℕ) → get_or (unpacked packed places) page None ≡ None
  none_held empty page = copy_is packed places page ∙ by (get_or places page 0) refl
    where
      by : (n : ℕ) → get_or places page 0 ≡ n → copy_at packed n ≡ None
      by zero e = refl
      by (suc k) e = let x = is.there page k e in absurd (let z : None ≡ Some x.0 = ap (λ (xs : List HeldPage). slice_get xs k) (sym empty) ∙ x.1 in cc)

-- where the same lies in the same order, the same is held
pub lies_alike : (packed other : List HeldPage) (places others : List ℕ) → IsPacked packed places → IsPacked other others → length places ≡ length others → packed ≡ other
    → unpacked packed places ≡ unpacked other others
lies_alike packed other places others is are size same =
    ap (λ (xs : List HeldPage). unpacked xs places) same ∙ ap (λ (ps : List ℕ). unpacked other ps) (ext_get_or 0 places others size (λ page lt. by page (get_or places page 0) (get_or others page 0) refl refl))
  where
    by : (page n m : ℕ) → get_or places page 0 ≡ n → get_or others page 0 ≡ m → get_or places page 0 ≡ get_or others page 0
    by page zero zero e f = e ∙ sym f
    by page (suc k) m e f = let x = is.there page k e in e ∙ sym (ap (λ q. get_or others q 0) (sym x.2) ∙ are.placed k x.0 (ap (λ (xs : List HeldPage). slice_get xs k) (sym same) ∙ x.1))
    by page zero (suc k) e f = let x = are.there page k f in
        ap (λ q. get_or places q 0) (sym x.2) ∙ is.placed k x.0 (ap (λ (xs : List HeldPage). slice_get xs k) same ∙ x.1) ∙ sym f

-- nothing lies anywhere
abbrev zeros : ℕ → List ℕ
zeros pages = replicate pages 0

pub no_places : (pages : ℕ) → IsPacked [] (replicate pages 0)
no_places pages = record {
  there = λ page k e. absurd (let z = none page in omega (arith, e, z));
  placed = λ k entry e. absurd (nowhere entry e);
  count = sym (uncounted pages);
}
  where
    nowhere : (entry : HeldPage) → None ≡ Some entry → ⊥
    nowhere entry e = cc

    none : (page : ℕ) → get_or (zeros pages) page 0 ≡ 0
    none page = let l : length (zeros pages) ≡ pages = length-replicate pages 0 in elim (cases_lt page pages) [
      | inl lt ↦ (let z : ℕ = 0 in get_or-replicate pages page z z lt)
      | inr le ↦ get_or_past (zeros pages) page 0 (omega (arith, l, le))
    ]

    uncounted : (n : ℕ) → count_by is_placed (replicate n 0) ≡ 0
    uncounted zero = refl
    uncounted (suc n) = uncounted n

pub no_copies : (pages : ℕ) → unpacked [] (replicate pages 0) ≡ replicate pages None
no_copies zero = refl
no_copies (suc pages) = ap (λ (xs : List (Option Held)). None ∷ xs) (no_copies pages)

-- one page fewer is held
pub fewer : (held : List (Option Held)) (page : ℕ) → page < length held → is_some (get_or held page None) ≡ true → count_by is_some (set held page None) < count_by is_some held
fewer held page within is =
    let n : Option Held = None in let s = count_set is_some held page n n within in let z : bit (is_some (get_or held page None)) ≡ 1 = ap bit is in
    let b : bit (is_some n) ≡ 0 = refl in omega (arith, s, z, b)

-- nothing is held of any page
pub none_left : (size : ℕ) (held : List (Option Held)) → length held ≡ size → ((k : ℕ) → get_or held k None ≡ None) → held ≡ replicate size None
none_left size held same none = let n : Option Held = None in
    ext_get_or n held (replicate size n) (same ∙ sym (length-replicate size n)) (λ k lt. none k ∙ sym (get_or-replicate size k n n (omega (arith, same, lt))))

-- a number and the one after it
pub next : (n : ℕ) → n + 1 ≡ suc n
next n = omega arith

-- a list whose last is nothing is empty
pub is_nothing : (packed : List HeldPage) → slice_get packed (length packed - 1) ≡ None → packed ≡ []
is_nothing [] e = refl
is_nothing (x ∷ packed) e = absurd (let z = slice_get-get_or (x ∷ packed) (length (x ∷ packed) - 1) x (omega arith) in cc)

-- two tables say the same of the pages before a place
abbrev pub SaySame : List (Option Held) → List (Option Held) → ℕ → Type 0
SaySame held others page = (k : ℕ) → k < page → get_or held k None ≡ get_or others k None

pub said_of_one_more : (held others : List (Option Held)) (page : ℕ) → SaySame held others page → get_or held page None ≡ get_or others page None → SaySame held others (page + 1)
said_of_one_more held others page same here k lt = elim (cases_eq k page) [
  | inl is ↦ rw is here
  | inr apart ↦ same k (omega (arith, lt, apart))
]

pub said_of_all : (held others : List (Option Held)) (page : ℕ) → length held ≡ length others → SaySame held others page → length held ≤ page → held ≡ others
said_of_all held others page size same le = ext_get_or None held others size (λ k lt. same k (omega (arith, lt, le)))

-- two lists that are compared as the same are
pub same_entries : (eq : HeldPage → HeldPage → Bool) → ((a b : HeldPage) → eq a b ≡ true → a ≡ b) → (xs ys : List HeldPage) → pointwise eq xs ys ≡ true → xs ≡ ys
same_entries eq same [] [] e = refl
same_entries eq same [] (y ∷ ys) e = absurd (true≢false (sym e))
same_entries eq same (x ∷ xs) [] e = absurd (true≢false (sym e))
same_entries eq same (x ∷ xs) (y ∷ ys) e = by (same_entries eq same xs ys) (eq x y) refl e
  where
    by : (pointwise eq xs ys ≡ true → xs ≡ ys) → (b : Bool) → eq x y ≡ b → (b && pointwise eq xs ys) ≡ true → x ∷ xs ≡ y ∷ ys
    by rest true f g = ap (λ (z : HeldPage). z ∷ xs) (same x y f) ∙ ap (λ (zs : List HeldPage). y ∷ zs) (rest g)
    by rest false f g = absurd (true≢false (sym g))
