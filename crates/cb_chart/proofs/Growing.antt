-- Bars after one event more.
use Rattle.std.proofs.Common.{append_assoc, zero, suc, ◌≡◌, ◌≤◌, ◌<◌, ◌+◌, ◌==◌, ◌&&◌, ◌⊎◌, ◌↔◌, ℕ, Bool, true, false, List, [], ◌∷◌, ◌++◌, length, map, refl, sym, ap, ◌∙◌, subst, arith, inl, inr, if◌then◌else◌, slice_index_or}
use Rattle.std.specs.List.{Contains, list_any}
use Rattle.std.proofs.lemmas.Bool.{cases_lt}
use Rattle.std.proofs.lemmas.Bool.Decides.{nat_tests}
use Rattle.std.proofs.lemmas.List.{append-nil, get_or_append_left, get_or_push, get_or-map, length-map, length_push}
use Rattle.std.proofs.lemmas.List.Elements.{Contains-push, Contains-append_cases, Contains-append_left, Contains-append_right, Contains-get_or}
use Rattle.std.proofs.lemmas.List.Folds.{Any-from_list_any}
use Rattle.cb_chart.specs.Bars.{AreBars, Begins, IsNew, StandsAt, alike, goes_on, lasts, lengthened, same_copy}
use Rattle.cb_chart.specs.declared.bars.Bar.{Bar}
use Rattle.cb_chart.specs.declared.bars.ClientCopy.{ClientCopy}

-- a test that joins others is true where all are
left_true : (a b : Bool) → (a && b) ≡ true → a ≡ true
left_true true b e = refl
left_true false b e = cc

right_true : (a b : Bool) → (a && b) ≡ true → b ≡ true
right_true true b e = e
right_true false b e = cc

alike_is : (a b : Bool) → alike a b ≡ true → a ≡ b
alike_is true true e = refl
alike_is true false e = cc
alike_is false true e = cc
alike_is false false e = refl

equal_is : (a b : ℕ) → (a == b) ≡ true → a ≡ b
equal_is a b e = grind (arith, nat_tests)

-- copies that are the same are one
same_is : (a b : ClientCopy) → same_copy a b ≡ true → a ≡ b
same_is a b e =
    let clients : (a.client == b.client) ≡ true = left_true _ _ e in
    let others : ((a.page == b.page) && alike a.may_write b.may_write) ≡ true = right_true _ _ e in
    let c : a.client ≡ b.client = equal_is a.client b.client clients in
    let p : a.page ≡ b.page = equal_is a.page b.page (left_true _ _ others) in
    let w : a.may_write ≡ b.may_write = alike_is a.may_write b.may_write (right_true _ _ others) in
    λ i. record { client = c i; page = p i; may_write = w i }

-- a copy that is the same as one of these is one of these
among : (copies : List ClientCopy) (copy : ClientCopy) → list_any (λ other. same_copy other copy) copies ≡ true → Contains copies copy
among copies copy e =
    let found = Any-from_list_any (λ (other : ClientCopy). same_copy other copy) copies e in
    let same : found.1 ≡ copy = same_is found.1 copy found.4 in
    subst (λ (x : ClientCopy). Contains copies x) same (found.0, found.2, found.3)

-- what is in a mapped list
nobody : Bar
nobody = record { copy = record { client = 0; page = 0; may_write = false }; first = 0; last = 0 }

mapped : (f : Bar → Bar) (bars : List Bar) (bar : Bar) → Contains bars bar → Contains (map f bars) (f bar)
mapped f bars bar h =
    let long : length (map f bars) ≡ length bars = simp length-map in
    (h.0, omega (arith, h.1, long), get_or-map f bars h.0 bar (f bar) h.1 ∙ ap f h.2)

unmapped : (f : Bar → Bar) (bars : List Bar) (bar : Bar) → Contains (map f bars) bar → (old : Bar) × Contains bars old × (f old ≡ bar)
unmapped f bars bar h =
    let long : length (map f bars) ≡ length bars = simp length-map in
    let within : h.0 < length bars = omega (arith, h.1, long) in
    (slice_index_or bars h.0 nobody, Contains-get_or bars h.0 nobody within, sym (get_or-map f bars h.0 nobody bar within) ∙ h.2)

-- The bar goes on and lasts up to the event, or it stays.
record Grows (copies : List ClientCopy) (event : ℕ) (old new : Bar) : Type 0 where
  copy : new.copy ≡ old.copy
  first : new.first ≡ old.first
  last : ((Contains copies old.copy) × (old.last + 1 ≡ event) × (new.last ≡ event)) ⊎ (new.last ≡ old.last)

grows : (copies : List ClientCopy) (event : ℕ) (bar : Bar) → Grows copies event bar (lengthened copies event bar)
grows copies event bar = by (goes_on copies event bar) refl
  where
    by : (x : Bool) → goes_on copies event bar ≡ x → Grows copies event bar (if x then record bar { last = event } else bar)
    by true e = record {
      copy = refl;
      first = refl;
      last = inl (among copies bar.copy (right_true _ _ e), equal_is (bar.last + 1) event (left_true _ _ e), refl);
    }
    by false e = record { copy = refl; first = refl; last = inr refl }

-- Where a bar of the new list comes from.
abbrev Comes : List ClientCopy → (event : ℕ) → List Bar → Bar → Type 0
Comes copies event bars bar = ((old : Bar) × Contains bars old × Grows copies event old bar) ⊎ IsNew copies event bar

comes : (copies : List ClientCopy) (event : ℕ) (bars new : List Bar) (bar : Bar) → Begins (map (lengthened copies event) bars) copies event new → Contains new bar → Comes copies event bars bar
comes copies event bars new bar b h =
    elim (Contains-append_cases (map (lengthened copies event) bars) b.added bar (subst (λ (xs : List Bar). Contains xs bar) b.behind h)) [
      | inl old ↦ (let from = unmapped (lengthened copies event) bars bar old in inl (from.0, from.1, subst (λ (x : Bar). Grows copies event from.0 x) from.2 (grows copies event from.0)))
      | inr own ↦ inr (b.are_new bar own)
    ]

-- a bar is there still, and lasts as long or longer
goes : (copies : List ClientCopy) (event : ℕ) (bars new : List Bar) (bar : Bar) → Begins (map (lengthened copies event) bars) copies event new → Contains bars bar
    → Contains new (lengthened copies event bar)
goes copies event bars new bar b h =
    subst (λ (xs : List Bar). Contains xs (lengthened copies event bar)) (sym b.behind)
    (Contains-append_left (map (lengthened copies event) bars) b.added (lengthened copies event bar) (mapped (lengthened copies event) bars bar h))

-- a bar that lasts as long as the old one, or up to the event, covers what came before
ends : (copies : List ClientCopy) (count event : ℕ) (old bar : Bar) → Grows copies count old bar → event < count → event ≤ bar.last → event ≤ old.last
ends copies count event old bar g h le = elim g.last [
  | inl on ↦ (let e : old.last + 1 ≡ count = on.1 in omega (arith, e, h))
  | inr kept ↦ (let e : bar.last ≡ old.last = kept in omega (arith, e, le))
]

starts : (copies : List ClientCopy) (count event : ℕ) (old bar : Bar) → Grows copies count old bar → event < count → event ≤ old.last → event ≤ bar.last
starts copies count event old bar g h le = elim g.last [
  | inl on ↦ (let e : bar.last ≡ count = on.2 in omega (arith, e, h))
  | inr kept ↦ (let e : bar.last ≡ old.last = kept in omega (arith, e, le))
]

-- before the event the same bars stand
down : (sights : List (List ClientCopy)) (copies : List ClientCopy) (bars new : List Bar) (event : ℕ) (copy : ClientCopy)
    → Begins (map (lengthened copies (length sights)) bars) copies (length sights) new → event < length sights → StandsAt new event copy → StandsAt bars event copy
down sights copies bars new event copy begins h s =
    elim (comes copies (length sights) bars new s.0 begins s.1) [
      | inl old ↦ (let g : Grows copies (length sights) old.0 s.0 = old.2 in
          let from : old.0.first ≤ event = subst (λ (x : ℕ). x ≤ event) g.first s.3 in
          (old.0, old.1, sym g.copy ∙ s.2, from, ends copies (length sights) event old.0 s.0 g h s.4))
      | inr own ↦ absurd (let e : s.0.first ≡ length sights = own.first in let f : s.0.first ≤ event = s.3 in omega (arith, e, f, h))
    ]

up : (sights : List (List ClientCopy)) (copies : List ClientCopy) (bars new : List Bar) (event : ℕ) (copy : ClientCopy)
    → Begins (map (lengthened copies (length sights)) bars) copies (length sights) new → event < length sights → StandsAt bars event copy → StandsAt new event copy
up sights copies bars new event copy begins h s =
    let longer : Bar = lengthened copies (length sights) s.0 in
    let g : Grows copies (length sights) s.0 longer = grows copies (length sights) s.0 in
    let from : longer.first ≤ event = subst (λ (x : ℕ). x ≤ event) (sym g.first) s.3 in
    (longer, goes copies (length sights) bars new s.0 begins s.1, g.copy ∙ s.2, from, starts copies (length sights) event s.0 longer g h s.4)

-- how far a bar of the new list goes
reach : (sights : List (List ClientCopy)) (copies : List ClientCopy) (bars new : List Bar) → AreBars sights bars → Begins (map (lengthened copies (length sights)) bars) copies (length sights) new
    → (bar : Bar) → Contains new bar → (bar.first ≤ bar.last) × (bar.last ≤ length sights) × (bar.last ≡ length sights → Contains copies bar.copy)
reach sights copies bars new are begins bar h =
    elim (comes copies (length sights) bars new bar begins h) [
      | inl old ↦ (let g : Grows copies (length sights) old.0 bar = old.2 in
          let within = are.within old.0 old.1 in
          grown old.0 g within.0 within.1)
      | inr own ↦ (let e : bar.first ≡ length sights = own.first in let f : bar.last ≡ length sights = own.last in
          (omega (arith, e, f), omega (arith, f), λ _. own.copy))
    ]
  where
    grown : (old : Bar) → Grows copies (length sights) old bar → old.first ≤ old.last → old.last < length sights
        → (bar.first ≤ bar.last) × (bar.last ≤ length sights) × (bar.last ≡ length sights → Contains copies bar.copy)
    grown old g order below = elim g.last [
      | inl on ↦ (let a : bar.first ≡ old.first = g.first in let e : bar.last ≡ length sights = on.2 in
          (omega (arith, a, e, order, below), omega (arith, e), λ _. subst (λ (x : ClientCopy). Contains copies x) (sym g.copy) on.0))
      | inr kept ↦ (let a : bar.first ≡ old.first = g.first in let e : bar.last ≡ old.last = kept in
          (omega (arith, a, e, order), omega (arith, e, below), λ at. absurd (omega (arith, at, e, below))))
    ]

-- the sights of an event before the last one, and of that one
sight_before : (sights : List (List ClientCopy)) (copies : List ClientCopy) (event : ℕ) → event < length sights → slice_index_or (sights ++ copies ∷ []) event [] ≡ slice_index_or sights event []
sight_before sights copies event h = get_or_append_left sights (copies ∷ []) [] event h

sight_last : (sights : List (List ClientCopy)) (copies : List ClientCopy) → slice_index_or (sights ++ copies ∷ []) (length sights) [] ≡ copies
sight_last sights copies = get_or_push sights copies [] (length sights) refl

-- after the event the copies are those that bars reach
exact_last : (sights : List (List ClientCopy)) (copies : List ClientCopy) (bars new : List Bar) → AreBars sights bars → Begins (map (lengthened copies (length sights)) bars) copies (length sights) new
    → (copy : ClientCopy) → StandsAt new (length sights) copy ↔ Contains copies copy
exact_last sights copies bars new are begins copy = (
  λ s. (let r = reach sights copies bars new are begins s.0 s.1 in
      let at : s.0.last ≡ length sights = (let a = r.1 in let b = s.4 in omega (arith, a, b)) in
      subst (λ (x : ClientCopy). Contains copies x) s.2 (r.2 at)),
  λ h. (let e = begins.each copy h in
      let r = reach sights copies bars new are begins e.0 e.1 in
      let last : e.0.last ≡ length sights = e.3 in
      let order : e.0.first ≤ e.0.last = r.0 in
      (e.0, e.1, e.2, omega (arith, last, order), omega (arith, last))),
)

pub still_bars : (sights : List (List ClientCopy)) (copies : List ClientCopy) (bars new : List Bar) → AreBars sights bars → Begins (map (lengthened copies (length sights)) bars) copies (length sights) new
    → AreBars (sights ++ copies ∷ []) new
still_bars sights copies bars new are begins = record {
  exact = λ event copy h. by event copy h (cases_lt event (length sights));
  within = λ bar h. (let r = reach sights copies bars new are begins bar h in
      let long : length (sights ++ copies ∷ []) ≡ length sights + 1 = length_push sights copies in
      let below : bar.last ≤ length sights = r.1 in
      (r.0, omega (arith, long, below)));
}
  where
    both : (event : ℕ) (copy : ClientCopy) → event < length sights → StandsAt new event copy ↔ Contains (slice_index_or sights event []) copy
    both event copy before = (
      λ s. (are.exact event copy before).0 (down sights copies bars new event copy begins before s),
      λ c. up sights copies bars new event copy begins before ((are.exact event copy before).1 c),
    )

    by : (event : ℕ) (copy : ClientCopy) → event < length (sights ++ copies ∷ []) → (event < length sights) ⊎ (length sights ≤ event)
        → StandsAt new event copy ↔ Contains (slice_index_or (sights ++ copies ∷ []) event []) copy
    by event copy h (inl before) =
        rw (sight_before sights copies event before) (both event copy before)
    by event copy h (inr after) =
        let long : length (sights ++ copies ∷ []) ≡ length sights + 1 = length_push sights copies in
        let at : event ≡ length sights = omega (arith, long, h, after) in
        subst (λ (x : ℕ). StandsAt new x copy ↔ Contains (slice_index_or (sights ++ copies ∷ []) x []) copy) (sym at)
        (rw (sight_last sights copies) (exact_last sights copies bars new are begins copy))

pub still_bars_at : (sights : List (List ClientCopy)) (copies : List ClientCopy) (event : ℕ) (bars longer new : List Bar) → length sights ≡ event → longer ≡ map (lengthened copies event) bars
    → Begins longer copies event new → AreBars sights bars → AreBars (sights ++ copies ∷ []) new
still_bars_at sights copies event bars longer new at is begins are =
    let here : Begins (map (lengthened copies event) bars) copies event new = subst (λ (xs : List Bar). Begins xs copies event new) is begins in
    still_bars sights copies bars new are (subst (λ (x : ℕ). Begins (map (lengthened copies x) bars) copies x new) (sym at) here)

-- no bar begins for no copy
pub begins_none : (bars : List Bar) (event : ℕ) → Begins bars [] event bars
begins_none bars event = record {
  added = [];
  behind = sym (append-nil bars);
  are_new = λ bar h. absurd (let lt : h.0 < 0 = h.1 in omega (arith, lt));
  each = λ copy h. absurd (let lt : h.0 < 0 = h.1 in omega (arith, lt));
}

-- bars begin for some copies, and then for one more
pub begins_then : (old cur new : List Bar) (seen : List ClientCopy) (copy : ClientCopy) (event : ℕ) → Begins old seen event cur → Begins cur (copy ∷ []) event new → Begins old (seen ++ copy ∷ []) event new
begins_then old cur new seen copy event a b = record {
  added = a.added ++ b.added;
  behind = b.behind ∙ ap (λ (xs : List Bar). xs ++ b.added) a.behind ∙ simp append_assoc;
  are_new = λ bar h. elim (Contains-append_cases a.added b.added bar h) [
    | inl x ↦ (let n = a.are_new bar x in record { copy = Contains-append_left seen (copy ∷ []) bar.copy n.copy; first = n.first; last = n.last })
    | inr y ↦ (let n = b.are_new bar y in record { copy = Contains-append_right seen (copy ∷ []) bar.copy n.copy; first = n.first; last = n.last })
  ];
  each = λ which h. elim (Contains-append_cases seen (copy ∷ []) which h) [
    | inl x ↦ (let e = a.each which x in (e.0, subst (λ (xs : List Bar). Contains xs e.0) (sym b.behind) (Contains-append_left cur b.added e.0 e.1), e.2, e.3))
    | inr y ↦ b.each which y
  ];
}

only : (copy which : ClientCopy) → Contains (copy ∷ []) which → copy ≡ which
only copy which h = by h.0 h.1 h.2
  where
    by : (k : ℕ) → k < 1 → slice_index_or (copy ∷ []) k which ≡ which → copy ≡ which
    by zero lt e = e
    by (suc k) lt e = absurd (omega (arith, lt))

-- one copy, of which a bar lasts up to the event
pub begins_has : (bars : List Bar) (copy : ClientCopy) (event : ℕ) → list_any (lasts event copy) bars ≡ true → Begins bars (copy ∷ []) event bars
begins_has bars copy event e =
    let found = Any-from_list_any (lasts event copy) bars e in
    let at : found.1.last ≡ event = equal_is found.1.last event (left_true _ _ found.4) in
    let same : found.1.copy ≡ copy = same_is found.1.copy copy (right_true _ _ found.4) in
    record {
      added = [];
      behind = sym (append-nil bars);
      are_new = λ bar h. absurd (let lt : h.0 < 0 = h.1 in omega (arith, lt));
      each = λ which h. (found.1, (found.0, found.2, found.3), same ∙ only copy which h, at);
    }

-- one copy, for which a bar begins
pub begins_push : (bars : List Bar) (copy : ClientCopy) (event : ℕ) → Begins bars (copy ∷ []) event (bars ++ record { copy = copy; first = event; last = event } ∷ [])
begins_push bars copy event =
    let own : Bar = record { copy = copy; first = event; last = event } in
    record {
      added = own ∷ [];
      behind = refl;
      are_new = λ bar h. subst (IsNew (copy ∷ []) event) (only_bar own bar h) (record { copy = (0, omega arith, refl); first = refl; last = refl });
      each = λ which h. (own, Contains-push bars own, only copy which h, refl);
    }
  where
    only_bar : (own bar : Bar) → Contains (own ∷ []) bar → own ≡ bar
    only_bar own bar h = at h.0 h.1 h.2
      where
        at : (k : ℕ) → k < 1 → slice_index_or (own ∷ []) k bar ≡ bar → own ≡ bar
        at zero lt e = e
        at (suc k) lt e = absurd (omega (arith, lt))
