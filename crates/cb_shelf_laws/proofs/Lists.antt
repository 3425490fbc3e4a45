-- Rows of a table that are picked by a test, as one row is put in and others are taken out.
use Rattle.std.proofs.Common.{◌≡◌, inl, inr, ◌+◌, ℤ, Bool, true, false, not, ◌||◌, cond, List, [], ◌∷◌, length, filter, Ordering, Less, Equal, Greater, refl, sym, ap, ◌∙◌, arith, true≢false}
use Rattle.std.specs.List.{list_any}
use Rattle.std.specs.Ordering.{is_eq, match_ordering}
use Rattle.std.proofs.lemmas.Bool.{or_parts, not-true}
use Rattle.sqlite_value.specs.Order.{Row, value_cmp}
use Rattle.sqlite_trees.specs.Tree.{rowid, has_rowid, put_row, without_rowid}
use Rattle.sqlite_rules.specs.Edit.{without_all, is_taken}
use Rattle.sqlite_rules.specs.Lists.{Has}
use Rattle.sqlite_rules.proofs.ListLemmas.{has_filtered}

module _ {X : Type 0} where
  -- tests that agree on the elements pick the same
  pub filter_same : (p q : X → Bool) (xs : List X) → ((x : X) → Has xs x → p x ≡ q x) → filter p xs ≡ filter q xs
  filter_same p q [] same = refl
  filter_same p q (x ∷ xs) same =
      ap (λ b. cond b (x ∷ filter p xs) (filter p xs)) (same x (inl refl)) ∙ ap (λ l. cond (q x) (x ∷ l) l) (filter_same p q xs (λ y h. same y (inr h)))

  -- what fails the test isn't picked
  pub filter_none : (p : X → Bool) (xs : List X) → ((x : X) → Has xs x → p x ≡ false) → filter p xs ≡ []
  filter_none p [] none = refl
  filter_none p (x ∷ xs) none = ap (λ b. cond b (x ∷ filter p xs) (filter p xs)) (none x (inl refl)) ∙ filter_none p xs (λ y h. none y (inr h))

  -- a test that all of those pass which another picks
  pub filter_twice : (p q : X → Bool) (xs : List X) → ((x : X) → Has xs x → p x ≡ true → q x ≡ true) → filter p (filter q xs) ≡ filter p xs
  filter_twice p q [] implies = refl
  filter_twice p q (x ∷ xs) implies = go (q x) refl (p x) refl (filter_twice p q xs (λ y h. implies y (inr h)))
    where
      go : (b : Bool) → q x ≡ b → (c : Bool) → p x ≡ c → filter p (filter q xs) ≡ filter p xs → filter p (cond b (x ∷ filter q xs) (filter q xs)) ≡ filter p (x ∷ xs)
      go true e c d more = ap (λ l. cond (p x) (x ∷ l) l) more
      go false e true d more = absurd (true≢false (sym (implies x (inl refl) d) ∙ e))
      go false e false d more = more ∙ ap (λ b. cond b (x ∷ filter p xs) (filter p xs)) (sym d)

  -- those that pass and those that fail are all
  pub length_parts : (p : X → Bool) (xs : List X) → length (filter (λ x. not (p x)) xs) + length (filter p xs) ≡ length xs
  length_parts p [] = refl
  length_parts p (x ∷ xs) = go (p x) (length_parts p xs)
    where
      go : (b : Bool) → length (filter (λ y. not (p y)) xs) + length (filter p xs) ≡ length xs
          → length (cond (not b) (x ∷ filter (λ y. not (p y)) xs) (filter (λ y. not (p y)) xs)) + length (cond b (x ∷ filter p xs) (filter p xs)) ≡ length (x ∷ xs)
      go true more = omega (arith, more)
      go false more = omega (arith, more)

-- a row that isn't picked is put in at a free rowid
pub picked_beside : (p : Row → Bool) (new : Row) (rows : List Row) → is_taken rows new ≡ false → p new ≡ false → filter p (put_row new rows) ≡ filter p rows
picked_beside p new [] free out = rw out refl
picked_beside p new (r ∷ rows) free out = go (value_cmp (rowid r) (rowid new)) (or_parts _ _ free).0 (picked_beside p new rows (or_parts _ _ free).1 out)
  where
    go : (o : Ordering) → is_eq o ≡ false → filter p (put_row new rows) ≡ filter p rows → filter p (match_ordering o (r ∷ put_row new rows) (new ∷ rows) (new ∷ r ∷ rows)) ≡ filter p (r ∷ rows)
    go Less other more = ap (λ l. cond (p r) (r ∷ l) l) more
    go Equal other more = absurd (true≢false other)
    go Greater other more = rw out refl

-- a row that is picked is put in at a free rowid, where no other is
pub picked_alone : (p : Row → Bool) (new : Row) (rows : List Row) → is_taken rows new ≡ false → p new ≡ true → filter p rows ≡ [] → filter p (put_row new rows) ≡ new ∷ []
picked_alone p new [] free is none = rw is refl
picked_alone p new (r ∷ rows) free is none = go (value_cmp (rowid r) (rowid new)) (or_parts _ _ free).0 (p r) refl none (picked_alone p new rows (or_parts _ _ free).1 is)
  where
    go : (o : Ordering) → is_eq o ≡ false → (b : Bool) → p r ≡ b → cond b (r ∷ filter p rows) (filter p rows) ≡ [] → (filter p rows ≡ [] → filter p (put_row new rows) ≡ new ∷ [])
        → filter p (match_ordering o (r ∷ put_row new rows) (new ∷ rows) (new ∷ r ∷ rows)) ≡ new ∷ []
    go o other true e none more = absurd (let l = none in cc)
    go Less other false e none more = ap (λ b. cond b (r ∷ filter p (put_row new rows)) (filter p (put_row new rows))) e ∙ more none
    go Equal other false e none more = absurd (true≢false other)
    go Greater other false e none more = rw (is, e, none) refl

-- a row that is put in at a free rowid is one more
pub length_put : (new : Row) (rows : List Row) → is_taken rows new ≡ false → length (put_row new rows) ≡ length rows + 1
length_put new [] free = refl
length_put new (r ∷ rows) free = go (value_cmp (rowid r) (rowid new)) (or_parts _ _ free).0 (length_put new rows (or_parts _ _ free).1)
  where
    go : (o : Ordering) → is_eq o ≡ false → length (put_row new rows) ≡ length rows + 1 → length (match_ordering o (r ∷ put_row new rows) (new ∷ rows) (new ∷ r ∷ rows)) ≡ length (r ∷ rows) + 1
    go Less other more = omega (arith, more)
    go Equal other more = absurd (true≢false other)
    go Greater other more = omega arith

-- Those that pass a test are taken out, and a row is put in at a rowid that is free then.
pub record IsReplaced (p : Row → Bool) (new : Row) (rows after : List Row) : Type 0 where
  pub fresh : is_taken (filter (λ r. not (p r)) rows) new ≡ false
  pub is : after ≡ put_row new (filter (λ r. not (p r)) rows)

module _ (p : Row → Bool) (new : Row) (rows after : List Row) (replaced : IsReplaced p new rows after) where
  -- the row is the one that passes
  pub alone_there : p new ≡ true → filter p after ≡ new ∷ []
  alone_there passes =
      ap (filter p) replaced.is ∙ picked_alone p new _ replaced.fresh passes (filter_none p _ (λ r h. not-true _ (has_filtered (λ x. not (p x)) rows r h).1))

  -- another test picks the rows that it picked
  pub same_elsewhere : (q : Row → Bool) → q new ≡ false → ((r : Row) → Has rows r → q r ≡ true → p r ≡ false) → filter q after ≡ filter q rows
  same_elsewhere q out apart =
      ap (filter q) replaced.is ∙ picked_beside q new _ replaced.fresh out ∙ filter_twice q (λ r. not (p r)) rows (λ r h is. ap not (apart r h is))

  pub counted : length after + length (filter p rows) ≡ length rows + 1
  counted = omega (arith, ap length replaced.is, length_put new _ replaced.fresh, length_parts p rows)

-- whether a row has one of the rowids
abbrev pub has_some : List ℤ → Row → Bool
has_some ids row = list_any (λ id. has_rowid id row) ids

-- the rows that have none of the rowids are left
pub without_are : (ids : List ℤ) (rows : List Row) → without_all rows ids ≡ filter (λ r. not (has_some ids r)) rows
without_are [] [] = refl
without_are [] (r ∷ rows) = ap (λ l. r ∷ l) (without_are [] rows)
without_are (id ∷ ids) rows = without_are ids (without_rowid id rows) ∙ twice rows
  where
    go : (r : Row) (rows : List Row) (b c : Bool) → has_rowid id r ≡ b → has_some ids r ≡ c → filter (λ r. not (has_some ids r)) (without_rowid id rows) ≡ filter (λ r. not (has_some (id ∷ ids) r)) rows
        → filter (λ r. not (has_some ids r)) (cond (not b) (r ∷ without_rowid id rows) (without_rowid id rows)) ≡ cond (not (b || c)) (r ∷ filter (λ r. not (has_some (id ∷ ids) r)) rows) (filter (λ r. not (has_some (id ∷ ids) r)) rows)
    go r rows true c e d more = more
    go r rows false c e d more = ap (λ b. cond (not b) (r ∷ filter (λ r. not (has_some ids r)) (without_rowid id rows)) (filter (λ r. not (has_some ids r)) (without_rowid id rows))) d ∙ ap (λ l. cond (not c) (r ∷ l) l) more

    twice : (rows : List Row) → filter (λ r. not (has_some ids r)) (without_rowid id rows) ≡ filter (λ r. not (has_some (id ∷ ids) r)) rows
    twice [] = refl
    twice (r ∷ rows) = go r rows (has_rowid id r) (has_some ids r) refl refl (twice rows)
