-- SQL's equality of a value and a number.
use Rattle.std.proofs.Common.{◌≡◌, ℕ, ℤ, pos, arith, Bool, true, false, ◌||◌, cond, Ordering, Less, Equal, Greater, refl, sym, ◌∙◌, subst, true≢false, Some}
use Rattle.std.specs.Ordering.{is_eq, int_cmp}
use Rattle.std.proofs.lemmas.Bool.{and_parts}
use Rattle.std.proofs.lemmas.Cmp.{tied_itself}
use Rattle.std.proofs.lemmas.Int.{ints}
use Rattle.std.proofs.lemmas.Bool.Decides.{nat_tests}
use Rattle.sqlite_value.specs.declared.value.Value.{Value}
use Rattle.sqlite_value.specs.declared.value.Value.TheVariants.{Null, Int, Real, Text, Blob}
use Rattle.sqlite_value.specs.declared.keys.Collation.TheVariants.{Binary}
use Rattle.sqlite_value.specs.Order.{value_cmp}
use Rattle.sqlite_value.specs.Keys.{plain, first_key}
use Rattle.sqlite_value.proofs.OrderLemmas.{value_cmp_total, value_cmp-Int}
use Rattle.sqlite_sql.specs.Ops.{binary, unary, numeric, is_null, is_true, from_truth}
use Rattle.sqlite_sql.specs.declared.ops.UnaryOp.TheVariants.{ToInt}
use Rattle.sqlite_schema.specs.Rules.{equal}
use Rattle.sqlite_schema.specs.declared.schema.Kind.TheVariants.{Integer}
use Rattle.sqlite_rules.specs.Cast.{cast, as_integer}

parts : (null test : Bool) → is_true (cond null Null (from_truth (Some test))) ≡ true → (null ≡ false) × (test ≡ true)
parts true test h = absurd (true≢false (sym h))
parts false true h = (refl, refl)
parts false false h = absurd (true≢false (sym h))

tied : (o : Ordering) → is_eq o ≡ true → o ≡ Equal
tied Less h = absurd (true≢false (sym h))
tied Equal h = refl
tied Greater h = absurd (true≢false (sym h))

-- equal values tie
pub equal_ties : (a b : Value) → equal Binary a b ≡ true → value_cmp a b ≡ Equal
unfolding binary
equal_ties a b h = tied (value_cmp a b) (parts (is_null a || is_null b) (is_eq (value_cmp a b)) h).1

-- a number is equal to itself
pub equal_itself : (n : ℤ) → equal Binary (Int n) (Int n) ≡ true
unfolding binary
equal_itself n = rw (tied_itself value_cmp_total (Int n)) refl

same_ints : (m n : ℕ) → int_cmp (pos m) (pos n) ≡ Equal → m ≡ n
same_ints m n h = grind (arith, ints, nat_tests)

tied_numbers : (m n : ℕ) → value_cmp (Int (pos m)) (Int (pos n)) ≡ Equal → m ≡ n
tied_numbers m n h = same_ints m n (sym (value_cmp-Int (pos m) (pos n)) ∙ h)

-- equal numbers are the same
pub equal_numbers : (m n : ℕ) → equal Binary (Int (pos m)) (Int (pos n)) ≡ true → m ≡ n
equal_numbers m n h = tied_numbers m n (equal_ties (Int (pos m)) (Int (pos n)) h)

-- what is equal to two numbers
pub equal_both : (v : Value) (m n : ℕ) → equal Binary v (Int (pos m)) ≡ true → equal Binary v (Int (pos n)) ≡ true → m ≡ n
equal_both v m n h k = tied_numbers m n (sym (value_cmp_total.congr v (Int (pos m)) (Int (pos n)) (equal_ties v (Int (pos m)) h)) ∙ equal_ties v (Int (pos n)) k)

-- a rowid that ties is equal to the number
pub ties_equal : (v : Value) (n : ℤ) → is_null v ≡ false → value_cmp v (Int n) ≡ Equal → equal Binary v (Int n) ≡ true
unfolding binary
ties_equal v n some h = rw (some, h) refl

either : (b : Bool) (x : Value) → cond b x x ≡ x
either true x = refl
either false x = refl

-- a number is cast to itself
pub cast_number : (n : ℤ) → cast Integer (Int n) ≡ Int n
unfolding unary
cast_number n = either _ (Int n)

-- what ties with a number is one
some_number : (v : Value) (n : ℤ) → value_cmp v (Int n) ≡ Equal → is_null v ≡ false
unfolding value_cmp
some_number Null n h = absurd cc
some_number _ n h = refl

numeric_same : (v : Value) (n : ℤ) → value_cmp v (Int n) ≡ Equal → numeric v ≡ v
unfolding value_cmp
numeric_same Null n h = refl
numeric_same (Int m) n h = refl
numeric_same (Real x) n h = refl
numeric_same (Text t) n h = absurd cc
numeric_same (Blob b) n h = absurd cc

either_ties : (b : Bool) (v w : Value) (n : ℤ) → value_cmp v (Int n) ≡ Equal → (b ≡ true → value_cmp w v ≡ Equal) → value_cmp (cond b w v) (Int n) ≡ Equal
either_ties true v w n h same = value_cmp_total.congr w v (Int n) (same refl) ∙ h
either_ties false v w n h same = h

-- what is equal to a number still is once it is cast
pub cast_equal : (v : Value) (n : ℤ) → equal Binary v (Int n) ≡ true → equal Binary (cast Integer v) (Int n) ≡ true
cast_equal v n h =
    let ties = equal_ties v (Int n) h in
    let still : value_cmp (as_integer v) (Int n) ≡ Equal = either_ties _ v (unary ToInt v) n ties (λ both. tied _ (and_parts _ _ both).0) in
    let cast_ties : value_cmp (cast Integer v) (Int n) ≡ Equal = subst (λ w. value_cmp (as_integer w) (Int n) ≡ Equal) (sym (numeric_same v n ties)) still in
    ties_equal (cast Integer v) n (some_number (cast Integer v) n cast_ties) cast_ties

pub plain_key : first_key plain ≡ record { collation = Binary; descending = false }
unfolding first_key
plain_key = refl

pub cast_null : cast Integer Null ≡ Null
unfolding unary
cast_null = either _ Null
