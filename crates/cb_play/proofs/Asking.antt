-- What was read of a command line, by what its subcommand and its arguments answer.
use Rattle.std.proofs.Common.{◌≡◌, ◌∙◌, ℕ, Bool, true, false, List, Option, Some, None, Ok, Result, codes, refl, sym, subst, option_map}
use Rattle.std.specs.Str.Parse.{ParsesUnsigned, digits_value, without_leading_plus}
use Rattle.clap.proofs.WalkLemmas.{first_value-rows, one_text-rows}
use Rattle.clap.specs.Words.{ReadsOne, Row, Text, first_value, found_of, one_text, rows_of, subcommand_name_of, subcommand_rows_of}
use Rattle.clap.specs.declared.parser.matches.ArgMatches.{ArgMatches}
use Rattle.cb_play.specs.Requests.{IsFlag, IsNumber, IsText}

-- a name and rows that are those of one subcommand
both : {X : Type 0} (name_in : X → List ℕ) (rows_in : X → List Row) (o : Option X) (name : List ℕ) (rows : List Row) → Some name ≡ option_map name_in o
    → Some rows ≡ option_map (λ (p : Text × List Row). p.1) (option_map {U = Text × List Row} (λ (x : X). (name_in x, rows_in x)) o) → option_map {U = Text × List Row} (λ (x : X). (name_in x, rows_in x)) o ≡ Some (name, rows)
both name_in rows_in None name rows first second = cc
both name_in rows_in (Some x) name rows first second = cc

pub read_of : (m : ArgMatches) (name : List ℕ) (rows : List Row) → Some name ≡ subcommand_name_of m → Some rows ≡ option_map (λ (p : Text × List Row). p.1) (subcommand_rows_of m)
    → subcommand_rows_of m ≡ Some (name, rows)
read_of m name rows first second = both _ _ _ name rows first second

-- the value of an argument, as a text
pub text_of : (m : ArgMatches) (id text : List ℕ) → Some text ≡ first_value (found_of m) id → IsText (rows_of (found_of m)) id text
text_of m id text is = sym (first_value-rows (found_of m) id) ∙ sym is

-- how a text is read as a number of 64 bits, and what else is said of that
abbrev pub Reads : {E : Type 0} (P Q : List ℕ → Result ℕ E → Type 0) → List ℕ → Result ℕ E → Type 0
Reads P Q text result = ParsesUnsigned 64 10 text result × P text result × Q text result

-- as such a number
number_in : {E : Type 0} (P Q : List ℕ → Result ℕ E → Type 0) (o : Option (List ℕ)) (r : Option ℕ) (n : ℕ) → r ≡ Some n → (o ≡ None → r ≡ None)
    → ((t : List ℕ) → o ≡ Some t → ReadsOne (Reads P Q) t r) → (text : List ℕ) × (o ≡ Some text) × (n ≡ digits_value 10 (without_leading_plus text))
number_in P Q None r n is none value = let bad : Some n ≡ None = sym is ∙ none refl in cc
number_in P Q (Some t) r n is none value = let reads : Reads P Q t (Ok n) = subst (λ (k : Option ℕ). ReadsOne (Reads P Q) t k) is (value t refl) in (t, refl, reads.0.1)

pub number_of : {E : Type 0} (P Q : List ℕ → Result ℕ E → Type 0) (m : ArgMatches) (id : List ℕ) (r : Option ℕ) (n : ℕ) → r ≡ Some n
    → (one_text (found_of m) id ≡ None → r ≡ None) → ((t : List ℕ) → one_text (found_of m) id ≡ Some t → ReadsOne (Reads P Q) t r) → IsNumber (rows_of (found_of m)) id n
number_of P Q m id r n is none value =
    let found = number_in P Q (one_text (found_of m) id) r n is none value in
    (found.0, sym (one_text-rows (found_of m) id) ∙ found.1, found.2)

-- as a flag
pub flag_of : (m : ArgMatches) (id : List ℕ) (given : Bool) → (one_text (found_of m) id ≡ None → given ≡ false) → (one_text (found_of m) id ≡ Some (codes "true") → given ≡ true)
    → (one_text (found_of m) id ≡ Some (codes "false") → given ≡ false) → IsFlag (rows_of (found_of m)) id given
flag_of m id given none when_true when_false =
    let same = one_text-rows (found_of m) id in
    ((λ e. none (same ∙ e)), (λ e. when_true (same ∙ e)), (λ e. when_false (same ∙ e)))
