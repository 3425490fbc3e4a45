-- Where the lines and words of a text begin and end, and which words are numbers.
use Rattle.std.proofs.Common.{◌≡◌, ℕ, ◌<◌, ◌≤◌, ◌+◌, ◌==◌, Bool, true, false, not, List, [], ◌∷◌, Option, Some, None, length, take, drop, get_or, unwrap_or, refl, sym, ◌∙◌, ap, arith, nat_le, add-one, drop-cons, filter, inl, inr, lit≤, suc, length-drop, ◌-◌, add-zero, if◌then◌else◌}
use Rattle.std.specs.List.{position, position_or_len, slice_split}
use Rattle.std.specs.Str.Lines.{lines_of_parts, strip_carriage_return}
use Rattle.std.specs.Str.Parse.{digits_value, AllDigits}
use Rattle.std.specs.Char.{is_ascii_digit, digit_value}
use Rattle.std.proofs.lemmas.Str.{digit_value_digit}
use Rattle.std.specs.Str.{all_ascii_digits}
use Rattle.std.specs.Int.{IsInRange}
use Rattle.std.proofs.lemmas.Bool.{cases_Bool, cases_lt}
use Rattle.std.proofs.lemmas.List.{length-take-le, take_all, drop-drop, get_or-drop}
use Rattle.std.proofs.Math.Seq.{take-length, drop-length}
use Rattle.std.proofs.lemmas.Str.Parse.{IsNumeralModel, numerals_by_value, tells_all_ascii_digits, digit_at, digits_value-take-le}
use Rattle.std.proofs.lemmas.Grind.{common_steps}
use Rattle.std.proofs.lemmas.Option.{cond_some}
use Rattle.std.proofs.lemmas.List.Sums.{prefix_len-le-length, fails_before_first, passes_at_first}
use Rattle.std.proofs.lemmas.List.Quantifiers.{position-Some}
use Rattle.std.proofs.lemmas.List.Splits.{slice_split_first, slice_split_none, length-slice_split}
use Rattle.cb_page.specs.Numbers.{max_number}
use Rattle.std.proofs.lemmas.Bool.Decides.{nat_tests}
use Rattle.cb_transcript.specs.Pieces.{lines_of, words_of, is_blank, number_of, is_number}

-- the place of the first element that passes, or the length
pub place_or_end : (p : ℕ → Bool) (xs : List ℕ) → unwrap_or (position p xs) (length xs) ≡ position_or_len p xs
place_or_end p xs = grind (arith, prefix_len-le-length (λ x. not (p x)) xs)

found : (p : ℕ → Bool) (xs : List ℕ) (i : ℕ) → position p xs ≡ Some i → position_or_len p xs ≡ i
found p xs i e = (cond_some _ _ _ e).1

pub not_found : (p : ℕ → Bool) (xs : List ℕ) → position p xs ≡ None → position_or_len p xs ≡ length xs
not_found p xs e = grind (arith, prefix_len-le-length (λ x. not (p x)) xs)

-- a list is cut at the first element that passes
split_at_place : (p : ℕ → Bool) (xs : List ℕ) (i : ℕ) → position p xs ≡ Some i → slice_split p xs ≡ take i xs ∷ slice_split p (drop (i + 1) xs)
split_at_place p xs i e =
    let at : position_or_len p xs ≡ i = found p xs i e in
    let inside : position_or_len p xs < length xs = omega (arith, (position-Some p xs i 0 e).0) in
    slice_split_first p xs 0 inside ∙ ap (λ (k : ℕ). take k xs ∷ slice_split p (drop (k + 1) xs)) at

-- where no element passes, a list is one part
not_split : (p : ℕ → Bool) (xs : List ℕ) → position p xs ≡ None → slice_split p xs ≡ xs ∷ []
not_split p xs e =
    let all : position_or_len p xs ≡ length xs = not_found p xs e in
    slice_split_none p xs (λ k d h. fails_before_first p xs k d (omega arith))

some_part : (p : ℕ → Bool) (xs : List ℕ) → 0 < length (slice_split p xs)
some_part p xs = omega (arith, length-slice_split p xs)

-- a part that is not the last is a line that ended with a line feed
ended_line : (line : List ℕ) (parts : List (List ℕ)) → 0 < length parts → lines_of_parts (line ∷ parts) ≡ strip_carriage_return line ∷ lines_of_parts parts
ended_line line [] h = absurd (omega arith)
ended_line line (part ∷ parts) h = refl

-- the first line ends at the first line feed
pub line_ends : (text : List ℕ) (i : ℕ) → position (λ b. b == 10) text ≡ Some i → lines_of text ≡ strip_carriage_return (take i text) ∷ lines_of (drop (i + 1) text)
unfolding lines_of
line_ends text i e = ap lines_of_parts (split_at_place (λ b. b == 10) text i e) ∙ ended_line _ _ (some_part (λ b. b == 10) (drop (i + 1) text))

-- the same, of what the reader cuts off
pub line_cut : (text line rest after stripped : List ℕ) (end : ℕ) → position (λ b. b == 10) text ≡ Some end → line ≡ take end text → rest ≡ drop end text → after ≡ drop 1 rest → stripped ≡ strip_carriage_return line → (lines_of text ≡ stripped ∷ lines_of after) × (length after < length text)
line_cut text line rest after stripped end e l r a s =
    let inside : end < length text = (position-Some (λ b. b == 10) text end 0 e).0 in
    let behind : after ≡ drop (end + 1) text = a ∙ ap (drop 1) r ∙ drop-drop 1 end text in
    (rw (s, l, behind) (line_ends text end e), omega (arith, ap length behind, length-drop {A = ℕ}))

-- a text without a line feed is one line
pub last_line : (text : List ℕ) → position (λ b. b == 10) text ≡ None → 0 < length text → lines_of text ≡ text ∷ []
unfolding lines_of
last_line (byte ∷ text) e h = ap lines_of_parts (not_split (λ b. b == 10) (byte ∷ text) e) ∙ grind arith
last_line [] e h = absurd (omega arith)

pub no_line : (text : List ℕ) → length text ≡ 0 → lines_of text ≡ []
unfolding lines_of
no_line [] h = refl
no_line (byte ∷ text) h = absurd (omega arith)

no_word : words_of [] ≡ []
unfolding words_of
no_word = refl

-- a blank in front makes no word
blank_first : (byte : ℕ) (line : List ℕ) → is_blank byte ≡ true → words_of (byte ∷ line) ≡ words_of line
unfolding words_of
blank_first byte line e = rw e refl

drop_more : (n byte : ℕ) (line : List ℕ) → drop (1 + n) (byte ∷ line) ≡ drop n line
drop_more n byte line = grind (arith, common_steps)

-- blanks in front make no word
pub blanks_first : (line : List ℕ) → words_of line ≡ words_of (drop (position_or_len (λ b. not (is_blank b)) line) line)
blanks_first [] = refl
blanks_first (byte ∷ line) = elim (cases_Bool (is_blank byte)) [ inl true_ ↦ rw true_ (blank_first byte line true_ ∙ blanks_first line ∙ ap words_of (sym (drop_more _ byte line))) | inr false_ ↦ rw false_ refl ]

pub blanks_only : (line : List ℕ) → position (λ b. not (is_blank b)) line ≡ None → words_of line ≡ []
blanks_only line e = blanks_first line ∙ rw (not_found (λ b. not (is_blank b)) line e, drop-length) no_word

-- a part with a byte in it is a word
kept : (part : List ℕ) (parts : List (List ℕ)) → 0 < length part → filter (λ part. not (length part == 0)) (part ∷ parts) ≡ part ∷ filter (λ part. not (length part == 0)) parts
kept [] parts h = absurd (omega arith)
kept (byte ∷ part) parts h = grind arith

cut_word : (line : List ℕ) (n : ℕ) → n ≡ position_or_len is_blank line → 0 < n → n < length line → words_of line ≡ take n line ∷ words_of (drop (suc n) line)
unfolding words_of
cut_word line n e h inside =
    let parts : slice_split is_blank line ≡ take n line ∷ slice_split is_blank (drop (n + 1) line) =
    slice_split_first is_blank line 0 (omega arith) ∙ ap (λ (k : ℕ). take k line ∷ slice_split is_blank (drop (k + 1) line)) (sym e) in
    let some : 0 < length (take n line) = omega (arith, length-take-le n line (omega arith)) in
    ap (filter (λ part. not (length part == 0))) parts ∙ kept _ (slice_split is_blank (drop (n + 1) line)) some ∙ ap (λ (k : ℕ). take n line ∷ filter (λ part. not (length part == 0)) (slice_split is_blank (drop k line))) (add-one n)

only_word : (line : List ℕ) → position_or_len is_blank line ≡ length line → 0 < length line → words_of line ≡ line ∷ []
unfolding words_of
only_word line all h =
    ap (filter (λ part. not (length part == 0))) (slice_split_none is_blank line (λ k d below. fails_before_first is_blank line k d (omega arith))) ∙ kept line [] h

-- a line that begins with no blank begins with a word
pub word_first : (line : List ℕ) (n : ℕ) → n ≡ position_or_len is_blank line → 0 < n → words_of line ≡ take n line ∷ words_of (drop n line)
word_first line n e h =
    elim (cases_lt n (length line)) [
      | inl inside ↦
          let blank : is_blank (get_or line n 0) ≡ true = rw e (passes_at_first is_blank line 0 (omega arith)) in
          let behind : words_of (drop n line) ≡ words_of (drop (suc n) line) = ap words_of (drop-cons line n 0 inside) ∙ blank_first _ _ blank in
          cut_word line n e h inside ∙ ap (λ (more : List (List ℕ)). take n line ∷ more) (sym behind)
      | inr outside ↦
          let bound : n ≤ length line = omega (arith, prefix_len-le-length (λ b. not (is_blank b)) line) in
          let whole : n ≡ length line = omega arith in
          only_word line (sym e ∙ whole) (omega arith) ∙ rw (whole, take-length, drop-length, no_word) refl
    ]

not_true : (b : Bool) → not b ≡ true → b ≡ false
not_true true h = sym h
not_true false h = refl

place_is_later : (p : ℕ → Bool) (xs : List ℕ) → 0 < length xs → p (get_or xs 0 0) ≡ false → 0 < position_or_len p xs
place_is_later p [] h e = absurd (omega arith)
place_is_later p (x ∷ xs) h e = rw e (omega arith)

-- the first word stands from the first byte that is no blank up to the next blank, or to the end
pub word_found : (line rest : List ℕ) (start end : ℕ) (next : Option ℕ) → position (λ b. not (is_blank b)) line ≡ Some start → rest ≡ drop start line → next ≡ position is_blank rest → end ≡ unwrap_or next (length rest) → words_of line ≡ take end rest ∷ words_of (drop end rest)
word_found line rest start end next e r n u =
    let at : position_or_len (λ b. not (is_blank b)) line ≡ start = found (λ b. not (is_blank b)) line start e in
    let here = position-Some (λ b. not (is_blank b)) line start 0 e in
    let some : 0 < length rest = omega (arith, ap length r, length-drop {A = ℕ}, here.0) in
    let head : get_or rest 0 0 ≡ get_or line start 0 = ap (λ (xs : List ℕ). get_or xs 0 0) r ∙ get_or-drop start line 0 0 ∙ ap (λ (k : ℕ). get_or line k 0) (add-zero start) in
    let first : is_blank (get_or rest 0 0) ≡ false = ap is_blank head ∙ not_true _ here.1 in
    let place : end ≡ position_or_len is_blank rest = u ∙ ap (λ (o : Option ℕ). unwrap_or o (length rest)) n ∙ place_or_end is_blank rest in
    blanks_first line ∙ rw (at, ← r) (word_first rest end place (omega (arith, place_is_later is_blank rest some first)))

-- a digit and its value
pub digit : (byte : ℕ) → is_ascii_digit byte ≡ true → (digit_value byte < 10) × (digit_value byte ≡ byte - 48)
digit byte e =
    let range : IsInRange 48 57 byte = grind arith in
    (omega (arith, digit_value_digit byte range, range), omega (arith, digit_value_digit byte range))

model : IsNumeralModel (λ word. all_ascii_digits word ≡ true) (digits_value 10)
model = numerals_by_value _ tells_all_ascii_digits

-- a word with a byte that is no digit is no number
pub not_a_digit : (word : List ℕ) (i : ℕ) → i < length word → is_ascii_digit (get_or word i 0) ≡ false → is_number word ≡ false
unfolding is_number
not_a_digit word i h e = elim (cases_Bool (all_ascii_digits word)) [ inl true_ ↦ let digit : IsInRange 48 57 (get_or word i 0) = digit_at word i (model.to word true_) h in absurd (grind arith) | inr false_ ↦ rw false_ refl ]

-- nor is one of which a front is too large
pub too_large : (word : List ℕ) (i : ℕ) → max_number < digits_value 10 (take i word) → is_number word ≡ false
unfolding is_number
too_large word i h =
    let large : max_number < digits_value 10 word = omega (arith, digits_value-take-le 10 word i (lit≤ tt)) in
    let test : nat_le (digits_value 10 word) max_number ≡ false = grind (arith, nat_tests) in
    elim (cases_Bool (all_ascii_digits word)) [ inl true_ ↦ rw (true_, test) refl | inr false_ ↦ rw false_ refl ]

pub a_number : (word : List ℕ) → AllDigits 10 word → digits_value 10 word ≤ max_number → is_number word ≡ true
unfolding is_number
a_number word digits h =
    let test : nat_le (digits_value 10 word) max_number ≡ true = grind (arith, nat_tests) in
    rw (model.from word digits, test) refl

-- what the reader made of all digits is what the word says
pub spelled : (word : List ℕ) (n value : ℕ) → length word ≤ n → AllDigits 10 (take n word) → value ≡ digits_value 10 (take n word) → value ≤ max_number → Some value ≡ (if is_number word then Some (number_of word) else None)
unfolding number_of
spelled word n value h digits e small =
    let all : take n word ≡ word = take_all n word h in
    rw (a_number word (rw all at digits) (omega (arith, ap (digits_value 10) all))) (ap Some (e ∙ ap (digits_value 10) all))
