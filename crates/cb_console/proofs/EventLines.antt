-- What the line of an event means: its words, and the command that they are.
use Rattle.std.proofs.Common.{◌≡◌, ◌<◌, ◌^◌, ℕ, zero, suc, Bool, true, false, not, ◌&&◌, ◌==◌, List, [], ◌∷◌, ◌++◌, length, refl, ap, ◌∙◌, arith, codes, replicate, nat_lt, None, Some, slice_index, All, append_assoc}
use Rattle.std.specs.List.{list_all}
use Rattle.std.proofs.lemmas.Bool.Decides.{nat_tests}
use Rattle.std.proofs.lemmas.Grind.{common_steps}
use Rattle.std.proofs.lemmas.List.Folds.{list_all-append}
use Rattle.std.proofs.lemmas.Fmt.{digits_decimal, digits_value-decimal, decimal_nonempty}
use Rattle.std.proofs.lemmas.List.Splits.{slice_split_at, slice_split_none}
use Rattle.std.proofs.lemmas.Str.Parse.{IsNumeralModel, numerals_by_value, tells_all_ascii_digits}
use Rattle.std.specs.Fmt.{decimal}
use Rattle.std.specs.Str.{all_ascii_digits, bytes_eq}
use Rattle.std.specs.Str.Parse.{digits_value}
use Rattle.cb_page.specs.Bounds.{Bounds}
use Rattle.cb_page.specs.Faults.{first_fault}
use Rattle.cb_transcript.specs.Pieces.{is_blank, is_number, is_text, is_text_byte, number_of}
use Rattle.cb_transcript.specs.Pieces.{words_of}
use Rattle.cb_transcript.specs.Commands.{command_named}
use Rattle.cb_transcript.specs.ScheduleText.{event_of_line, line_causes, words_causes}
use Rattle.cb_transcript.specs.declared.event.Call.{Call}
use Rattle.cb_transcript.specs.declared.event.Call.TheVariants as call
use Rattle.cb_transcript.specs.declared.event.Event.{Event}
use Rattle.cb_transcript.specs.declared.event.Event.TheVariants as event
use Rattle.cb_console.specs.DrawnText.{event_text, call_name, arguments_text}
use Rattle.cb_console.specs.EventMeaning.{HasLine, HasArguments, IsWithin, LinesMeanEvents}

-- a word of a line: some bytes, none of them blank
record IsWord (word : List ℕ) : Type 0 where
  some : 0 < length word
  plain : All (λ byte. is_blank byte ≡ false) word

-- bytes that are no blanks, as a test
abbrev plain_bytes : List ℕ → Bool
plain_bytes [] = true
plain_bytes (byte ∷ bytes) = not (is_blank byte) && plain_bytes bytes

no_blank : (bytes : List ℕ) → plain_bytes bytes ≡ true → All (λ byte. is_blank byte ≡ false) bytes
no_blank [] plain = λ k x at. absurd (omega arith)
no_blank (byte ∷ bytes) plain = grind (arith, common_steps, no_blank bytes)

digits_plain : (word : List ℕ) → all_ascii_digits word ≡ true → plain_bytes word ≡ true
digits_plain [] digits = refl
digits_plain (byte ∷ bytes) digits = grind (arith, common_steps, digits_plain bytes)

word_of : (word : List ℕ) → 0 < length word → plain_bytes word ≡ true → IsWord word
word_of word some plain = record { some = some; plain = no_blank word plain }

not_empty : (word : List ℕ) → 0 < length word → not (length word == 0) ≡ true
not_empty [] some = absurd (omega arith)
not_empty (byte ∷ bytes) some = grind (arith, common_steps)

words_last : (word : List ℕ) → IsWord word → words_of word ≡ word ∷ []
unfolding words_of
words_last word is = rw (slice_split_none is_blank word is.plain, not_empty word is.some) refl

words_more : (word rest : List ℕ) → IsWord word → words_of (word ++ 32 ∷ rest) ≡ word ∷ words_of rest
unfolding words_of
words_more word rest is = rw (slice_split_at is_blank word 32 rest is.plain refl, not_empty word is.some) refl

-- a number's text is a word of digits
numerals : IsNumeralModel (λ word. all_ascii_digits word ≡ true) (digits_value 10)
numerals = numerals_by_value _ tells_all_ascii_digits

are_digits : (n : ℕ) → n < 2 ^ 62 → all_ascii_digits (decimal n) ≡ true
are_digits n fits = digits_decimal numerals n (omega arith)

number_word : (n : ℕ) → n < 2 ^ 62 → IsWord (decimal n)
number_word n fits = word_of (decimal n) (decimal_nonempty n (omega arith)) (digits_plain (decimal n) (are_digits n fits))

number_is : (n : ℕ) → n < 2 ^ 62 → number_of (decimal n) ≡ n
unfolding number_of
number_is n fits = digits_value-decimal numerals n (omega arith)

-- a number isn't the word behind `again` for the server
not_server : (word : List ℕ) → all_ascii_digits word ≡ true → bytes_eq word (codes "server") ≡ false
not_server [] digits = refl
not_server (byte ∷ bytes) digits = grind (arith, common_steps)

-- a line of a word and numbers
one_number : (word : List ℕ) (n : ℕ) → IsWord word → n < 2 ^ 62 → words_of (word ++ 32 ∷ decimal n) ≡ word ∷ decimal n ∷ []
one_number word n is fits = words_more word (decimal n) is ∙ ap (λ words. word ∷ words) (words_last (decimal n) (number_word n fits))

two_numbers : (word : List ℕ) (m n : ℕ) → IsWord word → m < 2 ^ 62 → n < 2 ^ 62 → words_of (word ++ 32 ∷ (decimal m ++ 32 ∷ decimal n)) ≡ word ∷ decimal m ∷ decimal n ∷ []
two_numbers word m n is first second =
    words_more word (decimal m ++ 32 ∷ decimal n) is ∙ ap (λ words. word ∷ words) (one_number (decimal m) n (number_word m first) second)

three_numbers : (word : List ℕ) (k m n : ℕ) → IsWord word → k < 2 ^ 62 → m < 2 ^ 62 → n < 2 ^ 62
    → words_of (word ++ 32 ∷ (decimal k ++ 32 ∷ (decimal m ++ 32 ∷ decimal n))) ≡ word ∷ decimal k ∷ decimal m ∷ decimal n ∷ []
three_numbers word k m n is first second third =
    words_more word (decimal k ++ 32 ∷ (decimal m ++ 32 ∷ decimal n)) is ∙ ap (λ words. word ∷ words) (two_numbers (decimal k) m n (number_word k first) second third)

first_of_replicate : (n byte : ℕ) → 0 < n → slice_index (replicate n byte) 0 ≡ byte
first_of_replicate zero byte some = absurd (omega arith)
first_of_replicate (suc n) byte some = refl

no_more : (word : List ℕ) → word ++ [] ≡ word
no_more [] = refl
no_more (byte ∷ bytes) = ap (λ rest. byte ∷ rest) (no_more bytes)

-- the line of an event, up to its line feed
abbrev event_line : Event → List ℕ
event_line (event.Call client made) = call_name made ++ (codes " " ++ (decimal client ++ arguments_text made))
event_line (event.Take packet) = codes "take " ++ decimal packet
event_line (event.Restart client) = codes "restart " ++ decimal client
event_line event.AgainServer = codes "again server"
event_line event.Flush = codes "flush"
event_line (event.FlushTo number) = codes "flush " ++ decimal number

call_is_line : (name client arguments : List ℕ) → name ++ (codes " " ++ (client ++ (arguments ++ 10 ∷ []))) ≡ (name ++ (codes " " ++ (client ++ arguments))) ++ 10 ∷ []
call_is_line name client arguments = simp append_assoc refl

text_is_line : (e : Event) → event_text e ≡ event_line e ++ 10 ∷ []
text_is_line (event.Call client made) = call_is_line (call_name made) (decimal client) (arguments_text made)
text_is_line (event.Take packet) = simp append_assoc refl
text_is_line (event.Restart client) = simp append_assoc refl
text_is_line event.AgainServer = refl
text_is_line event.Flush = refl
text_is_line (event.FlushTo n) = simp append_assoc refl

means : (limits : Bounds) (e : Event) → HasLine limits e → event_of_line limits (event_line e) ≡ Some e
unfolding command_named
means limits (event.Call client call.Hello) fits =
    rw (no_more (decimal client), one_number (codes "hello") client (word_of (codes "hello") (omega arith) refl) fits.0, number_is client fits.0) refl
means limits (event.Call client call.Begin) fits =
    rw (no_more (decimal client), one_number (codes "begin") client (word_of (codes "begin") (omega arith) refl) fits.0, number_is client fits.0) refl
means limits (event.Call client call.Finish) fits =
    rw (no_more (decimal client), one_number (codes "finish") client (word_of (codes "finish") (omega arith) refl) fits.0, number_is client fits.0) refl
means limits (event.Call client call.Drop) fits =
    rw (no_more (decimal client), one_number (codes "drop") client (word_of (codes "drop") (omega arith) refl) fits.0, number_is client fits.0) refl
means limits (event.Call client call.Again) fits =
    rw (
      no_more (decimal client),
      one_number (codes "again") client (word_of (codes "again") (omega arith) refl) fits.0,
      not_server (decimal client) (are_digits client fits.0),
      number_is client fits.0,
    ) refl
means limits (event.Call client (call.Read page)) fits =
    rw (two_numbers (codes "read") client page (word_of (codes "read") (omega arith) refl) fits.0 fits.1, number_is client fits.0, number_is page fits.1) refl
means limits (event.Call client (call.Want page)) fits =
    rw (two_numbers (codes "want") client page (word_of (codes "want") (omega arith) refl) fits.0 fits.1, number_is client fits.0, number_is page fits.1) refl
means limits (event.Call client (call.Peek page)) fits =
    rw (two_numbers (codes "peek") client page (word_of (codes "peek") (omega arith) refl) fits.0 fits.1, number_is client fits.0, number_is page fits.1) refl
means limits (event.Call client (call.Write page bytes)) fits =
    let byte = fits.1.2.0 in
    let first : slice_index bytes 0 ≡ byte = rw fits.1.2.2 (first_of_replicate limits.page_size byte fits.1.1) in
    rw (
      first,
      three_numbers (codes "write") client page byte (word_of (codes "write") (omega arith) refl) fits.0 fits.1.0 (omega (arith, fits.1.2.1)),
      number_is client fits.0,
      number_is page fits.1.0,
      number_is byte (omega (arith, fits.1.2.1)),
      fits.1.2.2,
    ) refl
means limits (event.Take packet) fits =
    rw (one_number (codes "take") packet (word_of (codes "take") (omega arith) refl) fits, number_is packet fits) refl
means limits (event.Restart client) fits =
    rw (one_number (codes "restart") client (word_of (codes "restart") (omega arith) refl) fits, number_is client fits) refl
means limits event.AgainServer fits =
    rw (words_more (codes "again") (codes "server") (word_of (codes "again") (omega arith) refl), words_last (codes "server") (word_of (codes "server") (omega arith) refl)) refl
means limits event.Flush fits = rw (words_last (codes "flush") (word_of (codes "flush") (omega arith) refl)) refl
means limits (event.FlushTo number_to) fits =
    rw (one_number (codes "flush") number_to (word_of (codes "flush") (omega arith) refl) fits, number_is number_to fits) refl

-- a number's text is a number
is_numeral : (n : ℕ) → n < 2 ^ 62 → is_number (decimal n) ≡ true
unfolding is_number
is_numeral n fits = rw (are_digits n fits, digits_value-decimal numerals n (omega arith)) (grind (arith, nat_tests))

below : (n bound : ℕ) → n < bound → nat_lt n bound ≡ true
below n bound less = grind (arith, nat_tests)

-- the line of an event is text
text_more : (first rest : List ℕ) → list_all is_text_byte first ≡ true → list_all is_text_byte rest ≡ true → list_all is_text_byte (first ++ rest) ≡ true
text_more first rest one other = rw (list_all-append, one, other) refl

digits_text : (word : List ℕ) → all_ascii_digits word ≡ true → list_all is_text_byte word ≡ true
digits_text [] digits = refl
digits_text (byte ∷ bytes) digits = grind (arith, common_steps, digits_text bytes)

number_text : (n : ℕ) → n < 2 ^ 62 → list_all is_text_byte (decimal n) ≡ true
number_text n fits = digits_text (decimal n) (are_digits n fits)

name_text : (made : Call) → list_all is_text_byte (call_name made) ≡ true
name_text call.Hello = refl
name_text call.Begin = refl
name_text (call.Read page) = refl
name_text (call.Want page) = refl
name_text (call.Write page bytes) = refl
name_text call.Finish = refl
name_text call.Drop = refl
name_text call.Again = refl
name_text (call.Peek page) = refl

-- the first of the bytes of a write
first_byte : (limits : Bounds) (page : ℕ) (bytes : List ℕ) → HasArguments limits (call.Write page bytes) → slice_index bytes 0 < 2 ^ 62
first_byte limits page bytes fits =
    let first : slice_index bytes 0 ≡ fits.2.0 = rw fits.2.2 (first_of_replicate limits.page_size fits.2.0 fits.1) in
    omega (arith, first, fits.2.1)

arguments_are_text : (limits : Bounds) (made : Call) → HasArguments limits made → list_all is_text_byte (arguments_text made) ≡ true
arguments_are_text limits call.Hello fits = refl
arguments_are_text limits call.Begin fits = refl
arguments_are_text limits (call.Read page) fits = text_more (codes " ") (decimal page) refl (number_text page fits)
arguments_are_text limits (call.Want page) fits = text_more (codes " ") (decimal page) refl (number_text page fits)
arguments_are_text limits (call.Peek page) fits = text_more (codes " ") (decimal page) refl (number_text page fits)
arguments_are_text limits (call.Write page bytes) fits =
    let byte = decimal (slice_index bytes 0) in
    text_more (codes " ") (decimal page ++ (codes " " ++ byte)) refl
    (text_more (decimal page) (codes " " ++ byte) (number_text page fits.0) (text_more (codes " ") byte refl (number_text (slice_index bytes 0) (first_byte limits page bytes fits))))
arguments_are_text limits call.Finish fits = refl
arguments_are_text limits call.Drop fits = refl
arguments_are_text limits call.Again fits = refl

line_is_text : (limits : Bounds) (e : Event) → HasLine limits e → is_text (event_line e) ≡ true
unfolding is_text
line_is_text limits (event.Call client made) fits =
    text_more (call_name made) (codes " " ++ (decimal client ++ arguments_text made)) (name_text made)
    (text_more (codes " ") (decimal client ++ arguments_text made) refl (text_more (decimal client) (arguments_text made) (number_text client fits.0) (arguments_are_text limits made fits.1)))
line_is_text limits (event.Take packet) fits = text_more (codes "take ") (decimal packet) refl (number_text packet fits)
line_is_text limits (event.Restart client) fits = text_more (codes "restart ") (decimal client) refl (number_text client fits)
line_is_text limits event.AgainServer fits = refl
line_is_text limits event.Flush fits = refl
line_is_text limits (event.FlushTo number) fits = text_more (codes "flush ") (decimal number) refl (number_text number fits)

-- its words have no fault
no_cause : (limits : Bounds) (number : ℕ) (e : Event) → HasLine limits e → IsWithin limits e → first_fault (words_causes limits number (words_of (event_line e))) ≡ None
unfolding command_named
no_cause limits number (event.Call client call.Hello) fits within =
    rw (
      no_more (decimal client),
      one_number (codes "hello") client (word_of (codes "hello") (omega arith) refl) fits.0,
      is_numeral client fits.0,
      number_is client fits.0,
      below client limits.clients within.0,
    ) refl
no_cause limits number (event.Call client call.Begin) fits within =
    rw (
      no_more (decimal client),
      one_number (codes "begin") client (word_of (codes "begin") (omega arith) refl) fits.0,
      is_numeral client fits.0,
      number_is client fits.0,
      below client limits.clients within.0,
    ) refl
no_cause limits number (event.Call client call.Finish) fits within =
    rw (
      no_more (decimal client),
      one_number (codes "finish") client (word_of (codes "finish") (omega arith) refl) fits.0,
      is_numeral client fits.0,
      number_is client fits.0,
      below client limits.clients within.0,
    ) refl
no_cause limits number (event.Call client call.Drop) fits within =
    rw (
      no_more (decimal client),
      one_number (codes "drop") client (word_of (codes "drop") (omega arith) refl) fits.0,
      is_numeral client fits.0,
      number_is client fits.0,
      below client limits.clients within.0,
    ) refl
no_cause limits number (event.Call client call.Again) fits within =
    rw (
      no_more (decimal client),
      one_number (codes "again") client (word_of (codes "again") (omega arith) refl) fits.0,
      not_server (decimal client) (are_digits client fits.0),
      is_numeral client fits.0,
      number_is client fits.0,
      below client limits.clients within.0,
    ) refl
no_cause limits number (event.Call client (call.Read page)) fits within =
    rw (
      two_numbers (codes "read") client page (word_of (codes "read") (omega arith) refl) fits.0 fits.1,
      is_numeral client fits.0,
      is_numeral page fits.1,
      number_is client fits.0,
      number_is page fits.1,
      below client limits.clients within.0,
      below page limits.pages within.1,
    ) refl
no_cause limits number (event.Call client (call.Want page)) fits within =
    rw (
      two_numbers (codes "want") client page (word_of (codes "want") (omega arith) refl) fits.0 fits.1,
      is_numeral client fits.0,
      is_numeral page fits.1,
      number_is client fits.0,
      number_is page fits.1,
      below client limits.clients within.0,
      below page limits.pages within.1,
    ) refl
no_cause limits number (event.Call client (call.Peek page)) fits within =
    rw (
      two_numbers (codes "peek") client page (word_of (codes "peek") (omega arith) refl) fits.0 fits.1,
      is_numeral client fits.0,
      is_numeral page fits.1,
      number_is client fits.0,
      number_is page fits.1,
      below client limits.clients within.0,
      below page limits.pages within.1,
    ) refl
no_cause limits number (event.Call client (call.Write page bytes)) fits within =
    let byte = fits.1.2.0 in
    let first : slice_index bytes 0 ≡ byte = rw fits.1.2.2 (first_of_replicate limits.page_size byte fits.1.1) in
    let byte_fits : byte < 2 ^ 62 = omega (arith, fits.1.2.1) in
    rw (
      first,
      three_numbers (codes "write") client page byte (word_of (codes "write") (omega arith) refl) fits.0 fits.1.0 byte_fits,
      is_numeral client fits.0,
      is_numeral page fits.1.0,
      is_numeral byte byte_fits,
      number_is client fits.0,
      number_is page fits.1.0,
      number_is byte byte_fits,
      below client limits.clients within.0,
      below page limits.pages within.1,
      below byte 256 fits.1.2.1,
    ) refl
no_cause limits number (event.Take packet) fits within =
    rw (one_number (codes "take") packet (word_of (codes "take") (omega arith) refl) fits, is_numeral packet fits) refl
no_cause limits number (event.Restart client) fits within =
    rw (
      one_number (codes "restart") client (word_of (codes "restart") (omega arith) refl) fits,
      is_numeral client fits,
      number_is client fits,
      below client limits.clients within,
    ) refl
no_cause limits number event.AgainServer fits within =
    rw (words_more (codes "again") (codes "server") (word_of (codes "again") (omega arith) refl), words_last (codes "server") (word_of (codes "server") (omega arith) refl)) refl
no_cause limits number event.Flush fits within = rw (words_last (codes "flush") (word_of (codes "flush") (omega arith) refl)) refl
no_cause limits number (event.FlushTo number_to) fits within =
    rw (one_number (codes "flush") number_to (word_of (codes "flush") (omega arith) refl) fits, is_numeral number_to fits) refl

faultless : (limits : Bounds) (number : ℕ) (e : Event) → HasLine limits e → IsWithin limits e → first_fault (line_causes limits number (event_line e)) ≡ None
faultless limits number e fits within = rw (line_is_text limits e fits) (no_cause limits number e fits within)

pub lines_mean_events : LinesMeanEvents
lines_mean_events limits e fits = (event_line e, text_is_line e, means limits e fits, λ number within. faultless limits number e fits within)
