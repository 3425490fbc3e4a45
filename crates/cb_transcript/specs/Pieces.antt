-- The pieces of a schedule's text: lines, words and numbers. This project's rules.
use Rattle.std.specs.Prelude.{
  ℕ,
  Bool,
  not,
  ◌&&◌,
  ◌||◌,
  ◌==◌,
  nat_le,
  List,
  length,
  filter,
}
use Rattle.std.specs.List.{slice_split, list_all}
use Rattle.std.specs.Str.{all_ascii_digits}
use Rattle.std.specs.Str.Lines.{lines}
use Rattle.std.specs.Str.Parse.{digits_value}
use Rattle.cb_page.specs.Numbers.{max_number}

-- The lines of a text end with a line feed, which the last may lack: behind a line feed at the end
-- there is no further line. A carriage return directly before a line feed is dropped.
unfoldable pub lines_of : List ℕ → List (List ℕ)
lines_of text = lines text

-- a space or a tab
abbrev pub is_blank : ℕ → Bool
is_blank byte = (byte == 32) || (byte == 9)

-- The words of a line: the parts between its blanks, but not the empty ones.
unfoldable pub words_of : List ℕ → List (List ℕ)
words_of line = filter (λ part. not (length part == 0)) (slice_split is_blank line)

-- a tab, or a byte of printable ASCII
abbrev pub is_text_byte : ℕ → Bool
is_text_byte byte = (byte == 9) || (nat_le 32 byte && nat_le byte 126)

-- whether a line is text
unfoldable pub is_text : List ℕ → Bool
is_text line = list_all is_text_byte line

-- what a word of decimal digits says, whatever zeros it begins with
unfoldable pub number_of : List ℕ → ℕ
number_of word = digits_value 10 word

-- whether a word is a number: decimal digits, of a value up to 2^62 - 1
unfoldable pub is_number : List ℕ → Bool
is_number word = all_ascii_digits word && nat_le (digits_value 10 word) max_number
