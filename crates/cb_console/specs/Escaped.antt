-- How a line shows a text of others. This project's rule.
use Rattle.std.specs.Prelude.{ℕ, ◌/◌, ◌%◌, false, List, [], ◌∷◌, ◌++◌, codes, chars}
use Rattle.std.specs.Prelude.{if◌then◌else◌}
use Rattle.std.specs.Fmt.{digit_glyph}
use Rattle.std.specs.Char.{encode_utf8, is_control}
use Rattle.std.specs.List.{flat_map}

-- a byte as two small hexadecimal digits
unfoldable pub two_digits : ℕ → List ℕ
two_digits byte = digit_glyph false (byte / 16) ∷ digit_glyph false (byte % 16) ∷ []

-- a control character by its code, as in `\u{1b}`, and any other character as it is
unfoldable pub escaped_character : ℕ → List ℕ
escaped_character character =
    if is_control character then codes "\\u{" ++ (two_digits character ++ codes "}")
    else encode_utf8 character

-- a text with its control characters so written
unfoldable pub escaped : List ℕ → List ℕ
escaped text = flat_map escaped_character (chars text)
