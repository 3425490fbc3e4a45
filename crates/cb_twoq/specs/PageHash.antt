-- How a page's number is hashed.
use Rattle.std.specs.Prelude.{ℕ, ◌+◌, ◌*◌, ◌%◌, ◌^◌}

-- a number with one more digit of base 256, of which 64 bits are kept
abbrev pub with_byte : ℕ → ℕ → ℕ
with_byte number byte = (number * 256 + byte) % 2 ^ 64

-- 64 bits of its product with 2^64 divided by the golden ratio
abbrev pub spread : ℕ → ℕ
spread number = number * 0x9e37_79b9_7f4a_7c15 % 2 ^ 64
