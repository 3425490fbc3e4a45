-- The words of a generator (O'Neill, PCG: XSH RR 64/32), from where it stands.
use Rattle.std.specs.Prelude.{ℕ, zero, suc}
use Rattle.rand_pcg.specs.Lcg.{Lcg}
use Rattle.rand_pcg.specs.Pcg.{pcg32}

-- the word of this number among those that come, from 0
abbrev pub word_at : Lcg → ℕ → ℕ
word_at generator zero = (pcg32 generator).0
word_at generator (suc n) = word_at (pcg32 generator).1 n

-- the generator after so many words
abbrev pub after_words : Lcg → ℕ → Lcg
after_words generator zero = generator
after_words generator (suc n) = after_words (pcg32 generator).1 n
