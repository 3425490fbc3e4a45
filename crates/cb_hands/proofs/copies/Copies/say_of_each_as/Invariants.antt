-- What holds at each turn of the loops of `Copies::say_of_each_as`.
use Rattle.std.proofs.Common.{◌≡◌, ◌<◌, ℕ}
use Rattle.cb_hands.specs.Hands.{held_at}
use Rattle.cb_hands.proofs.copies.Copies.say_of_each_as.Given as goal

-- they say the same of the pages before this one
abbrev pub invariant-loop-page : goal.invariant-loop-page
invariant-loop-page l = (k : ℕ) → k < l.page → held_at l.self k ≡ held_at l.others k
