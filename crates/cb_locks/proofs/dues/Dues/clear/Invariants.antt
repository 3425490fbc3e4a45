-- What holds at each turn of the loops of `Dues::clear`.
use Rattle.std.proofs.Common.{◌≡◌, ◌-◌, ◌<◌, ◌≤◌, ℕ, length, get_or}
use Rattle.cb_locks.specs.Dues.{nothing_due}
use Rattle.cb_locks.proofs.dues.Dues.clear.Given as goal

-- nothing is due of the pages before this place
abbrev pub invariant-loop-page : goal.invariant-loop-page
invariant-loop-page l = record {
  done : (page : ℕ) → page < l.from → get_or l.self page nothing_due ≡ nothing_due;
  size : length l.self ≡ length l.initial.self;
  within : l.from ≤ length l.self;
}

abbrev pub decreases-loop-page : goal.decreases-loop-page
decreases-loop-page l = length l.self - l.from
