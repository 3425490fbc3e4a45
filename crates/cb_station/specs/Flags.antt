-- What the threads that share a station tell each other.
use Rattle.std.specs.Prelude.{◌≡◌, ◌==◌, ◌&&◌, ◌||◌, ◌-◌, ◌^◌, Bool, true, not, nat_lt}
use Rattle.cb_station.specs.declared.station.flags.Flags.{Flags}

-- A halted station is closed, and so is one that nobody will use (this project's).
pub record AreFlags (flags : Flags) : Type 0 where
  pub halting : flags.halted ≡ true → flags.closed ≡ true
  pub ended : flags.left ≡ 0 → flags.closed ≡ true

-- Whether a call of `work` may begin: nobody closed the station, and one more can be counted (this
-- project's).
abbrev pub may_begin : Flags → Bool
may_begin flags = not flags.closed && nat_lt flags.working (2 ^ 64 - 1)

-- Whether no call of `work` commits any more: the station is halted, or it is closed and none is
-- going on (this project's). Since none begins in a closed station, that stays so.
abbrev pub is_over : Flags → Bool
is_over flags = flags.halted || (flags.closed && flags.working == 0)

-- Whether calls of `work` may have left jobs undone: the station is halted, or such calls are still
-- to end that it is for (this project's). Once no call of `work` commits any more, one that is
-- still to end never begins.
abbrev pub is_cut_off : Flags → Bool
is_cut_off flags = flags.halted || nat_lt 0 flags.left
