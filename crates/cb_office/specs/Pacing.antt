-- For which commits a flusher waits before it takes a batch. This project's rules.
use Rattle.std.specs.Prelude.{◌+◌, ◌-◌, ◌&&◌, ℕ, Bool, Option, Some, None, not, nat_le, nat_lt}
use Rattle.std.specs.Prelude.{max, if◌then◌else◌}
use Rattle.cb_page.specs.Numbers.{max_number}
use Rattle.cb_protocol.specs.Flush.{can_flush}
use Rattle.cb_protocol.specs.Server.{Server}

-- of how many commits the report of this number told: those since the one before, and of one where
-- it is the first
abbrev pub told_by : (before : Option ℕ) → (number : ℕ) → ℕ
told_by None number = 1
told_by (Some before) number = max (number - before) 1

-- such a number, if it is none too great for a commit
abbrev pub commit_number : ℕ → Option ℕ
commit_number number = if nat_le number max_number then Some number else None

-- which commit is awaited after that report, while the next one to be made has that other number:
-- the last one of as many as it told of
abbrev pub awaited_after : (before : Option ℕ) → (number : ℕ) → (next : Option ℕ) → Option ℕ
awaited_after before number None = None
awaited_after before number (Some next) = commit_number (next + (told_by before number - 1))

-- whether a commit behind this one is to be written
abbrev pub has_behind : (reported : ℕ) → Server → Bool
has_behind reported server = nat_lt reported max_number && can_flush server (reported + 1)

-- which commit is waited for at a server: the awaited one, where a commit behind the last reported
-- one is to be written and the awaited one isn't made yet
abbrev pub waits_for : (reported awaited : Option ℕ) → Server → Option ℕ
waits_for (Some reported) (Some awaited) server =
    if has_behind reported server && not (can_flush server awaited) then Some awaited else None
waits_for _ _ server = None
