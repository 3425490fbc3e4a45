-- What a frame's incarnation and transaction are to the server.
use Rattle.std.specs.Prelude.{◌≡◌, ℕ, nat_lt, ◌==◌, if◌then◌else◌, Option, Some, None}
use Rattle.cb_links.specs.declared.sessions.Admission.{Admission}
use Rattle.cb_links.specs.declared.sessions.Admission.TheVariants.{Stale, Current, Unknown}
use Rattle.cb_links.specs.declared.sessions.Standing.{Standing}
use Rattle.cb_links.specs.declared.sessions.Standing.TheVariants as standing
use Rattle.cb_links.specs.declared.sessions.Transaction.{Transaction}
use Rattle.cb_links.specs.declared.sessions.Transaction.TheVariants.{NotBegun, Live, Ended}

-- less than the current incarnation, equal to it, or neither (this project's rule)
abbrev pub admission_of : Option ℕ → ℕ → Admission
admission_of None incarnation = Unknown
admission_of (Some current) incarnation =
    if nat_lt incarnation current then Stale
    else if incarnation == current then Current else Unknown

-- greater than the current incarnation, or the client's first
abbrev pub IsNewer : Option ℕ → ℕ → Type 0
IsNewer current incarnation = admission_of current incarnation ≡ Unknown

-- A transaction that is not the current one has ended where it is less, and is later where it is
-- greater; the current one lives, doomed or not, until it has ended (this project's rule).
abbrev pub standing_of : Transaction → ℕ → Standing
standing_of NotBegun txn = standing.Later
standing_of (Live current is_doomed) txn =
    if nat_lt txn current then standing.Ended
    else if nat_lt current txn then standing.Later
    else if is_doomed then standing.Doomed else standing.Live
standing_of (Ended last commit) txn = if nat_lt last txn then standing.Later else standing.Ended

abbrev pub IsLater : Transaction → ℕ → Type 0
IsLater transaction txn = standing_of transaction txn ≡ standing.Later
