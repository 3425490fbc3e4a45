-- What a report of a written batch does to a station. This project's rules.
use Rattle.std.specs.Prelude.{◌≡◌, ◌↔◌, ◌+◌, ◌<◌, ◌≤◌, ℕ, true, false, max, Option, IfSome, IsSome, ⊤}
use Rattle.std.specs.Prelude.{Result, Ok, IfErr, OnErr, OnOk}
use Rattle.cb_mailboxes.specs.Dispatching.{Everybody, Posts}
use Rattle.cb_page.specs.Numbers.{max_number}
use Rattle.cb_protocol.specs.AnyMessages.{ReachesDisk}
use Rattle.cb_protocol.specs.Flush.{can_flush}
use Rattle.cb_station.specs.Stations.{IsUnchanged, StationState, forgot, mailbox_of, server_of}
use Rattle.cb_station.specs.declared.office_fault.OfficeFault.{OfficeFault}
use Rattle.cb_station.specs.declared.office_fault.OfficeFault.TheVariants as office

-- The commits up to that number were told to be on disk: what that made of the station. Where the
-- station has no such commit, or knew of it, nothing changed.
pub record Flushed (before : StationState) (written : ℕ) (result : Result ⊤ OfficeFault)
    (after : StationState) : Type 0 where
  pub number : OnOk result (written ≤ (server_of before).store.last_commit
      → (server_of after).flushed ≡ max written (server_of before).flushed)
  pub idle : can_flush (server_of before) written ≡ false
      → (result ≡ Ok tt) × IsUnchanged before after
  pub posts : OnOk result (can_flush (server_of before) written ≡ true
      → Posts before.dispatcher (ReachesDisk written) (mailbox_of before) Everybody
      after.dispatcher)
  pub faults : IfErr result (λ fault. fault ≡ office.Memory)
  pub err : OnErr result (IsUnchanged before after)
  pub hands : after.hands ≡ before.hands
  pub history : after.history ≡ before.history
  pub flags : after.flags ≡ before.flags

-- The commits up to that number, and no others, are on disk; what the server says to that lies in
-- the mailboxes, and they are forgotten. Where they were on disk before, nothing is said. Hands,
-- history and flags stay.
pub record ReportsUpTo (number : ℕ) (old new : StationState) : Type 0 where
  pub flushed : (server_of new).flushed ≡ max number (server_of old).flushed
  pub reported : StationState
  pub says : can_flush (server_of old) number ≡ true
      → Posts old.dispatcher (ReachesDisk number) (mailbox_of old) Everybody reported.dispatcher
  pub silent : can_flush (server_of old) number ≡ false → IsUnchanged old reported
  pub hands : reported.hands ≡ old.hands
  pub history : reported.history ≡ old.history
  pub flags : reported.flags ≡ old.flags
  pub forgets : new ≡ forgot reported number

-- the number that the station's next commit has; none only if none is left
abbrev pub IsNextOf : StationState → Option ℕ → Type 0
IsNextOf station next =
    IfSome next (λ number. number ≡ (server_of station).store.last_commit + 1)
    × (IsSome next ↔ ((server_of station).store.last_commit < max_number))
