-- Which commits a station takes.
use Rattle.std.specs.Prelude.{◌≡◌, ◌⊎◌, ◌+◌, ◌<◌, ◌≤◌, ◌&&◌, ◌||◌, ℕ, Bool, true, not, nat_lt}
use Rattle.std.specs.Prelude.{List, [], Result, Ok, Err}
use Rattle.cb_frame.specs.declared.frame.Body.{Body}
use Rattle.cb_frame.specs.declared.frame.Body.TheVariants as body
use Rattle.cb_frame.specs.declared.frame.Frame.{Frame}
use Rattle.cb_frame.specs.declared.writes.Write.{Write}
use Rattle.cb_hands.specs.Hands.{HandState}
use Rattle.cb_station.specs.Moves.{HoldsAll, IsOwn, MayWriteAll, is_commit}
use Rattle.cb_station.specs.Stations.{StationState, server_of}
use Rattle.cb_station.specs.declared.office_fault.OfficeFault.{OfficeFault}
use Rattle.cb_station.specs.declared.office_fault.OfficeFault.TheVariants as office
use Rattle.cb_page.specs.Numbers.{max_number}
use Rattle.cb_protocol.specs.Server.{Server, has_not_ended}

-- a Commit's transaction, and what it writes
abbrev pub txn_in : Body → ℕ
txn_in (body.Commit txn writes) = txn
txn_in _ = 0

abbrev pub writes_in : Body → List Write
writes_in (body.Commit txn writes) = writes
writes_in _ = []

abbrev pub txn_of : Frame → ℕ
txn_of frame = txn_in frame.body

abbrev pub writes_of : Frame → List Write
writes_of frame = writes_in frame.body

-- it is a Commit of the hand's client
abbrev pub IsOwnCommit : StationState → Frame → HandState → Type 0
IsOwnCommit station frame hand = IsOwn station frame hand × (is_commit frame.body ≡ true)

-- the hand shows all that it read and may write
abbrev pub IsPermitted : HandState → (reads : List Bool) → Frame → Type 0
IsPermitted hand reads frame =
    HoldsAll hand reads × MayWriteAll hand (txn_of frame) (writes_of frame)

-- that transaction of the client is still to begin, or lasts and isn't doomed
abbrev pub is_live : Server → (client txn : ℕ) → Bool
is_live server client txn = nat_lt (server.session client).txn txn
    || (has_not_ended server client txn && not (server.doomed client))

abbrev pub IsLive : Server → Frame → Type 0
IsLive server frame = is_live server frame.client (txn_of frame) ≡ true

-- nothing but memory is in the commit's way, and this is the number that it gets
pub record AllowsCommit (station : StationState) (frame : Frame) (hand : HandState)
    (reads : List Bool) (number : ℕ) : Type 0 where
  pub own : IsOwnCommit station frame hand
  pub permitted : IsPermitted hand reads frame
  pub live : IsLive (server_of station) frame
  pub left : (server_of station).store.last_commit < max_number
  pub is_next : number ≡ (server_of station).store.last_commit + 1

-- why a commit is refused, whatever the memory: the first reason that stands
abbrev pub RefusesCommit : StationState → Frame → HandState → (reads : List Bool) → OfficeFault
    → Type 0
RefusesCommit station frame hand reads fault =
    ((fault ≡ office.Foreign) × (IsOwnCommit station frame hand → ⊥))
    ⊎ ((fault ≡ office.NotHeld) × IsOwnCommit station frame hand
    × (IsPermitted hand reads frame → ⊥))
    ⊎ ((fault ≡ office.NotLive) × IsOwnCommit station frame hand × IsPermitted hand reads frame
    × (IsLive (server_of station) frame → ⊥))
    ⊎ ((fault ≡ office.Exhausted) × IsOwnCommit station frame hand × IsPermitted hand reads frame
    × IsLive (server_of station) frame × (max_number ≤ (server_of station).store.last_commit))

-- what a commit is answered, without the frame that comes back with a fault
abbrev pub answer_of : Result ℕ (OfficeFault × Frame) → Result ℕ OfficeFault
answer_of (Ok number) = Ok number
answer_of (Err refused) = Err refused.0
