-- When a run is over, at which office, and whether it was cut off. This project's rules.
use Rattle.std.specs.Prelude.{◌≡◌, ℕ, Bool, true, None, Ok}
use Rattle.cb_hands.specs.Hands.{HandState}
use Rattle.cb_protocol.specs.Flush.{next_batch}
use Rattle.cb_station.specs.Flags.{is_over}
use Rattle.cb_station.specs.Stations.{IsStation, StationState, server_of}
use Rattle.cb_worker.specs.Entering.{LeavesSome}
use Rattle.cb_worker.specs.Leaving.{Place}

-- Nothing is left to write: every commit is on disk.
abbrev pub IsWritten : StationState → Type 0
IsWritten station = next_batch (server_of station) ≡ None

-- No call of `work` commits any more, and nothing is left to write; and all holds that does of
-- every station.
pub record IsOver (station : StationState) : Type 0 where
  pub sound : IsStation station
  pub over : is_over station.flags ≡ true
  pub written : IsWritten station

-- At which office a run was over, and whether it was cut off then: the station was halted, or calls
-- of `work` were still to end.
pub record OverState : Type 0 where
  pub office : Place
  pub cut_off : Bool

-- a hand of that client left some station of which all holds that always does, as `leave` says it;
-- which station that was isn't named
abbrev pub HasLeft : (client : ℕ) → Type 0
HasLeft client = (hand : HandState) × (hand.client ≡ client) × LeavesSome hand (Ok tt)
