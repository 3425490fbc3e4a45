-- What a worker makes of the station as its client joins, begins another incarnation, and leaves.
use Rattle.std.specs.Prelude.{◌≡◌, ◌⊎◌, ℕ, ⊤, Result, Err}
use Rattle.cb_hands.specs.Hands.{HandState}
use Rattle.cb_page.specs.Bounds.{Bounds}
use Rattle.cb_station.specs.Entering.{Joined, Left, Restarted}
use Rattle.cb_station.specs.Stations.{IsStation, StationState}
use Rattle.cb_station.specs.Telling.{Tells}
use Rattle.cb_station.specs.declared.office_fault.OfficeFault.{OfficeFault}
use Rattle.cb_station.specs.declared.office_fault.OfficeFault.TheVariants as office

-- the station has these limits
abbrev pub HasLimits : StationState → Bounds → Type 0
HasLimits station limits = station.dispatcher.server.limits ≡ limits

-- each of these, and then all who were to be told were
abbrev pub JoinsAndTells : StationState → (client : ℕ) → Result HandState OfficeFault
    → StationState → Type 0
JoinsAndTells before client result after = (joined : StationState)
    × Joined before client result joined × Tells joined after

abbrev pub RestartsAndTells : StationState → HandState → (incarnation : ℕ)
    → Result HandState (OfficeFault × HandState) → StationState → Type 0
RestartsAndTells before hand incarnation result after = (restarted : StationState)
    × Restarted before hand incarnation result restarted × Tells restarted after

abbrev pub LeavesAndTells : StationState → HandState → Result ⊤ (OfficeFault × HandState)
    → StationState → Type 0
LeavesAndTells before hand result after = (left : StationState)
    × Left before hand result left × Tells left after

-- a client that comes with limits of its own joins where these are the station's; else it is
-- refused as Foreign, and nothing changes
abbrev pub JoinsWith : StationState → (limits : Bounds) → (client : ℕ)
    → Result HandState OfficeFault → StationState → Type 0
JoinsWith before limits client result after =
    (HasLimits before limits × JoinsAndTells before client result after)
    ⊎ ((HasLimits before limits → ⊥) × (result ≡ Err office.Foreign) × (after ≡ before))

-- it came so to a station of which all holds that always does
abbrev pub JoinsSome : (limits : Bounds) → (client : ℕ) → Result HandState OfficeFault → Type 0
JoinsSome limits client result = (before : StationState) × (after : StationState)
    × IsStation before × JoinsWith before limits client result after

-- it began that incarnation so, at such a station
abbrev pub RestartsSome : HandState → (incarnation : ℕ)
    → Result HandState (OfficeFault × HandState) → Type 0
RestartsSome hand incarnation result = (before : StationState) × (after : StationState)
    × IsStation before × RestartsAndTells before hand incarnation result after

-- it left so, at such a station
abbrev pub LeavesSome : HandState → Result ⊤ (OfficeFault × HandState) → Type 0
LeavesSome hand result = (before : StationState) × (after : StationState) × IsStation before
    × LeavesAndTells before hand result after

-- it left so, or that was refused so
abbrev pub TriesToLeave : HandState → Type 0
TriesToLeave hand = (answer : Result ⊤ (OfficeFault × HandState)) × LeavesSome hand answer
