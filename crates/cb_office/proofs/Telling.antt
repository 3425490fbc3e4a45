-- A report that was made or not, and that all who are to be told were told then.
use Rattle.std.proofs.Common.{Result, Ok, Err, OnOk, OnErr}
use Rattle.cb_station.specs.Stations.{StationState}
use Rattle.cb_station.specs.Telling.{Tells}

-- all who are to be told are told of it
pub then_told : {X E : Type 0} (r : Result X E) (P : StationState → Type 0) (mid new : StationState) → OnOk r (P mid) → Tells mid new → OnOk r ((m : StationState) × P m × Tells m new)
then_told (Ok x) P mid new p tells = (mid, p, tells)
then_told (Err e) P mid new p tells = tt

pub then_told_unchanged : {X E : Type 0} (r : Result X E) (P : StationState → Type 0) (mid new : StationState) → OnErr r (P mid) → Tells mid new → OnErr r ((m : StationState) × P m × Tells m new)
then_told_unchanged (Ok x) P mid new p tells = tt
then_told_unchanged (Err e) P mid new p tells = (mid, p, tells)
