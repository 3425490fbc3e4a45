-- What a commit that is refused is answered.
use Rattle.std.proofs.Common.{◌≡◌, ℕ, Bool, List, Err, inl, inr, refl}
use Rattle.cb_frame.specs.declared.frame.Frame.{Frame}
use Rattle.cb_hands.specs.Hands.{HandState}
use Rattle.cb_station.specs.Calls.{Committed}
use Rattle.cb_station.specs.Commits.{AllowsCommit, RefusesCommit}
use Rattle.cb_station.specs.Stations.{IsUnchanged, StationState}
use Rattle.cb_station.specs.declared.office_fault.OfficeFault.{OfficeFault}
use Rattle.cb_station.specs.declared.office_fault.OfficeFault.TheVariants as office

-- the first reason that stands, whatever the memory
pub refuses : (before after : StationState) (frame : Frame) (reads : List Bool) (hand next : HandState) (fault : OfficeFault) → RefusesCommit before frame hand reads fault → IsUnchanged before after → next ≡ hand → Committed before frame reads hand (Err fault) after next
refuses before after frame reads hand next fault why same is = record { refused = inl why; err = (same, is); allowed = tt; entry = tt; posts = tt; applied = tt; taken = tt; moved = tt; stored = tt; flags = tt }

-- nothing but memory is in its way
pub lacks_memory : (before after : StationState) (frame : Frame) (reads : List Bool) (hand next : HandState) (number : ℕ) → AllowsCommit before frame hand reads number → IsUnchanged before after → next ≡ hand → Committed before frame reads hand (Err office.Memory) after next
lacks_memory before after frame reads hand next number allowed same is = record { refused = inr (refl, number, allowed); err = (same, is); allowed = tt; entry = tt; posts = tt; applied = tt; taken = tt; moved = tt; stored = tt; flags = tt }
