-- A client left, or that was refused.
use Rattle.std.proofs.Common.{Result, Ok, Err}
use Rattle.std.specs.Prelude.{IfErr, OnOk}
use Rattle.cb_hands.specs.Hands.{HandState}
use Rattle.cb_station.specs.declared.office_fault.OfficeFault.{OfficeFault}
use Rattle.cb_worker.specs.Entering.{LeavesSome, TriesToLeave}

pub tries : {A : Type 0} (hand : HandState) (r : Result A (OfficeFault × HandState)) → OnOk r (LeavesSome hand (Ok tt)) → IfErr r (λ refused. LeavesSome hand (Err refused)) → TriesToLeave hand
tries hand (Ok left) so refused = (Ok tt, so)
tries hand (Err it) so refused = (Err it, refused)
