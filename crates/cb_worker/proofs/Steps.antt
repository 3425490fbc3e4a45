-- What a call that waits is answered, once a step has an answer.
use Rattle.std.proofs.Common.{◌≡◌, inl, inr, Option, Some, None, Result, Ok, Err, IfSome}
use Rattle.std.specs.Prelude.{IfErr, IfOk, OnOk}
use Rattle.std.specs.Result.{result_transpose}
use Rattle.cb_worker.specs.Refusals.{StopsServing}
use Rattle.cb_worker.proofs.Using.{begun_still}
use Rattle.cb_worker.specs.Keeping.{KeepsFixed, OpenOrAborted}
use Rattle.cb_worker.specs.Steps.{Begun, StopsOr}
use Rattle.cb_worker.specs.Workers.{WorkerState, seen_by}
use Rattle.cb_worker.specs.declared.awaited.Awaited.{Awaited}
use Rattle.cb_worker.specs.declared.worker_fault.WorkerFault.{WorkerFault}

pub came_so : {T : Type 0} (P : T → Type 0) (r : Result (Option T) WorkerFault) (answer : Result T WorkerFault) → result_transpose r ≡ Some answer → IfOk r (λ found. IfSome found P) → IfOk answer P
came_so P (Ok (Some x)) answer e p = let is : answer ≡ Ok x = cc in rw is p
came_so P (Ok None) answer e p = absurd cc
came_so P (Err x) answer e p = let is : answer ≡ Err x = cc in rw is tt

pub refused_so : {T : Type 0} (P : WorkerFault → Type 0) (r : Result (Option T) WorkerFault) (answer : Result T WorkerFault) → result_transpose r ≡ Some answer → IfErr r P → IfErr answer P
refused_so P (Ok (Some x)) answer e p = let is : answer ≡ Ok x = cc in rw is tt
refused_so P (Ok None) answer e p = absurd cc
refused_so P (Err x) answer e p = let is : answer ≡ Err x = cc in rw is p

pub where_ok : {T : Type 0} (P : Type 0) (r : Result (Option T) WorkerFault) (answer : Result T WorkerFault) → result_transpose r ≡ Some answer → OnOk r P → OnOk answer P
where_ok P (Ok (Some x)) answer e p = let is : answer ≡ Ok x = cc in rw is p
where_ok P (Ok None) answer e p = absurd cc
where_ok P (Err x) answer e p = let is : answer ≡ Err x = cc in rw is tt

-- what was begun goes on while nothing has come
pub begun_on : {T S : Type 0} (a : Awaited) (one two three : WorkerState) (r : Result (Option T) WorkerFault) (q : Result S WorkerFault) → result_transpose r ≡ None → OnOk r (Begun a one two) → KeepsFixed (seen_by two) (seen_by three) → OpenOrAborted (seen_by two) (seen_by three)
    → OnOk q (Begun a one three)
begun_on a one two three (Ok (Some x)) q e b k o = absurd cc
begun_on a one two three (Ok None) (Ok y) e b k o = begun_still a one two three b k o
begun_on a one two three (Ok None) (Err f) e b k o = tt
begun_on a one two three (Err f) q e b k o = absurd cc

-- one of two reasons is one
pub stops_so : {T : Type 0} (new : WorkerState) (Why : WorkerFault → Type 0) (r : Result T WorkerFault) → IfErr r (StopsServing new) → IfErr r (StopsOr new Why)
stops_so new Why (Ok x) s = tt
stops_so new Why (Err f) s = inl s

-- nothing else is a reason where nothing is asked for
pub only_serving : (new : WorkerState) (f : WorkerFault) → StopsOr new (λ _. ⊥) f → StopsServing new f
only_serving new f (inl s) = s
only_serving new f (inr w) = absurd w

pub begun_at : {T : Type 0} {P : Type 0} (r : Result T WorkerFault) → P → OnOk r P
begun_at (Ok x) p = p
begun_at (Err f) p = tt
