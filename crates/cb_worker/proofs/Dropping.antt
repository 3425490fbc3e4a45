-- How a worker's transaction is dropped, and that it is said.
use Rattle.std.proofs.Common.{◌≡◌, inl, inr, true, List, [], ◌∷◌, Result, Ok, Err, OnOk, IfErr, ap, subst, sym, ◌∙◌}
use Rattle.std.specs.Prelude.{⊤}
use Rattle.cb_client.specs.ByTable.{Calls, limits_at, messages_from, over}
use Rattle.cb_client_core.specs.ClientState.{ClientState, client_of}
use Rattle.cb_frame.specs.declared.frame.Frame.{Frame}
use Rattle.cb_outbox.specs.Messages.{messages_of}
use Rattle.cb_protocol.proofs.Cases.{call_accepted}
use Rattle.cb_protocol.specs.Answers.{AnsweredOk}
use Rattle.cb_protocol.specs.Client as protocol
use Rattle.cb_protocol.specs.Client.{bodies_said}
use Rattle.cb_protocol.specs.ClientCalls.{CallDrop, Reply}
use Rattle.cb_protocol.specs.ClientEnd.{end_pages}
use Rattle.cb_protocol.specs.Messages.{Message}
use Rattle.cb_station.specs.Stations.{IsStation, StationState}
use Rattle.cb_worker.proofs.Standing.{accepted}
use Rattle.cb_worker.specs.Dropping.{Drops, IsDropped, SaysDrop, drop_of}
use Rattle.cb_worker.specs.Refusals.{RefusesDrop, StopsAt}
use Rattle.cb_worker.specs.Serving.{HandsInAndTells, HandsOne}
use Rattle.cb_worker.specs.Workers.{Ended, HasTransaction, WorkerState}
use Rattle.cb_worker.specs.Moving.{IsStill}
use Rattle.cb_worker.specs.declared.worker_fault.WorkerFault.{WorkerFault}

-- what it says begins with the Drop
drop_first : (v : ClientState) (said : List Message) (new : ClientState) → Calls v CallDrop AnsweredOk said over new
    → said ≡ drop_of v ∷ messages_from v (bodies_said (end_pages (client_of v []) true (limits_at v).pages))
drop_first v said new calls =
    sym (calls.makes.said []) ∙ ap (λ (r : Reply). messages_from v (bodies_said r.steps)) (call_accepted (limits_at v) (client_of v []) CallDrop (accepted v [] (calls.word [])))

pub says : (old new : WorkerState) (said : List Frame) → new.said ≡ said → Calls old.client CallDrop AnsweredOk (messages_of said) over new.client → IsStill old new → SaysDrop old new
says old new said e calls still = let kept = subst (λ (l : List Frame). Calls old.client CallDrop AnsweredOk (messages_of l) over new.client) (sym e) calls in record {
  calls = kept;
  given_back = messages_from old.client (bodies_said (end_pages (client_of old.client []) true (limits_at old.client).pages));
  first = drop_first old.client (messages_of new.said) new.client kept;
  still = still;
}

-- what is said of it was handed in, where that wasn't refused
pub is_dropped : (old served dropped new : WorkerState) (before after : StationState) (r : Result ⊤ WorkerFault) → IsStill old served → Ended dropped protocol.Dropped → SaysDrop served dropped → IsStation before
    → HandsInAndTells dropped before r new after → new.client ≡ dropped.client → OnOk r (IsDropped old new)
is_dropped old served dropped new before after (Ok done) still ended says sound hands same = inl (
  record { idle = λ ops. rw same (ended.idle ops); so = λ ops. rw same (ended.so ops) },
  record { served = served; same = still; dropped = dropped; says = says; before = before; sound = sound; after = after; hands = hands },
)
is_dropped old served dropped new before after (Err fault) still ended says sound hands same = tt

-- where it was, what is left of it is kept
pub kept : (old served dropped new : WorkerState) (r : Result ⊤ WorkerFault) → IsStill old served → SaysDrop served dropped → IfErr r (StopsAt HandsOne dropped new) → IfErr r (RefusesDrop old new)
kept old served dropped new (Ok done) still says stops = tt
kept old served dropped new (Err fault) still says stops = inr (inr (served, still, dropped, says, stops))

-- it is the one that there was
pub drops : (old new : WorkerState) (r : Result ⊤ WorkerFault) → HasTransaction old → IsStill old new → OnOk r (IsDropped old new) → OnOk r (Drops old new)
drops old new (Ok done) had still (inl so) = inl (record { had = had; same = still.txn; ended = so.0 }, so.1)
drops old new (Ok done) had still (inr so) = inr (record { had = had; same = still.txn; ended = so })
drops old new (Err fault) had still so = tt
