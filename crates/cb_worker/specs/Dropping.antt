-- How a worker's transaction is dropped, and that it is said.
use Rattle.std.specs.Prelude.{◌≡◌, ◌⊎◌, List, ◌∷◌, Ok}
use Rattle.cb_client.specs.ByTable.{Calls, over}
use Rattle.cb_client_core.specs.ClientState.{ClientState}
use Rattle.cb_outbox.specs.Messages.{messages_of}
use Rattle.cb_protocol.specs.Answers.{AnsweredOk}
use Rattle.cb_protocol.specs.Client as protocol
use Rattle.cb_protocol.specs.ClientCalls.{CallDrop}
use Rattle.cb_protocol.specs.Messages.{Drop, Message}
use Rattle.cb_station.specs.Stations.{IsStation, StationState}
use Rattle.cb_worker.specs.Moving.{IsStill}
use Rattle.cb_worker.specs.Serving.{HandsInAndTells}
use Rattle.cb_worker.specs.Workers.{Ended, Ends, WorkerState, last_txn}

-- the Drop of the client's last transaction
abbrev pub drop_of : ClientState → Message
drop_of client = record {
  client = client.no;
  incarnation = client.incarnation;
  body = Drop (last_txn client);
}

-- The client drops its transaction. What it says of that is kept: the Drop, and then the pages that
-- are given back.
pub record SaysDrop (old new : WorkerState) : Type 0 where
  pub calls : Calls old.client CallDrop AnsweredOk (messages_of new.said) over new.client
  pub given_back : List Message
  pub first : messages_of new.said ≡ drop_of old.client ∷ given_back
  pub still : IsStill old new

-- The transaction was dropped, and all that its client says of that was handed in, the Drop first,
-- at a station of which all holds that always does.
pub record HandsDropIn (old new : WorkerState) : Type 0 where
  pub served : WorkerState
  pub same : IsStill old served
  pub dropped : WorkerState
  pub says : SaysDrop served dropped
  pub before : StationState
  pub sound : IsStation before
  pub after : StationState
  pub hands : HandsInAndTells dropped before (Ok tt) new after

-- the last transaction is over without a commit: it was dropped, and the Drop was handed in; or it
-- had been aborted
abbrev pub IsDropped : (old new : WorkerState) → Type 0
IsDropped old new = (Ended new protocol.Dropped × HandsDropIn old new) ⊎ Ended new protocol.Aborted

-- it is the one that there was
abbrev pub Drops : (old new : WorkerState) → Type 0
Drops old new =
    (Ends old new protocol.Dropped × HandsDropIn old new) ⊎ Ends old new protocol.Aborted
