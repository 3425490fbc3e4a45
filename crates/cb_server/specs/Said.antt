-- The messages that a server's calls answered since it was made, and the versions of rows by these.
use Rattle.std.specs.Prelude.{◌≡◌, ◌≤◌, ℕ, List, [], ◌++◌}
use Rattle.cb_commit.specs.Stores.{IsSound, StoreState}
use Rattle.cb_laws.specs.RowVersions.{RowVersions}
use Rattle.cb_page.specs.Bounds.{Bounds}
use Rattle.cb_protocol.specs.AnyMessages.{ComesFromClient, Input}
use Rattle.cb_protocol.specs.Messages.{Message}
use Rattle.cb_server.specs.ServerValue.{IsNew, IsResumed, ServerValue, limits_at, server_of}
use Rattle.cb_server.specs.Taking.{Does}

-- A server, and all messages that its calls answered since it was made, the first one first. Each
-- call is told by its own contract.
pub data HasSaid : ServerValue → List Message → Type 0 where
  -- `new` and `resume` answer none
  Opened : (bounds : Bounds) (store : StoreState) (value : ServerValue) → IsSound store
      → IsNew bounds store value → HasSaid value []
  Resumed : (bounds : Bounds) (store : StoreState) (floor : ℕ) (value : ServerValue)
      → IsSound store → 1 ≤ floor → IsResumed bounds store floor value → HasSaid value []
  -- `take`, `take_owned`, `take_bytes`, `again`, `flushed`
  Answered : {old : ServerValue} {said : List Message} → HasSaid old said
      → (input : Input) (messages : List Message) (new : ServerValue)
      → ComesFromClient (limits_at old) (server_of old) input → Does old input messages new
      → HasSaid new (said ++ messages)
  -- `forget`, and each call that is refused
  Stayed : {old : ServerValue} {said : List Message} → HasSaid old said → (new : ServerValue)
      → new.limits ≡ old.limits → server_of new ≡ server_of old → HasSaid new said

-- The version of a row is the store's. Of all that was answered, each row was sent to its client as
-- a Granted, and each Granted of a row's grant is as the store has the page now, version and bytes,
-- save where its client itself wrote the page since, by that grant.
abbrev pub SaysRowVersions : ServerValue → Type 0
SaysRowVersions value = (said : List Message) → HasSaid value said
    → RowVersions (server_of value) said
