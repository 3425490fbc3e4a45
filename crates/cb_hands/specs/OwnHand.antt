-- A hand goes on agreeing while its own client's messages change the server.
use Rattle.std.specs.Prelude.{◌≡◌, ◌≢◌, ◌<◌, ◌+◌, ℕ, List, [], ◌∷◌, length, map, Some}
use Rattle.cb_hands.specs.Agreement.{Agrees, HasRows}
use Rattle.cb_hands.specs.OwnStays.{KeepsOwn}
use Rattle.cb_hands.specs.Hands.{HandState, held_at, restamped, without_permissions}
use Rattle.cb_hands.specs.declared.grant.Held.{Held}
use Rattle.cb_protocol.specs.AnyMessages.{Ledger}
use Rattle.cb_protocol.specs.Basics.{IsIn}
use Rattle.cb_protocol.specs.CommitLaws.{IsApplied}
use Rattle.cb_protocol.specs.Messages.{Body, GiveBack, PageWrite}
use Rattle.cb_protocol.specs.Server.{Server}
use Rattle.cb_protocol.specs.World.{Opening}

-- what is held of each of these pages is of that version, one page after another
abbrev pub all_restamped : HandState → List ℕ → (version : ℕ) → HandState
all_restamped hand [] version = hand
all_restamped hand (page ∷ pages) version =
    all_restamped (restamped hand page version) pages version

-- the pages of these writes
abbrev pub pages_written : List PageWrite → List ℕ
pages_written writes = map (λ write. write.page) writes

-- A message of the hand's client that gives back nothing of what the hand holds, and by which no
-- commit is applied: all that is held stays a row, and the hand agrees while its transaction lasts.
abbrev pub OwnMessage : Type 0
OwnMessage = (opening : Opening) (before after : Server) (hand : HandState) (body : Body)
    → Ledger opening before → Ledger opening after → after.commits ≡ before.commits
    → KeepsOwn before after hand.client body
    → ((page : ℕ) (held : Held) → held_at hand.held page ≡ Some held
    → body ≢ GiveBack page held.grant)
    → Agrees before hand
    → HasRows after hand
    × ((after.session hand.client).ended < (before.session hand.client).txn → Agrees after hand)

-- A commit of the hand's client: once the written pages are restamped and the permissions ended,
-- the hand agrees again.
abbrev pub OwnCommit : Type 0
OwnCommit = (opening : Opening) (before after : Server) (hand : HandState) (body : Body)
    (incarnation txn : ℕ) (writes : List PageWrite)
    → Ledger opening before → Ledger opening after
    → IsApplied before after hand.client incarnation txn writes
    → KeepsOwn before after hand.client body
    → ((page grant : ℕ) → body ≢ GiveBack page grant)
    → ((write : PageWrite) → IsIn write writes → write.page < length hand.held)
    → HasRows before hand
    → Agrees after (without_permissions
    (all_restamped hand (pages_written writes) (before.store.last_commit + 1)))
