-- When a client's hand agrees with the server.
use Rattle.std.specs.Prelude.{◌≡◌, ◌≢◌, ◌<◌, ℕ, true, false, List, length, Some}
use Rattle.cb_hands.specs.Hands.{HandState, IsHand, empty_hand, held_at, permitted, shown}
use Rattle.cb_hands.specs.Hands.{with_copy, without_copy, without_permissions}
use Rattle.cb_hands.specs.declared.grant.Held.{Held}
use Rattle.cb_hands.specs.declared.grant.Shown.{Shown}
use Rattle.cb_page.specs.Flags.{has}
use Rattle.cb_protocol.specs.AnyMessages.{DirectoryRule, Ledger}
use Rattle.cb_protocol.specs.Basics.{IsIn}
use Rattle.cb_protocol.specs.CommitLaws.{IsApplied}
use Rattle.cb_protocol.specs.Messages.{PageWrite}
use Rattle.cb_protocol.specs.Server.{Server}
use Rattle.cb_protocol.specs.StepsKeep.{KeepsClient}
use Rattle.cb_protocol.specs.World.{Opening}

-- the copy is a row of the client's at the server, of the version that the store has
pub record IsRow (server : Server) (client page : ℕ) (held : Held) : Type 0 where
  pub grant : (server.session client).row page ≡ Some held.grant
  pub version : server.store.version page ≡ held.version

-- each copy that the hand holds is a row
abbrev pub HasRows : Server → HandState → Type 0
HasRows server hand = (page : ℕ) (held : Held) → held_at hand.held page ≡ Some held
    → IsRow server hand.client page held

-- Each copy that the hand holds is a row of its client's, and where it may be written its client
-- has the write permission (this project's).
pub record Agrees (server : Server) (hand : HandState) : Type 0 where
  pub rows : HasRows server hand
  pub permission : (page : ℕ) (held : Held) → held_at hand.held page ≡ Some held
      → has hand.writable page ≡ true → server.store.holder page ≡ Some hand.client

-- both show one version of each page that both hold, and neither may write it
abbrev pub Meet : HandState → HandState → Type 0
Meet one other = (page : ℕ) (x y : Shown) → shown one page ≡ Some x → shown other page ≡ Some y
    → (x.version ≡ y.version) × (x.may_write ≡ false) × (y.may_write ≡ false)

-- hands of two clients that agree with a server meet
abbrev pub HandsMeet : Type 0
HandsMeet = (server : Server) (one other : HandState) → DirectoryRule server
    → Agrees server one → Agrees server other → one.client ≢ other.client → Meet one other

-- A hand goes on agreeing where its client is kept as it was and no commit is applied.
abbrev pub OthersStay : Type 0
OthersStay = (opening : Opening) (before after : Server) (hand : HandState)
    → Ledger opening before → Ledger opening after → after.commits ≡ before.commits
    → KeepsClient before after hand.client → Agrees before hand → Agrees after hand

-- And where a commit is applied of pages that another client alone may write.
abbrev pub CommitLeavesOthers : Type 0
CommitLeavesOthers = (opening : Opening) (before after : Server) (hand : HandState)
    (client incarnation txn : ℕ) (writes : List PageWrite)
    → Ledger opening before → Ledger opening after → DirectoryRule before
    → IsApplied before after client incarnation txn writes
    → ((write : PageWrite) → IsIn write writes → before.store.holder write.page ≡ Some client)
    → hand.client ≢ client
    → KeepsClient before after hand.client → Agrees before hand → Agrees after hand

-- a hand that holds nothing agrees
abbrev pub EmptyHand : Type 0
EmptyHand = (server : Server) (client incarnation pages : ℕ)
    → Agrees server (empty_hand client incarnation pages)

-- a copy comes that is a row
abbrev pub CopyComes : Type 0
CopyComes = (server : Server) (hand : HandState) (page : ℕ) (held : Held) → IsHand hand
    → page < length hand.held → IsRow server hand.client page held
    → Agrees server hand → Agrees server (with_copy hand page held)

-- a copy goes
abbrev pub CopyGoes : Type 0
CopyGoes = (server : Server) (hand : HandState) (page : ℕ) → IsHand hand
    → page < length hand.held → Agrees server hand → Agrees server (without_copy hand page)

-- the client is told that it may write a page, of which it has the permission
abbrev pub PermissionComes : Type 0
PermissionComes = (server : Server) (hand : HandState) (page txn : ℕ) → IsHand hand
    → page < length hand.held → server.store.holder page ≡ Some hand.client
    → Agrees server hand → Agrees server (permitted hand page txn)

-- all permissions end; the rows stand
abbrev pub PermissionsEnd : Type 0
PermissionsEnd = (server : Server) (hand : HandState) → HasRows server hand
    → Agrees server (without_permissions hand)
