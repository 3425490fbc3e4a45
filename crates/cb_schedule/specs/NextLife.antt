-- When the next life of a server may begin, in the words of its server, and which commits can be
-- written over a store.
use Rattle.std.specs.Prelude.{◌≡◌, ◌-◌, ◌<◌, ℕ, take}
use Rattle.std.specs.List.{All}
use Rattle.cb_commit.specs.History.{AreCommits, FitsInto, store_at}
use Rattle.cb_commit.specs.Stores.{StoreState}
use Rattle.cb_commit.specs.declared.commit.Commit.{Commit}
use Rattle.cb_protocol.specs.Server.{Server}
use Rattle.cb_server.specs.ServerValue.{ServerValue, commits_of}

-- The floor is above the present one and above each incarnation that the server admitted: so
-- `IsNewFloor` has it.
pub record IsNewFloorOf (server : Server) (present floor : ℕ) : Type 0 where
  pub rises : present < floor
  pub admitted : (client : ℕ) → client < server.clients → (server.session client).current < floor

-- what the commit writes is a page of the store each, as large, and they rise
abbrev pub FitsStore : StoreState → Commit → Type 0
FitsStore store commit = FitsInto store commit.writes

-- The store is what the server leaves where the disk has the commits up to that number: that with
-- which its life began, with these commits written over it, each of which fits.
pub record LeavesStore (server : ServerValue) (number : ℕ) (store : StoreState) : Type 0 where
  pub are : AreCommits (commits_of server)
  pub fit : All (FitsStore (commits_of server).opening)
      (take (number - (commits_of server).opening.number) (commits_of server).commits)
  pub left : store ≡ store_at (commits_of server) number
