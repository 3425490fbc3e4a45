-- What a client has, the server has in its rows, its permissions and its store. Each is of one
-- world, in the words of the promise.
use Rattle.std.specs.Prelude.{◌≡◌, ℕ, Some}
use Rattle.cb_protocol.specs.Basics.{Bytes}
use Rattle.cb_protocol.specs.Headline.{GaveBack, Holds, MayWritePage, NotWritten, ReadableCopy}
use Rattle.cb_protocol.specs.World.{World}

-- A grant that a client holds has its row, and no GiveBack of it was sent.
pub record HeldGrantsHaveRows (world : World) : Type 0 where
  pub row : (client page grant : ℕ) → Holds world client page grant
      → (world.server.session client).row page ≡ Some grant
  pub never_back : (client page grant : ℕ) → Holds world client page grant
      → GaveBack world client page grant → ⊥

-- A page that a client may write has its permission: the client is the page's write holder.
abbrev pub WritersHavePermission : World → Type 0
WritersHavePermission world = (client page : ℕ) → MayWritePage world client page
    → world.server.store.holder page ≡ Some client

-- A held page that the open or committing transaction did not write has the store's version and,
-- unless it is bare, the store's bytes.
pub record HeldPagesAreTheStores (world : World) : Type 0 where
  pub version : (client page grant : ℕ) → Holds world client page grant
      → NotWritten world client page
      → (world.client client).cache.version page ≡ world.server.store.version page
  pub bytes : (client page : ℕ) (bytes : Bytes) → ReadableCopy world client page bytes
      → NotWritten world client page → bytes ≡ world.server.store.bytes page
