-- What is said of a server here: its words from the crates that have them, in one place.
use Rattle.std.specs.Prelude.{◌≡◌, ◌+◌, ℕ, List, length, Option, Some, None, slice_get, true}
use Rattle.cb_commit.specs.Batches.{BatchState}
use Rattle.cb_commit.specs.Stores.{StoreState}
use Rattle.cb_commit.specs.declared.batch.BatchPage.{BatchPage}
use Rattle.cb_page.specs.Bounds.{Bounds}
use Rattle.cb_server_state.specs.Commits.{batch_of}
use Rattle.cb_protocol.specs.AnyMessages.{MessageComes}
use Rattle.cb_protocol.specs.Flush.{can_flush, next_batch}
use Rattle.cb_protocol.specs.Messages.{Hello, Message}
pub use Rattle.cb_server.specs.ServerValue.{IsNew, IsResumed, IsUnchanged, ServerValue, forgot}
pub use Rattle.cb_server.specs.ServerValue.{server_of}
pub use Rattle.cb_server_state.specs.States.{or_zero}
pub use Rattle.cb_server.specs.Taking.{Does, TakesBytes}

-- the server that begins over a store: without a floor a new one, which knows no client; else that
-- of the life of this floor, which knows each client by it
abbrev pub BeginsOver : Bounds → StoreState → (floor : Option ℕ) → ServerValue → Type 0
BeginsOver limits store None server = IsNew limits store server
BeginsOver limits store (Some floor) server = IsResumed limits store floor server

-- the next incarnation of a client, which it may greet with
abbrev pub next_incarnation : ServerValue → (client : ℕ) → ℕ
next_incarnation server client = ((server_of server).session client).current + 1

-- The client is greeted for in its next incarnation: so the one that went away is over, and whoever
-- waited for it goes on.
abbrev pub Leaves : (old : ServerValue) → (client : ℕ) → List Message → (new : ServerValue)
    → Type 0
Leaves old client messages new =
    Does old (MessageComes client (next_incarnation old client) Hello) messages new

-- This batch is what is to be written next, of so many pages, up to the commit of that number.
pub record IsNext (server : ServerValue) (batch : BatchState) (last count : ℕ) : Type 0 where
  pub next : Some (batch_of batch) ≡ next_batch (server_of server)
  pub number : last ≡ batch.number
  pub pages : count ≡ length batch.pages
  pub can_flush : can_flush (server_of server) batch.number ≡ true

-- there is a batch, and it is that
abbrev pub HasNext : ServerValue → Option BatchState → (number pages : ℕ) → Type 0
HasNext server None number pages = ⊥
HasNext server (Some batch) number pages = IsNext server batch number pages

-- the page at that place of the batch, if there is a batch and such a page
abbrev pub page_of_batch : Option BatchState → (at : ℕ) → Option BatchPage
page_of_batch None at = None
page_of_batch (Some batch) at = slice_get batch.pages at
