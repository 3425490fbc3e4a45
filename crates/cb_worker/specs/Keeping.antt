-- What a client keeps of the pages that its transaction uses, until that is over.
use Rattle.std.specs.Prelude.{◌≡◌, ◌≢◌, ◌⊎◌, ℕ, true, false, List, Some}
use Rattle.cb_protocol.specs.Basics.{Bytes}
use Rattle.cb_protocol.specs.Cache.{Idle, Open}
use Rattle.cb_protocol.specs.Client.{Aborted, Client, asks_to_read, is_fixed}
use Rattle.cb_protocol.specs.ClientAlone.{Reading}
use Rattle.cb_protocol.specs.Messages.{PageWrite, write_of_page}

-- no page is asked for
abbrev pub AsksNoPage : Client → Type 0
AsksNoPage client = (page : ℕ) → asks_to_read client.ask page ≡ false

-- The transaction reads the page by that grant, with these bytes in the pool. They can't go: it
-- wants to write the page or wrote it, or no other page is asked for, which might take its place.
pub record Uses (client : Client) (page grant : ℕ) (bytes : Bytes) : Type 0 where
  pub reading : Reading client page grant
  pub content : client.cache.content page ≡ Some bytes
  pub safe : (is_fixed client page ≡ true) ⊎ AsksNoPage client

-- Where no transaction is over, none was before; a page that is fixed stays so: the transaction
-- wants to write it, or wrote it; and exactly those are written that were.
pub record StaysFixed (old new : Client) : Type 0 where
  pub busy : new.cache.status ≢ Idle → old.cache.status ≢ Idle
  pub fixed : (page : ℕ) → new.cache.status ≢ Idle → is_fixed old page ≡ true
      → is_fixed new page ≡ true
  pub wrote : (page : ℕ) → new.cache.status ≢ Idle
      → new.cache.wrote page ≡ old.cache.wrote page

-- What the transaction uses it goes on to use, by the same grant and with the same bytes, while it
-- isn't over.
pub record KeepsUsed (old new : Client) : Type 0 where
  pub stays : StaysFixed old new
  pub uses : (page grant : ℕ) (bytes : Bytes) → new.cache.status ≢ Idle
      → Uses old page grant bytes → Uses new page grant bytes

-- A page that it used is one that it wants to write, with the same bytes, while it isn't over.
pub record KeepsWanted (old new : Client) (page : ℕ) : Type 0 where
  pub fixed : new.cache.status ≢ Idle → is_fixed new page ≡ true
  pub uses : (grant : ℕ) (bytes : Bytes) → new.cache.status ≢ Idle
      → Uses old page grant bytes → Uses new page grant bytes

-- So of what it wants to write or wrote.
pub record KeepsFixed (old new : Client) : Type 0 where
  pub stays : StaysFixed old new
  pub uses : (page grant : ℕ) (bytes : Bytes) → new.cache.status ≢ Idle
      → is_fixed old page ≡ true → Uses old page grant bytes → Uses new page grant bytes

-- What messages make of a transaction: where there is none, none begins, and how the last one ended
-- stays so; one that is open stays open, or is aborted.
pub record OpenOrAborted (old new : Client) : Type 0 where
  pub idle : old.cache.status ≡ Idle
      → (new.cache.status ≡ Idle) × (new.last_outcome ≡ old.last_outcome)
  pub opened : old.cache.status ≡ Open → (new.cache.status ≡ Open)
      ⊎ ((new.cache.status ≡ Idle) × (new.last_outcome ≡ Aborted))

-- The transaction reads the page by that grant and wrote it, and these bytes of it are in the pool.
pub record HasWritten (client : Client) (page grant : ℕ) (bytes : Bytes) : Type 0 where
  pub uses : Uses client page grant bytes
  pub wrote : client.cache.wrote page ≡ true

-- These are the pages that the transaction wrote, each by its grant and with its bytes, and no
-- others.
pub record AreWritten (client : Client) (writes : List PageWrite) : Type 0 where
  pub each : (page grant : ℕ) (bytes : Bytes) → HasWritten client page grant bytes
      → write_of_page writes page
      ≡ Some (record { page = page; grant = grant; bytes = bytes })
  pub alone : (page : ℕ) (write : PageWrite) → write_of_page writes page ≡ Some write
      → client.cache.wrote page ≡ true
