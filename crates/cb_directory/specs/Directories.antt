-- A directory as its callers see it, its rule, and what each call makes of it.
use Rattle.std.specs.Prelude.{◌≡◌, ◌<◌, ◌≤◌, ◌+◌, ℕ, ◌==◌, if◌then◌else◌, true, false, length}
use Rattle.std.specs.Prelude.{Option, Some, None}
use Rattle.cb_page.specs.Bounds.{Bounds}
use Rattle.cb_page.specs.Numbers.{max_number}
use Rattle.cb_directory.specs.RowTables as tables
use Rattle.cb_directory.specs.RowTables.{RowTablesState, at_place, at_page, is_copied, is_marked}
use Rattle.cb_directory.specs.RowTables.{is_writable}

-- the tables of rows and write holders, and the number of the next grant
pub record DirectoryState : Type 0 where
  pub tables : RowTablesState
  pub next_grant : ℕ

-- the grant of a client's copy of a page (TODS 1997: the row of the directory)
abbrev pub row : DirectoryState → ℕ → ℕ → Option ℕ
row directory = tables.row directory.tables

-- the client that has the page's write permission (TODS 1997)
abbrev pub holder : DirectoryState → ℕ → Option ℕ
holder directory = tables.holder directory.tables

-- the transaction that was last told that it may write the page
abbrev pub tag : DirectoryState → ℕ → Option ℕ
tag directory = tables.tag directory.tables

-- there is such a client, and such a page
abbrev pub HasClient : DirectoryState → ℕ → Type 0
HasClient directory client = client < length directory.tables.clients

abbrev pub HasPage : DirectoryState → ℕ → Type 0
HasPage directory page = page < length directory.tables.pages

-- nobody but this client has a copy of the page
abbrev pub IsSoleRow : DirectoryState → ℕ → ℕ → Type 0
IsSoleRow directory client page =
    (other grant : ℕ) → row directory other page ≡ Some grant → other ≡ client

-- nobody but this client may write the page
abbrev pub NoOtherHolder : DirectoryState → ℕ → ℕ → Type 0
NoOtherHolder directory client page =
    (other : ℕ) → holder directory page ≡ Some other → other ≡ client

-- a number is left for one more grant
abbrev pub HasGrantLeft : DirectoryState → Type 0
HasGrantLeft directory = directory.next_grant ≤ max_number

-- The directory rule (TODS 1997; grants are this project's).
pub record Rule (directory : DirectoryState) : Type 0 where
  -- a page with a write holder has copies at no other client
  pub alone : (page client : ℕ) → holder directory page ≡ Some client
      → IsSoleRow directory client page
  -- grants are numbered from 1, upwards
  pub first : 1 ≤ directory.next_grant
  pub below : (client page grant : ℕ) → row directory client page ≡ Some grant
      → grant < directory.next_grant
  -- no two copies have the same grant
  pub distinct : (client other page second grant : ℕ) → row directory client page ≡ Some grant
      → row directory other second ≡ Some grant → (client ≡ other) × (page ≡ second)

-- how the two tables agree
pub record TablesAgree (directory : DirectoryState) : Type 0 where
  -- a page's clients are those with a row of it
  pub no_row : (client page : ℕ) → row directory client page ≡ None
      → is_marked directory.tables client page ≡ false
  pub some_row : (client page grant : ℕ) → row directory client page ≡ Some grant
      → is_marked directory.tables client page ≡ true
  -- the pages of which a client's line says that it has a copy are those of which it has a row
  pub not_copied : (client page : ℕ) → row directory client page ≡ None
      → is_copied directory.tables client page ≡ false
  pub copied : (client page grant : ℕ) → row directory client page ≡ Some grant
      → is_copied directory.tables client page ≡ true
  -- the pages of which a client's line says that it may write them are those that it holds
  pub writable : (client page : ℕ) → holder directory page ≡ Some client
      → is_writable directory.tables client page ≡ true
  pub held : (client page : ℕ) → is_writable directory.tables client page ≡ true
      → holder directory page ≡ Some client
  -- and a write holder is a client that there is
  pub holder_known : (client page : ℕ) → holder directory page ≡ Some client
      → HasClient directory client

pub record IsDirectory (directory : DirectoryState) : Type 0 where
  pub rule : Rule directory
  pub agree : TablesAgree directory

-- The rows, the write holders and the tags are these; clients and pages are as many.
pub record Has (before after : DirectoryState) (all_rows : ℕ → ℕ → Option ℕ)
    (all_holders all_tags : ℕ → Option ℕ) : Type 0 where
  pub rows : (client page : ℕ) → row after client page ≡ all_rows client page
  pub holders : (page : ℕ) → holder after page ≡ all_holders page
  pub tags : (page : ℕ) → tag after page ≡ all_tags page
  pub size : tables.IsAsLarge before.tables after.tables

-- a client gets a copy, with the next grant
pub record Grants (before : DirectoryState) (client page : ℕ) (after : DirectoryState)
    : Type 0 where
  pub has : Has before after
      (at_place (row before) client page (Some before.next_grant)) (holder before) (tag before)
  pub next : after.next_grant ≡ before.next_grant + 1

-- a client's copy goes
pub record GivesBack (before : DirectoryState) (client page : ℕ) (after : DirectoryState)
    : Type 0 where
  pub has : Has before after (at_place (row before) client page None) (holder before) (tag before)
  pub next : after.next_grant ≡ before.next_grant

-- a client becomes write holder for a transaction
pub record Permits (before : DirectoryState) (client page txn : ℕ) (after : DirectoryState)
    : Type 0 where
  pub has : Has before after
      (row before)
      (at_page (holder before) page (Some client)) (at_page (tag before) page (Some txn))
  pub next : after.next_grant ≡ before.next_grant

-- a page has no write holder any more; its tag stays
pub record Releases (before : DirectoryState) (page : ℕ) (after : DirectoryState) : Type 0 where
  pub has : Has before after (row before) (at_page (holder before) page None) (tag before)
  pub next : after.next_grant ≡ before.next_grant

-- this client is no write holder of the page
abbrev pub without_holder : Option ℕ → ℕ → Option ℕ
without_holder None client = None
without_holder (Some other) client = if other == client then None else Some other

-- a client is not write holder of a page any more, if it was
pub record ReleasesIf (before : DirectoryState) (client page : ℕ) (after : DirectoryState)
    : Type 0 where
  pub has : Has before after
      (row before) (at_page (holder before) page (without_holder (holder before page) client))
      (tag before)
  pub next : after.next_grant ≡ before.next_grant

-- a client is write holder of no page any more; the tags stay
pub record ReleasesAll (before : DirectoryState) (client : ℕ) (after : DirectoryState)
    : Type 0 where
  pub has : Has before after
      (row before) (λ page. without_holder (holder before page) client) (tag before)
  pub next : after.next_grant ≡ before.next_grant

-- all rows and permissions of a client go
pub record Forgets (before : DirectoryState) (client : ℕ) (after : DirectoryState) : Type 0 where
  pub has : Has before after
      (λ other page. if other == client then None else row before other page)
      (λ page. without_holder (holder before page) client) (tag before)
  pub next : after.next_grant ≡ before.next_grant

-- of these limits, and nobody has anything
pub record IsNew (limits : Bounds) (directory : DirectoryState) : Type 0 where
  pub rows : (client page : ℕ) → row directory client page ≡ None
  pub holders : (page : ℕ) → holder directory page ≡ None
  pub tags : (page : ℕ) → tag directory page ≡ None
  pub next : directory.next_grant ≡ 1
  pub clients : length directory.tables.clients ≡ limits.clients
  pub pages : length directory.tables.pages ≡ limits.pages
