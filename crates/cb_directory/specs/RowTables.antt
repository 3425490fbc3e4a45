-- The rows and write holders as tables by client and by page.
use Rattle.std.specs.Prelude.{◌≡◌, ◌<◌, ◌≤◌, ℕ, Bool, false, ◌==◌, if◌then◌else◌, List, [], length}
use Rattle.std.specs.Prelude.{Option, None, slice_index_or}
use Rattle.cb_page.specs.Clients as clients
use Rattle.cb_page.specs.Flags.{has}
use Rattle.cb_directory.specs.Rows.{ClientState, grant_of}
use Rattle.cb_directory.specs.declared.lines.PageLine.{PageLine}

-- one line a client and one a page
pub record RowTablesState : Type 0 where
  pub clients : List ClientState
  pub pages : List PageLine

-- a client with nothing
abbrev pub no_client : ClientState
no_client = record { grants = []; copied = []; writable = [] }

-- a page of which nobody has anything
abbrev pub no_line : PageLine
no_line = record { clients = clients.set_of 0; holder = None; tag = None }

abbrev pub client_of : RowTablesState → ℕ → ClientState
client_of tables client = slice_index_or tables.clients client no_client

abbrev pub line_of : RowTablesState → ℕ → PageLine
line_of tables page = slice_index_or tables.pages page no_line

-- the grant of a client's copy of a page (TODS 1997: the row of the directory)
abbrev pub row : RowTablesState → ℕ → ℕ → Option ℕ
row tables client page = grant_of (client_of tables client) page

-- the client that has the page's write permission (TODS 1997)
abbrev pub holder : RowTablesState → ℕ → Option ℕ
holder tables page = (line_of tables page).holder

-- the transaction that was last told that it may write the page
abbrev pub tag : RowTablesState → ℕ → Option ℕ
tag tables page = (line_of tables page).tag

-- the client is among those of the page's line
abbrev pub is_marked : RowTablesState → ℕ → ℕ → Bool
is_marked tables client page = clients.has (line_of tables page).clients client

-- the page is among those of which the client's line says that it has a copy
abbrev pub is_copied : RowTablesState → ℕ → ℕ → Bool
is_copied tables client page = has (client_of tables client).copied page

-- the page is among those of which the client's line says that it may write them
abbrev pub is_writable : RowTablesState → ℕ → ℕ → Bool
is_writable tables client page = has (client_of tables client).writable page

-- a line for each client, with a place for each page, and a line for each page
pub record IsSized (tables : RowTablesState) : Type 0 where
  pub clients : length tables.clients ≤ 32
  pub pages : length tables.pages ≤ 4096
  pub grants : (client : ℕ) → client < length tables.clients
      → length (client_of tables client).grants ≡ length tables.pages
  pub copied : (client : ℕ) → client < length tables.clients
      → length (client_of tables client).copied ≡ length tables.pages
  pub writable : (client : ℕ) → client < length tables.clients
      → length (client_of tables client).writable ≡ length tables.pages

-- that many clients and pages, and nobody has anything
pub record IsEmpty (client_count page_count : ℕ) (tables : RowTablesState) : Type 0 where
  pub clients : length tables.clients ≡ client_count
  pub pages : length tables.pages ≡ page_count
  pub rows : (client page : ℕ) → row tables client page ≡ None
  pub marks : (client page : ℕ) → is_marked tables client page ≡ false
  pub copied : (client page : ℕ) → is_copied tables client page ≡ false
  pub writable : (client page : ℕ) → is_writable tables client page ≡ false
  pub holders : (page : ℕ) → holder tables page ≡ None
  pub tags : (page : ℕ) → tag tables page ≡ None

-- what stands at one client and page changes, all else stays
abbrev pub at_place : {A : Type 0} → (ℕ → ℕ → A) → ℕ → ℕ → A → ℕ → ℕ → A
at_place old client page new other second =
    if other == client then (if second == page then new else old other second) else old other second

-- what stands at one page changes
abbrev pub at_page : {A : Type 0} → (ℕ → A) → ℕ → A → ℕ → A
at_page old page new second = if second == page then new else old second

-- these tables have as many clients and pages
pub record IsAsLarge (before after : RowTablesState) : Type 0 where
  pub clients : length after.clients ≡ length before.clients
  pub pages : length after.pages ≡ length before.pages

-- a row is put in, or taken out
pub record PutsRow (before : RowTablesState) (client page : ℕ) (grant : Option ℕ) (is_here : Bool)
    (after : RowTablesState) : Type 0 where
  pub rows : (other second : ℕ)
      → row after other second ≡ at_place (row before) client page grant other second
  pub marks : (other second : ℕ)
      → is_marked after other second ≡ at_place (is_marked before) client page is_here other second
  pub copied : (other second : ℕ)
      → is_copied after other second ≡ at_place (is_copied before) client page is_here other second
  pub writable : (other second : ℕ)
      → is_writable after other second ≡ is_writable before other second
  pub holders : (second : ℕ) → holder after second ≡ holder before second
  pub tags : (second : ℕ) → tag after second ≡ tag before second
  pub size : IsAsLarge before after

-- a page gets another write holder, or none, and another tag, and a client's line says whether the
-- client may write it
pub record PutsHolder (before : RowTablesState) (client page : ℕ) (new_holder txn : Option ℕ)
    (may_write : Bool) (after : RowTablesState) : Type 0 where
  pub rows : (other second : ℕ) → row after other second ≡ row before other second
  pub marks : (other second : ℕ) → is_marked after other second ≡ is_marked before other second
  pub copied : (other second : ℕ) → is_copied after other second ≡ is_copied before other second
  pub writable : (other second : ℕ) → is_writable after other second
      ≡ at_place (is_writable before) client page may_write other second
  pub holders : (second : ℕ) → holder after second ≡ at_page (holder before) page new_holder second
  pub tags : (second : ℕ) → tag after second ≡ at_page (tag before) page txn second
  pub size : IsAsLarge before after
