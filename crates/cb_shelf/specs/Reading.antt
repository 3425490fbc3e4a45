-- The store that tables hold, by what they answer.
use Rattle.std.specs.Prelude.{◌≡◌, ℕ, ◌*◌, ◌-◌, ◌<◌, ◌≤◌, min, pos, List, [], ◌∷◌, length}
use Rattle.std.specs.Prelude.{◌⊎◌, slice_index_or, codes}
use Rattle.sqlite.specs.Order.{Row}
use Rattle.sqlite.specs.Effect.{Database}
use Rattle.sqlite.specs.declared.types.Value.TheVariants.{Int, Blob}
use Rattle.cb_page.specs.Bounds.{Bounds}
use Rattle.cb_page.specs.Numbers.{max_number}
use Rattle.cb_commit.specs.declared.store.StoredPage.{StoredPage}
use Rattle.cb_commit.specs.Stores.{StoreState, no_page}
use Rattle.cb_shelf.specs.Statements.{Statement, part_at, part_count}
use Rattle.cb_shelf.specs.Asking.{RepliesRow, RepliesElse}
use Rattle.cb_shelf.specs.declared.reading.Generation.{Generation}
use Rattle.cb_shelf.specs.declared.reading.Generation.TheVariants.{Older, Newer}

-- asks for the identity, the number of the last commit, the page size and the count of pages
abbrev pub mark_text : Generation → List ℕ
mark_text Older = codes "SELECT id, commits, page_size, (SELECT count(*) FROM page) FROM mark"
mark_text Newer = codes "SELECT id, commits, page_size, pages FROM mark2"

-- asks how many pages there are
abbrev pub pages_text : Generation → List ℕ
pages_text Older = codes "SELECT count(*) FROM page"
pages_text Newer = codes "SELECT count(*) FROM page2"

-- asks how many parts there are; an older page is one part
abbrev pub parts_text : Generation → List ℕ
parts_text Older = codes "SELECT count(*) FROM page"
parts_text Newer = codes "SELECT count(*) FROM part"

-- asks for the version of a page
abbrev pub version_text : Generation → List ℕ
version_text Older = codes "SELECT version FROM page WHERE no = ?1"
version_text Newer = codes "SELECT version FROM page2 WHERE no = ?1"

-- asks for a part of a page
abbrev pub part_text : Generation → List ℕ
part_text Older = codes "SELECT body FROM page WHERE no = ?1 AND ?2 = 0"
part_text Newer = codes "SELECT body FROM part WHERE no = ?1 AND place = ?2"

-- a question with no parameter
abbrev pub question : List ℕ → Statement
question text = record { text = text; params = [] }

abbrev pub version_of : Generation → ℕ → Statement
version_of tables page = record { text = version_text tables; params = Int (pos page) ∷ [] }

abbrev pub part_of : Generation → ℕ → ℕ → Statement
part_of tables page place =
    record { text = part_text tables; params = Int (pos page) ∷ Int (pos place) ∷ [] }

-- the mark of a store: its identity, the last commit, the bytes of a page, the count of pages
abbrev pub mark_values : ℕ → ℕ → ℕ → Row
mark_values number page_size pages =
    Int (pos 1) ∷ Int (pos number) ∷ Int (pos page_size) ∷ Int (pos pages) ∷ []

-- a number
abbrev pub number_values : ℕ → Row
number_values number = Int (pos number) ∷ []

-- the parts of a page, so many, are those of these bytes
abbrev pub HasParts : Generation → Database → ℕ → ℕ → List ℕ → Type 0
HasParts tables db page count bytes = (place : ℕ) → place < count
    → RepliesRow db (part_of tables page place) (Blob (part_at bytes place) ∷ [])

-- a page of this size has the version and the bytes
pub record HasPage (tables : Generation) (db : Database) (size page : ℕ) (stored : StoredPage) :
    Type 0 where
  pub version : RepliesRow db (version_of tables page) (number_values stored.version)
  pub parts : HasParts tables db page (part_count size) stored.bytes

-- so many pages from the first on are these
abbrev pub HasPages : Generation → Database → ℕ → List StoredPage → Type 0
HasPages tables db size pages = (page : ℕ) → page < length pages
    → HasPage tables db size page (slice_index_or pages page no_page)

-- The tables of a generation hold a store: what they answer is its mark, how many pages and parts
-- it has, and each page of it.
pub record Holds (tables : Generation) (db : Database) (store : StoreState) : Type 0 where
  pub mark : RepliesRow db (question (mark_text tables))
      (mark_values store.number store.page_size (length store.pages))
  pub pages : RepliesRow db (question (pages_text tables)) (number_values (length store.pages))
  pub parts : RepliesRow db (question (parts_text tables))
      (number_values (length store.pages * part_count store.page_size))
  pub each : HasPages tables db store.page_size store.pages

-- the mark of some store of these limits
abbrev pub IsMark : Bounds → Row → Type 0
IsMark limits values = (number : ℕ) × (number ≤ max_number)
    × (values ≡ mark_values number limits.page_size limits.pages)

abbrev pub IsNumber : Row → Type 0
IsNumber values = (number : ℕ) × (values ≡ number_values number)

abbrev pub IsUpTo : ℕ → Row → Type 0
IsUpTo most values = (number : ℕ) × (number ≤ most) × (values ≡ number_values number)

-- so many bytes
abbrev pub IsBytes : ℕ → Row → Type 0
IsBytes count values = (bytes : List ℕ) × (length bytes ≡ count) × (values ≡ Blob bytes ∷ [])

-- how many bytes the part at a place has, of a page of this size
abbrev pub part_length : ℕ → ℕ → ℕ
part_length size place = min 4096 (size - place * 4096)

-- a part of a page is missing, or has another length
abbrev pub LacksPart : Generation → ℕ → ℕ → Database → Type 0
LacksPart tables page size db = (place : ℕ) × (place < part_count size)
    × RepliesElse db (part_of tables page place) (IsBytes (part_length size place))

-- a page is none of a store: its version is above the last commit's number, or it lacks a part
abbrev pub HasNoPage : Generation → Database → ℕ → ℕ → ℕ → Type 0
HasNoPage tables db size number page =
    RepliesElse db (version_of tables page) (IsUpTo number) ⊎ LacksPart tables page size db

-- some page is none of a store of these limits
abbrev pub LacksPage : Generation → Bounds → ℕ → Database → Type 0
LacksPage tables limits number db = (page : ℕ) × (page < limits.pages)
    × HasNoPage tables db limits.page_size number page

-- The tables of a generation hold no store of these limits: an answer of theirs is no such store's.
pub data Misfits (tables : Generation) (limits : Bounds) (db : Database) : Type 0 where
  mark : RepliesElse db (question (mark_text tables)) (IsMark limits) → Misfits tables limits db
  pages : RepliesElse db (question (pages_text tables))
      (λ values. values ≡ number_values limits.pages) → Misfits tables limits db
  parts : RepliesElse db (question (parts_text tables))
      (λ values. values ≡ number_values (limits.pages * part_count limits.page_size))
      → Misfits tables limits db
  page : (number : ℕ) → RepliesRow db (question (mark_text tables))
      (mark_values number limits.page_size limits.pages)
      → LacksPage tables limits number db → Misfits tables limits db
