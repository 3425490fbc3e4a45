-- The statements that write a batch, and what they make of a database.
use Rattle.std.specs.Prelude.{◌≡◌, ℕ, ◌+◌, ◌*◌, ◌/◌, ◌%◌, ◌==◌, min, pos, List, [], ◌∷◌, ◌++◌, map}
use Rattle.std.specs.Prelude.{length, slice_range, if◌then◌else◌, codes, Ok}
use Rattle.std.specs.List.{range_with_len, flat_map}
use Rattle.sqlite.specs.Order.{Row}
use Rattle.sqlite.specs.declared.types.Value.TheVariants.{Int, Blob}
use Rattle.sqlite.specs.Store.{Ghosts}
use Rattle.sqlite.specs.Effect.{Database}
use Rattle.sqlite.specs.State.{Executes}
use Rattle.sqlite.specs.Held.{Held, state}
use Rattle.cb_commit.specs.declared.batch.BatchPage.{BatchPage}
use Rattle.cb_commit.specs.Batches.{BatchState}
use Rattle.cb_shelf.specs.declared.rows.PageRows.{PageRows}
use Rattle.cb_shelf.specs.declared.rows.PageRows.TheVariants.{Absent, Present}

-- a text of SQL with its parameters
pub record Statement : Type 0 where
  pub text : List ℕ
  pub params : Row

-- some connection with the first database ran it, and then had the other
pub record Makes {S : Type 0} (g : Ghosts S) (statement : Statement) (before after : Database) :
    Type 0 where
  pub from : Held S
  pub to : Held S
  pub count : ℕ
  pub starts : (state g from).now ≡ before
  pub ends : (state g to).now ≡ after
  pub runs : Executes statement.text statement.params (state g from) (state g to) (Ok count)

-- some connection ran these, one after the other
abbrev pub MakesAll : {S : Type 0} → Ghosts S → List Statement → Database → Database → Type 0
MakesAll g [] before after = before ≡ after
MakesAll g (statement ∷ rest) before after =
    (between : Database) × Makes g statement before between × MakesAll g rest between after

-- how many parts a page of this size has
abbrev pub part_count : ℕ → ℕ
part_count size = size / 4096 + (if size % 4096 == 0 then 0 else 1)

-- the bytes of the part at a place: 4,096 of them, or what is left
abbrev pub part_at : List ℕ → ℕ → List ℕ
part_at bytes place = slice_range bytes (place * 4096) (min (place * 4096 + 4096) (length bytes))

-- puts the row of a page's version in, or sets it where it is there
abbrev pub put_version_text : PageRows → List ℕ
put_version_text Absent = codes "INSERT OR REPLACE INTO page2 (no, version) VALUES (?1, ?2)"
put_version_text Present = codes "UPDATE page2 SET version = ?2 WHERE no = ?1"

-- the same of the row of a part
abbrev pub put_part_text : PageRows → List ℕ
put_part_text Absent = codes "INSERT OR REPLACE INTO part (no, place, body) VALUES (?1, ?2, ?3)"
put_part_text Present = codes "UPDATE part SET body = ?3 WHERE no = ?1 AND place = ?2"

-- sets the version of a page
abbrev pub page_statement : PageRows → ℕ → ℕ → Statement
page_statement rows page version = record {
  text = put_version_text rows;
  params = Int (pos page) ∷ Int (pos version) ∷ [];
}

-- sets one part of a page
abbrev pub part_statement : PageRows → ℕ → List ℕ → ℕ → Statement
part_statement rows page bytes place = record {
  text = put_part_text rows;
  params = Int (pos page) ∷ Int (pos place) ∷ Blob (part_at bytes place) ∷ [];
}

-- sets the first parts of a page, so many
abbrev pub part_statements : PageRows → ℕ → List ℕ → ℕ → List Statement
part_statements rows page bytes count =
    map (part_statement rows page bytes) (range_with_len 0 count)

-- sets a page: its version, then each of its parts
abbrev pub page_statements : PageRows → ℕ → ℕ → List ℕ → List Statement
page_statements rows page version bytes =
    page_statement rows page version ∷ part_statements rows page bytes (part_count (length bytes))

-- sets a page of a batch, whose rows are there
abbrev pub statements_of : BatchPage → List Statement
statements_of page = page_statements Present page.page page.version page.bytes

-- sets pages of a batch, one after the other
abbrev pub pages_statements : List BatchPage → List Statement
pages_statements pages = flat_map statements_of pages

-- sets the number of the last commit
abbrev pub mark_statement : ℕ → Statement
mark_statement number = record {
  text = codes "UPDATE mark2 SET commits = ?1 WHERE id = 1";
  params = Int (pos number) ∷ [];
}

-- sets the pages of a batch, and last its number
abbrev pub batch_statements : BatchState → List Statement
batch_statements batch = pages_statements batch.pages ++ mark_statement batch.number ∷ []
