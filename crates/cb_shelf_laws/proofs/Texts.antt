-- What each text is to the schema of the tables.
use Rattle.std.proofs.Common.{◌≡◌, ℕ, [], ◌∷◌, refl, codes, pos, negsuc, List, Bool, true, false, None, Some}
use Rattle.sqlite_tied.specs.Compute.{everything}
use Rattle.sqlite_sql.specs.declared.aggregate.AggregateOp.TheVariants.{CountRows}
use Rattle.sqlite_value.specs.declared.value.Value.TheVariants.{Null, Int}
use Rattle.sqlite_value.specs.declared.keys.Collation.TheVariants.{Binary}
use Rattle.sqlite_sql.specs.Term.{Term, lit, col, op2}
use Rattle.sqlite_sql.specs.Group.{Grouping}
use Rattle.sqlite_sql.specs.Query.{Query, inner, end}
use Rattle.sqlite_sql.specs.declared.ops.BinaryOp.TheVariants.{Compare}
use Rattle.sqlite_sql.specs.declared.ops.CompareOp.TheVariants.{Eq}
use Rattle.sqlite_schema.specs.declared.program.Program.{Program}
use Rattle.sqlite_schema.specs.declared.command.Command.TheVariants.{Insert, InsertOr, Update, Delete, Select}
use Rattle.sqlite_schema.specs.declared.command.Conflict.TheVariants.{Replace}
use Rattle.sqlite_schema.specs.declared.command.Source.TheVariants.{Values}
use Rattle.sqlite.specs.Listing.{understood, reads_listing}
use Rattle.sqlite.proofs.Callers.{IsPlain, command_of}
use Rattle.cb_shelf.specs.Statements.{put_version_text, put_part_text, mark_statement}
use Rattle.cb_shelf.specs.declared.rows.PageRows.TheVariants.{Absent, Present}
use Rattle.cb_shelf.specs.LifeRows.{life_row}
use Rattle.cb_shelf.specs.Living.{below_text}
use Rattle.cb_shelf_laws.specs.Tables.{schema, mark_tree, page_tree, part_tree, life_tree}
use Rattle.cb_shelf_laws.specs.Tables.{life_place}

-- ---- a page's version is put

abbrev pub page_terms : List Term
page_terms = col 0 0 ∷ lit Null ∷ col 0 1 ∷ []

abbrev pub page_text : List ℕ
page_text = put_version_text Absent

pub page_put : (older : Bool) → command_of (understood (schema older) page_text) ≡ InsertOr (page_tree older) Replace (Values page_terms 3) []
unfolding understood everything
page_put true = refl
page_put false = refl

pub page_plain : (older : Bool) → IsPlain (understood (schema older) page_text)
unfolding understood everything
page_plain true = (refl, refl)
page_plain false = (refl, refl)

-- ---- a part is put

abbrev pub part_terms : List Term
part_terms = lit Null ∷ col 0 0 ∷ col 0 1 ∷ col 0 2 ∷ []

abbrev pub part_text : List ℕ
part_text = put_part_text Absent

pub part_put : (older : Bool) → command_of (understood (schema older) part_text) ≡ InsertOr (part_tree older) Replace (Values part_terms 4) []
unfolding understood everything
part_put true = refl
part_put false = refl

pub part_plain : (older : Bool) → IsPlain (understood (schema older) part_text)
unfolding understood everything
part_plain true = (refl, refl)
part_plain false = (refl, refl)

-- the rows of a table that pass a test, with these columns
abbrev pub select : ℕ → List Term → List Term → Query
select tree filter project = record {
  from = inner tree end;
  filter = filter;
  group = None;
  project = project;
  distinct = false;
  collations = [];
  order = [];
  limit = lit (Int (negsuc 0));
  offset = lit (Int (pos 0));
}

-- ---- a page that has its rows is set

abbrev pub set_page_text : List ℕ
set_page_text = put_version_text Present

-- by the first parameter
abbrev pub by_page : List Term
by_page = op2 (Compare Eq Binary) (col 1 0) (col 0 0) ∷ []

abbrev pub set_page_terms : List Term
set_page_terms = col 1 0 ∷ col 1 0 ∷ lit Null ∷ col 0 1 ∷ []

pub set_page_put : (older : Bool) → command_of (understood (schema older) set_page_text) ≡ Update (page_tree older) (record { lets = []; body = select (page_tree older) by_page set_page_terms })
unfolding understood everything
set_page_put true = refl
set_page_put false = refl

pub set_page_plain : (older : Bool) → IsPlain (understood (schema older) set_page_text)
unfolding understood everything
set_page_plain true = (refl, refl)
set_page_plain false = (refl, refl)

abbrev pub set_part_text : List ℕ
set_part_text = put_part_text Present

-- by the first two parameters
abbrev pub by_place : List Term
by_place = op2 (Compare Eq Binary) (col 1 1) (col 0 0) ∷ op2 (Compare Eq Binary) (col 1 2) (col 0 1) ∷ []

abbrev pub set_part_terms : List Term
set_part_terms = col 1 0 ∷ col 1 0 ∷ col 1 1 ∷ col 1 2 ∷ col 0 2 ∷ []

pub set_part_put : (older : Bool) → command_of (understood (schema older) set_part_text) ≡ Update (part_tree older) (record { lets = []; body = select (part_tree older) by_place set_part_terms })
unfolding understood everything
set_part_put true = refl
set_part_put false = refl

pub set_part_plain : (older : Bool) → IsPlain (understood (schema older) set_part_text)
unfolding understood everything
set_part_plain true = (refl, refl)
set_part_plain false = (refl, refl)

-- ---- the number is set

abbrev pub mark_text : List ℕ
mark_text = (mark_statement 0).text

abbrev pub mark_query : Bool → Query
mark_query older = select (mark_tree older) (op2 (Compare Eq Binary) (col 1 0) (lit (Int (pos 1))) ∷ []) (col 1 0 ∷ col 1 0 ∷ lit Null ∷ col 0 0 ∷ col 1 3 ∷ col 1 4 ∷ [])

pub mark_put : (older : Bool) → command_of (understood (schema older) mark_text) ≡ Update (mark_tree older) (record { lets = []; body = mark_query older })
unfolding understood everything
mark_put true = refl
mark_put false = refl

pub mark_plain : (older : Bool) → IsPlain (understood (schema older) mark_text)
unfolding understood everything
mark_plain true = (refl, refl)
mark_plain false = (refl, refl)

-- ---- the version of a page is asked for

abbrev pub version_text : List ℕ
version_text = codes "SELECT version FROM page2 WHERE no = ?1"

abbrev pub version_query : Bool → Query
version_query older = select (page_tree older) (op2 (Compare Eq Binary) (col 1 0) (col 0 0) ∷ []) (col 1 2 ∷ [])

pub version_get : (older : Bool) → command_of (understood (schema older) version_text) ≡ Select (record { lets = []; body = version_query older }) (codes "version" ∷ [])
unfolding understood everything
version_get true = refl
version_get false = refl

pub version_plain : (older : Bool) → IsPlain (understood (schema older) version_text)
unfolding understood everything
version_plain true = (refl, refl)
version_plain false = (refl, refl)

abbrev pub bytes_text : List ℕ
bytes_text = codes "SELECT body FROM part WHERE no = ?1 AND place = ?2"

abbrev pub bytes_query : Bool → Query
bytes_query older = select (part_tree older) (op2 (Compare Eq Binary) (col 1 1) (col 0 0) ∷ op2 (Compare Eq Binary) (col 1 2) (col 0 1) ∷ []) (col 1 3 ∷ [])

pub bytes_get : (older : Bool) → command_of (understood (schema older) bytes_text) ≡ Select (record { lets = []; body = bytes_query older }) (codes "body" ∷ [])
unfolding understood everything
bytes_get true = refl
bytes_get false = refl

abbrev pub marks_text : List ℕ
marks_text = codes "SELECT id, commits, page_size, pages FROM mark2"

abbrev pub marks_query : Bool → Query
marks_query older = select (mark_tree older) [] (col 1 0 ∷ col 1 2 ∷ col 1 3 ∷ col 1 4 ∷ [])

pub marks_get : (older : Bool) → command_of (understood (schema older) marks_text) ≡ Select (record { lets = []; body = marks_query older }) (codes "id" ∷ codes "commits" ∷ codes "page_size" ∷ codes "pages" ∷ [])
unfolding understood everything
marks_get true = refl
marks_get false = refl

abbrev pub counting : Grouping
counting = record { keys = []; collations = []; aggregates = (record { op = CountRows; distinct = false; collation = Binary; argument = lit Null }) ∷ []; having = [] }

abbrev pub count_query : ℕ → Query
count_query tree = record (select tree [] (col 1 0 ∷ [])) {
  group = Some counting;
}

abbrev pub pages_text : List ℕ
pages_text = codes "SELECT count(*) FROM page2"

abbrev pub parts_text : List ℕ
parts_text = codes "SELECT count(*) FROM part"

pub pages_get : (older : Bool) → command_of (understood (schema older) pages_text) ≡ Select (record { lets = []; body = count_query (page_tree older) }) (codes "count(*)" ∷ [])
unfolding understood everything
pages_get true = refl
pages_get false = refl

pub parts_get : (older : Bool) → command_of (understood (schema older) parts_text) ≡ Select (record { lets = []; body = count_query (part_tree older) }) (codes "count(*)" ∷ [])
unfolding understood everything
parts_get true = refl
parts_get false = refl

pub version_unlisted : (older : Bool) → reads_listing (schema older) version_text ≡ false
unfolding understood everything
version_unlisted true = refl
version_unlisted false = refl

pub bytes_unlisted : (older : Bool) → reads_listing (schema older) bytes_text ≡ false
unfolding understood everything
bytes_unlisted true = refl
bytes_unlisted false = refl

pub marks_unlisted : (older : Bool) → reads_listing (schema older) marks_text ≡ false
unfolding understood everything
marks_unlisted true = refl
marks_unlisted false = refl

pub pages_unlisted : (older : Bool) → reads_listing (schema older) pages_text ≡ false
unfolding understood everything
pages_unlisted true = refl
pages_unlisted false = refl

pub parts_unlisted : (older : Bool) → reads_listing (schema older) parts_text ≡ false
unfolding understood everything
parts_unlisted true = refl
parts_unlisted false = refl

-- ---- the mark is put in

abbrev pub first_terms : List Term
first_terms = lit (Int (pos 1)) ∷ lit Null ∷ col 0 0 ∷ col 0 1 ∷ col 0 2 ∷ []

abbrev pub first_text : List ℕ
first_text = codes "INSERT INTO mark2 (id, commits, page_size, pages) VALUES (1, ?1, ?2, ?3)"

pub first_put : (older : Bool) → command_of (understood (schema older) first_text) ≡ Insert (mark_tree older) (Values first_terms 5)
unfolding understood everything
first_put true = refl
first_put false = refl

pub first_plain : (older : Bool) → IsPlain (understood (schema older) first_text)
unfolding understood everything
first_plain true = (refl, refl)
first_plain false = (refl, refl)

-- ---- the older tables are emptied

abbrev pub clear_page_text : List ℕ
clear_page_text = codes "DELETE FROM page"

abbrev pub clear_mark_text : List ℕ
clear_mark_text = codes "DELETE FROM mark"

abbrev pub clear_query : ℕ → Program
clear_query tree = record { lets = []; body = select tree [] (col 1 0 ∷ []) }

pub clear_page : command_of (understood (schema true) clear_page_text) ≡ Delete 0 (clear_query 0)
unfolding understood everything
clear_page = refl

pub clear_page_plain : IsPlain (understood (schema true) clear_page_text)
unfolding understood everything
clear_page_plain = (refl, refl)

pub clear_mark : command_of (understood (schema true) clear_mark_text) ≡ Delete 1 (clear_query 1)
unfolding understood everything
clear_mark = refl

pub clear_mark_plain : IsPlain (understood (schema true) clear_mark_text)
unfolding understood everything
clear_mark_plain = (refl, refl)

-- ---- the row of life is put

abbrev pub life_terms : List Term
life_terms = lit (Int (pos 1)) ∷ lit Null ∷ col 0 0 ∷ col 0 1 ∷ []

abbrev pub life_text : List ℕ
life_text = (life_row (record { floor = 0; below = 0 })).text

pub life_put : (older : Bool) → command_of (understood (schema older) life_text) ≡ InsertOr (life_place older) Replace (Values life_terms 4) []
unfolding understood everything
life_put true = refl
life_put false = refl

pub life_plain : (older : Bool) → IsPlain (understood (schema older) life_text)
unfolding understood everything
life_plain true = (refl, refl)
life_plain false = (refl, refl)

-- ---- and asked for

abbrev pub below_query : Bool → Query
below_query older = select (life_tree older) (op2 (Compare Eq Binary) (col 1 0) (lit (Int (pos 1))) ∷ []) (col 1 3 ∷ [])

pub below_get : (older : Bool) → command_of (understood (schema older) below_text) ≡ Select (record { lets = []; body = below_query older }) (codes "below" ∷ [])
unfolding understood everything
below_get true = refl
below_get false = refl

pub below_unlisted : (older : Bool) → reads_listing (schema older) below_text ≡ false
unfolding understood everything
below_unlisted true = refl
below_unlisted false = refl
