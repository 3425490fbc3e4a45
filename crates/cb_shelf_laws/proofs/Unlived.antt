-- What tables without lives hold stays when their first life begins.
use Rattle.std.proofs.Common.{◌≡◌, Bool, true, false, ℕ, pos, List, [], ◌∷◌, map, filter, length, codes, refl, sym, ap, ◌∙◌}
use Rattle.sqlite_tied.specs.Compute.{everything}
use Rattle.sqlite_value.specs.declared.value.Value.TheVariants.{Int, Blob}
use Rattle.sqlite_value.specs.declared.keys.Collation.TheVariants.{Binary}
use Rattle.sqlite_value.specs.Order.{Row, column}
use Rattle.sqlite_sql.specs.Term.{col}
use Rattle.sqlite_schema.specs.Rules.{equal}
use Rattle.sqlite_schema.specs.declared.command.Command.TheVariants.{Select}
use Rattle.sqlite.specs.Effect.{Database}
use Rattle.sqlite.specs.Listing.{understood, reads_listing}
use Rattle.sqlite.proofs.Callers.{command_of}
use Rattle.cb_commit.specs.Stores.{StoreState, version_at}
use Rattle.cb_shelf.specs.Asking.{RepliesRow}
use Rattle.cb_shelf.specs.LifeRows.{LifeState}
use Rattle.cb_shelf.specs.Reading.{mark_values, number_values}
use Rattle.cb_shelf.specs.Newer.{HoldsNewer}
use Rattle.cb_shelf_laws.specs.LifeLaws.{IsUnlived}
use Rattle.cb_shelf_laws.specs.Tables.{unlived_schema, mark_tree, page_tree, part_tree}
use Rattle.cb_shelf_laws.specs.Rows.{is_of_page, is_at, mark_columns, IsMarked, HasVersion, HasPart}
use Rattle.cb_shelf_laws.specs.Rows.{HasStore, PutsLife}
use Rattle.cb_shelf_laws.proofs.Counting.{all_pass}
use Rattle.cb_shelf_laws.proofs.Holding.{at_place, mark_shown, of_page, part_of, version_of}
use Rattle.cb_shelf_laws.proofs.Selecting.{told_row}
use Rattle.cb_shelf_laws.proofs.Texts.{by_page, by_place, marks_query, marks_text, version_query}
use Rattle.cb_shelf_laws.proofs.Texts.{version_text, bytes_query, bytes_text}

-- ---- the texts of a load

version_read : (older : Bool) → command_of (understood (unlived_schema older) version_text) ≡ Select (record { lets = []; body = version_query older }) (codes "version" ∷ [])
unfolding understood everything
version_read true = refl
version_read false = refl

version_free : (older : Bool) → reads_listing (unlived_schema older) version_text ≡ false
unfolding understood everything
version_free true = refl
version_free false = refl

bytes_read : (older : Bool) → command_of (understood (unlived_schema older) bytes_text) ≡ Select (record { lets = []; body = bytes_query older }) (codes "body" ∷ [])
unfolding understood everything
bytes_read true = refl
bytes_read false = refl

bytes_free : (older : Bool) → reads_listing (unlived_schema older) bytes_text ≡ false
unfolding understood everything
bytes_free true = refl
bytes_free false = refl

marks_read : (older : Bool) → command_of (understood (unlived_schema older) marks_text) ≡ Select (record { lets = []; body = marks_query older }) (codes "id" ∷ codes "commits" ∷ codes "page_size" ∷ codes "pages" ∷ [])
unfolding understood everything
marks_read true = refl
marks_read false = refl

marks_free : (older : Bool) → reads_listing (unlived_schema older) marks_text ≡ false
unfolding understood everything
marks_free true = refl
marks_free false = refl

module _ (older : Bool) (db : Database) (has : db.schema ≡ unlived_schema older) where
  version_there : (page version : ℕ) → RepliesRow db (version_of page) (number_values version) → HasVersion older db page version
  version_there page version h =
      let r = told_row (unlived_schema older) version_text (page_tree older) by_page (col 1 2 ∷ []) _ (version_read older) (version_free older) (Int (pos page) ∷ []) db (number_values version) has h in
      ap (map (λ (r : Row). column r 2)) (sym (of_page older db page) ∙ r.1) ∙ ap (λ v. v ∷ []) r.2.0

  part_there : (page place : ℕ) (bytes : List ℕ) → RepliesRow db (part_of page place) (Blob bytes ∷ []) → HasPart older db page place bytes
  part_there page place bytes h =
      let r = told_row (unlived_schema older) bytes_text (part_tree older) by_place (col 1 3 ∷ []) _ (bytes_read older) (bytes_free older) (Int (pos page) ∷ Int (pos place) ∷ []) db (Blob bytes ∷ []) has h in
      ap (map (λ (r : Row). column r 3)) (sym (at_place older db page place) ∙ r.1) ∙ ap (λ v. v ∷ []) r.2.0

  mark_there : (number page_size pages : ℕ) → RepliesRow db (record { text = marks_text; params = [] }) (mark_values number page_size pages) → IsMarked older db number page_size pages
  mark_there number page_size pages h =
      let r = told_row (unlived_schema older) marks_text (mark_tree older) [] (mark_shown older) _ (marks_read older) (marks_free older) [] db (mark_values number page_size pages) has h in
      ap (map mark_columns) (sym (all_pass (db.trees (mark_tree older))) ∙ r.1) ∙ ap (λ v. v ∷ []) (rw (r.2.0, r.2.1.0, r.2.1.1.0, r.2.1.1.1.0) refl)

-- ---- the store

pub unlived_kept : (older : Bool) (store : StoreState) (life : LifeState) (before after : Database) → IsUnlived older before → HoldsNewer before store → PutsLife older life before after → HasStore older after store
unlived_kept older store life before after none holds p = record {
  shelf = p.shelf;
  mark = ap (map mark_columns) p.marks ∙ mark_there older before none.schema store.number store.page_size (length store.pages) holds.mark;
  versions = λ page low. ap (λ l. map (λ (r : Row). column r 2) (filter (is_of_page page) l)) p.pages ∙ version_there older before none.schema page (version_at store page) (holds.each page low).version;
  parts = λ page place low within. ap (λ l. map (λ (r : Row). column r 3) (filter (is_at page place) l)) p.parts ∙ part_there older before none.schema page place _ ((holds.each page low).parts place within);
}
