-- What INSERT OR REPLACE of one row makes of a table.
use Rattle.std.proofs.Common.{◌≡◌, ◌≢◌, ◌⊎◌, inl, inr, ℕ, ℤ, Bool, true, false, not, cond, List, [], ◌∷◌, map, filter, None, Some, Option, Ok, Err, Result, refl, sym, ap, ◌∙◌, subst, MatchBool, true≢false}
use Rattle.std.proofs.lemmas.Bool.{and_parts, not-true}
use Rattle.std.proofs.lemmas.Cmp.{tied_itself}
use Rattle.std.specs.Ordering.{is_eq, is_lt, int_cmp}
use Rattle.sqlite_value.specs.Order.{Row, value_cmp}
use Rattle.sqlite_value.proofs.OrderLemmas.{value_cmp_total}
use Rattle.sqlite_trees.specs.Tree.{Trees, rowid, has_rowid, put_row}
use Rattle.sqlite_trees.specs.declared.store.Shape.TheVariants.{Table as shape}
use Rattle.sqlite_trees.specs.View.{IsShaped, is_int}
use Rattle.sqlite_schema.specs.declared.schema.Table.{Table}
use Rattle.sqlite_schema.specs.declared.command.Source.{Source}
use Rattle.sqlite_schema.specs.declared.command.Conflict.TheVariants.{Replace}
use Rattle.sqlite_rules.specs.declared.error.Refusal.{Refusal}
use Rattle.sqlite_rules.specs.declared.error.Rowids.TheVariants.{Chosen, Above, Given}
use Rattle.sqlite_rules.specs.Action.{works}
use Rattle.sqlite_rules.specs.Calls.{ids_of}
use Rattle.sqlite_rules.specs.Cast.{cast_row}
use Rattle.sqlite_rules.specs.Edit.{Edit, edit_of, id_in, with_rowid, without_all, is_taken, taken_by, IsNoIndex, Applies}
use Rattle.sqlite_rules.specs.Keys.{AreConflicts}
use Rattle.sqlite_rules.specs.Lists.{Has}
use Rattle.sqlite_rules.proofs.ListLemmas.{some_has, some_from, all_has}
use Rattle.sqlite_rules.proofs.PlaceLemmas.{row_at_is}
use Rattle.sqlite_rules.proofs.TableLemmas.{int_is}
use Rattle.sqlite.specs.Rows.{Task, Written, Puts, Clears, Tries, TriesEach, InsertsOr, Sourced, Judged, mended, stamped, nothing, count_of, Edited, Counts, CountsIn, sequence, Gives}
use Rattle.sqlite.proofs.Callers.{one_step}
use Rattle.cb_shelf_laws.proofs.Lists.{has_some, without_are, filter_same}

-- a part that gave a value did not stop on the way
pub went : {B E R : Type 0} {b : B} {Stops : E → Type 0} → ((stop : E) × Stops stop × (Ok b ≡ Err stop)) ⊎ R → R
went (inl stopped) = absurd (let e = stopped.2 in cc)
went (inr on) = on

pub same_value : {B E : Type 0} {a b : B} → ◌≡◌ {A = Result B E} (Ok a) (Ok b) → a ≡ b
same_value e = cc

uncounted_last : (test : Bool) (A B : Type 0) (counted : Bool) → counted ≡ false → MatchBool (cond counted test false) A B → B
uncounted_last test A B true e h = absurd (true≢false e)
uncounted_last test A B false e h = h

-- where there is no AUTOINCREMENT nothing is counted
counts_none : (task : Task) (db next : Trees) (counter : Option Row) (top : ℤ) → task.table.is_counted ≡ false → Counts task db counter top (Ok next) → next ≡ db
counts_none task db next counter top uncounted h =
    same_value (uncounted_last (is_lt (int_cmp (count_of counter) top)) (CountsIn task db counter top (sequence task.schema) (Ok next)) (Gives {A = Trees} db (Ok next)) task.table.is_counted uncounted h)

-- tests that imply each other
both_ways : (s t : Bool) → (s ≡ true → t ≡ true) → (t ≡ true → s ≡ true) → s ≡ t
both_ways true t f g = sym (f refl)
both_ways false true f g = g refl
both_ways false false f g = refl

mapped_has : {X Y : Type 0} (f : X → Y) (xs : List X) (x : X) → Has xs x → Has (map f xs) (f x)
mapped_has f [] x h = absurd h
mapped_has f (y ∷ xs) x (inl same) = inl (ap f same)
mapped_has f (y ∷ xs) x (inr later) = inr (mapped_has f xs x later)

has_mapped : {X Y : Type 0} (f : X → Y) (xs : List X) (y : Y) → Has (map f xs) y → (x : X) × Has xs x × (y ≡ f x)
has_mapped f [] y h = absurd h
has_mapped f (x ∷ xs) y (inl same) = (x, inl refl, same)
has_mapped f (x ∷ xs) y (inr later) = let found = has_mapped f xs y later in (found.0, inr found.1, found.2)

-- a row has its own rowid
own_rowid : (r : Row) → is_int (rowid r) ≡ true → has_rowid (id_in (rowid r)) r ≡ true
own_rowid r keyed = ap (λ v. is_eq (value_cmp (rowid r) v)) (sym (int_is (rowid r) keyed)) ∙ ap is_eq (tied_itself value_cmp_total (rowid r))

-- the rows that pass a test are taken out by their rowids, and no other
pub taken_out : (rows found : List Row) (p : Row → Bool) → IsShaped shape rows
    → ((x : Row) → Has found x → (r : Row) × Has rows r × (p r ≡ true) × (x ≡ rowid r ∷ []))
    → ((r : Row) → Has rows r → p r ≡ true → Has found (rowid r ∷ [])) → without_all rows (ids_of found) ≡ filter (λ r. not (p r)) rows
taken_out rows found p shaped sound complete =
    without_are (ids_of found) rows ∙ filter_same _ _ rows (λ r h. ap not (both_ways (has_some (ids_of found) r) (p r) (to r h) (from r h)))
  where
    keyed : (r : Row) → Has rows r → is_int (rowid r) ≡ true
    keyed r h = all_has (λ r. is_int (rowid r) ≡ true) rows r shaped.1 h

    to : (r : Row) → Has rows r → has_some (ids_of found) r ≡ true → p r ≡ true
    to r h some =
        let id = some_has (λ id. has_rowid id r) (ids_of found) some in
        let x = has_mapped (λ y. id_in (rowid y)) found id.0 id.1 in
        let s = sound x.0 x.1 in
        let is : id.0 ≡ id_in (rowid s.0) = x.2 ∙ ap (λ y. id_in (rowid y)) s.3 in
        let here = row_at_is rows id.0 r shaped.0 h id.2 in
        let there = row_at_is rows id.0 s.0 shaped.0 s.1 (subst (λ k. has_rowid k s.0 ≡ true) (sym is) (own_rowid s.0 (keyed s.0 s.1))) in
        subst (λ y. p y ≡ true) (sym there ∙ here) s.2

    from : (r : Row) → Has rows r → p r ≡ true → has_some (ids_of found) r ≡ true
    from r h is = some_from (λ id. has_rowid id r) (ids_of found) (id_in (rowid r)) (mapped_has (λ y. id_in (rowid y)) found (rowid r ∷ []) (complete r h is)) (own_rowid r (keyed r h))

-- The row is put in once those of these rowids are taken out, and no other tree is touched but the
-- indexes of the table.
pub record IsPut (task : Task) (new : Row) (gone : List ℤ) (db after : Trees) : Type 0 where
  pub fresh : is_taken (without_all (db task.table.tree) gone) new ≡ false
  pub rows : after task.table.tree ≡ put_row new (without_all (db task.table.tree) gone)
  pub others : (t : ℕ) → t ≢ task.table.tree → IsNoIndex task.schema t → after t ≡ db t

module _ (task : Task) (none : (olds news : List Row) → works task.schema task.keys 0 task.table.tree olds news ≡ []) (new : Row) (cast : cast_row task.table new ≡ new) where
  applied : (db next : Trees) (edit : Edit) → edit.table ≡ task.table → Edited task.schema task.keys db edit (Ok next) → Applies task.schema task.keys db edit next
  applied db next edit same h = one_step task.schema task.keys db next edit (subst (λ (t : Table). works task.schema task.keys 0 t.tree (taken_by db edit) edit.news ≡ []) (sym same) (none (taken_by db edit) edit.news)) h

  puts : (db : Trees) (w : Written) → Puts task new db (Ok w) → IsPut task new [] db w.trees
  puts db w h =
      let put = went h in
      let edit = edit_of db task.table [] Given 0 (new ∷ []) in
      let a = applied db put.0 edit refl put.1 in
      let trees : w.trees ≡ put.0 = ap (λ (it : Written). it.trees) (same_value put.2) in
      record {
        fresh = subst (λ r. is_taken (db task.table.tree) r ≡ false) cast (not-true _ (and_parts _ _ a.fresh).0);
        rows = ap (λ (t : Trees). t task.table.tree) trees ∙ a.rows ∙ ap (λ r. put_row r (db task.table.tree)) cast;
        others = λ t other free. ap (λ (s : Trees). s t) trees ∙ a.others t other free;
      }

  clears : (db : Trees) (w : Written) (found : List Row) → Clears task Replace new db found (Ok w) → IsPut task new (ids_of found) db w.trees
  clears db w [] h = puts db w h
  clears db w (x ∷ more) h =
      let out = went h in
      let ids = ids_of (x ∷ more) in
      let a = applied db out.0 (edit_of db task.table ids Given 0 []) refl out.1 in
      let p = puts out.0 w out.2 in
      record {
        fresh = subst (λ rows. is_taken rows new ≡ false) a.rows p.fresh;
        rows = p.rows ∙ ap (put_row new) a.rows;
        others = λ t other free. p.others t other free ∙ a.others t other free;
      }

  pub tries : (db : Trees) (w : Written) → Tries task Replace [] new db (Ok w)
      → (found : List Row) × AreConflicts None task.schema.indexes task.table (db task.table.tree) new found × IsPut task new (ids_of found) db w.trees
  tries db w (inl refused) = absurd (let e = refused.1 in cc)
  tries db w (inr judged) = go judged.0 judged.2
    where
      go : (verdict : Option Refusal) → Judged task Replace [] new db verdict (Ok w)
          → (found : List Row) × AreConflicts None task.schema.indexes task.table (db task.table.tree) new found × IsPut task new (ids_of found) db w.trees
      go None h = (h.0, h.1, clears db w h.0 h.2)
      go (Some why) h = absurd (let e = h in cc)

  -- what a statement of one row does, where no rowid is chosen by AUTOINCREMENT
  pub inserts : (db : Trees) (source : Row) (from : Source) (w : Written) → task.table.is_counted ≡ false
      → ((rows : List Row) → Sourced task.limit (record { schema = task.schema; trees = db }) (stamped task.table task.params) from (Ok rows) → rows ≡ source ∷ [])
      → with_rowid Chosen (db task.table.tree) (cast_row task.table (mended Replace task.table source)) ≡ new → InsertsOr task Replace [] from db (Ok w)
      → (found : List Row) × AreConflicts None task.schema.indexes task.table (db task.table.tree) new found × IsPut task new (ids_of found) db w.trees
  inserts db source from w uncounted one is h =
      let given = went h in
      let counted = went given.2 in
      let each = went counted.2 in
      let end = went each.2 in
      let next = counts_none task each.0.0.trees end.0 counted.0 each.0.1 uncounted end.1 in
      let tried = went (subst (λ rows. TriesEach task Replace [] rows (count_of counted.0) (nothing db) (Ok each.0)) (one given.0 given.1) each.1) in
      let t : (found : List Row) × AreConflicts None task.schema.indexes task.table (db task.table.tree) new found × IsPut task new (ids_of found) db tried.0.trees =
      tries db tried.0 (subst (λ row. Tries task Replace [] row db (Ok tried.0)) (ap (λ (b : Bool). with_rowid (cond b (Above (count_of counted.0)) Chosen) (db task.table.tree) (cast_row task.table (mended Replace task.table source))) uncounted ∙ is) tried.1) in
      let trees : w.trees ≡ tried.0.trees = ap (λ (it : Written). it.trees) (same_value end.2) ∙ next ∙ ap (λ (p : Written × ℤ). p.0.trees) (same_value tried.2) in
      (t.0, t.1, subst (IsPut task new (ids_of t.0) db) (sym trees) t.2)
