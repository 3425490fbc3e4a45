-- What a question by a key answers, by the rows that have the key.
use Rattle.std.proofs.Common.{◌≡◌, ℕ, Bool, true, false, ◌&&◌, cond, List, [], ◌∷◌, ◌++◌, length, map, filter, flat_map, None, refl, sym, ap, ◌∙◌, subst, subst₂, arith, slice_get, nat_le, ◌^◌, ◌-◌, unwrap_or, IsPermutation}
use Rattle.std.specs.List.{list_all}
use Rattle.std.proofs.lemmas.List.{length-map}
use Rattle.std.proofs.lemmas.List.Sorted.{length_permutation, IsPermutation-refl}
use Rattle.sqlite_value.specs.declared.value.Value.{Value}
use Rattle.sqlite_value.specs.declared.value.Value.TheVariants.{Null}
use Rattle.sqlite_value.specs.Order.{Row}
use Rattle.sqlite_trees.specs.Tree.{Trees}
use Rattle.sqlite_sql.specs.Term.{Term, eval_all, holds}
use Rattle.sqlite_sql.specs.Program.{overlay}
use Rattle.sqlite_sql.specs.Query.{Query, IsAnswerAs, Output, output, matches_as, inner, end}
use Rattle.sqlite_schema.specs.declared.schema.Schema.{Schema}
use Rattle.sqlite_schema.specs.declared.program.Program.{Program}
use Rattle.sqlite_schema.specs.declared.command.Command.TheVariants.{Select}
use Rattle.sqlite_typing.specs.Types.{accepts_program}
use Rattle.sqlite_trees.proofs.ListLemmas.{map-map}
use Rattle.sqlite.specs.Effect.{Database, Answers, Reads}
use Rattle.sqlite.specs.Listing.{understood, reads_listing, IsSourceOf}
use Rattle.sqlite.proofs.Callers.{command_of, one_permutation}
use Rattle.cb_shelf.specs.Statements.{Statement}
use Rattle.cb_shelf.specs.Asking.{Replies, RepliesRow, HasFrom}
use Rattle.cb_shelf_laws.proofs.Texts.{select}

abbrev pub program : Query → Program
program q = record { lets = []; body = q }

-- ---- a question and its answers

module _ (schema : Schema) (text : List ℕ) (q : Query) (names : List (List ℕ)) (is : command_of (understood schema text) ≡ Select (program q) names) (unlisted : reads_listing schema text ≡ false) (params : Row) where
  pub asked : (db : Database) (rows : List Row) → db.schema ≡ schema → Replies db (record { text = text; params = params }) rows → Answers db (program q) params rows
  asked db rows has r =
      let known = sym r.is ∙ ap (λ s. understood s text) has in
      let source : r.source ≡ db = subst (λ b. IsSourceOf b db r.source) (ap (λ s. reads_listing s text) has ∙ unlisted) r.source_is in
      subst₂ (λ k d. Reads k d params rows) (ap command_of known ∙ is) source r.reads

  -- another database with the tables answers in its own way
  pub replied : (db after : Database) (rows others : List Row) → db.schema ≡ schema → after.schema ≡ schema → Replies db (record { text = text; params = params }) rows → Answers after (program q) params others
      → Replies after (record { text = text; params = params }) others
  replied db after rows others has still r answers =
      let known = sym r.is ∙ ap (λ s. understood s text) has in
      record {
        compiled = r.compiled;
        is = ap (λ s. understood s text) (still ∙ sym has) ∙ r.is;
        plain = r.plain;
        given = r.given;
        source = after;
        source_is = subst (λ b. IsSourceOf b after after) (sym (ap (λ s. reads_listing s text) still ∙ unlisted)) refl;
        reads = subst (λ k. Reads k after params others) (sym (ap command_of known ∙ is)) answers;
      }

-- ---- the rows that pass a test

pub one_test : (x : Bool) → (x && true) ≡ x
one_test true = refl
one_test false = refl

pub two_tests : (x y : Bool) → (x && (y && true)) ≡ (x && y)
two_tests true y = one_test y
two_tests false y = refl

no_table : (b : Bool) (k : ℕ) (rows : List Row) → unwrap_or (cond b (slice_get [] k) None) rows ≡ rows
no_table true k rows = refl
no_table false k rows = refl

as_filter : (params : Row) (p : Row → Bool) (rows : List Row) → flat_map (λ r. cond (p r) ((params ∷ r ∷ []) ∷ []) []) rows ≡ map (λ r. params ∷ r ∷ []) (filter p rows)
as_filter params p [] = refl
as_filter params p (r ∷ rows) = go (p r) (as_filter params p rows)
  where
    go : (b : Bool) → flat_map (λ r. cond (p r) ((params ∷ r ∷ []) ∷ []) []) rows ≡ map (λ r. params ∷ r ∷ []) (filter p rows)
        → cond b ((params ∷ r ∷ []) ∷ []) [] ++ flat_map (λ r. cond (p r) ((params ∷ r ∷ []) ∷ []) []) rows ≡ map (λ r. params ∷ r ∷ []) (cond b (r ∷ filter p rows) (filter p rows))
    go true more = ap (λ l. (params ∷ r ∷ []) ∷ l) more
    go false more = more

module _ (tree : ℕ) (tests project : List Term) (params : Row) where
  abbrev pub passes : Row → Bool
  passes r = list_all (holds (params ∷ r ∷ [])) tests

  abbrev pub shown : Row → Row
  shown r = eval_all project (params ∷ r ∷ [])

  abbrev out_of : Row → Output
  out_of r = output (select tree tests project) (params ∷ r ∷ [])

  one_there : (rows : List Row) (outs kept : List Output) (v : Row) → map (λ (o : Output). o.1) outs ≡ v ∷ [] → kept ≡ map out_of rows → IsPermutation kept outs
      → (r : Row) × (rows ≡ r ∷ []) × (shown r ≡ v)
  one_there [] outs kept v is are same = absurd (omega (arith, ap length is, length-map outs (λ (o : Output). o.1), length_permutation kept outs same, ap length are))
  one_there (r ∷ []) outs kept v is are same =
      let one = one_permutation (out_of r) outs (subst (λ k. IsPermutation k outs) are same) in
      let e : shown r ∷ [] ≡ v ∷ [] = sym (ap (map (λ (o : Output). o.1)) one) ∙ is in
      (r, refl, cc)
  one_there (r ∷ s ∷ more) outs kept v is are same = absurd (omega (arith, ap length is, length-map outs (λ (o : Output). o.1), length_permutation kept outs same, ap length are))

  pub staged_are : (db : Trees) (lost : Value) → matches_as lost (overlay db []) tests (inner tree end) (params ∷ []) ≡ map (λ r. params ∷ r ∷ []) (filter passes (db tree))
  staged_are db lost = as_filter params passes _ ∙ ap (λ l. map (λ r. params ∷ r ∷ []) (filter passes l)) (no_table (nat_le (2 ^ 31) tree) (tree - 2 ^ 31) (db tree))

  kept_are : (db : Trees) (rows : List Row) (a : IsAnswerAs Null (select tree tests project) (overlay db []) params rows) → a.kept ≡ map out_of (filter passes (db tree))
  kept_are db rows a = a.distinct ∙ ap (map (output (select tree tests project))) (a.grouped ∙ staged_are db Null) ∙ map-map (output (select tree tests project)) (λ r. params ∷ r ∷ []) (filter passes (db tree))

  -- an answer of one row is of the one row that passes
  pub told_one : (db : Database) (v : Row) → Answers db (program (select tree tests project)) params (v ∷ []) → (r : Row) × (filter passes (db.trees tree) ≡ r ∷ []) × (shown r ≡ v)
  told_one db v h = let a = h.answer Null in one_there (filter passes (db.trees tree)) a.ordered a.kept v (sym a.shown) (kept_are db.trees (v ∷ []) a) a.same

  -- where one row passes, the answer is what it shows
  pub tells_one : (db : Database) (rows : List Row) (r : Row) → filter passes (db.trees tree) ≡ r ∷ [] → Answers db (program (select tree tests project)) params rows → rows ≡ shown r ∷ []
  tells_one db rows r is h =
      let a = h.answer Null in
      let kept : a.kept ≡ out_of r ∷ [] = kept_are db.trees rows a ∙ ap (map out_of) is in
      a.shown ∙ ap (map (λ (o : Output). o.1)) (one_permutation (out_of r) a.ordered (subst (λ k. IsPermutation k a.ordered) kept a.same))

  pub answers_one : (db : Database) (r : Row) → filter passes (db.trees tree) ≡ r ∷ [] → accepts_program db.schema [] (select tree tests project) params ≡ true
      → Answers db (program (select tree tests project)) params (shown r ∷ [])
  answers_one db r is accepted = record {
    typed = accepted;
    answer = λ lost. record {
      staged = (params ∷ r ∷ []) ∷ [];
      grouped = sym (staged_are db.trees lost ∙ ap (map (λ x. params ∷ x ∷ [])) is);
      kept = out_of r ∷ [];
      distinct = refl;
      ordered = out_of r ∷ [];
      same = IsPermutation-refl (out_of r ∷ []);
      sorted = λ k d low high. refl;
      shown = refl;
    };
  }

-- ---- a question that one row answers

module _ (schema : Schema) (text : List ℕ) (tree : ℕ) (tests project : List Term) (names : List (List ℕ)) (is : command_of (understood schema text) ≡ Select (program (select tree tests project)) names) (unlisted : reads_listing schema text ≡ false)
    (params : Row) where
  abbrev asks : Statement
  asks = record { text = text; params = params }

  -- the row that answers it
  pub told_row : (db : Database) (values : Row) → db.schema ≡ schema → RepliesRow db asks values
      → (r : Row) × (filter (passes tree tests project params) (db.trees tree) ≡ r ∷ []) × HasFrom (shown tree tests project params r) 0 values
  told_row db values has h =
      let answers = asked schema text (select tree tests project) names is unlisted params db h.0 has h.1 in
      let one = told_one tree tests project params db h.2.0 (subst (Answers db (program (select tree tests project)) params) h.2.1 answers) in
      (one.0, one.1, subst (λ x. HasFrom x 0 values) (sym one.2) h.2.2)

  -- another row answers it for another database
  pub tells_row : (db after : Database) (others values : Row) → db.schema ≡ schema → after.schema ≡ schema → RepliesRow db asks others
      → (r : Row) → filter (passes tree tests project params) (after.trees tree) ≡ r ∷ [] → HasFrom (shown tree tests project params r) 0 values → RepliesRow after asks values
  tells_row db after others values has still h r there shows =
      let answers = asked schema text (select tree tests project) names is unlisted params db h.0 has h.1 in
      let accepted = subst (λ s. accepts_program s [] (select tree tests project) params ≡ true) (has ∙ sym still) answers.typed in
      let row = shown tree tests project params r in
      (row ∷ [], replied schema text (select tree tests project) names is unlisted params db after h.0 (row ∷ []) has still h.1 (answers_one tree tests project params after r there accepted), (row, refl, shows))
