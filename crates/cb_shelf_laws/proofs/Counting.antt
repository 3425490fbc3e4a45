-- What a question for a count answers.
use Rattle.std.proofs.Common.{◌≡◌, ℕ, true, false, List, [], ◌∷◌, ◌++◌, length, map, filter, Some, refl, sym, ap, ◌∙◌, subst, IsPermutation, slice_index_or}
use Rattle.std.specs.List.{AllZip, list_all}
use Rattle.std.proofs.lemmas.List.{length-map}
use Rattle.std.proofs.lemmas.List.Sorted.{length_permutation, IsPermutation-refl}
use Rattle.sqlite_value.specs.declared.value.Value.{Value}
use Rattle.sqlite_value.specs.declared.value.Value.TheVariants.{Null}
use Rattle.sqlite_value.specs.Order.{Row}
use Rattle.sqlite_trees.specs.Tree.{Trees}
use Rattle.sqlite_sql.specs.Aggregate.{count}
use Rattle.sqlite_sql.specs.Group.{IsSummary, value_over}
use Rattle.sqlite_sql.specs.Term.{Env, col, lit, eval, eval_all, holds}
use Rattle.sqlite_sql.specs.Program.{overlay}
use Rattle.sqlite_sql.specs.Query.{Query, Output, output, matches_as, inner, end}
use Rattle.sqlite_schema.specs.declared.schema.Schema.{Schema}
use Rattle.sqlite_schema.specs.declared.command.Command.TheVariants.{Select}
use Rattle.sqlite_typing.specs.Types.{accepts_program}
use Rattle.sqlite.specs.Effect.{Database, Answers}
use Rattle.sqlite.specs.Listing.{understood, reads_listing}
use Rattle.sqlite.proofs.Callers.{command_of, one_permutation}
use Rattle.cb_shelf.specs.Statements.{Statement}
use Rattle.cb_shelf.specs.Asking.{RepliesRow}
use Rattle.cb_shelf_laws.proofs.Selecting.{program, asked, replied, staged_are}
use Rattle.cb_shelf_laws.proofs.Texts.{count_query, counting}

pub all_pass : {X : Type 0} (xs : List X) → filter (λ x. true) xs ≡ xs
all_pass [] = refl
all_pass (x ∷ xs) = ap (λ l. x ∷ l) (all_pass xs)

module _ (tree : ℕ) (params : Row) where
  abbrev row_of : ℕ → Row
  row_of n = count n ∷ []

  abbrev all : Value → Trees → List Env
  all lost db = matches_as lost (overlay db []) [] (inner tree end) (params ∷ [])

  as_many : (lost : Value) (db : Trees) → length (all lost db) ≡ length (db tree)
  as_many lost db = ap length (staged_are tree [] (col 1 0 ∷ []) params db lost) ∙ length-map (filter (λ r. true) (db tree)) (λ r. params ∷ r ∷ []) ∙ ap length (all_pass (db tree))

  one_summary : (group : List Env) (groups : List (List Env)) (rows : List Row) → groups ≡ group ∷ [] → AllZip (IsSummary counting) groups rows → rows ≡ row_of (length group) ∷ []
  one_summary group groups rows is h = only rows (subst (λ l. AllZip (IsSummary counting) l rows) is h)
    where
      only : (rows : List Row) → AllZip (IsSummary counting) (group ∷ []) rows → rows ≡ row_of (length group) ∷ []
      only [] h = absurd h
      only (r ∷ []) h = ap (λ x. x ∷ []) (value r h.0.0 h.0.1 h.0.2)
        where
          value : (r values : Row) → AllZip (λ a v. value_over group a ≡ Some v) counting.aggregates values → r ≡ eval_all [] (slice_index_or group 0 []) ++ values → r ≡ row_of (length group)
          value r [] all is = absurd all
          value r (v ∷ []) all is = is ∙ ap (λ x. x ∷ []) (same v all.0)
            where
              same : (v : Value) → Some (count (length (map (eval (lit Null)) group))) ≡ Some v → v ≡ count (length group)
              same v e = sym (ap (λ n. count n) (sym (length-map group (eval (lit Null)))) ∙ cc)
          value r (v ∷ w ∷ more) all is = absurd all.1
      only (r ∷ s ∷ more) h = absurd h.1

  abbrev q : Query
  q = count_query tree

  -- the answer is how many rows there are
  counts : (db : Database) (rows : List Row) → Answers db (program q) params rows → rows ≡ row_of (length (db.trees tree)) ∷ []
  counts db rows h =
      let a = h.answer Null in
      let g = a.grouped in
      let order = g.grouping.0 in
      let summary = one_summary order g.groups g.rows g.grouping.2 g.summaries in
      let many : length order ≡ length (db.trees tree) = length_permutation (all Null db.trees) order g.grouping.1 ∙ as_many Null db.trees in
      let out : Output = ([], row_of (length order)) in
      let staged : a.staged ≡ (params ∷ row_of (length order) ∷ []) ∷ [] = g.having ∙ ap (λ rs. filter (λ env. list_all (holds env) []) (map (λ r. params ∷ r ∷ []) rs)) summary in
      let kept : a.kept ≡ out ∷ [] = a.distinct ∙ ap (map (output q)) staged in
      a.shown ∙ ap (map (λ (o : Output). o.1)) (one_permutation out a.ordered (subst (λ k. IsPermutation k a.ordered) kept a.same)) ∙ ap (λ n. row_of n ∷ []) many

  answers_count : (db : Database) → accepts_program db.schema [] q params ≡ true → Answers db (program q) params (row_of (length (db.trees tree)) ∷ [])
  answers_count db accepted = record {
    typed = accepted;
    answer = λ lost.
        let row = row_of (length (all lost db.trees)) in
        let out : Output = ([], row) in record {
          staged = (params ∷ row ∷ []) ∷ [];
          grouped = record {
            groups = all lost db.trees ∷ [];
            grouping = (all lost db.trees, IsPermutation-refl _, refl);
            rows = row ∷ [];
            summaries = ((row, (ap (λ n. Some (count n)) (length-map (all lost db.trees) (eval (lit Null))), tt), refl), tt);
            having = refl;
          };
          kept = out ∷ [];
          distinct = refl;
          ordered = out ∷ [];
          same = IsPermutation-refl (out ∷ []);
          sorted = λ k d low high. refl;
          shown = ap (λ n. row_of n ∷ []) (sym (as_many lost db.trees));
        };
  }

-- ---- a question for a count

module _ (schema : Schema) (text : List ℕ) (tree : ℕ) (names : List (List ℕ)) (is : command_of (understood schema text) ≡ Select (program (count_query tree)) names) (unlisted : reads_listing schema text ≡ false) (params : Row) where
  abbrev asks : Statement
  asks = record { text = text; params = params }

  -- a database with as many rows gives the same answer
  pub tells_count : (db after : Database) (values : Row) → db.schema ≡ schema → after.schema ≡ schema → length (after.trees tree) ≡ length (db.trees tree) → RepliesRow db asks values → RepliesRow after asks values
  tells_count db after values has still many h =
      let answers = asked schema text (count_query tree) names is unlisted params db h.0 has h.1 in
      let accepted = subst (λ s. accepts_program s [] (count_query tree) params ≡ true) (has ∙ sym still) answers.typed in
      let same : h.0 ≡ (count (length (after.trees tree)) ∷ []) ∷ [] = counts tree params db h.0 answers ∙ ap (λ n. (count n ∷ []) ∷ []) (sym many) in
      let others = (count (length (after.trees tree)) ∷ []) ∷ [] in
      (others, replied schema text (count_query tree) names is unlisted params db after h.0 others has still h.1 (answers_count tree params after accepted), (h.2.0, sym same ∙ h.2.1, h.2.2))
