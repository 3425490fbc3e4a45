-- How a life begins, and which life follows those that the tables tell of.
use Rattle.std.proofs.Common.{◌≡◌, inl, inr, ℕ, pos, Bool, true, false, List, [], ◌∷◌, filter, map, refl, sym, ap, ◌∙◌, subst, subst₂, true≢false}
use Rattle.sqlite_tied.specs.Compute.{everything}
use Rattle.sqlite_value.specs.declared.value.Value.TheVariants.{Null, Int}
use Rattle.sqlite_value.specs.declared.keys.Collation.TheVariants.{Binary}
use Rattle.sqlite_value.specs.Order.{Row, column}
use Rattle.sqlite_trees.specs.declared.store.Store.{Ghosts}
use Rattle.sqlite_trees.specs.declared.store.Shape.TheVariants.{Table as shape}
use Rattle.sqlite_trees.specs.View.{IsShaped}
use Rattle.sqlite_sql.specs.Term.{Term, lit, col, op2}
use Rattle.sqlite_sql.specs.declared.ops.BinaryOp.TheVariants.{Compare}
use Rattle.sqlite_sql.specs.declared.ops.CompareOp.TheVariants.{Eq}
use Rattle.sqlite_schema.specs.declared.command.Command.TheVariants.{Nothing}
use Rattle.sqlite.specs.Effect.{Database}
use Rattle.sqlite.specs.Given.{IsPlain}
use Rattle.sqlite.specs.Held.{state}
use Rattle.sqlite.specs.Listing.{understood, listing_schema}
use Rattle.sqlite.proofs.Callers.{command_of, runs_as}
use Rattle.cb_page.specs.Bounds.{Bounds}
use Rattle.cb_commit.specs.Stores.{StoreState, IsOf}
use Rattle.cb_commit.specs.Batches.{BatchState}
use Rattle.cb_shelf.specs.Inside.{can_answer}
use Rattle.cb_shelf.specs.Statements.{Makes, MakesAll, batch_statements}
use Rattle.cb_shelf.specs.Writing.{Fits}
use Rattle.cb_shelf.specs.LifeRows as rows
use Rattle.cb_shelf.specs.LifeRows.{LifeState, life_row, unkept_below}
use Rattle.cb_shelf.specs.Living.{Follows, TellsBelow, below_text, life_from, life_statements}
use Rattle.cb_shelf.specs.Opening.{plain}
use Rattle.cb_shelf.specs.Reading.{number_values}
use Rattle.cb_shelf_laws.specs.LifeLaws.{IsUnlived}
use Rattle.cb_shelf_laws.specs.Tables.{schema, unlived_schema, life_table, life_tree}
use Rattle.cb_shelf_laws.specs.Rows.{IsShelf, IsLife, PutsLife, HasStore, is_at, is_of_page}
use Rattle.cb_shelf_laws.specs.Rows.{mark_columns}
use Rattle.cb_shelf_laws.proofs.Creating.{fourth_is, keeps_three, life_creates, life_next, makes}
use Rattle.cb_shelf_laws.proofs.Lists.{filter_same}
use Rattle.cb_shelf_laws.proofs.Living.{life_puts}
use Rattle.cb_shelf_laws.proofs.Paging.{writes_batch}
use Rattle.cb_shelf_laws.proofs.Selecting.{one_test, passes, told_row}
use Rattle.cb_shelf_laws.proofs.Texts.{below_get, below_unlisted}

-- ---- the table is there already

there_already : (older : Bool) → command_of (understood (schema older) rows.life_table) ≡ Nothing
unfolding understood everything
there_already true = refl
there_already false = refl

already_plain : (older : Bool) → IsPlain (understood (schema older) rows.life_table)
unfolding understood everything
already_plain true = (refl, refl)
already_plain false = (refl, refl)

stays_made : {S : Type 0} (g : Ghosts S) (older : Bool) (before after : Database) → before.schema ≡ schema older → Makes g (plain rows.life_table) before after → after ≡ before
stays_made g older before after has m =
    let w = runs_as rows.life_table [] (state g m.from) (state g m.to) (schema older) (ap (λ (d : Database). d.schema) m.starts ∙ has) Nothing (there_already older) (already_plain older) m.count m.runs in
    sym m.ends ∙ w.0.0.now_is ∙ m.starts

-- ---- the row is put

pub puts : {S : Type 0} (g : Ghosts S) (older : Bool) (life : LifeState) (before after : Database) → IsShelf older before → Makes g (life_row life) before after → PutsLife older life before after
puts g older life before after shelf m = life_puts older g before after life shelf m

-- by itself
pub row_set : {S : Type 0} (g : Ghosts S) (older : Bool) (life : LifeState) (before after : Database) → IsShelf older before → MakesAll g (life_row life ∷ []) before after → PutsLife older life before after
row_set g older life before after shelf m = subst (PutsLife older life before) m.2 (puts g older life before m.0 shelf m.1)

pub begins : {S : Type 0} (g : Ghosts S) (older : Bool) (life : LifeState) (before after : Database) → IsShelf older before → MakesAll g (life_statements life) before after → PutsLife older life before after
begins g older life before after shelf m =
    let same = stays_made g older before m.0 shelf.schema m.1 in
    subst₂ (PutsLife older life) same m.2.2 (life_puts older g m.0 m.2.0 life (subst (IsShelf older) (sym same) shelf) m.2.1)

pub unlived_begins : {S : Type 0} (g : Ghosts S) (older : Bool) (life : LifeState) (before after : Database) → IsUnlived older before → MakesAll g (life_statements life) before after → PutsLife older life before after
unlived_begins g older life before after has m =
    let made = makes g (unlived_schema older) rows.life_table life_table before m.0 (life_creates older) has.schema m.1 in
    let still = keeps_three older before.trees m.0.trees made.others in
    let lives : m.0.trees (life_tree older) ≡ [] = subst (λ t. m.0.trees t ≡ []) (life_next older) made.empty in
    let p = life_puts older g m.0 m.2.0 life (record {
      schema = made.is ∙ fourth_is older;
      marks = subst (IsShaped shape) (sym still.0) has.marks;
      pages = subst (IsShaped shape) (sym still.1) has.pages;
      parts = subst (IsShaped shape) (sym still.2) has.parts;
      lives = subst (IsShaped shape) (sym lives) (tt, tt);
    }) m.2.1 in
    subst (PutsLife older life before) m.2.2 (record { shelf = p.shelf; put = p.put; marks = p.marks ∙ still.0; pages = p.pages ∙ still.1; parts = p.parts ∙ still.2 })

pub batch_keeps : {S : Type 0} (g : Ghosts S) (older : Bool) (limits : Bounds) (batch : BatchState) (store : StoreState) (life : LifeState) (before after : Database) → IsOf limits store → Fits limits batch
    → HasStore older before store → IsLife older before life → MakesAll g (batch_statements batch) before after → IsLife older after life
batch_keeps g older limits batch store life before after of fits has is m =
    ap (filter (is_of_page 1)) (writes_batch older g limits batch store before after of fits has m).1.lives ∙ is

-- the rows of the store stay
pub store_left : (older : Bool) (store : StoreState) (life : LifeState) (before after : Database) → HasStore older before store → PutsLife older life before after → HasStore older after store
store_left older store life before after has p = record {
  shelf = p.shelf;
  mark = ap (map mark_columns) p.marks ∙ has.mark;
  versions = λ page low. ap (λ l. map (λ (r : Row). column r 2) (filter (is_of_page page) l)) p.pages ∙ has.versions page low;
  parts = λ page place low within. ap (λ l. map (λ (r : Row). column r 3) (filter (is_at page place) l)) p.parts ∙ has.parts page place low within;
}

-- ---- what they tell

answers : (older : Bool) → can_answer (schema older) below_text ≡ true
unfolding understood everything
answers true = refl
answers false = refl

answers_not : (older : Bool) → can_answer (unlived_schema older) below_text ≡ false
unfolding understood everything listing_schema
answers_not true = refl
answers_not false = refl

abbrev tests : List Term
tests = op2 (Compare Eq Binary) (col 1 0) (lit (Int (pos 1))) ∷ []

told : (older : Bool) (db : Database) (life : LifeState) (below : ℕ) → IsShelf older db → IsLife older db life → TellsBelow db below → below ≡ life.below
told older db life below shelf is (inl h) =
    let r = told_row (schema older) below_text (life_tree older) tests (col 1 3 ∷ []) _ (below_get older) (below_unlisted older) [] db (number_values below) shelf.schema h.1 in
    let same : filter (passes (life_tree older) tests (col 1 3 ∷ []) []) (db.trees (life_tree older)) ≡ filter (is_of_page 1) (db.trees (life_tree older)) = filter_same _ _ (db.trees (life_tree older)) (λ x here. one_test (is_of_page 1 x)) in
    let one : r.0 ∷ [] ≡ (Int (pos 1) ∷ Null ∷ Int (pos life.floor) ∷ Int (pos life.below) ∷ []) ∷ [] = sym r.1 ∙ same ∙ is in
    let row : r.0 ≡ Int (pos 1) ∷ Null ∷ Int (pos life.floor) ∷ Int (pos life.below) ∷ [] = cc in
    let value : Int (pos below) ≡ Int (pos life.below) = sym r.2.0 ∙ ap (λ (x : Row). column x 3) row in
    cc
told older db life below shelf is (inr h) = absurd (true≢false (sym (answers older) ∙ ap (λ s. can_answer s below_text) (sym shelf.schema) ∙ h.0))

pub follows : (older : Bool) (db : Database) (before life : LifeState) → IsShelf older db → IsLife older db before → Follows db life → life ≡ life_from before.below
follows older db before life shelf is h = h.2 ∙ ap life_from (told older db before h.0 shelf is h.1)

untold : (older : Bool) (db : Database) (below : ℕ) → IsUnlived older db → TellsBelow db below → below ≡ unkept_below
untold older db below has (inl h) = absurd (true≢false (sym h.0 ∙ ap (λ s. can_answer s below_text) has.schema ∙ answers_not older))
untold older db below has (inr h) = h.1

pub unlived_follows : (older : Bool) (db : Database) (life : LifeState) → IsUnlived older db → Follows db life → life ≡ life_from unkept_below
unlived_follows older db life has h = h.2 ∙ ap life_from (untold older db h.0 has h.1)
