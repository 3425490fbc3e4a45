-- What the tables answer after the open that made them, and the steps since.
use Rattle.std.proofs.Common.{◌≡◌, inl, inr, ℕ, Bool, true, false, List, [], ◌∷◌, length, codes, refl, sym, ap, ◌∙◌, subst, true≢false}
use Rattle.std.specs.List.{All, AllByRecursion}
use Rattle.std.proofs.lemmas.List.{length-replicate}
use Rattle.std.proofs.lemmas.List.Elements.{All-replicate, All-set, recursion_from_All}
use Rattle.sqlite_tied.specs.Compute.{everything}
use Rattle.sqlite_trees.specs.declared.store.Store.{Ghosts}
use Rattle.sqlite_schema.specs.declared.schema.Schema.{Schema}
use Rattle.sqlite.specs.Effect.{Database}
use Rattle.sqlite.specs.Listing.{understood, listing_schema}
use Rattle.cb_page.specs.Bounds.{Bounds}
use Rattle.cb_commit.specs.declared.batch.BatchPage.{BatchPage}
use Rattle.cb_commit.specs.declared.store.StoredPage.{StoredPage}
use Rattle.cb_commit.specs.Stores.{StoreState, IsOf, zeros, zero_page}
use Rattle.cb_commit.specs.Batches.{BatchState, overwritten, after_batch}
use Rattle.cb_shelf.specs.Inside.{can_answer}
use Rattle.cb_shelf.specs.Statements.{MakesAll}
use Rattle.cb_shelf.specs.Writing.{IsOfSize, Fits}
use Rattle.cb_shelf.specs.Newer.{HoldsNewer}
use Rattle.cb_shelf.specs.Opening.{laid, LaysOut}
use Rattle.cb_shelf_laws.specs.Tables.{schema, no_schema, old_schema}
use Rattle.cb_shelf_laws.specs.Rows.{IsShelf, HasStore, HasFullPages}
use Rattle.cb_shelf_laws.specs.Laws.{Step, MakesSteps, after_steps}
use Rattle.cb_shelf_laws.specs.Laws.Step.{reopened, written, lived, raised}
use Rattle.cb_shelf_laws.proofs.Answering.{answered_rows}
use Rattle.cb_shelf_laws.proofs.Holding.{over_pages, holds_rows}
use Rattle.cb_shelf_laws.proofs.Laying.{full_laid}
use Rattle.cb_shelf_laws.proofs.Lives.{begins, row_set, store_left}
use Rattle.cb_shelf_laws.proofs.Paging.{writes_batch}

-- ---- an open

-- a database with no table has no mark of a shelf, and no page of an older one
no_mark : can_answer no_schema (codes "SELECT id, commits, page_size, pages FROM mark2") ≡ false
unfolding understood listing_schema everything
no_mark = refl

no_old_page : can_answer no_schema (codes "SELECT no, version, body FROM page") ≡ false
unfolding understood listing_schema everything
no_old_page = refl

-- a shelf has its mark
mark_there : (older : Bool) → can_answer (schema older) (codes "SELECT id, commits, page_size, pages FROM mark2") ≡ true
unfolding understood listing_schema everything
mark_there true = refl
mark_there false = refl

-- one schema does not answer a query and leave it unanswered
cant_differ : {X : Type 0} (one other : Schema) (query : List ℕ) → one ≡ other → can_answer one query ≡ true → can_answer other query ≡ false → X
cant_differ one other query same does isnt = absurd (true≢false (sym does ∙ ap (λ s. can_answer s query) same ∙ isnt))

-- where there is no table it makes them, with zeros
pub lays_zeros : {S : Type 0} (g : Ghosts S) (limits : Bounds) (before after : Database) → before.schema ≡ no_schema → LaysOut g limits before after → MakesAll g (laid (zeros limits) false) before after
lays_zeros g limits before after has (inl found) = cant_differ before.schema no_schema _ has found.0.0.0.0 no_mark
lays_zeros g limits before after has (inr (inl made)) = made.1
lays_zeros g limits before after has (inr (inr old)) = cant_differ before.schema no_schema _ has old.1.0.0.0 no_old_page

-- over a shelf it changes nothing
pub leaves_shelf : {S : Type 0} (g : Ghosts S) (older : Bool) (limits : Bounds) (before after : Database) → IsShelf older before → LaysOut g limits before after → before ≡ after
leaves_shelf g older limits before after shelf (inl found) = found.1
leaves_shelf g older limits before after shelf (inr (inl made)) = cant_differ (schema older) before.schema _ (sym shelf.schema) (mark_there older) made.0.0.1.0
leaves_shelf g older limits before after shelf (inr (inr old)) = cant_differ (schema older) before.schema _ (sym shelf.schema) (mark_there older) old.1.0.2.0

-- ---- full pages

abbrev AreFull : ℕ → List StoredPage → Type 0
AreFull size pages = All (λ page. length page.bytes ≡ size) pages

pub zeros_full : (limits : Bounds) → HasFullPages (zeros limits)
zeros_full limits = All-replicate (λ (page : StoredPage). length page.bytes ≡ limits.page_size) limits.pages (zero_page limits.page_size) (length-replicate limits.page_size 0)

over_full : (limits : Bounds) (batch : List BatchPage) (pages : List StoredPage) → AllByRecursion (IsOfSize limits) batch → AreFull limits.page_size pages → AreFull limits.page_size (overwritten pages batch)
over_full limits [] pages fits full = full
over_full limits (next ∷ batch) pages fits full = over_full limits batch _ fits.1 (All-set (λ (page : StoredPage). length page.bytes ≡ limits.page_size) pages next.page _ fits.0.bytes full)

-- a batch that fits leaves them full
pub batch_full : (limits : Bounds) (store : StoreState) (batch : BatchState) → IsOf limits store → Fits limits batch → HasFullPages store → HasFullPages (after_batch store batch)
batch_full limits store batch of fits full =
    subst (λ size. AreFull size (overwritten store.pages batch.pages)) (sym of.page_size)
    (over_full limits batch.pages store.pages (recursion_from_All _ _ fits) (subst (λ size. AreFull size store.pages) of.page_size full))

-- ---- the steps

-- steps over a store's rows make them those of the store after these steps
follows : {S : Type 0} (g : Ghosts S) (older : Bool) (limits : Bounds) (steps : List Step) (store : StoreState) (before after : Database) → IsOf limits store → HasFullPages store → HasStore older before store → MakesSteps g limits steps before after
    → HasFullPages (after_steps store steps) × HasStore older after (after_steps store steps)
follows g older limits [] store before after of full has m = (full, subst (λ db. HasStore older db store) m has)
follows g older limits (reopened ∷ steps) store before after of full has m =
    follows g older limits steps store m.0 after of full (subst (λ db. HasStore older db store) (leaves_shelf g older limits before m.0 has.shelf m.1) has) m.2
follows g older limits (written batch ∷ steps) store before after of full has m =
    let now : IsOf limits (after_batch store batch) = record { count = over_pages store.pages batch.pages ∙ of.count; page_size = of.page_size } in
    follows g older limits steps (after_batch store batch) m.1 after now (batch_full limits store batch of m.0 full) (writes_batch older g limits batch store before m.1 of m.0 has m.2).0 m.3
follows g older limits (lived life ∷ steps) store before after of full has m =
    follows g older limits steps store m.0 after of full (store_left older store life before m.0 has (begins g older life before m.0 has.shelf m.1)) m.2
follows g older limits (raised life ∷ steps) store before after of full has m =
    follows g older limits steps store m.0 after of full (store_left older store life before m.0 has (row_set g older life before m.0 has.shelf m.1)) m.2

-- and what the tables answer is that store
pub steps_answer : {S : Type 0} (g : Ghosts S) (older : Bool) (limits : Bounds) (steps : List Step) (store answered : StoreState) (before after : Database) → IsOf limits store → HasFullPages store → HasStore older before store
    → MakesSteps g limits steps before after → HasFullPages answered → HoldsNewer after answered → answered ≡ after_steps store steps
steps_answer g older limits steps store answered before after of full has m also_full holds =
    let now = follows g older limits steps store before after of full has m in answered_rows older (after_steps store steps) answered after now.0 also_full now.1 holds

-- after an open that copied the store of older tables
pub load_follows_copy : {S : Type 0} (g : Ghosts S) (limits : Bounds) (steps : List Step) (store answered : StoreState) (before opened after : Database) → before.schema ≡ old_schema → IsOf limits store → HasFullPages store
    → MakesAll g (laid store true) before opened → MakesSteps g limits steps opened after → HasFullPages answered → HoldsNewer after answered → answered ≡ after_steps store steps
load_follows_copy g limits steps store answered before opened after has of full copied = steps_answer g true limits steps store answered opened after of full (full_laid g true store before opened full has copied)

-- over tables that were found with a store
pub load_follows_find : {S : Type 0} (g : Ghosts S) (older : Bool) (limits : Bounds) (steps : List Step) (store answered : StoreState) (before after : Database) → IsShelf older before → IsOf limits store → HasFullPages store
    → HoldsNewer before store → MakesSteps g limits steps before after → HasFullPages answered → HoldsNewer after answered → answered ≡ after_steps store steps
load_follows_find g older limits steps store answered before after shelf of full there = steps_answer g older limits steps store answered before after of full (holds_rows older before store shelf there)

-- what the tables answer is the zeros with the batches written over them
pub load_follows : {S : Type 0} (g : Ghosts S) (limits : Bounds) (steps : List Step) (answered : StoreState) (before opened after : Database) → before.schema ≡ no_schema → LaysOut g limits before opened
    → MakesSteps g limits steps opened after → HasFullPages answered → HoldsNewer after answered → answered ≡ after_steps (zeros limits) steps
load_follows g limits steps answered before opened after has lays m full holds =
    let rows = full_laid g false (zeros limits) before opened (zeros_full limits) has (lays_zeros g limits before opened has lays) in
    let of : IsOf limits (zeros limits) = record { count = length-replicate limits.pages (zero_page limits.page_size); page_size = refl } in steps_answer g false limits steps (zeros limits) answered opened after of (zeros_full limits) rows m full holds

-- with no step they are zeros
pub first_load : {S : Type 0} (g : Ghosts S) (limits : Bounds) (answered : StoreState) (before after : Database) → before.schema ≡ no_schema → LaysOut g limits before after → HasFullPages answered → HoldsNewer after answered
    → answered ≡ zeros limits
first_load g limits answered before after has lays = load_follows g limits [] answered before after after has lays refl
