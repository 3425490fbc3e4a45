-- The next batch of a server fits its store.
use Rattle.std.proofs.Common.{◌≡◌, ◌↔◌, ℕ, zero, suc, ◌<◌, ◌≤◌, List, [], ◌∷◌, Bool, true, false, Some, None, Result, Err, arith, length, map, sym, subst, if◌then◌else◌, nat_lt}
use Rattle.std.proofs.lemmas.List.Elements.{All-from_recursion}
use Rattle.std.specs.List.{AllByRecursion}
use Rattle.sqlite.specs.Held.{Held, state}
use Rattle.sqlite.specs.State.{HasCleanDisk}
use Rattle.sqlite.specs.Store.{Ghosts}
use Rattle.cb_commit.specs.Batches.{BatchState}
use Rattle.cb_commit.specs.declared.batch.BatchPage.{BatchPage}
use Rattle.cb_page.specs.Bounds.{Bounds}
use Rattle.cb_protocol.proofs.ServerRangesKept.{steady}
use Rattle.cb_protocol.specs.Flush.{Batch, StoredPage, changed_pages, next_batch, stored_page}
use Rattle.cb_protocol.specs.Server.{Server}
use Rattle.cb_protocol.specs.WaitsFor.{on_cycle}
use Rattle.cb_server.specs.ServerValue.{IsServer, ServerValue, limits_at, opening_at, server_of}
use Rattle.cb_server_state.specs.Commits.{batch_of, batch_page}
use Rattle.cb_shelf.specs.Inside.{IsSame}
use Rattle.cb_shelf.specs.Writing.{Fits, IsOfSize}
use Rattle.cb_shelf.specs.declared.fault.ShelfFault.{ShelfFault}
use Rattle.cb_shelf.specs.declared.fault.ShelfFault.TheVariants as shelf
use Rattle.cb_serve.proofs.Inputs.{all_append}
use Rattle.cb_serve.specs.Endings.{becomes_of_shelf}
use Rattle.cb_serve.specs.Parts.{RefusesBatch}
use Rattle.cb_serve.specs.declared.fault.RoundFault.{RoundFault}

-- a page of these limits, of their size
abbrev pub IsSized : Bounds → StoredPage → Type 0
IsSized l page = (page.page < l.pages) × (length page.bytes ≡ l.page_size)

changed_sized : (l : Bounds) (s : Server) → ((p : ℕ) → p < l.pages → length (s.store.bytes p) ≡ l.page_size) → (end : ℕ) → end ≤ l.pages
    → AllByRecursion (IsSized l) (changed_pages s end)
changed_sized l s sizes zero within = tt
changed_sized l s sizes (suc p) within =
    all_append (IsSized l) (changed_pages s p) _ (changed_sized l s sizes p (omega arith)) (one (nat_lt s.flushed (s.store.version p)) (omega arith))
  where
    one : (b : Bool) → p < l.pages → AllByRecursion (IsSized l) (if b then stored_page s p ∷ [] else [])
    one true there = ((there, sizes p there), tt)
    one false there = tt

of_size : (l : Bounds) (pages : List BatchPage) → AllByRecursion (IsSized l) (map batch_page pages) → AllByRecursion (IsOfSize l) pages
of_size l [] all = tt
of_size l (page ∷ pages) all = (record { page = all.0.0; bytes = all.0.1 }, of_size l pages all.1)

pages_are : (t : Bool) (x b : Batch) → (if t then Some x else None) ≡ Some b → b.pages ≡ x.pages
pages_are true x b e = cc
pages_are false x b e = absurd cc

-- by the protocol's ranges: each page of its store has its bytes
pub next_fits : (v : ServerValue) (batch : BatchState) → IsServer v → next_batch (server_of v) ≡ Some (batch_of batch) → Fits v.limits batch
next_fits v batch is next =
    let kept = (steady (limits_at v) on_cycle (opening_at v) (server_of v) is.opening is.reached).bounded in
    All-from_recursion (IsOfSize v.limits) batch.pages (of_size v.limits batch.pages
    (subst (AllByRecursion (IsSized v.limits)) (sym (pages_are (nat_lt (server_of v).flushed (server_of v).store.last_commit) _ (batch_of batch) next))
    (changed_sized v.limits (server_of v) kept.bytes (server_of v).pages (let same = kept.pages in omega arith))))

-- so a shelf of these limits refuses it as the database does, or for want of memory
pub refuses_batch : {S X : Type 0} (g : Ghosts S) (l k : Bounds) (batch : BatchState) (r : Result X ShelfFault) (e : ShelfFault) (f : RoundFault) (old new : Held S) → f ≡ becomes_of_shelf e
    → r ≡ Err e → ((r ≡ Err shelf.Shape) ↔ (¬ Fits k batch)) → k ≡ l → Fits l batch → (HasCleanDisk (state g new) → IsSame (state g old) (state g new))
    → RefusesBatch g f old new
refuses_batch g l k batch r shelf.Shape f old new is told shape same fits stays = absurd (shape.0 told (subst (λ (b : Bounds). Fits b batch) (sym same) fits))
refuses_batch g l k batch r shelf.Store f old new is told shape same fits stays = subst (λ (x : RoundFault). RefusesBatch g x old new) (sym is) stays
refuses_batch g l k batch r shelf.Memory f old new is told shape same fits stays = subst (λ (x : RoundFault). RefusesBatch g x old new) (sym is) stays
