-- What questions about the tables tell, one after another.
use Rattle.std.proofs.Common.{◌≡◌, ◌≢◌, ◌⊎◌, inl, inr, ℕ, ◌<◌, Bool, true, false, IfOk, OnErr, Result, Ok, Err, refl, sym, subst, ◌∙◌}
use Rattle.std.proofs.lemmas.Result.{IfOk-weaker}
use Rattle.sqlite.specs.Store.{Ghosts}
use Rattle.sqlite.specs.Effect.{Database}
use Rattle.sqlite.specs.State.{Survives}
use Rattle.sqlite.specs.Held.{Held, state}
use Rattle.cb_page.specs.Bounds.{Bounds}
use Rattle.cb_shelf.specs.declared.fault.ShelfFault.{ShelfFault}
use Rattle.cb_shelf.specs.declared.fault.ShelfFault.TheVariants.{Shape}
use Rattle.cb_shelf.specs.Asking.{RepliesRow}
use Rattle.cb_shelf.specs.Inside.{Tells, IsNever}
use Rattle.cb_shelf.proofs.Asking.{tells_then}
use Rattle.cb_shelf.specs.Reading.{question, number_values}
use Rattle.cb_shelf.specs.Opening.{page_count, mark_count, HasRows, Has, MisfitsFor, Misshapen}
use Rattle.cb_shelf.specs.Opening.Misshapen.{older_rows, newer_rows}
use Rattle.cb_shelf.specs.declared.opening.TablesFound.{TablesFound}
use Rattle.cb_shelf.specs.declared.opening.TablesFound.TheVariants.{Nothing as none, Old as older, New as newer}
use Rattle.cb_shelf.proofs.Answering.{at_err}

module _ {S : Type 0} (g : Ghosts S) where
  -- two answers
  pub tells_both : {X Y : Type 0} (P : Database → X → Type 0) (Q : Database → Y → Type 0) (A B : Database → Type 0) (a b c : Held S) (x : X) (y : Y)
      → Tells g P A a b (Ok x) → Tells g Q B b c (Ok y) → Survives (state g b) (state g c) (λ _. ⊥) → Tells {X = X × Y} g (λ db both. P db both.0 × Q db both.1) IsNever a c (Ok (x, y))
  tells_both {X} {Y} P Q A B a b c x y one two survives =
      tells_then g a b c P Q (λ db (both : X × Y). P db both.0 × Q db both.1) A B IsNever x y (Ok (x, y)) (λ db first second. (first, second)) (λ db first second wrong. cc) one two survives

  -- what else is known of the answer
  pub tells_kept : {X : Type 0} (P : Database → X → Type 0) (K : X → Type 0) (A : Database → Type 0) (a b : Held S) (r : Result X ShelfFault) → IfOk r K → Tells g P A a b r → Tells g (λ db x. P db x × K x) A a b r
  tells_kept P K A a b (Ok x) known one = record { told = λ clean. (one.told clean, known); same = one.same; blamed = one.blamed }
  tells_kept P K A a b (Err e) known one = record { told = λ _. tt; same = one.same; blamed = one.blamed }

-- whether two or three are there
pub both_told : {E : Type 0} (r : Result Bool E) (x y p q : Bool) → IfOk r (λ both. (x ≡ both) × (y ≡ both)) → x ≡ p → y ≡ q → IfOk r (λ both. (p ≡ both) × (q ≡ both))
both_told r x y p q h first second = IfOk-weaker r (λ both. (x ≡ both) × (y ≡ both)) (λ both. (p ≡ both) × (q ≡ both)) (λ both is. (sym first ∙ is.0, sym second ∙ is.1)) h

pub all_told : {E : Type 0} (r : Result Bool E) (x y z p q s : Bool) → IfOk r (λ all. (x ≡ all) × (y ≡ all) × (z ≡ all)) → x ≡ p → y ≡ q → z ≡ s
    → IfOk r (λ all. (p ≡ all) × (q ≡ all) × (s ≡ all))
all_told r x y z p q s h first second third =
    IfOk-weaker r (λ all. (x ≡ all) × (y ≡ all) × (z ≡ all)) (λ all. (p ≡ all) × (q ≡ all) × (s ≡ all)) (λ all is. (sym first ∙ is.0, sym second ∙ is.1, sym third ∙ is.2)) h

pub both_missed : (r : Result Bool ShelfFault) (x y p q : Bool) → OnErr r (x ≢ y) → x ≡ p → y ≡ q → r ≡ Err Shape → (there : Bool) → ¬ ((p ≡ there) × (q ≡ there))
both_missed r x y p q h first second is there both = at_err r Shape is h (first ∙ both.0 ∙ sym both.1 ∙ sym second)

pub all_missed : (r : Result Bool ShelfFault) (x y z p q s : Bool) → OnErr r ((all : Bool) → ¬ ((x ≡ all) × (y ≡ all) × (z ≡ all))) → x ≡ p → y ≡ q → z ≡ s → r ≡ Err Shape
    → (there : Bool) → ¬ ((p ≡ there) × (q ≡ there) × (s ≡ there))
all_missed r x y z p q s h first second third is there all = at_err r Shape is h there (first ∙ all.0, second ∙ all.1, third ∙ all.2)

-- the older tables have rows, by both counts
pub rows_told : (db : Database) (pages marks : ℕ) (rows : Bool) → (rows ≡ false → (pages ≡ 0) × (marks ≡ 0)) → (rows ≡ true → (0 < pages) ⊎ (0 < marks))
    → RepliesRow db (question page_count) (number_values pages) → RepliesRow db (question mark_count) (number_values marks) → HasRows db rows
rows_told db pages marks false zeros some first second =
    (subst (λ (n : ℕ). RepliesRow db (question page_count) (number_values n)) (zeros refl).0 first, subst (λ (n : ℕ). RepliesRow db (question mark_count) (number_values n)) (zeros refl).1 second)
rows_told db pages marks true zeros some first second = elim (some refl) [ inl more ↦ inl (pages, more, first) | inr more ↦ inr (marks, more, second) ]

-- rows that don't fit, of the tables that there are
pub misfits_misshapen : (limits : Bounds) (tables : TablesFound) (db : Database) → Has db tables → MisfitsFor tables limits db → Misshapen limits db
misfits_misshapen limits none db has wrong = absurd wrong
misfits_misshapen limits older db has misfits = older_rows has misfits
misfits_misshapen limits newer db has misfits = newer_rows has misfits
