-- Transactions that are committed, and a look before one.
use Rattle.std.proofs.Common.{◌≡◌, ℕ, inl, inr, List, Result, Ok, Err, IsTrue, OnOk, true, false, refl, subst, arith}
use Rattle.sqlite.specs.Store.{Ghosts}
use Rattle.sqlite.specs.State.{HasCleanDisk, Survives}
use Rattle.sqlite.specs.Held.{Held, state}
use Rattle.sqlite.proofs.StateLemmas.{survives_then}
use Rattle.sqlite.proofs.Callers.{survives_begin}
use Rattle.cb_shelf.specs.Statements.{Statement, MakesAll}
use Rattle.cb_shelf.specs.Inside.{Inside, IsSame}
use Rattle.cb_shelf.specs.LifeRows.{LifeState}
use Rattle.cb_shelf.specs.Living.{Begun, TellsBelow, life_from, life_statements}
use Rattle.cb_shelf.specs.Opening.{LaysOut, LaidBy, Opened, Finds, laid}
use Rattle.cb_shelf.specs.declared.opening.Found.TheVariants.{Nothing, Old}
use Rattle.cb_page.specs.Bounds.{Bounds}
use Rattle.cb_commit.specs.Stores.{StoreState, IsOf, zeros}
use Rattle.sqlite.specs.Effect.{Database}

module _ {S : Type 0} (g : Ghosts S) where
  abbrev pub begun : Held S → Held S
  begun old = record old { in_transaction = true }

  -- what a crash leaves of a transaction that was to be committed
  pub commit_survives : {E : Type 0} (statements : List Statement) (old mid end : Held S)
      → Inside {X = Unit {0}} {E = E} g (MakesAll g statements) (begun old) mid (Ok tt)
      → (HasCleanDisk (state g mid) → IsTrue true → IsTrue (state g old).is_open)
      → Survives (state g mid) (state g end) (λ db. db ≡ (state g mid).now.trees)
      → Survives (state g old) (state g end) (LaidBy g statements old)
  commit_survives statements old mid end inside opened commit =
      survives_then (state g old) (state g mid) (state g end) (λ _. ⊥) (λ db. db ≡ (state g mid).now.trees) (LaidBy g statements old)
      (λ _ db none. absurd none)
      (λ clean db is. let early : HasCleanDisk (state g mid) = omega (arith, commit.clean) in (opened early refl, (state g mid).now, (inside.ran early refl).0, is))
      (survives_begin g old (state g mid) (λ _. ⊥) inside.survives) commit

  -- what a crash leaves of a copy that follows a look
  pub copy_survives : (limits : Bounds) (store : StoreState) (old mid new : Held S) → IsOf limits store
      → (HasCleanDisk (state g mid) → Finds limits (state g old).now (Old store))
      → (HasCleanDisk (state g mid) → IsSame (state g old) (state g mid))
      → Survives (state g old) (state g mid) (λ _. ⊥)
      → Survives (state g mid) (state g new) (LaidBy g (laid store true) mid)
      → Survives (state g old) (state g new) (Opened g limits old)
  copy_survives limits store old mid new of found same look copy =
      survives_then (state g old) (state g mid) (state g new) (λ _. ⊥) (LaidBy g (laid store true) mid) (Opened g limits old)
      (λ _ db none. absurd none)
      (λ clean db laid_by.
      let early : HasCleanDisk (state g mid) = omega (arith, copy.clean) in
      let now = (same early).now laid_by.0 in
      (laid_by.1, inr (inr (store, found early, of, subst (λ (d : Database). MakesAll g (laid store true) d laid_by.1) now laid_by.2)), laid_by.3)) look copy

  -- what a crash leaves of zeros that follow a look
  pub zeros_survive : (limits : Bounds) (old mid new : Held S)
      → (HasCleanDisk (state g mid) → Finds limits (state g old).now Nothing)
      → (HasCleanDisk (state g mid) → IsSame (state g old) (state g mid))
      → Survives (state g old) (state g mid) (λ _. ⊥)
      → Survives (state g mid) (state g new) (LaidBy g (laid (zeros limits) false) mid)
      → Survives (state g old) (state g new) (Opened g limits old)
  zeros_survive limits old mid new found same look made =
      survives_then (state g old) (state g mid) (state g new) (λ _. ⊥) (LaidBy g (laid (zeros limits) false) mid) (Opened g limits old)
      (λ _ db nothing. absurd nothing)
      (λ clean db laid_by.
      let early : HasCleanDisk (state g mid) = omega (arith, made.clean) in
      let now = (same early).now laid_by.0 in
      (laid_by.1, inr (inl (found early, subst (λ (d : Database). MakesAll g (laid (zeros limits) false) d laid_by.1) now laid_by.2)), laid_by.3)) look made

  -- what a crash leaves of a life's begin that follows a look
  pub begun_survives : (below : ℕ) (life : LifeState) (old mid new : Held S) → life ≡ life_from below
      → (HasCleanDisk (state g mid) → TellsBelow (state g old).now below)
      → (HasCleanDisk (state g mid) → IsSame (state g old) (state g mid))
      → Survives (state g old) (state g mid) (λ _. ⊥)
      → Survives (state g mid) (state g new) (LaidBy g (life_statements life) mid)
      → Survives (state g old) (state g new) (Begun g old)
  begun_survives below life old mid new is told same look made =
      survives_then (state g old) (state g mid) (state g new) (λ _. ⊥) (LaidBy g (life_statements life) mid) (Begun g old)
      (λ _ db nothing. absurd nothing)
      (λ clean db laid_by.
      let early : HasCleanDisk (state g mid) = omega (arith, made.clean) in
      let now = (same early).now laid_by.0 in
      (life, (below, told early, is), (laid_by.1, subst (λ (d : Database). MakesAll g (life_statements life) d laid_by.1) now laid_by.2, laid_by.3))) look made

  -- zeros, or a copy, where a look found this
  pub lays_zeros : {X E : Type 0} (limits : Bounds) (old mid : Held S) (after : Database) (r : Result X E)
      → OnOk r (MakesAll g (laid (zeros limits) false) (state g mid).now after) → OnOk r (IsTrue (state g mid).is_open)
      → Finds limits (state g old).now Nothing → IsSame (state g old) (state g mid) → OnOk r (LaysOut g limits (state g old).now after)
  lays_zeros limits old mid after (Err e) made open_still found same = tt
  lays_zeros limits old mid after (Ok x) made open_still found same =
      inr (inl (found, subst (λ (d : Database). MakesAll g (laid (zeros limits) false) d after) (same.now open_still) made))

  pub lays_copy : {X E : Type 0} (limits : Bounds) (store : StoreState) (old mid : Held S) (after : Database) (r : Result X E)
      → OnOk r (MakesAll g (laid store true) (state g mid).now after) → OnOk r (IsTrue (state g mid).is_open)
      → Finds limits (state g old).now (Old store) → IsOf limits store → IsSame (state g old) (state g mid) → OnOk r (LaysOut g limits (state g old).now after)
  lays_copy limits store old mid after (Err e) made open_still found of same = tt
  lays_copy limits store old mid after (Ok x) made open_still found of same =
      inr (inr (store, found, of, subst (λ (d : Database). MakesAll g (laid store true) d after) (same.now open_still) made))
