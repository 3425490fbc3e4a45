-- Steps in a transaction, and what follows from several in a row.
use Rattle.std.proofs.Common.{◌≡◌, ◌≢◌, ◌⊎◌, inl, inr, ℕ, ◌+◌, List, [], ◌∷◌, ◌++◌, Bool, true, false, cond, is_ok, IfOk, Option, Some, None, Result, Ok, Err, IsTrue, IsErrAnd, OnOk, refl, sym, ap, subst, ◌∙◌, arith}
use Rattle.sqlite_schema.specs.declared.command.Returning.{Returning}
use Rattle.sqlite_resolve.specs.declared.compiled.Compiled.{Compiled}
use Rattle.std.specs.List.{flat_map, range_with_len}
use Rattle.std.proofs.lemmas.List.FromFn.{map-range_with_len_more}
use Rattle.std.proofs.lemmas.List.{flat_map_more, map-id}
use Rattle.sqlite.specs.Store.{Ghosts}
use Rattle.sqlite.specs.Order.{Row}
use Rattle.sqlite.specs.Values.{bound_value}
use Rattle.sqlite.specs.declared.types.Value.{Value}
use Rattle.sqlite_trees.specs.declared.error.StoreError.{StoreError}
use Rattle.sqlite_trees.specs.declared.error.StoreError.TheVariants.{OutOfMemory, Io, Corrupt, Full, Broken, Unstorable}
use Rattle.sqlite.specs.declared.error.Error.{Error}
use Rattle.sqlite.specs.Effect.{Database}
use Rattle.sqlite.specs.State.{State, HasCleanDisk, IsUnchanged, IsRolledBack, KeepsCommit, Survives, ExecutesInside, IsNotRun, IsNoStatement, Shown, ShowsRows, FailsToQuery, FailsToShow, IsTooLate, store_error}
use Rattle.sqlite.specs.Held.{Held, state}
use Rattle.sqlite.proofs.InsideLemmas.{unchanged_keeps, inside_keeps, keeps_then}
use Rattle.sqlite.proofs.StateLemmas.{survives_then}
use Rattle.cb_shelf.specs.Statements.{Statement, MakesAll}
use Rattle.sqlite_resolve.specs.declared.error.CompileError.{CompileError}
use Rattle.sqlite.specs.Steps.{Outlines}
use Rattle.sqlite.specs.Outline.{Outline}
use Rattle.sqlite.specs.Listing.{understood}
use Rattle.sqlite_schema.specs.declared.schema.Schema.{Schema}
use Rattle.cb_shelf.specs.Inside.{Inside, IsAny, IsNever, IsOfText, Tells, can_answer}
use Rattle.cb_shelf.specs.declared.fault.ShelfFault.{ShelfFault}
use Rattle.cb_shelf.specs.declared.fault.ShelfFault.TheVariants.{Shape}

module _ (old new : State) where
  shows_kept : (sql : List ℕ) (c : Compiled) (params : Row) (rows : List Row) (o : Option Returning) → ShowsRows old new sql c params rows o → IsTrue old.in_transaction
      → KeepsCommit old new × IsTrue new.in_transaction
  shows_kept sql c params rows None h on = (unchanged_keeps old new (inl h.3), h.3.0.mode ∙ on)
  shows_kept sql c params rows (Some what) h on =
      let w = h.1 in
      (record { was_open = λ _. w.shown.was_open; committed = λ _. w.shown.committed_is ∙ ap (λ b. cond b old.committed new.now) on }, w.shown.mode ∙ on)

  pub shown_kept : (sql : List ℕ) (params : Row) (rows : List Row) → Shown sql params old new rows → IsTrue old.in_transaction → KeepsCommit old new × IsTrue new.in_transaction
  unfolding Shown
  shown_kept sql params rows h on = shows_kept sql h.0 _ rows h.0.returning h.2 on

  not_run : (sql : List ℕ) (params : Row) (e : Error) → IsNotRun old new sql params e → IsUnchanged old new ⊎ IsRolledBack old new
  unfolding IsNotRun
  not_run sql params e (inl h) = inl h.1
  not_run sql params e (inr h) = inr h.3

  no_rows : (sql : List ℕ) (c : Compiled) (params : Row) (e : Error) (o : Option Returning) → FailsToShow old new sql c params e o → IsUnchanged old new ⊎ IsRolledBack old new
  no_rows sql c params e None h = inl h.3
  no_rows sql c params e (Some what) (inl h) = inl h.1
  no_rows sql c params e (Some what) (inr h) = inr h.3

  fails : (sql : List ℕ) (params : Row) (e : Error) → FailsToQuery sql params old new e → IsUnchanged old new ⊎ IsRolledBack old new
  unfolding FailsToQuery
  fails sql params e (inl h) = not_run sql params e h
  fails sql params e (inr h) = no_rows sql h.0 _ e h.0.returning h.2

  pub refused_kept : (sql : List ℕ) (params : Row) (e : Error) → FailsToQuery sql params old new e ⊎ IsTooLate sql params old new e → KeepsCommit old new
  refused_kept sql params e (inl h) = unchanged_keeps old new (fails sql params e h)
  refused_kept sql params e (inr h) = unchanged_keeps old new (inl h.5)

  no_text : (cause : StoreError) → IsOfText (store_error cause) → ⊥
  no_text OutOfMemory h = h
  no_text Io h = h
  no_text Corrupt h = h
  no_text Full h = h
  no_text Broken h = h
  no_text Unstorable h = h

  -- a text that is refused changes nothing
  text_refused : (sql : List ℕ) (params : Row) (e : Error) → IsNotRun old new sql params e → IsOfText e → IsUnchanged old new
  unfolding IsNotRun
  text_refused sql params e (inl h) is = h.1
  text_refused sql params e (inr h) is = absurd (no_text h.0 (subst IsOfText h.1 is))

  pub not_run_kept : (sql : List ℕ) (params : Row) (e : Error) → IsNotRun old new sql params e → KeepsCommit old new
  not_run_kept sql params e h = unchanged_keeps old new (not_run sql params e h)

  pub text_kept : (sql : List ℕ) (params : Row) (e : Error) → IsNotRun old new sql params e → IsOfText e → IsTrue old.in_transaction → IsTrue new.in_transaction
  text_kept sql params e h is on = (text_refused sql params e h is).0.mode ∙ on

on_ok : {X E : Type 0} {A B : Type 0} (r : Result X E) → (A → B) → OnOk r A → OnOk r B
on_ok (Ok x) f h = f h
on_ok (Err e) f h = h

module _ {S : Type 0} (g : Ghosts S) where
  -- one statement
  pub ran_one : {E : Type 0} (text : List ℕ) (params : Row) (a b : Held S) (count : ℕ)
      → (HasCleanDisk (state g b) → IsTrue a.in_transaction → ExecutesInside 0 text params (state g a) (state g b) (Ok count))
      → Survives (state g a) (state g b) (λ _. ⊥)
      → Inside {X = Unit {0}} {E = E} g (MakesAll g (record { text = text; params = params } ∷ [])) a b (Ok tt)
  ran_one text params a b count runs survives = record {
    ran = λ clean on. let h = runs clean on in (((state g b).now, record { from = a; to = b; count = count; starts = refl; ends = refl; runs = h.0 }, refl), h.1.mode);
    kept = λ clean on. inside_keeps (state g a) (state g b) 0 false text params (Ok count) (runs clean on);
    survives = survives;
  }

  -- a question that is answered
  pub asked : {X E : Type 0} (text : List ℕ) (params : Row) (a b : Held S) (rows : List Row) (x : X)
      → (HasCleanDisk (state g b) → Shown text params (state g a) (state g b) rows)
      → Survives (state g a) (state g b) (λ _. ⊥)
      → Inside {X = X} {E = E} g IsAny a b (Ok x)
  asked text params a b rows x shown survives = record {
    ran = λ clean on. (tt, (shown_kept (state g a) (state g b) text params rows (shown clean) on).1);
    kept = λ clean on. (shown_kept (state g a) (state g b) text params rows (shown clean) on).0;
    survives = survives;
  }

  -- a step that is refused
  pub refused : {X E : Type 0} (P : Database → Database → Type 0) (W : E → Type 0) (a b : Held S) (r : Result X E) → IsErrAnd r W
      → (HasCleanDisk (state g b) → IsTrue a.in_transaction → KeepsCommit (state g a) (state g b))
      → Survives (state g a) (state g b) (λ _. ⊥)
      → Inside g P a b r
  refused P W a b (Ok x) wrong kept survives = absurd wrong
  refused P W a b (Err e) wrong kept survives = record { ran = λ _ _. tt; kept = kept; survives = survives }

  -- a text that may be refused
  pub asked_text : {X E : Type 0} (text : List ℕ) (a b : Held S) (e : Error) (r : Result X E)
      → (HasCleanDisk (state g b) → IsNotRun (state g a) (state g b) text [] e)
      → OnOk r (IsOfText e)
      → Survives (state g a) (state g b) (λ _. ⊥)
      → Inside g IsAny a b r
  asked_text text a b e r refused told survives = record {
    ran = λ clean on. on_ok r (λ is. (tt, text_kept (state g a) (state g b) text [] e (refused clean) is on)) told;
    kept = λ clean _. not_run_kept (state g a) (state g b) text [] e (refused clean);
    survives = survives;
  }

  -- one step after another
  pub inside_then : {X Y E : Type 0} (P Q R : Database → Database → Type 0) (a b c : Held S) (x : X) (r : Result Y E)
      → ((u v w : Database) → P u v → Q v w → R u w)
      → Inside {E = E} g P a b (Ok x) → Inside g Q b c r → Inside g R a c r
  inside_then P Q R a b c x r f one two =
      let early = λ (clean : HasCleanDisk (state g c)). let e : HasCleanDisk (state g b) = omega (arith, two.survives.clean) in e in record {
        ran = λ clean on. let first = one.ran (early clean) on in on_ok r (λ second. (f _ _ _ first.0 second.0, second.1)) (two.ran clean first.1);
        kept = λ clean on. keeps_then (state g a) (state g b) (state g c) (one.kept (early clean) on) (two.kept clean (one.ran (early clean) on).1);
        survives = survives_then (state g a) (state g b) (state g c) _ _ (λ _. ⊥) (λ _ db none. none) (λ _ db none. none) one.survives two.survives;
      }

  -- a refused step refuses the whole
  pub inside_refused : {X Y E : Type 0} (P R : Database → Database → Type 0) (W : E → Type 0) (a b : Held S) (e : E) (r : Result Y E)
      → Inside {X = X} g P a b (Err e) → IsErrAnd r W → Inside g R a b r
  inside_refused P R W a b e r one wrong = refused R W a b r wrong one.kept one.survives

  pub asks_then : {X Y E : Type 0} (a b c : Held S) (x : X) (r : Result Y E) → Inside {E = E} g IsAny a b (Ok x) → Inside g IsAny b c r → Inside g IsAny a c r
  asks_then a b c x r = inside_then IsAny IsAny IsAny a b c x r (λ _ _ _ _ _. tt)

  -- the answer of a question may be judged
  pub asks_judged : {X Y E : Type 0} (a b : Held S) (x : X) (r : Result Y E) → Inside {E = E} g IsAny a b (Ok x) → Inside g IsAny a b r
  asks_judged a b x (Ok y) one = record { ran = one.ran; kept = one.kept; survives = one.survives }
  asks_judged a b x (Err e) one = record { ran = λ _ _. tt; kept = one.kept; survives = one.survives }

  all_then : (xs ys : List Statement) (u v w : Database) → MakesAll g xs u v → MakesAll g ys v w → MakesAll g (xs ++ ys) u w
  all_then [] ys u v w one two = subst (λ d. MakesAll g ys d w) (sym one) two
  all_then (x ∷ xs) ys u v w one two = (one.0, one.1, all_then xs ys one.0 v w one.2 two)

  pub makes_then : {X Y E : Type 0} (xs ys : List Statement) (a b c : Held S) (x : X) (r : Result Y E)
      → Inside {E = E} g (MakesAll g xs) a b (Ok x) → Inside g (MakesAll g ys) b c r → Inside g (MakesAll g (xs ++ ys)) a c r
  makes_then xs ys a b c x r = inside_then (MakesAll g xs) (MakesAll g ys) (MakesAll g (xs ++ ys)) a b c x r (all_then xs ys)

  -- the same, where the list is named otherwise
  pub makes_next : {X Y E : Type 0} (xs ys zs : List Statement) (a b c : Held S) (x : X) (r : Result Y E) → zs ≡ xs ++ ys
      → Inside {E = E} g (MakesAll g xs) a b (Ok x) → Inside g (MakesAll g ys) b c r → Inside g (MakesAll g zs) a c r
  makes_next xs ys zs a b c x r is one two = subst (λ (all : List Statement). Inside g (MakesAll g all) a c r) (sym is) (makes_then xs ys a b c x r one two)

  -- a statement by the values of its parameters
  pub given : {X E : Type 0} (text : List ℕ) (p q : Row) (a b : Held S) (r : Result X E) → p ≡ q
      → Inside {E = E} g (MakesAll g (record { text = text; params = p } ∷ [])) a b r → Inside g (MakesAll g (record { text = text; params = q } ∷ [])) a b r
  given text p q a b r is one = subst (λ (row : Row). Inside g (MakesAll g (record { text = text; params = row } ∷ [])) a b r) is one

  unmoved : (s : State) → Survives s s (λ _. ⊥)
  unmoved s = record { clean = omega arith; shield = λ h. h; counts = omega arith; limit = refl; closes = λ _ h. inl h; crash = λ _ _ h. inl h }

  -- nothing was run
  pub stays : {X E : Type 0} (a : Held S) (x : X) → Inside {E = E} g (MakesAll g []) a a (Ok x)
  stays a x = record { ran = λ _ on. (refl, on); kept = λ _ _. record { was_open = λ h. h; committed = λ _. refl }; survives = unmoved (state g a) }

  -- nothing was asked
  pub stays_any : {X E : Type 0} (a : Held S) (r : Result X E) → Inside {E = E} g IsAny a a r
  stays_any a (Ok x) = record { ran = λ _ on. (tt, on); kept = λ _ _. record { was_open = λ h. h; committed = λ _. refl }; survives = unmoved (state g a) }
  stays_any a (Err e) = record { ran = λ _ on. tt; kept = λ _ _. record { was_open = λ h. h; committed = λ _. refl }; survives = unmoved (state g a) }

  -- a later step that is refused refuses the whole
  pub stops_then : {X Y Z E : Type 0} (P Q R : Database → Database → Type 0) (W : E → Type 0) (a b c : Held S) (x : X) (e : E) (r : Result Z E)
      → Inside {E = E} g P a b (Ok x) → Inside {X = Y} g Q b c (Err e) → IsErrAnd r W → Inside g R a c r
  stops_then {Y = Y} P Q R W a b c x e r one two wrong = inside_refused {X = Y} IsAny R W a c e r (inside_then P Q IsAny a b c x (Err e) (λ _ _ _ _ _. tt) one two) wrong

module _ {S : Type 0} (g : Ghosts S) (a b c : Held S) where
  -- a disk that is clean at the end was clean before
  pub was_clean : Survives (state g b) (state g c) (λ _. ⊥) → HasCleanDisk (state g c) → HasCleanDisk (state g b)
  was_clean survives clean = omega (arith, survives.clean)

-- a text that is prepared can be answered
can_be : (r : Result Compiled CompileError) (outline : Outline) → Outlines r outline → true ≡ is_ok r
can_be (Ok c) outline h = refl
can_be (Err e) outline h = absurd h

pub prepared_tells : {S : Type 0} (g : Ghosts S) (text : List ℕ) (a b : Held S) (outline : Outline)
    → (HasCleanDisk (state g b) → IsUnchanged (state g a) (state g b))
    → (HasCleanDisk (state g b) → Outlines (understood a.schema text) outline)
    → Tells {X = Bool} g (λ db there. there ≡ can_answer db.schema text) IsNever a b (Ok true)
prepared_tells g text a b outline same shape = record {
  told = λ clean. can_be (understood a.schema text) outline (shape clean);
  same = λ clean. (same clean).0.now_is;
  blamed = λ _ wrong. cc;
}

not_answered : (s : State) (text : List ℕ) (params : Row) (e : Error) → IsNoStatement s text params e → IsOfText e → false ≡ is_ok (understood s.now.schema text)
not_answered s text params e (inl h) is = ap is_ok (sym h.1)
not_answered s text params e (inr (h)) is = elim h.2 [
  | inl more ↦ absurd (subst IsOfText more.1 is)
  | inr (inl count) ↦ absurd (subst IsOfText count.1 is)
  | inr (inr clock) ↦ absurd (subst IsOfText clock.1 is)
]

module _ (old new : State) where
  text_unanswered : (text : List ℕ) (e : Error) → IsNotRun old new text [] e → IsOfText e → false ≡ is_ok (understood old.now.schema text)
  unfolding IsNotRun
  text_unanswered text e (inl h) is = not_answered old text [] e h.0 is
  text_unanswered text e (inr h) is = absurd (no_text old new h.0 (subst IsOfText h.1 is))

  text_same : (text : List ℕ) (e : Error) → IsNotRun old new text [] e → IsOfText e → new.now ≡ old.now
  text_same text e h is = (text_refused old new text [] e h is).0.now_is

pub refused_tells : {S : Type 0} (g : Ghosts S) (text : List ℕ) (a b : Held S) (e : Error) (r : Result Bool ShelfFault)
    → (HasCleanDisk (state g b) → IsNotRun (state g a) (state g b) text [] e)
    → OnOk r (IsOfText e) → IfOk r (λ there. there ≡ false) → r ≢ Err Shape
    → Tells g (λ db there. there ≡ can_answer db.schema text) IsNever a b r
refused_tells g text a b e (Ok there) refused of_text absent never = record {
  told = λ clean. absent ∙ text_unanswered (state g a) (state g b) text e (refused clean) of_text;
  same = λ clean. text_same (state g a) (state g b) text e (refused clean) of_text;
  blamed = λ _ wrong. cc;
}
refused_tells g text a b e (Err fault) refused of_text absent never = record { told = λ _. tt; same = λ _. tt; blamed = λ _ is. never is }

pub two_bound : {v w x y : Value} → v ≡ x → w ≡ y → bound_value v ∷ bound_value w ∷ [] ≡ bound_value x ∷ bound_value y ∷ []
two_bound is also = rw (is, also)

pub three_bound : {v w u x y z : Value} → v ≡ x → w ≡ y → u ≡ z → bound_value v ∷ bound_value w ∷ bound_value u ∷ [] ≡ bound_value x ∷ bound_value y ∷ bound_value z ∷ []
three_bound is also last = rw (is, also, last)

pub flat_more : {X A : Type 0} (f : X → List A) (all front : List X) (x : X) → all ≡ front ++ x ∷ [] → flat_map f all ≡ flat_map f front ++ f x
flat_more f all front x is = ap (flat_map f) is ∙ sym (flat_map_more f [] front x)

pub range_more : (count : ℕ) → range_with_len 0 (count + 1) ≡ range_with_len 0 count ++ count ∷ []
range_more count = sym (map-id (range_with_len 0 (count + 1))) ∙ map-range_with_len_more (λ x. x) 0 count count (omega arith) ∙ ap (λ front. front ++ count ∷ []) (map-id (range_with_len 0 count))
