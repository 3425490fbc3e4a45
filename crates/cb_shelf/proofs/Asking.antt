-- Questions, and what several of them tell, one after another.
use Rattle.std.proofs.Common.{◌≡◌, ◌≢◌, ℕ, ◌+◌, List, [], ◌∷◌, ◌++◌, length, Bool, true, false, cond, ◌&&◌, IfOk, OnOk, Option, Some, None, Result, Ok, Err, IsErrAnd, append-nil, refl, sym, ap, subst, ◌∙◌, arith}
use Rattle.sqlite_ast.specs.declared.Statement.{Statement as Written}
use Rattle.sqlite_ast.specs.declared.Statement.TheVariants as written
use Rattle.sqlite_syntax.specs.declared.statement.Parsed.{Parsed}
use Rattle.sqlite_schema.specs.declared.schema.Schema.{Schema}
use Rattle.sqlite_schema.specs.declared.command.Command.{Command}
use Rattle.sqlite_schema.specs.declared.command.Returning.{Returning}
use Rattle.sqlite_resolve.specs.declared.compiled.Compiled.{Compiled}
use Rattle.sqlite_resolve.specs.Lowering.{Checked, and_then}
use Rattle.sqlite_resolve.specs.Compile.{first, compiled, planned, meaning, returning, command, timed as read_formats, small, with_command}
use Rattle.sqlite.specs.declared.error.Error.{Error}
use Rattle.sqlite.specs.declared.error.Error.TheVariants.{SqliteFailure}
use Rattle.sqlite.specs.declared.error.ErrorCode.TheVariants.{OutOfMemory}
use Rattle.sqlite.specs.Clock.{timed}
use Rattle.sqlite.specs.Store.{Ghosts}
use Rattle.sqlite.specs.Order.{Row}
use Rattle.sqlite.specs.Effect.{Database, Reads}
use Rattle.sqlite.specs.Given.{IsPlain}
use Rattle.sqlite.specs.Listing.{understood, reads_listing, if_select, is_select, listing_schema}
use Rattle.sqlite.specs.State.{State, HasCleanDisk, IsUnchanged, Survives, Shown, ShowsRows}
use Rattle.sqlite.specs.Held.{Held, state}
use Rattle.cb_shelf.specs.declared.fault.ShelfFault.{ShelfFault}
use Rattle.cb_shelf.specs.declared.fault.ShelfFault.TheVariants.{Shape}
use Rattle.cb_shelf.specs.Faults.{fault_of}
use Rattle.cb_shelf.specs.Statements.{Statement}
use Rattle.cb_shelf.specs.Asking.{IsQuestion, Replies}
use Rattle.cb_shelf.specs.Inside.{Tells, IsNever}
use Rattle.cb_shelf.proofs.Stepping.{was_clean}

-- a SELECT
abbrev pub selects : Written → Bool
selects (written.Select query) = true
selects _ = false

abbrev pub is_nothing : List (List ℕ) → Bool
is_nothing [] = true
is_nothing (format ∷ more) = false

-- the text begins with a SELECT that doesn't read the time
abbrev pub asks : Checked Parsed → Bool
asks (Ok parsed) = selects parsed.statement && is_nothing parsed.formats
asks (Err fault) = false

shows_nothing : (schema : Schema) (base : ℕ) (statement : Written) → selects statement ≡ true → returning schema base statement ≡ Ok None
unfolding returning
shows_nothing schema base (written.Select query) is = refl
shows_nothing schema base _ is = cc

formats_same : (schema : Schema) (formats : List (List ℕ)) (statement : Written) → selects statement ≡ true → read_formats schema formats statement ≡ formats
unfolding read_formats
formats_same schema formats (written.Select query) is = refl
formats_same schema formats _ is = cc

plain_command : (parsed : Parsed) (formats : List (List ℕ)) (c : Compiled) (r : Checked Command) → formats ≡ []
    → and_then (and_then (and_then r (λ k. Ok (k, None))) (λ found. Ok (formats, found))) (λ plan. Ok (with_command parsed plan)) ≡ Ok c → IsPlain (Ok c)
plain_command parsed formats c (Err fault) none h = cc
plain_command parsed formats c (Ok k) none h = let same : with_command parsed (formats, (k, None)) ≡ c = cc in rw (← same) (refl, none)

plain_parsed : (schema : Schema) (text : List ℕ) (parsed : Parsed) (c : Compiled) → selects parsed.statement ≡ true → parsed.formats ≡ []
    → and_then (planned schema parsed) (λ plan. Ok (with_command parsed plan)) ≡ Ok c → IsPlain (Ok c)
unfolding planned meaning
plain_parsed schema text parsed c is none h =
    plain_command parsed (read_formats schema parsed.formats parsed.statement) c (command schema parsed.formats (small parsed.names + small (read_formats schema parsed.formats parsed.statement)) parsed.statement)
    (formats_same schema parsed.formats parsed.statement is ∙ none)
    (rw (shows_nothing schema (small parsed.names + small (read_formats schema parsed.formats parsed.statement)) parsed.statement is) at h)

plain_compiled : (schema : Schema) (text : List ℕ) (r : Checked Parsed) (c : Compiled) → asks r ≡ true
    → and_then r (λ parsed. and_then (planned schema parsed) (λ plan. Ok (with_command parsed plan))) ≡ Ok c → IsPlain (Ok c)
plain_compiled schema text (Err fault) c is h = cc
plain_compiled schema text (Ok parsed) c is h = let both = both_true (selects parsed.statement) (is_nothing parsed.formats) is in plain_parsed schema text parsed c both.0 (no_items parsed.formats both.1) h
  where
    both_true : (a b : Bool) → (a && b) ≡ true → (a ≡ true) × (b ≡ true)
    both_true true true is = (refl, refl)
    both_true true false is = absurd cc
    both_true false b is = absurd cc

    no_items : (formats : List (List ℕ)) → is_nothing formats ≡ true → formats ≡ []
    no_items [] is = refl
    no_items (x ∷ more) is = absurd cc

plain_text : (schema : Schema) (text : List ℕ) (c : Compiled) → asks (first text) ≡ true → compiled schema text ≡ Ok c → IsPlain (Ok c)
unfolding compiled
plain_text schema text c is h = plain_compiled schema text (first text) c is h

selected : (r : Checked Compiled) (c : Compiled) → if_select r ≡ Ok c → r ≡ Ok c
selected (Err fault) c h = absurd cc
selected (Ok x) c h = go (is_select x.command) refl h
  where
    go : (b : Bool) → is_select x.command ≡ b → if_select (Ok x) ≡ Ok c → ◌≡◌ {A = Checked Compiled} (Ok x) (Ok c)
    go true is same = rw is at same
    go false is same = absurd (let e = rw is at same in cc)

-- a text that begins with a SELECT asks, whatever tables there are
pub is_question : (text : List ℕ) → asks (first text) ≡ true → IsQuestion text
unfolding understood
is_question text is schema c h = go (reads_listing schema text) h
  where
    go : (b : Bool) → cond b (if_select (compiled listing_schema text)) (compiled schema text) ≡ Ok c → IsPlain (Ok c)
    go true same = plain_text listing_schema text c is (selected (compiled listing_schema text) c same)
    go false same = plain_text schema text c is same

-- what a question shows is what the database answers, and nothing changes
pub shown_replies : (text : List ℕ) (params : Row) (old new : State) (rows : List Row) → IsQuestion text → Shown text params old new rows
    → Replies old.now (record { text = text; params = params }) rows × IsUnchanged old new
unfolding Shown
shown_replies text params old new rows question h =
    let c = h.0 in
    let it = h.1 in
    let plain = question old.now.schema c it.is in
    let full : timed params c.formats it.now ≡ params = rw plain.1 (append-nil params) in
    let shows = subst (ShowsRows old new text c (timed params c.formats it.now) rows) plain.0 h.2 in
    (record { compiled = c; is = it.is; plain = plain; given = it.given; source = shows.0; source_is = shows.1; reads = subst (λ p. Reads c.command shows.0 p rows) full shows.2 }, shows.3)

-- what the database refuses is never blamed on the tables
pub never_blamed : (e : Error) → fault_of e ≢ Shape
never_blamed (SqliteFailure OutOfMemory) h = cc
never_blamed _ h = cc

-- so a refusal that is handed on isn't
pub never_from : {X : Type 0} (e : Error) (r : Result X ShelfFault) → IsErrAnd r (λ fault. fault ≡ fault_of e) → r ≢ Err Shape
never_from e (Ok x) wrong is = wrong
never_from e (Err fault) known is = never_blamed e (let it : fault ≡ Shape = cc in sym known ∙ it)

module _ {S X : Type 0} (g : Ghosts S) (P : Database → X → Type 0) (a b : Held S) (r : Result X ShelfFault) where
  pub refused_blames_nothing : (e : Error) → IsErrAnd r (λ fault. fault ≡ fault_of e) → Tells g P IsNever a b r
  refused_blames_nothing e is = record {
    told = λ _. if_err r is;
    same = λ _. on_err r is;
    blamed = λ _ h. never_from e r is h;
  }
    where
      if_err : (s : Result X ShelfFault) → IsErrAnd s (λ fault. fault ≡ fault_of e) → IfOk s (P (state g a).now)
      if_err (Ok x) wrong = absurd wrong
      if_err (Err fault) known = tt

      on_err : (s : Result X ShelfFault) → IsErrAnd s (λ fault. fault ≡ fault_of e) → OnOk s ((state g b).now ≡ (state g a).now)
      on_err (Ok x) wrong = absurd wrong
      on_err (Err fault) known = tt

module _ {S : Type 0} (g : Ghosts S) (a b c : Held S) where
  -- one question after another; the second one's answer is the whole's, or is judged
  pub tells_then : {X Y Z : Type 0} (P : Database → X → Type 0) (Q : Database → Y → Type 0) (R : Database → Z → Type 0) (A B C : Database → Type 0) (x : X) (y : Y) (r : Result Z ShelfFault)
      → ((db : Database) → P db x → Q db y → IfOk r (R db)) → ((db : Database) → P db x → Q db y → r ≡ Err Shape → C db)
      → Tells g P A a b (Ok x) → Tells g Q B b c (Ok y) → Survives (state g b) (state g c) (λ _. ⊥) → Tells g R C a c r
  tells_then P Q R A B C x y r f h one two survives = record {
    told = λ clean. let early = was_clean g a b c survives clean in f (state g a).now (one.told early) (second early clean);
    same = λ clean. on_ok r (two.same clean ∙ one.same (was_clean g a b c survives clean));
    blamed = λ clean is. let early = was_clean g a b c survives clean in h (state g a).now (one.told early) (second early clean) is;
  }
    where
      second : HasCleanDisk (state g b) → HasCleanDisk (state g c) → Q (state g a).now y
      second early clean = subst (λ (db : Database). Q db y) (one.same early) (two.told clean)

      on_ok : {V W : Type 0} {T : Type 0} (s : Result V W) → T → OnOk s T
      on_ok (Ok v) t = t
      on_ok (Err e) t = tt

  pub tells_last : {X Y : Type 0} (P : Database → X → Type 0) (Q : Database → Y → Type 0) (R : Database → Y → Type 0) (A B C : Database → Type 0) (x : X) (r : Result Y ShelfFault)
      → ((db : Database) (y : Y) → P db x → Q db y → R db y) → ((db : Database) → P db x → B db → C db)
      → Tells g P A a b (Ok x) → Tells g Q B b c r → Survives (state g b) (state g c) (λ _. ⊥) → Tells g R C a c r
  tells_last P Q R A B C x r f h one two survives = record {
    told = λ clean. let early = was_clean g a b c survives clean in if_ok r (λ y known. f (state g a).now y (one.told early) (subst (λ (db : Database). Q db y) (one.same early) known)) (two.told clean);
    same = λ clean. on_ok r (λ same. same ∙ one.same (was_clean g a b c survives clean)) (two.same clean);
    blamed = λ clean is. let early = was_clean g a b c survives clean in h (state g a).now (one.told early) (subst B (one.same early) (two.blamed clean is));
  }
    where
      if_ok : {V W : Type 0} {T U : V → Type 0} (s : Result V W) → ((v : V) → T v → U v) → IfOk s T → IfOk s U
      if_ok (Ok v) k t = k v t
      if_ok (Err e) k t = tt

      on_ok : {V W : Type 0} {T U : Type 0} (s : Result V W) → (T → U) → OnOk s T → OnOk s U
      on_ok (Ok v) k t = k t
      on_ok (Err e) k t = tt

  -- a second question that is refused refuses the whole
  pub tells_stops : {X Y Z : Type 0} (P : Database → X → Type 0) (Q : Database → Y → Type 0) (R : Database → Z → Type 0) (A B C : Database → Type 0) (x : X) (e : ShelfFault) (r : Result Z ShelfFault)
      → r ≡ Err e → ((db : Database) → P db x → B db → C db)
      → Tells g P A a b (Ok x) → Tells {X = Y} g Q B b c (Err e) → Survives (state g b) (state g c) (λ _. ⊥) → Tells g R C a c r
  tells_stops {Y = Y} P Q R A B C x e r is h one two survives = rw is (record {
    told = λ _. tt;
    same = λ _. tt;
    blamed = λ clean same. let early = was_clean g a b c survives clean in h (state g a).now (one.told early) (subst B (one.same early) (two.blamed clean (let it : e ≡ Shape = cc in rw it refl)));
  })

module _ {S : Type 0} (g : Ghosts S) (a b : Held S) where
  -- the answer is judged
  pub tells_judged : {X Y : Type 0} (P : Database → X → Type 0) (R : Database → Y → Type 0) (A C : Database → Type 0) (x : X) (r : Result Y ShelfFault)
      → ((db : Database) → P db x → IfOk r (R db)) → ((db : Database) → P db x → r ≡ Err Shape → C db) → Tells g P A a b (Ok x) → Tells g R C a b r
  tells_judged P R A C x r f h one = record {
    told = λ clean. f (state g a).now (one.told clean);
    same = λ clean. on_ok r (one.same clean);
    blamed = λ clean is. h (state g a).now (one.told clean) is;
  }
    where
      on_ok : {V W : Type 0} {T : Type 0} (s : Result V W) → T → OnOk s T
      on_ok (Ok v) t = t
      on_ok (Err e) t = tt

  -- a question that is refused refuses the whole
  pub tells_refused : {X Y : Type 0} (P : Database → X → Type 0) (R : Database → Y → Type 0) (A C : Database → Type 0) (e : ShelfFault) (r : Result Y ShelfFault)
      → r ≡ Err e → ((db : Database) → A db → C db) → Tells {X = X} g P A a b (Err e) → Tells g R C a b r
  tells_refused P R A C e r is h one = rw is (record {
    told = λ _. tt;
    same = λ _. tt;
    blamed = λ clean same. h (state g a).now (one.blamed clean (let it : e ≡ Shape = cc in rw it refl));
  })

  -- nothing was asked
  pub tells_nothing : {Y : Type 0} (R : Database → Y → Type 0) (C : Database → Type 0) (r : Result Y ShelfFault) → a ≡ b → ((db : Database) → IfOk r (R db)) → ((db : Database) → r ≡ Err Shape → C db) → Tells g R C a b r
  tells_nothing R C r is f h = record {
    told = λ _. f (state g a).now;
    same = λ _. on_ok r (ap (λ held. (state g held).now) (sym is));
    blamed = λ _ same. h (state g a).now same;
  }
    where
      on_ok : {V W : Type 0} {T : Type 0} (s : Result V W) → T → OnOk s T
      on_ok (Ok v) t = t
      on_ok (Err e) t = tt
