-- What the table does of one page at the end.
use Rattle.std.proofs.Common.{◌≡◌, ◌≤◌, ℕ, Bool, true, false, true≢false, not, ◌&&◌, ◌||◌, if◌then◌else◌, List, [], ◌∷◌, length, map, Option, Some, None, IfSome, MatchOption, refl, sym, ◌∙◌, ap, subst, arith}
use Rattle.std.specs.Option.{is_some}
use Rattle.std.proofs.lemmas.Grind.{common_steps}
use Rattle.cb_page.specs.Flags.{has}
use Rattle.cb_protocol.specs.Basics.{is_none}
use Rattle.cb_protocol.specs.Cache.{LetGo, YieldPermission}
use Rattle.cb_protocol.specs.Client.{ChangeCache, Client, ClientStep, DueDowngrade, Say, bodies_said}
use Rattle.cb_protocol.specs.ClientEnd.{end_page, give_down}
use Rattle.cb_protocol.specs.Messages.{Body, Downgraded, GiveBack}
use Rattle.cb_cache.specs.ByTable.{Does}
use Rattle.cb_cache.specs.CacheState.{CacheState, content_at, copy_at}
use Rattle.cb_locks.specs.declared.callback_due.CallbackDue.{CallbackDue}
use Rattle.cb_locks.specs.declared.dues.DueDowngrade as locks
use Rattle.cb_locks.specs.declared.dues.PageDue.{PageDue}
use Rattle.cb_page.specs.Counting.{bit}
use Rattle.cb_locks.specs.Dues.{called_by, copy_first, is_due}
use Rattle.cb_locks.specs.Locks.{LocksState, callback, callback_by, due_at, owed_at}
use Rattle.cb_cache.specs.Owing.{downgrade_of, holder}
use Rattle.cb_cache.specs.Ending.{page_steps}
use Rattle.cb_cache.specs.Room.{answers}

-- at most one message
at_most_one : (k : Client) (d : Bool) (p : ℕ) (r : Option ℕ) → length (bodies_said (end_page k d p r)) ≤ 1
at_most_one k d p None = omega arith
at_most_one k d p (Some g) = go (d && k.cache.wrote p) (k.due p || is_none (k.cache.content p)) d (k.due_downgrade p)
  where
    go : (u v x : Bool) (y : Option DueDowngrade)
        → length (bodies_said (if u then Say (GiveBack p g) ∷ [] else if v then ChangeCache (LetGo p) ∷ Say (GiveBack p g) ∷ [] else if x then [] else give_down p y)) ≤ 1
    go true v x y = omega arith
    go false true x y = omega arith
    go false false true y = omega arith
    go false false false None = omega arith
    go false false false (Some y) = omega arith

-- nothing is said and done of a page that is not written, due or bare
pub silent : (k : Client) (d : Bool) (p : ℕ) (r : Option ℕ) → (d && k.cache.wrote p) ≡ false → k.due p ≡ false → (d ≡ false → k.due_downgrade p ≡ None) → (is_some r ≡ true → is_none (k.cache.content p) ≡ false)
    → end_page k d p r ≡ []
silent k d p None w u y b = refl
silent k d p (Some g) w u y b = rw (w, u, b refl) (go d refl)
  where
    go : (x : Bool) → d ≡ x → (if x then [] else give_down p (k.due_downgrade p)) ≡ []
    go true e = refl
    go false e = ap (give_down p) (y e)

-- a page that is not bare
here : (o : Option (List ℕ)) → not (is_some o) ≡ false → is_none o ≡ false
here None t = absurd (true≢false t)
here (Some bytes) t = refl

bare : (o : Option (List ℕ)) → not (is_some o) ≡ true → is_none o ≡ true
bare None t = refl
bare (Some bytes) t = absurd (true≢false (sym t))

-- the tests of the code
pub says_at_most : (v : CacheState) (l : LocksState) (p : ℕ) (d due goes : Bool) → answers l d p ≡ due → goes ≡ (d && has v.wrote p || not (is_some (content_at v p)))
    → length (bodies_said (page_steps v l d p)) ≤ bit (due || goes)
says_at_most v l p d true goes e f = at_most_one (holder v l) d p (copy_at v p).held
says_at_most v l p d false true e f = at_most_one (holder v l) d p (copy_at v p).held
says_at_most v l p d false false e f =
    let s : page_steps v l d p ≡ [] = silent (holder v l) d p (copy_at v p).held (grind arith) (copy d e) (λ k. down (due_at l p) (subst (λ (x : Bool). answers l x p ≡ false) k e)) (λ _. here (content_at v p) (grind arith)) in
    rw s (omega arith)
  where
    none : (x : PageDue) → is_due x ≡ false → is_some x.callback ≡ false
    none x i = grind (arith, common_steps)

    copy : (x : Bool) → answers l x p ≡ false → is_some (due_at l p).callback ≡ false
    copy true i = i
    copy false i = none (due_at l p) i

    down : (x : PageDue) → is_due x ≡ false → downgrade_of x.downgrade ≡ None
    down x i = by x.downgrade refl
      where
        by : (y : Option locks.DueDowngrade) → x.downgrade ≡ y → downgrade_of y ≡ None
        by None t = refl
        by (Some y) t = absurd (true≢false (let a : is_some x.downgrade ≡ true = ap is_some t in grind (arith, common_steps)))

-- what is known of a callback that is to be answered at the end
pub record IsOwed (l : LocksState) (p : ℕ) (has_grant : Option ℕ) (due : CallbackDue) : Type 0 where
  pub client : due.client ≡ l.client
  pub incarnation : due.incarnation ≡ l.incarnation
  pub page : due.page ≡ p
  pub held : has_grant ≡ Some due.grant
  pub copy : due.tag ≡ None → is_some (due_at l p).callback ≡ true
  pub permission : IfSome due.tag (λ tag. ((due_at l p).callback ≡ None) × ((due_at l p).downgrade ≡ Some (record { grant = due.grant; tag = tag })))

pub owed : (l : LocksState) (p : ℕ) (held : Option ℕ) (due : CallbackDue) → owed_at l p ≡ Some due → IfSome (called_by (due_at l p)) (λ called. held ≡ Some called.0) → IsOwed l p held due
owed l p held due e h = by (due_at l p).callback refl (due_at l p).downgrade refl
  where
    by : (c : Option ℕ) → (due_at l p).callback ≡ c → (y : Option locks.DueDowngrade) → (due_at l p).downgrade ≡ y → IsOwed l p held due
    by None c None y = absurd (let n : callback_by l p (copy_first None None) ≡ Some due = subst (λ (x : Option locks.DueDowngrade). callback_by l p (copy_first None x) ≡ Some due) y (subst (λ (x : Option ℕ). callback_by l p (copy_first x (due_at l p).downgrade) ≡ Some due) c e) in cc)
    by None c (Some d) y =
        let n : callback_by l p (copy_first None (Some d)) ≡ Some due = subst (λ (x : Option locks.DueDowngrade). callback_by l p (copy_first None x) ≡ Some due) y (subst (λ (x : Option ℕ). callback_by l p (copy_first x (due_at l p).downgrade) ≡ Some due) c e) in
        let m : IfSome (copy_first None (Some d)) (λ called. held ≡ Some called.0) = subst (λ (x : Option locks.DueDowngrade). IfSome (copy_first None x) (λ called. held ≡ Some called.0)) y (subst (λ (x : Option ℕ). IfSome (copy_first x (due_at l p).downgrade) (λ called. held ≡ Some called.0)) c h) in
        let same : callback l p d.grant (Some d.tag) ≡ due = some_same n in
        subst (λ (x : CallbackDue). IsOwed l p held x) same (record { client = refl; incarnation = refl; page = refl; held = m; copy = λ t. absurd cc; permission = (c, y) })
      where
        some_same : {A : Type 0} {a b : A} → Some a ≡ Some b → a ≡ b
        some_same s = cc
    by (Some g) c y z =
        let n : callback_by l p (copy_first (Some g) (due_at l p).downgrade) ≡ Some due = subst (λ (x : Option ℕ). callback_by l p (copy_first x (due_at l p).downgrade) ≡ Some due) c e in
        let m : IfSome (copy_first (Some g) (due_at l p).downgrade) (λ called. held ≡ Some called.0) = subst (λ (x : Option ℕ). IfSome (copy_first x (due_at l p).downgrade) (λ called. held ≡ Some called.0)) c h in
        let same : callback l p g None ≡ due = some_same n in
        subst (λ (x : CallbackDue). IsOwed l p held x) same (record { client = refl; incarnation = refl; page = refl; held = m; copy = λ t. ap is_some c; permission = tt })
      where
        some_same : {A : Type 0} {a b : A} → Some a ≡ Some b → a ≡ b
        some_same s = cc

-- the same steps, by an equation
does_same : (v w : CacheState) (xs ys : List ClientStep) → xs ≡ ys → Does v ys w → Does v xs w
does_same v w xs ys e d = subst (λ (s : List ClientStep). Does v s w) (sym e) d

-- the copy goes, or is left to go with its transaction
pub gives_back : (v w : CacheState) (l : LocksState) (d : Bool) (p g : ℕ) (u : Bool) → (copy_at v p).held ≡ Some g → u ≡ (d && has v.wrote p)
    → (u ≡ false → (is_some (due_at l p).callback || is_none (content_at v p)) ≡ true)
    → Does v (if u then [] else ChangeCache (LetGo p) ∷ []) w → Does v (page_steps v l d p) w
gives_back v w l d p g true h u r does =
    let e : page_steps v l d p ≡ Say (GiveBack p g) ∷ [] = rw (h, ← u) refl in
    does_same v w _ _ e (record { becomes = does.becomes; limits = does.limits; references = does.references })
gives_back v w l d p g false h u r does =
    let e : page_steps v l d p ≡ ChangeCache (LetGo p) ∷ Say (GiveBack p g) ∷ [] = rw (h, ← u, r refl) refl in
    does_same v w _ _ e (record { becomes = does.becomes; limits = does.limits; references = does.references })

or_true : (b : Bool) → (b || true) ≡ true
or_true true = refl
or_true false = refl

-- nothing is due of a bare page
pub gives_bare : (v w : CacheState) (l : LocksState) (d : Bool) (p g : ℕ) (u goes : Bool) → (copy_at v p).held ≡ Some g → u ≡ (d && has v.wrote p)
    → goes ≡ (d && has v.wrote p || not (is_some (content_at v p))) → goes ≡ true
    → Does v (if u then [] else ChangeCache (LetGo p) ∷ []) w → Does v (page_steps v l d p) w
gives_bare v w l d p g u goes h e f t does = gives_back v w l d p g u h e (λ n. rw (bare (content_at v p) (grind arith)) (or_true (is_some (due_at l p).callback))) does

-- the callback is answered by giving the copy back
pub answers_back : (v w : CacheState) (l : LocksState) (d : Bool) (p : ℕ) (u goes alone : Bool) (due : CallbackDue) → IsOwed l p (copy_at v p).held due → u ≡ (d && has v.wrote p)
    → goes ≡ (d && has v.wrote p || not (is_some (content_at v p))) → alone ≡ (not goes && is_some due.tag) → alone ≡ false
    → Does v (if u then [] else ChangeCache (LetGo p) ∷ []) w → Does v (page_steps v l d p) w
answers_back v w l d p u goes alone due owes e f a n does = gives_back v w l d p due.grant u owes.held e (λ m. by m goes refl due.tag refl) does
  where
    by : u ≡ false → (b : Bool) → goes ≡ b → (tag : Option ℕ) → due.tag ≡ tag → (is_some (due_at l p).callback || is_none (content_at v p)) ≡ true
    by m true b tag t = rw (bare (content_at v p) (grind arith)) (or_true (is_some (due_at l p).callback))
    by m false b None t = rw (owes.copy t) refl
    by m false b (Some tag) t = absurd (true≢false (let s : is_some due.tag ≡ true = ap is_some t in grind arith))

-- the permission alone is given up
pub answers_down : (v w : CacheState) (l : LocksState) (p : ℕ) (goes alone : Bool) (due : CallbackDue) → IsOwed l p (copy_at v p).held due
    → goes ≡ (false && has v.wrote p || not (is_some (content_at v p))) → alone ≡ (not goes && is_some due.tag) → alone ≡ true
    → Does v (ChangeCache (YieldPermission p) ∷ []) w → Does v (page_steps v l false p) w
answers_down v w l p goes alone due owes f a t does = by due.tag refl owes.permission
  where
    by : (tag : Option ℕ) → due.tag ≡ tag → IfSome tag (λ n. ((due_at l p).callback ≡ None) × ((due_at l p).downgrade ≡ Some (record { grant = due.grant; tag = n }))) → Does v (page_steps v l false p) w
    by None e x = absurd (true≢false (let s : is_some due.tag ≡ false = ap is_some e in grind arith))
    by (Some n) e x =
        let h : is_none (content_at v p) ≡ false = here (content_at v p) (grind arith) in
        let s : page_steps v l false p ≡ ChangeCache (YieldPermission p) ∷ Say (Downgraded p due.grant n) ∷ [] = rw (owes.held, x.0, h, x.1) refl in
        does_same v w _ _ s (record { becomes = does.becomes; limits = does.limits; references = does.references })
