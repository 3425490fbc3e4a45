-- What a client gives back as its transaction ends: one grant of each page that it owes, and none of another.
use Rattle.std.proofs.Common.{Bool, List, None, Option, Some, [], ap, arith, false, if◌then◌else◌, inl, inr, nat_lt, refl, subst, suc, sym, true, zero, ℕ, ◌&&◌, ◌++◌, ◌<◌, ◌==◌, ◌∙◌, ◌∷◌, ◌≡◌, ◌≢◌, ◌⊎◌, ◌||◌, ◌≤◌}
use Rattle.std.proofs.lemmas.List.{append-nil}
use Rattle.cb_protocol.proofs.DuePages.{call_stays, due_reading, message_stays}
use Rattle.cb_protocol.proofs.ClientInvariant.{ClientKeeps, acted_append, tidy}
use Rattle.cb_protocol.specs.Cache.{Abandon, LetGo, TakeDone, YieldPermission}
use Rattle.cb_protocol.specs.Client.{Aborted, ClientStep, SetAsk, Client, EndTransaction, Committed, Dropped, LastOutcome, ChangeCache, DueDowngrade, MarkDue, MarkDueDowngrade, Say, MarkWanted, client_after, bodies_said}
use Rattle.cb_protocol.specs.Answers.{ClientFault}
use Rattle.cb_protocol.specs.ClientCalls.{CallAgain, CallBegin, Call, CallDrop, CallFinish, CallHello, CallPeek, CallRead, CallWant, CallWrite, client_call, first_refusal, accept_or_refuse, open_causes}
use Rattle.cb_protocol.specs.ClientEnd.{drop_transaction, end_page, end_pages}
use Rattle.cb_protocol.specs.ClientMessages.{of_committing_txn, of_open_txn, client_take}
use Rattle.cb_protocol.specs.Basics.{IsIn, Limits, is_none}
use Rattle.cb_protocol.specs.Messages.{AbortNow, Body, Done, Downgraded, GiveBack}
use Rattle.cb_protocol.specs.ClientAlone.{ClientInput, EachGreater, EndsCommitted, EndsDropped, EndsRight, GoesOn, InUseGivenBackOnce, ReceivesCall, ReceivesMessage, Rising, StaysDue, after_input, client_steps_at, ending, given_back, given_down, owed_back, owed_down, pages_given_back}
use Rattle.cb_protocol.specs.ClientCalls.{call_fault}
use Rattle.std.specs.Prelude.{⊤}

said_append : (xs ys : List ClientStep) → bodies_said (xs ++ ys) ≡ bodies_said xs ++ bodies_said ys
said_append [] ys = refl
said_append (Say b ∷ xs) ys = ap (λ (x : List Body). b ∷ x) (said_append xs ys)
said_append (ChangeCache m ∷ xs) ys = said_append xs ys
said_append (SetAsk x ∷ xs) ys = said_append xs ys
said_append (MarkWanted p ∷ xs) ys = said_append xs ys
said_append (MarkDue p ∷ xs) ys = said_append xs ys
said_append (MarkDueDowngrade p y ∷ xs) ys = said_append xs ys
said_append (EndTransaction l ∷ xs) ys = said_append xs ys

back_append : (p : ℕ) (xs ys : List Body) → given_back p (xs ++ ys) ≡ given_back p xs ++ given_back p ys
back_append p [] ys = refl
back_append p (GiveBack q g ∷ xs) ys = go (back_append p xs ys) (q == p)
  where
    go : given_back p (xs ++ ys) ≡ given_back p xs ++ given_back p ys → (r : Bool) → (if r then g ∷ given_back p (xs ++ ys) else given_back p (xs ++ ys)) ≡ (if r then g ∷ given_back p xs else given_back p xs) ++ given_back p ys
    go e true = ap (λ (x : List ℕ). g ∷ x) e
    go e false = e
back_append p (x ∷ xs) ys = back_append p xs ys

-- of one page
one_back : (k : Client) (d : Bool) (p : ℕ) (r : Option ℕ) → given_back p (bodies_said (end_page k d p r)) ≡ owed_back k d p r
one_back k d p None = refl
one_back k d p (Some g) = go (d && k.cache.wrote p) refl (k.due p || is_none (k.cache.content p)) refl d (k.due_downgrade p)
  where
    go : (u : Bool) → (d && k.cache.wrote p) ≡ u → (v : Bool) → (k.due p || is_none (k.cache.content p)) ≡ v → (x : Bool) (r : Option DueDowngrade)
        → given_back p (bodies_said (if u then Say (GiveBack p g) ∷ [] else if v then ChangeCache (LetGo p) ∷ Say (GiveBack p g) ∷ [] else if x then [] else elim r [ None ↦ [] | Some y ↦ ChangeCache (YieldPermission p) ∷ Say (Downgraded p y.grant y.tag) ∷ [] ])) ≡ owed_back k d p (Some g)
    go true e v f x r = grind arith
    go false e true f x r = grind arith
    go false e false f true r = grind arith
    go false e false f false None = grind arith
    go false e false f false (Some y) = grind arith

-- and none of another
none_back : (k : Client) (d : Bool) (p q : ℕ) (r : Option ℕ) → q ≢ p → given_back p (bodies_said (end_page k d q r)) ≡ []
none_back k d p q None n = refl
none_back k d p q (Some g) n = go (d && k.cache.wrote q) (k.due q || is_none (k.cache.content q)) d (k.due_downgrade q)
  where
    go : (u v x : Bool) (r : Option DueDowngrade) → given_back p (bodies_said (if u then Say (GiveBack q g) ∷ [] else if v then ChangeCache (LetGo q) ∷ Say (GiveBack q g) ∷ [] else if x then [] else elim r [ None ↦ [] | Some y ↦ ChangeCache (YieldPermission q) ∷ Say (Downgraded q y.grant y.tag) ∷ [] ])) ≡ []
    go true v x r = grind arith
    go false true x r = grind arith
    go false false true r = refl
    go false false false None = refl
    go false false false (Some y) = refl

-- of the pages below n
back_step : (k : Client) (d : Bool) (p n : ℕ) (xs : List ℕ) → xs ≡ (if nat_lt p n then owed_back k d p (k.cache.held p) else [])
    → xs ++ given_back p (bodies_said (end_page k d n (k.cache.held n))) ≡ (if nat_lt p (suc n) then owed_back k d p (k.cache.held p) else [])
back_step k d p n xs e = go (n == p) refl
  where
    same : (n == p) ≡ true → n ≡ p
    same f = grind arith

    apart : (n == p) ≡ false → n ≢ p
    apart f = grind arith

    nothing : (n == p) ≡ true → xs ≡ []
    nothing f = grind arith

    here : (if nat_lt n (suc n) then owed_back k d n (k.cache.held n) else []) ≡ owed_back k d n (k.cache.held n)
    here = grind arith

    go : (r : Bool) → (n == p) ≡ r → xs ++ given_back p (bodies_said (end_page k d n (k.cache.held n))) ≡ (if nat_lt p (suc n) then owed_back k d p (k.cache.held p) else [])
    go true f = rw (nothing f) (subst (λ (x : ℕ). given_back x (bodies_said (end_page k d n (k.cache.held n))) ≡ (if nat_lt x (suc n) then owed_back k d x (k.cache.held x) else [])) (same f) (one_back k d n (k.cache.held n) ∙ sym here))
    go false f = rw (none_back k d p n (k.cache.held n) (apart f), append-nil xs) (e ∙ same_test)
      where
        same_test : (if nat_lt p n then owed_back k d p (k.cache.held p) else []) ≡ (if nat_lt p (suc n) then owed_back k d p (k.cache.held p) else [])
        same_test = grind arith

below_back : (k : Client) (d : Bool) (p n : ℕ) → given_back p (bodies_said (end_pages k d n)) ≡ (if nat_lt p n then owed_back k d p (k.cache.held p) else [])
below_back k d p zero = grind arith
below_back k d p (suc n) = split ∙ back_step k d p n (given_back p (bodies_said (end_pages k d n))) (below_back k d p n)
  where
    split : given_back p (bodies_said (end_pages k d n ++ end_page k d n (k.cache.held n))) ≡ given_back p (bodies_said (end_pages k d n)) ++ given_back p (bodies_said (end_page k d n (k.cache.held n)))
    split = ap (given_back p) (said_append (end_pages k d n) (end_page k d n (k.cache.held n))) ∙ back_append p (bodies_said (end_pages k d n)) (bodies_said (end_page k d n (k.cache.held n)))

-- all pages that are held are there
all_back : (L : Limits) (k : Client) (d : Bool) (p : ℕ) → ClientKeeps L k → given_back p (bodies_said (end_pages k d L.pages)) ≡ owed_back k d p (k.cache.held p)
all_back L k d p h = below_back k d p L.pages ∙ go (k.cache.held p) refl
  where
    near : (g : ℕ) → k.cache.held p ≡ Some g → p < L.pages
    near g e = h.held_within p (λ z. absurd (let w : Some g ≡ None = sym e ∙ z in cc))

    go : (r : Option ℕ) → k.cache.held p ≡ r → (if nat_lt p L.pages then owed_back k d p r else []) ≡ owed_back k d p r
    go None e = none (nat_lt p L.pages)
      where
        none : (u : Bool) → (if u then owed_back k d p None else []) ≡ owed_back k d p None
        none true = refl
        none false = refl
    go (Some g) e = let l : p < L.pages = near g e in grind arith

-- what is left of a client that gives pages back
record Left (k l : Client) : Type 0 where
  status : l.cache.status ≡ k.cache.status
  due : l.due ≡ k.due
  gone : (p : ℕ) → k.cache.held p ≡ None → l.cache.held p ≡ None

left_more : (k l m : Client) → Left k l → Left l m → Left k m
left_more k l m a b = record { status = b.status ∙ a.status; due = b.due ∙ a.due; gone = λ p e. b.gone p (a.gone p e) }

left_page : (keep_write : Bool) (k l : Client) (d : Bool) (p : ℕ) (r : Option ℕ) → Left l (client_after keep_write l (end_page k d p r))
left_page keep_write k l d p None = record { status = refl; due = refl; gone = λ q e. e }
left_page keep_write k l d p (Some g) = go (d && k.cache.wrote p) (k.due p || is_none (k.cache.content p)) d (k.due_downgrade p)
  where
    go : (u v x : Bool) (r : Option DueDowngrade) → Left l (client_after keep_write l (if u then Say (GiveBack p g) ∷ [] else if v then ChangeCache (LetGo p) ∷ Say (GiveBack p g) ∷ [] else if x then [] else elim r [ None ↦ [] | Some y ↦ ChangeCache (YieldPermission p) ∷ Say (Downgraded p y.grant y.tag) ∷ [] ]))
    go true v x r = record { status = refl; due = refl; gone = λ q e. e }
    go false true x r = record { status = refl; due = refl; gone = λ q e. grind arith }
    go false false true r = record { status = refl; due = refl; gone = λ q e. e }
    go false false false None = record { status = refl; due = refl; gone = λ q e. e }
    go false false false (Some y) = record { status = refl; due = refl; gone = λ q e. e }

left_pages : (keep_write : Bool) (k l : Client) (d : Bool) (n : ℕ) → Left l (client_after keep_write l (end_pages k d n))
left_pages keep_write k l d zero = record { status = refl; due = refl; gone = λ q e. e }
left_pages keep_write k l d (suc n) = subst (λ (x : Client). Left l x) (sym (acted_append keep_write l (end_pages k d n) (end_page k d n (k.cache.held n))))
    (left_more l _ _ (left_pages keep_write k l d n) (left_page keep_write k (client_after keep_write l (end_pages k d n)) d n (k.cache.held n)))

-- a page whose grant is given back is not held
gone_page : (keep_write : Bool) (k l : Client) (d : Bool) (p g q : ℕ) (r : Option ℕ) → ((d && k.cache.wrote p) ≡ true → l.cache.held p ≡ None) → IsIn g (given_back p (bodies_said (end_page k d q r))) → (client_after keep_write l (end_page k d q r)).cache.held p ≡ None
gone_page keep_write k l d p g q None w i = absurd i
gone_page keep_write k l d p g q (Some h) w i = go (d && k.cache.wrote q) refl (k.due q || is_none (k.cache.content q)) d (k.due_downgrade q) i
  where
    same : (r : Bool) → (q == p) ≡ r → IsIn g (if r then h ∷ [] else []) → q ≡ p
    same true e j = grind arith
    same false e j = absurd j

    go : (u : Bool) → (d && k.cache.wrote q) ≡ u → (v x : Bool) (r : Option DueDowngrade)
        → IsIn g (given_back p (bodies_said (if u then Say (GiveBack q h) ∷ [] else if v then ChangeCache (LetGo q) ∷ Say (GiveBack q h) ∷ [] else if x then [] else elim r [ None ↦ [] | Some y ↦ ChangeCache (YieldPermission q) ∷ Say (Downgraded q y.grant y.tag) ∷ [] ])))
        → (client_after keep_write l (if u then Say (GiveBack q h) ∷ [] else if v then ChangeCache (LetGo q) ∷ Say (GiveBack q h) ∷ [] else if x then [] else elim r [ None ↦ [] | Some y ↦ ChangeCache (YieldPermission q) ∷ Say (Downgraded q y.grant y.tag) ∷ [] ])).cache.held p ≡ None
    go true e v x r j = w (subst (λ (y : ℕ). (d && k.cache.wrote y) ≡ true) (same (q == p) refl j) e)
    go false e true x r j = let z : q ≡ p = same (q == p) refl j in grind arith
    go false e false true r j = absurd j
    go false e false false None j = absurd j
    go false e false false (Some y) j = absurd j

in_join : (g : ℕ) (xs ys : List ℕ) → IsIn g (xs ++ ys) → IsIn g xs ⊎ IsIn g ys
in_join g [] ys i = inr i
in_join g (x ∷ xs) ys i = elim i [ inl e ↦ inl (inl e) | inr j ↦ elim (in_join g xs ys j) [ inl m ↦ inl (inr m) | inr m ↦ inr m ] ]

gone_pages : (keep_write : Bool) (k l : Client) (d : Bool) (p g n : ℕ) → ((d && k.cache.wrote p) ≡ true → l.cache.held p ≡ None) → IsIn g (given_back p (bodies_said (end_pages k d n))) → (client_after keep_write l (end_pages k d n)).cache.held p ≡ None
gone_pages keep_write k l d p g zero w i = absurd i
gone_pages keep_write k l d p g (suc n) w i = rw (acted_append keep_write l (end_pages k d n) (end_page k d n (k.cache.held n))) (elim (in_join g _ _ (subst (λ (x : List ℕ). IsIn g x) split i)) [
  | inl j ↦ (left_page keep_write k m d n (k.cache.held n)).gone p (gone_pages keep_write k l d p g n w j)
  | inr j ↦ gone_page keep_write k m d p g n (k.cache.held n) (λ e. (left_pages keep_write k l d n).gone p (w e)) j
])
  where
    m : Client
    m = client_after keep_write l (end_pages k d n)

    split : given_back p (bodies_said (end_pages k d n ++ end_page k d n (k.cache.held n))) ≡ given_back p (bodies_said (end_pages k d n)) ++ given_back p (bodies_said (end_page k d n (k.cache.held n)))
    split = ap (given_back p) (said_append (end_pages k d n) (end_page k d n (k.cache.held n))) ∙ back_append p (bodies_said (end_pages k d n)) (bodies_said (end_page k d n (k.cache.held n)))

-- the permissions given up
down_append : (p : ℕ) (xs ys : List Body) → given_down p (xs ++ ys) ≡ given_down p xs ++ given_down p ys
down_append p [] ys = refl
down_append p (Downgraded q g t ∷ xs) ys = go (down_append p xs ys) (q == p)
  where
    go : given_down p (xs ++ ys) ≡ given_down p xs ++ given_down p ys → (r : Bool)
        → (if r then record { grant = g; tag = t } ∷ given_down p (xs ++ ys) else given_down p (xs ++ ys)) ≡ (if r then record { grant = g; tag = t } ∷ given_down p xs else given_down p xs) ++ given_down p ys
    go e true = ap (λ (x : List DueDowngrade). record { grant = g; tag = t } ∷ x) e
    go e false = e
down_append p (x ∷ xs) ys = down_append p xs ys

one_down : (k : Client) (d : Bool) (p : ℕ) (r : Option ℕ) → given_down p (bodies_said (end_page k d p r)) ≡ owed_down k d p r
one_down k d p None = refl
one_down k d p (Some g) = go (d && k.cache.wrote p) refl (k.due p || is_none (k.cache.content p)) refl d refl (k.due_downgrade p)
  where
    go : (u : Bool) → (d && k.cache.wrote p) ≡ u → (v : Bool) → (k.due p || is_none (k.cache.content p)) ≡ v → (x : Bool) → d ≡ x → (r : Option DueDowngrade)
        → given_down p (bodies_said (if u then Say (GiveBack p g) ∷ [] else if v then ChangeCache (LetGo p) ∷ Say (GiveBack p g) ∷ [] else if x then [] else elim r [ None ↦ [] | Some y ↦ ChangeCache (YieldPermission p) ∷ Say (Downgraded p y.grant y.tag) ∷ [] ]))
        ≡ (if d || k.due p || is_none (k.cache.content p) then [] else elim r [ None ↦ [] | Some y ↦ y ∷ [] ])
    go true e v f x q r = grind arith
    go false e true f x q r = grind arith
    go false e false f true q r = grind arith
    go false e false f false q None = grind arith
    go false e false f false q (Some y) = grind arith

none_down : (k : Client) (d : Bool) (p q : ℕ) (r : Option ℕ) → q ≢ p → given_down p (bodies_said (end_page k d q r)) ≡ []
none_down k d p q None n = refl
none_down k d p q (Some g) n = go (d && k.cache.wrote q) (k.due q || is_none (k.cache.content q)) d (k.due_downgrade q)
  where
    go : (u v x : Bool) (r : Option DueDowngrade) → given_down p (bodies_said (if u then Say (GiveBack q g) ∷ [] else if v then ChangeCache (LetGo q) ∷ Say (GiveBack q g) ∷ [] else if x then [] else elim r [ None ↦ [] | Some y ↦ ChangeCache (YieldPermission q) ∷ Say (Downgraded q y.grant y.tag) ∷ [] ])) ≡ []
    go true v x r = refl
    go false true x r = refl
    go false false true r = refl
    go false false false None = refl
    go false false false (Some y) = grind arith

down_step : (k : Client) (d : Bool) (p n : ℕ) (xs : List DueDowngrade) → xs ≡ (if nat_lt p n then owed_down k d p (k.cache.held p) else [])
    → xs ++ given_down p (bodies_said (end_page k d n (k.cache.held n))) ≡ (if nat_lt p (suc n) then owed_down k d p (k.cache.held p) else [])
down_step k d p n xs e = go (n == p) refl
  where
    same : (n == p) ≡ true → n ≡ p
    same f = grind arith

    apart : (n == p) ≡ false → n ≢ p
    apart f = grind arith

    nothing : (n == p) ≡ true → xs ≡ []
    nothing f = grind arith

    here : (if nat_lt n (suc n) then owed_down k d n (k.cache.held n) else []) ≡ owed_down k d n (k.cache.held n)
    here = grind arith

    go : (r : Bool) → (n == p) ≡ r → xs ++ given_down p (bodies_said (end_page k d n (k.cache.held n))) ≡ (if nat_lt p (suc n) then owed_down k d p (k.cache.held p) else [])
    go true f = rw (nothing f) (subst (λ (x : ℕ). given_down x (bodies_said (end_page k d n (k.cache.held n))) ≡ (if nat_lt x (suc n) then owed_down k d x (k.cache.held x) else [])) (same f) (one_down k d n (k.cache.held n) ∙ sym here))
    go false f = rw (none_down k d p n (k.cache.held n) (apart f), append-nil xs) (e ∙ same_test)
      where
        same_test : (if nat_lt p n then owed_down k d p (k.cache.held p) else []) ≡ (if nat_lt p (suc n) then owed_down k d p (k.cache.held p) else [])
        same_test = grind arith

below_down : (k : Client) (d : Bool) (p n : ℕ) → given_down p (bodies_said (end_pages k d n)) ≡ (if nat_lt p n then owed_down k d p (k.cache.held p) else [])
below_down k d p zero = grind arith
below_down k d p (suc n) = split ∙ down_step k d p n (given_down p (bodies_said (end_pages k d n))) (below_down k d p n)
  where
    split : given_down p (bodies_said (end_pages k d n ++ end_page k d n (k.cache.held n))) ≡ given_down p (bodies_said (end_pages k d n)) ++ given_down p (bodies_said (end_page k d n (k.cache.held n)))
    split = ap (given_down p) (said_append (end_pages k d n) (end_page k d n (k.cache.held n))) ∙ down_append p (bodies_said (end_pages k d n)) (bodies_said (end_page k d n (k.cache.held n)))

all_down : (L : Limits) (k : Client) (d : Bool) (p : ℕ) → ClientKeeps L k → given_down p (bodies_said (end_pages k d L.pages)) ≡ owed_down k d p (k.cache.held p)
all_down L k d p h = below_down k d p L.pages ∙ go (k.cache.held p) refl
  where
    near : (g : ℕ) → k.cache.held p ≡ Some g → p < L.pages
    near g e = h.held_within p (λ z. absurd (let w : Some g ≡ None = sym e ∙ z in cc))

    go : (r : Option ℕ) → k.cache.held p ≡ r → (if nat_lt p L.pages then owed_down k d p r else []) ≡ owed_down k d p r
    go None e = none (nat_lt p L.pages)
      where
        none : (u : Bool) → (if u then owed_down k d p None else []) ≡ owed_down k d p None
        none true = refl
        none false = refl
    go (Some g) e = let l : p < L.pages = near g e in grind arith

-- the pages given back rise
pages_append : (xs ys : List Body) → pages_given_back (xs ++ ys) ≡ pages_given_back xs ++ pages_given_back ys
pages_append [] ys = refl
pages_append (GiveBack q g ∷ xs) ys = ap (λ (x : List ℕ). q ∷ x) (pages_append xs ys)
pages_append (x ∷ xs) ys = pages_append xs ys

abbrev EachBelow : ℕ → List ℕ → Type 0
EachBelow n [] = ⊤
EachBelow n (p ∷ ps) = (p < n) × EachBelow n ps

below_more : (n m : ℕ) (ps : List ℕ) → n ≤ m → EachBelow n ps → EachBelow m ps
below_more n m [] l b = tt
below_more n m (p ∷ ps) l b = let a = b.0 in (omega arith, below_more n m ps l b.1)

greater_push : (p q : ℕ) (ps : List ℕ) → EachGreater p ps → p < q → EachGreater p (ps ++ q ∷ [])
greater_push p q [] g l = (l, tt)
greater_push p q (x ∷ ps) g l = (g.0, greater_push p q ps g.1 l)

rising_push : (n : ℕ) (ps : List ℕ) → Rising ps → EachBelow n ps → Rising (ps ++ n ∷ [])
rising_push n [] r b = (tt, tt)
rising_push n (p ∷ ps) r b = (greater_push p n ps r.0 b.0, rising_push n ps r.1 b.1)

below_push : (n : ℕ) (ps : List ℕ) → EachBelow n ps → EachBelow (suc n) (ps ++ n ∷ [])
below_push n [] b = (omega arith, tt)
below_push n (p ∷ ps) b = let a = b.0 in (omega arith, below_push n ps b.1)

-- of one page: that page, or none
one_page : (k : Client) (d : Bool) (p : ℕ) (r : Option ℕ) → (pages_given_back (bodies_said (end_page k d p r)) ≡ []) ⊎ (pages_given_back (bodies_said (end_page k d p r)) ≡ p ∷ [])
one_page k d p None = inl refl
one_page k d p (Some g) = go (d && k.cache.wrote p) (k.due p || is_none (k.cache.content p)) d (k.due_downgrade p)
  where
    go : (u v x : Bool) (r : Option DueDowngrade)
        → (pages_given_back (bodies_said (if u then Say (GiveBack p g) ∷ [] else if v then ChangeCache (LetGo p) ∷ Say (GiveBack p g) ∷ [] else if x then [] else elim r [ None ↦ [] | Some y ↦ ChangeCache (YieldPermission p) ∷ Say (Downgraded p y.grant y.tag) ∷ [] ])) ≡ [])
        ⊎ (pages_given_back (bodies_said (if u then Say (GiveBack p g) ∷ [] else if v then ChangeCache (LetGo p) ∷ Say (GiveBack p g) ∷ [] else if x then [] else elim r [ None ↦ [] | Some y ↦ ChangeCache (YieldPermission p) ∷ Say (Downgraded p y.grant y.tag) ∷ [] ])) ≡ p ∷ [])
    go true v x r = inr refl
    go false true x r = inr refl
    go false false true r = inl refl
    go false false false None = inl refl
    go false false false (Some y) = inl refl

record RisingBelow (n : ℕ) (ps : List ℕ) : Type 0 where
  rising : Rising ps
  below : EachBelow n ps

rising_pages : (k : Client) (d : Bool) (n : ℕ) → RisingBelow n (pages_given_back (bodies_said (end_pages k d n)))
rising_pages k d zero = record { rising = tt; below = tt }
rising_pages k d (suc n) = rw split (go (pages_given_back (bodies_said (end_pages k d n))) (rising_pages k d n) (one_page k d n (k.cache.held n)))
  where
    split : pages_given_back (bodies_said (end_pages k d n ++ end_page k d n (k.cache.held n))) ≡ pages_given_back (bodies_said (end_pages k d n)) ++ pages_given_back (bodies_said (end_page k d n (k.cache.held n)))
    split = ap pages_given_back (said_append (end_pages k d n) (end_page k d n (k.cache.held n))) ∙ pages_append (bodies_said (end_pages k d n)) (bodies_said (end_page k d n (k.cache.held n)))

    go : (ps : List ℕ) → RisingBelow n ps → (pages_given_back (bodies_said (end_page k d n (k.cache.held n))) ≡ []) ⊎ (pages_given_back (bodies_said (end_page k d n (k.cache.held n))) ≡ n ∷ []) → RisingBelow (suc n) (ps ++ pages_given_back (bodies_said (end_page k d n (k.cache.held n))))
    go ps r (inl e) = rw (e, append-nil ps) (record { rising = r.rising; below = below_more n (suc n) ps (omega arith) r.below })
    go ps r (inr e) = rw e (record { rising = rising_push n ps r.rising r.below; below = below_push n ps r.below })

-- a drop
drop_ends : (L : Limits) (k : Client) (l : LastOutcome) → ClientKeeps L k → EndsRight k (client_after L.keep_write k (drop_transaction L k l)) (bodies_said (drop_transaction L k l)) EndsDropped
drop_ends L k l h = record {
  back = λ p. all_back L k true p h;
  down = λ p. all_down L k true p h;
  rising = (rising_pages k true L.pages).rising;
  idle = f.status;
  none_due = λ p. ap (λ (x : ℕ → Bool). x p) f.due;
  gone = λ p g i. gone_pages L.keep_write k m true p g L.pages (λ e. grind arith) i;
}
  where
    m : Client
    m = client_after L.keep_write k (EndTransaction l ∷ ChangeCache Abandon ∷ [])

    f : Left m (client_after L.keep_write m (end_pages k true L.pages))
    f = left_pages L.keep_write k m true L.pages

done_ends : (L : Limits) (k : Client) (n : ℕ) → ClientKeeps L k → EndsRight k (client_after L.keep_write k (EndTransaction (Committed n) ∷ ChangeCache (TakeDone n) ∷ end_pages k false L.pages)) (bodies_said (end_pages k false L.pages)) EndsCommitted
done_ends L k n h = record {
  back = λ p. all_back L k false p h;
  down = λ p. all_down L k false p h;
  rising = (rising_pages k false L.pages).rising;
  idle = f.status;
  none_due = λ p. ap (λ (x : ℕ → Bool). x p) f.due;
  gone = λ p g i. gone_pages L.keep_write k m false p g L.pages (λ e. absurd (let z : false ≡ true = e in cc)) i;
}
  where
    m : Client
    m = client_after L.keep_write k (EndTransaction (Committed n) ∷ ChangeCache (TakeDone n) ∷ [])

    f : Left m (client_after L.keep_write m (end_pages k false L.pages))
    f = left_pages L.keep_write k m false L.pages

-- a call
ends_drop_call : (L : Limits) (k : Client) → ClientKeeps L k → EndsRight k (after_input L k (ReceivesCall CallDrop)) (bodies_said (client_steps_at L k (ReceivesCall CallDrop))) (ending L k (ReceivesCall CallDrop))
unfolding call_fault client_call
ends_drop_call L k h = go (first_refusal (open_causes k))
  where
    go : (f : Option ClientFault) → EndsRight k (client_after L.keep_write k (accept_or_refuse L k CallDrop f).steps) (bodies_said (accept_or_refuse L k CallDrop f).steps) (if is_none f then EndsDropped else GoesOn)
    go (Some y) = λ p g d e. call_refused p g d e
      where
        call_refused : (p g : ℕ) → k.due p ≡ true → k.cache.held p ≡ Some g → StaysDue k k [] p g
        call_refused p g d e = ((e, h.due_locked p d), d, refl, λ i. i)
    go None = drop_ends L k Dropped h

ends_call : (L : Limits) (k : Client) (c : Call) → ClientKeeps L k → EndsRight k (after_input L k (ReceivesCall c)) (bodies_said (client_steps_at L k (ReceivesCall c))) (ending L k (ReceivesCall c))
ends_call L k CallDrop h = ends_drop_call L k h
ends_call L k CallHello h = λ p g d e. call_stays L k CallHello p g h d e (λ z. absurd cc)
ends_call L k CallBegin h = λ p g d e. call_stays L k CallBegin p g h d e (λ z. absurd cc)
ends_call L k (CallRead q) h = λ p g d e. call_stays L k (CallRead q) p g h d e (λ z. absurd cc)
ends_call L k (CallWant q) h = λ p g d e. call_stays L k (CallWant q) p g h d e (λ z. absurd cc)
ends_call L k (CallWrite q b) h = λ p g d e. call_stays L k (CallWrite q b) p g h d e (λ z. absurd cc)
ends_call L k CallFinish h = λ p g d e. call_stays L k CallFinish p g h d e (λ z. absurd cc)
ends_call L k CallAgain h = λ p g d e. call_stays L k CallAgain p g h d e (λ z. absurd cc)
ends_call L k (CallPeek q) h = λ p g d e. call_stays L k (CallPeek q) p g h d e (λ z. absurd cc)

-- a message
ends_done : (L : Limits) (k : Client) (t n : ℕ) (let_go : Option ℕ) → ClientKeeps L k → EndsRight k (after_input L k (ReceivesMessage (Done t n) let_go)) (bodies_said (client_steps_at L k (ReceivesMessage (Done t n) let_go))) (ending L k (ReceivesMessage (Done t n) let_go))
unfolding client_take
ends_done L k t n let_go h = go k.cache.welcomed (of_committing_txn k t)
  where
    quiet : EndsRight k k [] GoesOn
    quiet p g d e = ((e, h.due_locked p d), d, refl, λ i. i)

    go : (w r : Bool) → EndsRight k (client_after L.keep_write k (if w then (if r then EndTransaction (Committed n) ∷ ChangeCache (TakeDone n) ∷ end_pages k false L.pages else []) else [])) (bodies_said (if w then (if r then EndTransaction (Committed n) ∷ ChangeCache (TakeDone n) ∷ end_pages k false L.pages else []) else [])) (if w && r then EndsCommitted else GoesOn)
    go true true = done_ends L k n h
    go true false = quiet
    go false r = quiet

ends_abort : (L : Limits) (k : Client) (t : ℕ) (let_go : Option ℕ) → ClientKeeps L k → EndsRight k (after_input L k (ReceivesMessage (AbortNow t) let_go)) (bodies_said (client_steps_at L k (ReceivesMessage (AbortNow t) let_go))) (ending L k (ReceivesMessage (AbortNow t) let_go))
unfolding client_take
ends_abort L k t let_go h = go k.cache.welcomed (of_open_txn k t)
  where
    quiet : EndsRight k k [] GoesOn
    quiet p g d e = ((e, h.due_locked p d), d, refl, λ i. i)

    go : (w r : Bool) → EndsRight k (client_after L.keep_write k (if w then (if r then drop_transaction L k Aborted else []) else [])) (bodies_said (if w then (if r then drop_transaction L k Aborted else []) else [])) (if w && r then EndsDropped else GoesOn)
    go true true = drop_ends L k Aborted h
    go true false = quiet
    go false r = quiet

ends_message : (L : Limits) (k : Client) (b : Body) (let_go : Option ℕ) → ClientKeeps L k → EndsRight k (after_input L k (ReceivesMessage b let_go)) (bodies_said (client_steps_at L k (ReceivesMessage b let_go))) (ending L k (ReceivesMessage b let_go))
ends_message L k (Done t n) let_go h = ends_done L k t n let_go h
ends_message L k (AbortNow t) let_go h = ends_abort L k t let_go h
ends_message L k b let_go h = λ p g d e. message_stays L k b let_go p g h d e refl

pub in_use_given_back_once : (L : Limits) (Allowed : ClientInput → Type 0) → InUseGivenBackOnce L Allowed
in_use_given_back_once L Allowed k a = record { due = λ p e. due_reading L k p (tidy L Allowed k a) e; ends = ends }
  where
    ends : (i : ClientInput) → EndsRight k (after_input L k i) (bodies_said (client_steps_at L k i)) (ending L k i)
    ends (ReceivesCall c) = ends_call L k c (tidy L Allowed k a)
    ends (ReceivesMessage b let_go) = ends_message L k b let_go (tidy L Allowed k a)
