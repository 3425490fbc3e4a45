-- What holds of a client beside its cache, and what steps keep it.
use Rattle.std.proofs.Common.{Bool, List, None, Option, Some, [], arith, false, if◌then◌else◌, refl, suc, true, zero, ℕ, ◌&&◌, ◌++◌, ◌<◌, ◌||◌, ◌∙◌, ◌∷◌, ◌≡◌}
use Rattle.std.specs.Prelude.{⊤}
use Rattle.cb_protocol.specs.Cache.{Cache, CacheChange, Finish, Abandon, LetGo, MakeBare, Open, WriteBytes, RefuseGrant, TakeDone, TakePermission, YieldPermission, cache_after}
use Rattle.cb_protocol.specs.Client.{ClientStep, SetAsk, Client, EndTransaction, ChangeCache, DueDowngrade, MarkDue, MarkDueDowngrade, ReadAsk, Say, MarkWanted, WriteAsk, client_after, asks_to_write, after_client_step, is_asking, new_client}
use Rattle.cb_protocol.specs.ClientEnd.{end_page, end_pages, give_back}
use Rattle.cb_protocol.specs.ClientMessages.{let_page_go}
use Rattle.cb_protocol.specs.Basics.{Limits, is_none}
use Rattle.cb_protocol.specs.Messages.{Body, Downgrade, Downgraded, GiveBack}
use Rattle.cb_protocol.specs.Server.{after_first}

pub record Ready (L : Limits) (Came : Body → Type 0) (k : Client) : Type 0 where
  pub asking : is_asking k.ask ≡ true → k.cache.status ≡ Open
  pub ask_may : (p : ℕ) → asks_to_write k.ask p ≡ true → k.cache.may_write p ≡ false
  pub within : (p : ℕ) → k.cache.wrote p ≡ true → p < L.pages
  pub due_downgrade : (p : ℕ) (y : DueDowngrade) → k.due_downgrade p ≡ Some y → Came (Downgrade p y.grant y.tag)

-- what a step needs to keep it
abbrev pub Fits : Limits → (Body → Type 0) → Client → ClientStep → Type 0
Fits L Came k (ChangeCache (WriteBytes p b)) = p < L.pages
Fits L Came k (ChangeCache (TakePermission p)) = is_asking k.ask ≡ false
Fits L Came k (ChangeCache Finish) = is_asking k.ask ≡ false
Fits L Came k (ChangeCache Abandon) = is_asking k.ask ≡ false
Fits L Came k (ChangeCache (TakeDone n)) = is_asking k.ask ≡ false
Fits L Came k (SetAsk (ReadAsk p)) = k.cache.status ≡ Open
Fits L Came k (SetAsk (WriteAsk p)) = (k.cache.status ≡ Open) × (k.cache.may_write p ≡ false)
Fits L Came k (MarkDueDowngrade p y) = Came (Downgrade p y.grant y.tag)
Fits L Came k _ = ⊤

abbrev pub AllFit : Limits → (Body → Type 0) → Client → List ClientStep → Type 0
AllFit L Came k [] = ⊤
AllFit L Came k (a ∷ steps) = Fits L Came k a × AllFit L Came (after_client_step L.keep_write k a) steps

ready_after : (L : Limits) (Came : Body → Type 0) (k : Client) (a : ClientStep) → Ready L Came k → Fits L Came k a → Ready L Came (after_client_step L.keep_write k a)
ready_after L Came k (ChangeCache m) h f = record { asking = grind (arith, h.asking); ask_may = grind (arith, h.ask_may, h.asking); within = grind (arith, h.within); due_downgrade = h.due_downgrade }
ready_after L Came k (Say b) h f = h
ready_after L Came k (SetAsk a) h f = record { asking = grind arith; ask_may = grind arith; within = h.within; due_downgrade = h.due_downgrade }
ready_after L Came k (MarkWanted p) h f = record { asking = h.asking; ask_may = h.ask_may; within = h.within; due_downgrade = h.due_downgrade }
ready_after L Came k (MarkDue p) h f = record { asking = h.asking; ask_may = h.ask_may; within = h.within; due_downgrade = h.due_downgrade }
ready_after L Came k (MarkDueDowngrade p y) h f = record { asking = h.asking; ask_may = h.ask_may; within = h.within; due_downgrade = λ q z e. grind (arith, h.due_downgrade q z) }
ready_after L Came k (EndTransaction l) h f = record { asking = grind arith; ask_may = grind arith; within = h.within; due_downgrade = λ q z e. absurd cc }

pub ready_all : (L : Limits) (Came : Body → Type 0) (k : Client) (steps : List ClientStep) → Ready L Came k → AllFit L Came k steps → Ready L Came (client_after L.keep_write k steps)
ready_all L Came k [] h f = h
ready_all L Came k (a ∷ steps) h f = ready_all L Came (after_client_step L.keep_write k a) steps (ready_after L Came k a h f.0) f.1

pub ready_more : (L : Limits) (Came Came' : Body → Type 0) (k : Client) → ((b : Body) → Came b → Came' b) → Ready L Came k → Ready L Came' k
ready_more L Came Came' k f h = record { asking = h.asking; ask_may = h.ask_may; within = h.within; due_downgrade = λ p y e. f (Downgrade p y.grant y.tag) (h.due_downgrade p y e) }

pub ready_new : (L : Limits) (Came : Body → Type 0) → Ready L Came new_client
ready_new L Came = record { asking = λ e. absurd cc; ask_may = λ p e. absurd cc; within = λ p e. absurd cc; due_downgrade = λ p y e. absurd cc }

-- steps that only give up pages, and say so
abbrev pub PlainChange : CacheChange → Type 0
PlainChange (LetGo p) = ⊤
PlainChange (MakeBare p) = ⊤
PlainChange (YieldPermission p) = ⊤
PlainChange (RefuseGrant p g) = ⊤
PlainChange _ = ⊥

abbrev pub Plain : List ClientStep → Type 0
Plain [] = ⊤
Plain (ChangeCache m ∷ steps) = PlainChange m × Plain steps
Plain (Say b ∷ steps) = Plain steps
Plain (_ ∷ steps) = ⊥

plain_fits : (L : Limits) (Came : Body → Type 0) (k : Client) (m : CacheChange) → PlainChange m → Fits L Came k (ChangeCache m)
plain_fits L Came k m a = grind arith

pub plain_all : (L : Limits) (Came : Body → Type 0) (k : Client) (steps after_first : List ClientStep) → Plain steps → ((l : Client) → l.ask ≡ k.ask → l.cache.status ≡ k.cache.status → AllFit L Came l after_first) → AllFit L Came k (steps ++ after_first)
plain_all L Came k [] after_first a f = f k refl refl
plain_all L Came k (ChangeCache m ∷ steps) after_first a f = (plain_fits L Came k m a.0, plain_all L Came (after_client_step L.keep_write k (ChangeCache m)) steps after_first a.1 (λ l e q. f l e (q ∙ same_status k.cache m a.0)))
  where
    same_status : (x : Cache) (m : CacheChange) → PlainChange m → (cache_after L.keep_write x m).status ≡ x.status
    same_status x m a = grind arith
plain_all L Came k (Say b ∷ steps) after_first a f = (tt, plain_all L Came k steps after_first a f)
plain_all L Came k (SetAsk x ∷ steps) after_first a f = absurd a
plain_all L Came k (MarkWanted p ∷ steps) after_first a f = absurd a
plain_all L Came k (MarkDue p ∷ steps) after_first a f = absurd a
plain_all L Came k (MarkDueDowngrade p y ∷ steps) after_first a f = absurd a
plain_all L Came k (EndTransaction l ∷ steps) after_first a f = absurd a

pub plain_append : (xs ys : List ClientStep) → Plain xs → Plain ys → Plain (xs ++ ys)
plain_append [] ys a b = b
plain_append (ChangeCache m ∷ xs) ys a b = (a.0, plain_append xs ys a.1 b)
plain_append (Say y ∷ xs) ys a b = plain_append xs ys a b
plain_append (SetAsk x ∷ xs) ys a b = absurd a
plain_append (MarkWanted p ∷ xs) ys a b = absurd a
plain_append (MarkDue p ∷ xs) ys a b = absurd a
plain_append (MarkDueDowngrade p y ∷ xs) ys a b = absurd a
plain_append (EndTransaction l ∷ xs) ys a b = absurd a

pub plain_back : (p : ℕ) (g : Option ℕ) → Plain (give_back p g)
plain_back p None = tt
plain_back p (Some g) = (tt, tt)

pub plain_lets_go : (k : Client) (let_go : Option ℕ) → Plain (let_page_go k let_go)
plain_lets_go k None = tt
plain_lets_go k (Some q) = go (k.cache.locked q)
  where
    go : (r : Bool) → Plain (if r then ChangeCache (MakeBare q) ∷ [] else give_back q (k.cache.held q))
    go true = (tt, tt)
    go false = plain_back q (k.cache.held q)

plain_page : (k : Client) (dropped : Bool) (p : ℕ) (r : Option ℕ) → Plain (end_page k dropped p r)
plain_page k d p None = tt
plain_page k d p (Some g) = go (d && k.cache.wrote p) (k.due p || is_none (k.cache.content p)) d (k.due_downgrade p)
  where
    go : (u v x : Bool) (r : Option DueDowngrade) → Plain (if u then Say (GiveBack p g) ∷ [] else if v then ChangeCache (LetGo p) ∷ Say (GiveBack p g) ∷ [] else if x then [] else elim r [ None ↦ [] | Some y ↦ ChangeCache (YieldPermission p) ∷ Say (Downgraded p y.grant y.tag) ∷ [] ])
    go true v x r = tt
    go false true x r = (tt, tt)
    go false false true r = tt
    go false false false None = tt
    go false false false (Some y) = (tt, tt)

pub plain_pages : (k : Client) (dropped : Bool) (n : ℕ) → Plain (end_pages k dropped n)
plain_pages k d zero = tt
plain_pages k d (suc n) = plain_append (end_pages k d n) _ (plain_pages k d n) (plain_page k d n (k.cache.held n))
