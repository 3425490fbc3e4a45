-- What each call and message makes of a client's transaction: it goes on, begins, commits or ends. And that its last outcome names the transaction that ended.
use Rattle.std.proofs.Common.{Bool, List, None, Option, Some, [], ap, arith, false, if◌then◌else◌, refl, subst, sym, true, ℕ, ◌&&◌, ◌++◌, ◌+◌, ◌-◌, ◌∙◌, ◌∷◌, ◌≡◌, ◌≢◌}
use Rattle.std.specs.Prelude.{⊤}
use Rattle.cb_protocol.proofs.ClientInvariant.{only_again, says_same}
use Rattle.cb_protocol.specs.Answers.{ClientFault}
use Rattle.cb_protocol.specs.Basics.{Limits}
use Rattle.cb_protocol.specs.Cache.{Abandon, Committing, Idle, Open, TakeDone, TransactionState, is_committing, is_idle}
use Rattle.cb_protocol.specs.Client.{Aborted, ChangeCache, Client, ClientStep, Committed, Dropped, EndTransaction, LastOutcome, MarkDue, MarkDueDowngrade, MarkWanted, NoneEnded, Say, SetAsk, client_after}
use Rattle.cb_protocol.specs.ClientAlone.{ClientInput, ReceivesCall, ReceivesMessage}
use Rattle.cb_protocol.specs.ClientCalls.{Call, CallAgain, CallBegin, CallDrop, CallFinish, CallHello, CallPeek, CallRead, CallWant, CallWrite, accept_call, accept_or_refuse, call_fault, causes, client_again, client_call, first_refusal, open_causes, say_ask, say_commit, say_drop}
use Rattle.cb_protocol.specs.ClientEnd.{end_pages}
use Rattle.cb_protocol.specs.ClientMessages.{client_take, of_committing_txn, of_open_txn, take_welcomed}
use Rattle.cb_protocol.specs.ClientEnd.{drop_transaction}
use Rattle.cb_protocol.specs.Messages.{AbortNow, Body, Commit, Done, Drop, Hello, Welcome}
use Rattle.cb_laws.proofs.TransactionRests.{EndsNothing, Rests, SameTransaction, rest_append}
use Rattle.cb_laws.proofs.TransactionRests.{rest_ask, rest_drop, rest_end_pages, rest_hears}
use Rattle.cb_laws.proofs.TransactionRests.{rest_read, rest_want, rests_same, same_of}
use Rattle.cb_laws.specs.Outcomes.{EndsSo, OutcomeAfter, OutcomesNameTransactions, last_ended}

-- each Commit said is of such a transaction
abbrev pub CommitsSaid : (ℕ → Type 0) → List ClientStep → Type 0
CommitsSaid Q [] = ⊤
CommitsSaid Q (Say (Commit t ws) ∷ steps) = Q t × CommitsSaid Q steps
CommitsSaid Q (_ ∷ steps) = CommitsSaid Q steps

rests_say : (Q : ℕ → Type 0) (steps : List ClientStep) → Rests steps → CommitsSaid Q steps
rests_say Q [] a = tt
rests_say Q (Say (Commit t ws) ∷ steps) a = absurd a.0
rests_say Q (Say b ∷ steps) a = rests_say Q steps a.1
rests_say Q (ChangeCache m ∷ steps) a = rests_say Q steps a.1
rests_say Q (SetAsk x ∷ steps) a = rests_say Q steps a
rests_say Q (MarkWanted p ∷ steps) a = rests_say Q steps a
rests_say Q (MarkDue p ∷ steps) a = rests_say Q steps a
rests_say Q (MarkDueDowngrade p y ∷ steps) a = rests_say Q steps a
rests_say Q (EndTransaction l ∷ steps) a = absurd a

rests_then : (Q : ℕ → Type 0) (xs ys : List ClientStep) → Rests xs → CommitsSaid Q ys → CommitsSaid Q (xs ++ ys)
rests_then Q [] ys a b = b
rests_then Q (Say (Commit t ws) ∷ xs) ys a b = absurd a.0
rests_then Q (Say y ∷ xs) ys a b = rests_then Q xs ys a.1 b
rests_then Q (ChangeCache m ∷ xs) ys a b = rests_then Q xs ys a.1 b
rests_then Q (SetAsk x ∷ xs) ys a b = rests_then Q xs ys a b
rests_then Q (MarkWanted p ∷ xs) ys a b = rests_then Q xs ys a b
rests_then Q (MarkDue p ∷ xs) ys a b = rests_then Q xs ys a b
rests_then Q (MarkDueDowngrade p y ∷ xs) ys a b = rests_then Q xs ys a b
rests_then Q (EndTransaction l ∷ xs) ys a b = absurd a

-- that transaction is committing
abbrev pub Current : Client → ℕ → Type 0
Current l t = (t ≡ l.cache.number) × (l.cache.status ≡ Committing)

abbrev pub NotEnded : Client → ClientInput → Type 0
NotEnded k i = (o : LastOutcome) → EndsSo k i o → ⊥

-- What an input makes of client k, which is l after it.
pub data Turned (k : Client) (i : ClientInput) (steps : List ClientStep) (l : Client) : Type 0 where
  Stays : NotEnded k i → SameTransaction k l → CommitsSaid (Current l) steps → Turned k i steps l
  Begins : NotEnded k i → k.cache.welcomed ≡ true → k.cache.status ≡ Idle → l.cache.number ≡ k.cache.number + 1 → l.cache.status ≡ Open → l.last_outcome ≡ k.last_outcome → CommitsSaid (Current l) steps → Turned k i steps l
  Finishes : NotEnded k i → k.cache.status ≡ Open → l.cache.number ≡ k.cache.number → l.cache.status ≡ Committing → l.last_outcome ≡ k.last_outcome → CommitsSaid (Current l) steps → Turned k i steps l
  EndsAs : (o : LastOutcome) → EndsSo k i o → l.cache.number ≡ k.cache.number → l.cache.status ≡ Idle → l.last_outcome ≡ o → CommitsSaid (Current l) steps → Turned k i steps l

rests_turned : (kw : Bool) (k : Client) (i : ClientInput) (steps : List ClientStep) → NotEnded k i → Rests steps → Turned k i steps (client_after kw k steps)
rests_turned kw k i steps n r = Stays n (rests_same kw k steps r) (rests_say (Current (client_after kw k steps)) steps r)

not_call : (k : Client) (c : Call) → c ≢ CallDrop → NotEnded k (ReceivesCall c)
not_call k c n o e = go c o n e
  where
    go : (c : Call) (o : LastOutcome) → (c ≡ CallDrop → ⊥) → EndsSo k (ReceivesCall c) o → ⊥
    go CallDrop o n e = n refl
    go _ o n e = e

-- an accepted call other than a drop
accepted_turned : (L : Limits) (k : Client) (c : Call) → (c ≡ CallDrop → ⊥) → first_refusal (causes L k c) ≡ None → Turned k (ReceivesCall c) (accept_call L k c).steps (client_after L.keep_write k (accept_call L k c).steps)
accepted_turned L k CallHello n f = rests_turned L.keep_write k (ReceivesCall CallHello) (Say Hello ∷ []) (not_call k CallHello n) (tt, tt)
accepted_turned L k CallBegin n f = Begins (not_call k CallBegin n) welcomed idle refl refl refl tt
  where
    welcomed : k.cache.welcomed ≡ true
    welcomed = grind arith

    idle : k.cache.status ≡ Idle
    idle = grind arith
accepted_turned L k (CallRead p) n f = rests_turned L.keep_write k (ReceivesCall (CallRead p)) (accept_call L k (CallRead p)).steps (not_call k (CallRead p) n) (rest_read L k p)
accepted_turned L k (CallWant p) n f = rests_turned L.keep_write k (ReceivesCall (CallWant p)) (accept_call L k (CallWant p)).steps (not_call k (CallWant p) n) (rest_want L k p)
accepted_turned L k (CallWrite p b) n f = rests_turned L.keep_write k (ReceivesCall (CallWrite p b)) (accept_call L k (CallWrite p b)).steps (not_call k (CallWrite p b) n) (tt, tt)
accepted_turned L k CallFinish n f = Finishes (not_call k CallFinish n) is_now refl refl refl ((refl, refl), tt)
  where
    is_now : k.cache.status ≡ Open
    is_now = grind arith
accepted_turned L k CallDrop n f = absurd (n refl)
accepted_turned L k CallAgain n f = Stays (not_call k CallAgain n) same said
  where
    said_if : (l : Client) (r u : Bool) → is_committing k.cache.status ≡ u → SameTransaction k l → CommitsSaid (Current l) (if r then say_drop k k.last_outcome ++ (say_ask k k.ask ++ (if u then say_commit L k else [])) else Say Hello ∷ [])
    said_if l false u e s = tt
    said_if l true u e s = rests_then (Current l) (say_drop k k.last_outcome) _ (rest_drop k k.last_outcome) (rests_then (Current l) (say_ask k k.ask) _ (rest_ask k k.ask) (commit u e))
      where
        committing : is_committing k.cache.status ≡ true → l.cache.status ≡ Committing
        committing e = s.status ∙ grind arith

        commit : (u : Bool) → is_committing k.cache.status ≡ u → CommitsSaid (Current l) (if u then say_commit L k else [])
        commit true e = ((sym s.number, committing e), tt)
        commit false e = tt

    same : SameTransaction k (client_after L.keep_write k (client_again L k))
    same = subst (λ (l : Client). SameTransaction k l) (sym (says_same L.keep_write k (client_again L k) (only_again L k))) (same_of k)

    said : CommitsSaid (Current (client_after L.keep_write k (client_again L k))) (client_again L k)
    said = said_if (client_after L.keep_write k (client_again L k)) k.cache.welcomed (is_committing k.cache.status) refl same
accepted_turned L k (CallPeek p) n f = rests_turned L.keep_write k (ReceivesCall (CallPeek p)) [] (not_call k (CallPeek p) n) tt

other_turned : (L : Limits) (k : Client) (c : Call) → (c ≡ CallDrop → ⊥) → Turned k (ReceivesCall c) (client_call L k c).steps (client_after L.keep_write k (client_call L k c).steps)
unfolding call_fault client_call
other_turned L k c n = go (first_refusal (causes L k c)) refl
  where
    go : (f : Option ClientFault) → first_refusal (causes L k c) ≡ f → Turned k (ReceivesCall c) (accept_or_refuse L k c f).steps (client_after L.keep_write k (accept_or_refuse L k c f).steps)
    go (Some y) f = rests_turned L.keep_write k (ReceivesCall c) [] (not_call k c n) tt
    go None f = accepted_turned L k c n f

-- a transaction that ends, and the pages at its end
ends_turned : (kw : Bool) (k l : Client) (i : ClientInput) (o : LastOutcome) (first : List ClientStep) (d : Bool) (n : ℕ) → EndsSo k i o → Rests first → l.cache.number ≡ k.cache.number → l.cache.status ≡ Idle → l.last_outcome ≡ o
    → (steps : List ClientStep) (m : Client) → m ≡ client_after kw l (first ++ end_pages k d n) → CommitsSaid (Current m) steps → Turned k i steps m
ends_turned kw k l i o first d n e f a b c steps m q s = let r = rests_same kw l (first ++ end_pages k d n) (rest_append first (end_pages k d n) f (rest_end_pages k d n)) in
    EndsAs o e (ap (λ (x : Client). x.cache.number) q ∙ (r.number ∙ a)) (ap (λ (x : Client). x.cache.status) q ∙ (r.status ∙ b)) (ap (λ (x : Client). x.last_outcome) q ∙ (r.outcome ∙ c)) s

-- the transaction is dropped, by its client or by the server
drops_turned : (L : Limits) (k : Client) (i : ClientInput) (o : LastOutcome) → EndsSo k i o → Turned k i (drop_transaction L k o) (client_after L.keep_write k (drop_transaction L k o))
drops_turned L k i o e = ends_turned L.keep_write k (client_after L.keep_write k (EndTransaction o ∷ ChangeCache Abandon ∷ [])) i o (Say (Drop k.cache.number) ∷ []) true L.pages e (tt, tt) refl refl refl (drop_transaction L k o) (client_after L.keep_write k (drop_transaction L k o)) refl
    (rests_say (Current (client_after L.keep_write k (drop_transaction L k o))) (end_pages k true L.pages) (rest_end_pages k true L.pages))

drop_turned : (L : Limits) (k : Client) → Turned k (ReceivesCall CallDrop) (client_call L k CallDrop).steps (client_after L.keep_write k (client_call L k CallDrop).steps)
unfolding call_fault client_call
drop_turned L k = go (first_refusal (open_causes k)) refl
  where
    welcomed : first_refusal (open_causes k) ≡ None → k.cache.welcomed ≡ true
    welcomed e = grind arith

    running : first_refusal (open_causes k) ≡ None → k.cache.status ≡ Open
    running e = grind arith

    refused : (y : ClientFault) → first_refusal (open_causes k) ≡ Some y → k.cache.welcomed ≡ true → k.cache.status ≡ Open → ⊥
    refused y e w s = grind arith

    other : (y : ClientFault) → first_refusal (open_causes k) ≡ Some y → NotEnded k (ReceivesCall CallDrop)
    other y e Dropped x = refused y e x.0 x.1
    other y e NoneEnded x = x
    other y e (Committed n) x = x
    other y e Aborted x = x

    go : (f : Option ClientFault) → first_refusal (open_causes k) ≡ f → Turned k (ReceivesCall CallDrop) (accept_or_refuse L k CallDrop f).steps (client_after L.keep_write k (accept_or_refuse L k CallDrop f).steps)
    go (Some y) f = rests_turned L.keep_write k (ReceivesCall CallDrop) [] (other y f) tt
    go None f = drops_turned L k (ReceivesCall CallDrop) Dropped (welcomed f, running f)

pub call_turned : (L : Limits) (k : Client) (c : Call) → Turned k (ReceivesCall c) (client_call L k c).steps (client_after L.keep_write k (client_call L k c).steps)
call_turned L k CallDrop = drop_turned L k
call_turned L k CallHello = other_turned L k CallHello (λ e. absurd cc)
call_turned L k CallBegin = other_turned L k CallBegin (λ e. absurd cc)
call_turned L k (CallRead p) = other_turned L k (CallRead p) (λ e. absurd cc)
call_turned L k (CallWant p) = other_turned L k (CallWant p) (λ e. absurd cc)
call_turned L k (CallWrite p b) = other_turned L k (CallWrite p b) (λ e. absurd cc)
call_turned L k CallFinish = other_turned L k CallFinish (λ e. absurd cc)
call_turned L k CallAgain = other_turned L k CallAgain (λ e. absurd cc)
call_turned L k (CallPeek p) = other_turned L k (CallPeek p) (λ e. absurd cc)

-- messages
done_turned : (L : Limits) (k : Client) (t n : ℕ) (let_go : Option ℕ) → Turned k (ReceivesMessage (Done t n) let_go) (client_take L k (Done t n) let_go) (client_after L.keep_write k (client_take L k (Done t n) let_go))
unfolding client_take
done_turned L k t n let_go = go k.cache.welcomed (of_committing_txn k t) refl refl
  where
    steps : List ClientStep
    steps = EndTransaction (Committed n) ∷ ChangeCache (TakeDone n) ∷ end_pages k false L.pages

    so : k.cache.welcomed ≡ true → of_committing_txn k t ≡ true → EndsSo k (ReceivesMessage (Done t n) let_go) (Committed n)
    so w e = (w, grind arith, grind arith, refl)

    other : (r u : Bool) → k.cache.welcomed ≡ r → of_committing_txn k t ≡ u → (r && u) ≡ false → NotEnded k (ReceivesMessage (Done t n) let_go)
    other r u w e f NoneEnded x = x
    other r u w e f Dropped x = x
    other r u w e f Aborted x = x
    other r u w e f (Committed m) x = let a = x.0 in let b = x.1 in let c = x.2 in grind (arith, a, b, c)

    go : (r u : Bool) → k.cache.welcomed ≡ r → of_committing_txn k t ≡ u
        → Turned k (ReceivesMessage (Done t n) let_go) (if r then (if u then steps else []) else []) (client_after L.keep_write k (if r then (if u then steps else []) else []))
    go true true w e = ends_turned L.keep_write k (client_after L.keep_write k (EndTransaction (Committed n) ∷ ChangeCache (TakeDone n) ∷ [])) (ReceivesMessage (Done t n) let_go) (Committed n) [] false L.pages (so w e) tt refl refl refl steps (client_after L.keep_write k steps) refl
        (rests_say (Current (client_after L.keep_write k steps)) (end_pages k false L.pages) (rest_end_pages k false L.pages))
    go true false w e = rests_turned L.keep_write k (ReceivesMessage (Done t n) let_go) [] (other true false w e refl) tt
    go false u w e = rests_turned L.keep_write k (ReceivesMessage (Done t n) let_go) [] (other false u w e refl) tt

abort_turned : (L : Limits) (k : Client) (t : ℕ) (let_go : Option ℕ) → Turned k (ReceivesMessage (AbortNow t) let_go) (client_take L k (AbortNow t) let_go) (client_after L.keep_write k (client_take L k (AbortNow t) let_go))
unfolding client_take
abort_turned L k t let_go = go k.cache.welcomed (of_open_txn k t) refl refl
  where
    so : k.cache.welcomed ≡ true → of_open_txn k t ≡ true → EndsSo k (ReceivesMessage (AbortNow t) let_go) Aborted
    so w e = (w, grind arith, grind arith)

    other : (r u : Bool) → k.cache.welcomed ≡ r → of_open_txn k t ≡ u → (r && u) ≡ false → NotEnded k (ReceivesMessage (AbortNow t) let_go)
    other r u w e f NoneEnded x = x
    other r u w e f Dropped x = x
    other r u w e f (Committed m) x = x
    other r u w e f Aborted x = let a = x.0 in let b = x.1 in let c = x.2 in grind (arith, a, b, c)

    go : (r u : Bool) → k.cache.welcomed ≡ r → of_open_txn k t ≡ u
        → Turned k (ReceivesMessage (AbortNow t) let_go) (if r then (if u then drop_transaction L k Aborted else []) else []) (client_after L.keep_write k (if r then (if u then drop_transaction L k Aborted else []) else []))
    go true true w e = drops_turned L k (ReceivesMessage (AbortNow t) let_go) Aborted (so w e)
    go true false w e = rests_turned L.keep_write k (ReceivesMessage (AbortNow t) let_go) [] (other true false w e refl) tt
    go false u w e = rests_turned L.keep_write k (ReceivesMessage (AbortNow t) let_go) [] (other false u w e refl) tt

not_message : (k : Client) (y : Body) (let_go : Option ℕ) → EndsNothing y → NotEnded k (ReceivesMessage y let_go)
not_message k (Done t n) let_go a o x = a
not_message k (AbortNow t) let_go a o x = a
not_message k _ let_go a o x = x

rests_message : (L : Limits) (k : Client) (y : Body) (let_go : Option ℕ) → EndsNothing y → Rests (client_take L k y let_go)
unfolding client_take
rests_message L k Welcome let_go a = (tt, tt)
rests_message L k y let_go a = go k.cache.welcomed
  where
    go : (q : Bool) → Rests (if q then take_welcomed L k y let_go else [])
    go true = rest_hears L k y let_go a
    go false = tt

pub message_turned : (L : Limits) (k : Client) (y : Body) (let_go : Option ℕ) → Turned k (ReceivesMessage y let_go) (client_take L k y let_go) (client_after L.keep_write k (client_take L k y let_go))
message_turned L k (Done t n) let_go = done_turned L k t n let_go
message_turned L k (AbortNow t) let_go = abort_turned L k t let_go
message_turned L k y let_go = rests_turned L.keep_write k (ReceivesMessage y let_go) (client_take L k y let_go) (not_message k y let_go tt) (rests_message L k y let_go tt)

-- the transaction that the last outcome is of
pub last_idle : (k : Client) → k.cache.status ≡ Idle → last_ended k ≡ k.cache.number
last_idle k e = grind arith

pub last_busy : (k : Client) → (k.cache.status ≡ Idle → ⊥) → last_ended k ≡ k.cache.number - 1
last_busy k f = go k.cache.status f
  where
    go : (s : TransactionState) → (s ≡ Idle → ⊥) → (if is_idle s then k.cache.number else k.cache.number - 1) ≡ k.cache.number - 1
    go Idle f = absurd (f refl)
    go Open f = refl
    go Committing f = refl

pub last_same : (k l : Client) → SameTransaction k l → last_ended l ≡ last_ended k
last_same k l s = ap (λ (x : TransactionState). if is_idle x then l.cache.number else l.cache.number - 1) s.status ∙ ap (λ (n : ℕ). if is_idle k.cache.status then n else n - 1) s.number

pub last_began : (k l : Client) → k.cache.status ≡ Idle → l.cache.number ≡ k.cache.number + 1 → l.cache.status ≡ Open → last_ended l ≡ last_ended k
last_began k l a b c = last_busy l (λ e. absurd (let z : Open ≡ Idle = sym c ∙ e in cc)) ∙ (omega (arith, b) ∙ sym (last_idle k a))

pub last_finished : (k l : Client) → k.cache.status ≡ Open → l.cache.number ≡ k.cache.number → l.cache.status ≡ Committing → last_ended l ≡ last_ended k
last_finished k l a b c = last_busy l (λ e. absurd (let z : Committing ≡ Idle = sym c ∙ e in cc)) ∙ (ap (λ (n : ℕ). n - 1) b ∙ sym (last_busy k (λ e. absurd (let z : Open ≡ Idle = sym a ∙ e in cc))))

-- an input ends a transaction in one way
abbrev the_outcome : ClientInput → LastOutcome
the_outcome (ReceivesMessage (Done t n) let_go) = Committed n
the_outcome (ReceivesMessage (AbortNow t) let_go) = Aborted
the_outcome (ReceivesCall CallDrop) = Dropped
the_outcome _ = NoneEnded

is_the_outcome : (k : Client) (i : ClientInput) (o : LastOutcome) → EndsSo k i o → o ≡ the_outcome i
is_the_outcome k (ReceivesMessage (Done t n) let_go) (Committed x) a = ap (λ (z : ℕ). Committed z) a.3
is_the_outcome k (ReceivesMessage (AbortNow t) let_go) Aborted a = refl
is_the_outcome k (ReceivesCall CallDrop) Dropped a = refl
is_the_outcome k i o a = absurd a

one_end : (k : Client) (i : ClientInput) (o p : LastOutcome) → EndsSo k i o → EndsSo k i p → p ≡ o
one_end k i o p a b = is_the_outcome k i p b ∙ sym (is_the_outcome k i o a)

outcome_after : (k l : Client) (i : ClientInput) (steps : List ClientStep) → Turned k i steps l → OutcomeAfter k l i
outcome_after k l i steps (Stays n s c) = record { ends = λ o e. absurd (n o e); stays = λ f. (s.outcome, last_same k l s) }
outcome_after k l i steps (Begins n w a b c d e) = record { ends = λ o x. absurd (n o x); stays = λ f. (d, last_began k l a b c) }
outcome_after k l i steps (Finishes n a b c d e) = record { ends = λ o x. absurd (n o x); stays = λ f. (d, last_finished k l a b c) }
outcome_after k l i steps (EndsAs o x a b c d) = record { ends = λ p y. (c ∙ one_end k i p o y x, last_idle l b ∙ a, b); stays = λ f. absurd (f o x) }

pub outcomes_name_transactions : (L : Limits) → OutcomesNameTransactions L
outcomes_name_transactions L k (ReceivesCall c) = outcome_after k _ (ReceivesCall c) (client_call L k c).steps (call_turned L k c)
outcomes_name_transactions L k (ReceivesMessage y let_go) = outcome_after k _ (ReceivesMessage y let_go) (client_take L k y let_go) (message_turned L k y let_go)
