-- What sets and takes in-use marks.
use Rattle.std.proofs.Common.{◌≡◌, ◌∙◌, ℕ, ◌+◌, ◌-◌, ◌<◌, ◌≤◌, Bool, true, false, ◌==◌, ◌&&◌, nat_lt, nat_le, if◌then◌else◌, ◌≢◌, ◌⊎◌, List, [], ◌∷◌, Option, Some, None, ap, arith, refl, sym, subst, inl, inr}
use Rattle.cb_protocol.specs.World.{Opening}
use Rattle.cb_protocol.specs.AnyMessages.{Input, MessageComes, ReachesDisk, SendsAgain, input_steps, AfterInput, Opened, ReachedBy}
use Rattle.cb_protocol.specs.Basics.{is_exactly, Limits}
use Rattle.cb_protocol.specs.Deadlock.{InputInRange, ReachedServer}
use Rattle.cb_protocol.specs.Marks.{Comes, GivesBack, HasLiveTxn, HasAnyRow, MarksLive, MarksSetAndTaken, SameLiveTxn, SaysInUse}
use Rattle.cb_protocol.specs.Messages.{AbortNow, AskRead, AskWrite, Body, Callback, Commit, Done, Downgrade, Downgraded, Drop, GiveBack, Granted, Hello, InUse, MayWrite, Welcome}
use Rattle.cb_protocol.specs.Server.{DeadlockTest, ChangeSession, ForgetTransaction, MarkInUse, Send, Server, ServerStep, UnmarkInUse, server_after}
use Rattle.cb_protocol.specs.ServerMessages.{admit_incarnation, begin_transaction, commit_allowed, direct_answer, named_txn, repeat_done, server_take, take_current}
use Rattle.cb_protocol.specs.Session.{Admit, ApplyCommit, BeginTransaction, DropTransaction, EndPermission, RemoveRow}
use Rattle.cb_protocol.specs.Settling.{send_to, settle_pages}
use Rattle.cb_protocol.specs.StepsKeep.{KeepsClient}
use Rattle.cb_protocol.specs.WaitsFor.{on_cycle}
use Rattle.cb_protocol.proofs.Cases.{serves_current, serves_hello_again, serves_new_hello, serves_no_old_hello, serves_no_other_incarnation}
use Rattle.cb_protocol.proofs.LivePermissions.{AnyMessage, right_input}
use Rattle.cb_protocol.proofs.OthersKeep.{AllGentle, gentle_ask_read, gentle_ask_write, gentle_live, gentle_settles, leaves_all, others_keep_rows_and_permissions}
use Rattle.cb_protocol.proofs.ServerOrder.{Orderly, after_append, orderly_start}

-- of each server that is reached
orderly_by : (L : Limits) (o : Opening) (s : Server) → ReachedBy L on_cycle o InputInRange s → Orderly AnyMessage s
orderly_by L o s Opened = orderly_start AnyMessage L o
orderly_by L o s (AfterInput {server = k} r i f) = (right_input on_cycle k i (orderly_by L o k r) f).1

pub orderly : (s : Server) → ReachedServer s → Orderly AnyMessage s
orderly s r = orderly_by r.0 r.1 s r.2

-- the body says that the page is in use, or gives it back
abbrev Marks : Server → ℕ → Body → ℕ → Type 0
Marks s c b p = (t : ℕ) × ((g : ℕ) × (b ≡ InUse t p g) × ((s.session c).row p ≡ Some g) × ((s.session c).ended < t))

abbrev Returns : Server → ℕ → Body → ℕ → Type 0
Returns s c b p = (g : ℕ) × (b ≡ GiveBack p g) × ((s.session c).row p ≡ Some g)

-- what a direct answer makes of its client's marks
record AnswerMarks (k a : Server) (c : ℕ) (b : Body) : Type 0 where
  current : (a.session c).current ≡ (k.session c).current
  txn : (a.session c).txn ≡ (k.session c).txn
  come : (p : ℕ) → a.in_use c p ≡ true → Marks k c b p ⊎ ((k.in_use c p ≡ true) × ((a.session c).ended ≡ (k.session c).ended) × (Returns k c b p → ⊥))
  set : (p : ℕ) → Marks k c b p → (a.in_use c p ≡ true) × ((a.session c).ended ≡ (k.session c).ended)
  stay : (p : ℕ) → k.in_use c p ≡ true → (a.session c).ended < (a.session c).txn → (Returns k c b p → ⊥) → a.in_use c p ≡ true
  rows : (p g : ℕ) → (Returns k c b p → ⊥) → (k.session c).row p ≡ Some g → (a.session c).row p ≡ Some g

-- an answer that leaves all that its client has
answer_leaves : (k a : Server) (c : ℕ) (b : Body) → KeepsClient k a c → ((p : ℕ) → Marks k c b p → ⊥) → ((p : ℕ) → Returns k c b p → ⊥) → AnswerMarks k a c b
answer_leaves k a c b l m r = record {
  current = l.incarnation;
  txn = l.begun;
  come = λ p e. inr (sym (l.mark p) ∙ e, l.ended, r p);
  set = λ p x. absurd (m p x);
  stay = λ p e u x. l.mark p ∙ e;
  rows = λ p g x e. l.row p g e;
}

-- one that does nothing
answer_gentle : (k : Server) (c : ℕ) (b : Body) (ds : List ServerStep) → AllGentle c k ds → ((p : ℕ) → Marks k c b p → ⊥) → ((p : ℕ) → Returns k c b p → ⊥) → AnswerMarks k (server_after k ds) c b
answer_gentle k c b ds g m r = answer_leaves k (server_after k ds) c b (leaves_all k c ds g) m r

-- one that ends the transaction
answer_ends : (k a : Server) (c : ℕ) (b : Body) → (a.session c).current ≡ (k.session c).current → (a.session c).txn ≡ (k.session c).txn → (a.session c).txn ≤ (a.session c).ended
    → ((p : ℕ) → a.in_use c p ≡ false) → ((p : ℕ) → (a.session c).row p ≡ (k.session c).row p) → ((p : ℕ) → Marks k c b p → ⊥) → AnswerMarks k a c b
answer_ends k a c b i t e f r m = record {
  current = i;
  txn = t;
  come = λ p x. absurd (let z = f p in cc);
  set = λ p x. absurd (m p x);
  stay = λ p x u y. absurd (omega arith);
  rows = λ p g x y. r p ∙ y;
}

no_marks : (c : ℕ) (b : Body) → ((t p g : ℕ) → b ≢ InUse t p g) → (k : Server) (p : ℕ) → Marks k c b p → ⊥
no_marks c b n k p x = n x.0 p x.1.0 x.1.1

no_returns : (c : ℕ) (b : Body) → ((p g : ℕ) → b ≢ GiveBack p g) → (k : Server) (p : ℕ) → Returns k c b p → ⊥
no_returns c b n k p x = n p x.0 x.1

some_is : (r : Option ℕ) (g : ℕ) → is_exactly r g ≡ true → r ≡ Some g
some_is r g e = grind arith

is_some : (r : Option ℕ) (g : ℕ) → r ≡ Some g → is_exactly r g ≡ true
is_some r g e = rw e (grind arith)

answer_gives_back : (k : Server) (c p g : ℕ) → (k.session c).row p ≡ Some g → AnswerMarks k (server_after k (UnmarkInUse c p ∷ ChangeSession c (RemoveRow p g) ∷ [])) c (GiveBack p g)
answer_gives_back k c p g e = record {
  current = grind arith;
  txn = grind arith;
  come = λ q x. inr (marked q x, grind arith, λ y. apart q x (let z : GiveBack p g ≡ GiveBack q y.0 = y.1 in cc));
  set = λ q x. absurd (let z : GiveBack p g ≡ InUse x.0 q x.1.0 = x.1.1 in cc);
  stay = λ q x u n. stays q x (λ z. n (g, ap (λ (y : ℕ). GiveBack y g) (sym z), subst (λ (y : ℕ). (k.session c).row y ≡ Some g) (sym z) e));
  rows = λ q h n x. kept q h x (λ z. n (g, ap (λ (y : ℕ). GiveBack y g) (sym z), subst (λ (y : ℕ). (k.session c).row y ≡ Some g) (sym z) e));
}
  where
    a : Server
    a = server_after k (UnmarkInUse c p ∷ ChangeSession c (RemoveRow p g) ∷ [])

    marked : (q : ℕ) → a.in_use c q ≡ true → k.in_use c q ≡ true
    marked q x = grind arith

    apart : (q : ℕ) → a.in_use c q ≡ true → p ≢ q
    apart q x = grind arith

    stays : (q : ℕ) → k.in_use c q ≡ true → q ≢ p → a.in_use c q ≡ true
    stays q x n = grind arith

    kept : (q h : ℕ) → (k.session c).row q ≡ Some h → q ≢ p → (a.session c).row q ≡ Some h
    kept q h x n = grind arith

answer_in_use : (k : Server) (c t p g : ℕ) → (k.session c).row p ≡ Some g → (k.session c).ended < t → AnswerMarks k (server_after k (MarkInUse c p ∷ [])) c (InUse t p g)
answer_in_use k c t p g e l = record {
  current = refl;
  txn = refl;
  come = λ q x. go q (q == p) refl x;
  set = λ q x. (set q (let z : InUse t p g ≡ InUse x.0 q x.1.0 = x.1.1 in cc), refl);
  stay = λ q x u n. stays q x;
  rows = λ q h n x. x;
}
  where
    a : Server
    a = server_after k (MarkInUse c p ∷ [])

    set : (q : ℕ) → p ≡ q → a.in_use c q ≡ true
    set q z = grind arith

    stays : (q : ℕ) → k.in_use c q ≡ true → a.in_use c q ≡ true
    stays q x = grind arith

    there : (q : ℕ) → (q == p) ≡ true → p ≡ q
    there q f = grind arith

    marked : (q : ℕ) → (q == p) ≡ false → a.in_use c q ≡ true → k.in_use c q ≡ true
    marked q f x = grind arith

    go : (q : ℕ) (r : Bool) → (q == p) ≡ r → a.in_use c q ≡ true → Marks k c (InUse t p g) q ⊎ ((k.in_use c q ≡ true) × ((a.session c).ended ≡ (k.session c).ended) × (Returns k c (InUse t p g) q → ⊥))
    go q true f x = inl (t, (g, ap (λ (y : ℕ). InUse t y g) (there q f), subst (λ (y : ℕ). (k.session c).row y ≡ Some g) (there q f) e, l))
    go q false f x = inr (marked q f x, refl, λ y. absurd (let z : InUse t p g ≡ GiveBack q y.0 = y.1 in cc))

-- a message that changes nothing, and neither marks nor gives back
answer_none : (k : Server) (c : ℕ) (b : Body) → ((p : ℕ) → Marks k c b p → ⊥) → ((p : ℕ) → Returns k c b p → ⊥) → AnswerMarks k k c b
answer_none k c b m r = answer_gentle k c b [] tt m r

answer_marks : (cycle : DeadlockTest) (k : Server) (c : ℕ) (b : Body) → (k.session c).txn ≤ (k.session c).ended + 1 → AnswerMarks k (server_after k (direct_answer cycle k c b)) c b
answer_marks cycle k c (AskRead t p) e = answer_gentle k c (AskRead t p) _ (gentle_live c k c t _ (gentle_ask_read c cycle k c p ((k.session c).row p))) (no_marks c (AskRead t p) (λ x y z f. cc) k) (no_returns c (AskRead t p) (λ y z f. cc) k)
answer_marks cycle k c (AskWrite t p g) e = answer_gentle k c (AskWrite t p g) _ (gentle_live c k c t _ (gentle_ask_write c cycle k c p g)) (no_marks c (AskWrite t p g) (λ x y z f. cc) k) (no_returns c (AskWrite t p g) (λ y z f. cc) k)
answer_marks cycle k c (GiveBack p g) e = go (is_exactly ((k.session c).row p) g) refl
  where
    go : (r : Bool) → is_exactly ((k.session c).row p) g ≡ r → AnswerMarks k (server_after k (if r then UnmarkInUse c p ∷ ChangeSession c (RemoveRow p g) ∷ [] else [])) c (GiveBack p g)
    go true f = answer_gives_back k c p g (some_is ((k.session c).row p) g f)
    go false f = answer_none k c (GiveBack p g) (no_marks c (GiveBack p g) (λ x y z u. cc) k) (λ q x. wrong q x)
      where
        wrong : (q : ℕ) → Returns k c (GiveBack p g) q → ⊥
        wrong q x = let z : GiveBack p g ≡ GiveBack q x.0 = x.1 in let u : p ≡ q = cc in let v : g ≡ x.0 = cc in
            let w : (k.session c).row p ≡ Some g = rw (u, v) x.2 in let y = is_some ((k.session c).row p) g w in cc
answer_marks cycle k c (InUse t p g) e = go (nat_lt (k.session c).ended t) refl (is_exactly ((k.session c).row p) g) refl
  where
    below : nat_lt (k.session c).ended t ≡ true → (k.session c).ended < t
    below u = grind arith

    above : nat_lt (k.session c).ended t ≡ false → t ≤ (k.session c).ended
    above u = grind arith

    old : nat_lt (k.session c).ended t ≡ false → (q : ℕ) → Marks k c (InUse t p g) q → ⊥
    old u q x = let z : InUse t p g ≡ InUse x.0 q x.1.0 = x.1.1 in let y : t ≡ x.0 = cc in let v = above u in let w = x.1.3 in absurd (omega arith)

    wrong : is_exactly ((k.session c).row p) g ≡ false → (q : ℕ) → Marks k c (InUse t p g) q → ⊥
    wrong f q x = let z : InUse t p g ≡ InUse x.0 q x.1.0 = x.1.1 in let u : p ≡ q = cc in let v : g ≡ x.1.0 = cc in
        let w : (k.session c).row p ≡ Some g = rw (u, v) x.1.2 in let y = is_some ((k.session c).row p) g w in cc

    go : (r : Bool) → nat_lt (k.session c).ended t ≡ r → (u : Bool) → is_exactly ((k.session c).row p) g ≡ u → AnswerMarks k (server_after k (if r && u then MarkInUse c p ∷ [] else [])) c (InUse t p g)
    go true u true f = answer_in_use k c t p g (some_is ((k.session c).row p) g f) (below u)
    go true u false f = answer_none k c (InUse t p g) (wrong f) (no_returns c (InUse t p g) (λ y z v. cc) k)
    go false u r f = answer_none k c (InUse t p g) (old u) (no_returns c (InUse t p g) (λ y z v. cc) k)
answer_marks cycle k c (Commit t ws) e = go (nat_lt (k.session c).ended t) refl (k.doomed c) (commit_allowed k c ws) (t == (k.session c).ended)
  where
    m : (p : ℕ) → Marks k c (Commit t ws) p → ⊥
    m = no_marks c (Commit t ws) (λ x y z f. cc) k

    n : (p : ℕ) → Returns k c (Commit t ws) p → ⊥
    n = no_returns c (Commit t ws) (λ y z f. cc) k

    says : (ds : List ServerStep) → AllGentle c k ds → AnswerMarks k (server_after k ds) c (Commit t ws)
    says ds g = answer_gentle k c (Commit t ws) ds g m n

    again : (r : Option ℕ) → AllGentle c k (repeat_done k c t r)
    again None = tt
    again (Some x) = flush (nat_le x k.flushed)
      where
        flush : (r : Bool) → AllGentle c k (if r then send_to k c (Done t x) ∷ [] else [])
        flush true = (tt, tt)
        flush false = tt

    a : Server
    a = server_after k (ForgetTransaction c ∷ ChangeSession c (ApplyCommit t ws) ∷ [])

    over : nat_lt (k.session c).ended t ≡ true → (a.session c).txn ≤ (a.session c).ended
    over u = grind arith

    go : (r : Bool) → nat_lt (k.session c).ended t ≡ r → (u v y : Bool) → AnswerMarks k (server_after k (if r
        then (if u then send_to k c (AbortNow t) ∷ [] else if v then ForgetTransaction c ∷ ChangeSession c (ApplyCommit t ws) ∷ [] else [])
        else if y then repeat_done k c t (k.outcome c) else [])) c (Commit t ws)
    go true f true v y = says (send_to k c (AbortNow t) ∷ []) (tt, tt)
    go true f false true y = answer_ends k a c (Commit t ws) (grind arith) (grind arith) (over f) (λ p. grind arith) (λ p. grind arith) m
    go true f false false y = says [] tt
    go false f u v true = says (repeat_done k c t (k.outcome c)) (again (k.outcome c))
    go false f u v false = says [] tt
answer_marks cycle k c (Drop t) e = go (nat_lt (k.session c).ended t) refl
  where
    m : (p : ℕ) → Marks k c (Drop t) p → ⊥
    m = no_marks c (Drop t) (λ x y z f. cc) k

    a : Server
    a = server_after k (ForgetTransaction c ∷ ChangeSession c (DropTransaction t) ∷ [])

    over : nat_lt (k.session c).ended t ≡ true → (a.session c).txn ≤ (a.session c).ended
    over u = grind arith

    go : (r : Bool) → nat_lt (k.session c).ended t ≡ r → AnswerMarks k (server_after k (if r then ForgetTransaction c ∷ ChangeSession c (DropTransaction t) ∷ [] else [])) c (Drop t)
    go true f = answer_ends k a c (Drop t) (grind arith) (grind arith) (over f) (λ p. grind arith) (λ p. grind arith) m
    go false f = answer_none k c (Drop t) m (no_returns c (Drop t) (λ y z v. cc) k)
answer_marks cycle k c (Downgraded p g t) e = go (k.store.keep_write && is_exactly ((k.session c).row p) g && is_exactly (k.store.holder p) c && (k.store.tag p == t))
  where
    m : (q : ℕ) → Marks k c (Downgraded p g t) q → ⊥
    m = no_marks c (Downgraded p g t) (λ x y z f. cc) k

    n : (q : ℕ) → Returns k c (Downgraded p g t) q → ⊥
    n = no_returns c (Downgraded p g t) (λ y z f. cc) k

    a : Server
    a = server_after k (ChangeSession c (EndPermission p g t) ∷ [])

    go : (r : Bool) → AnswerMarks k (server_after k (if r then ChangeSession c (EndPermission p g t) ∷ [] else [])) c (Downgraded p g t)
    go true = record {
      current = grind arith;
      txn = grind arith;
      come = λ q x. inr (x, grind arith, n q);
      set = λ q x. absurd (m q x);
      stay = λ q x u y. x;
      rows = λ q h x y. grind arith;
    }
    go false = answer_none k c (Downgraded p g t) m n
answer_marks cycle k c Hello e = answer_none k c Hello (no_marks c Hello (λ x y z f. cc) k) (no_returns c Hello (λ y z f. cc) k)
answer_marks cycle k c Welcome e = answer_none k c Welcome (no_marks c Welcome (λ x y z f. cc) k) (no_returns c Welcome (λ y z f. cc) k)
answer_marks cycle k c (Granted p g v b) e = answer_none k c (Granted p g v b) (no_marks c (Granted p g v b) (λ x y z f. cc) k) (no_returns c (Granted p g v b) (λ y z f. cc) k)
answer_marks cycle k c (MayWrite t p g) e = answer_none k c (MayWrite t p g) (no_marks c (MayWrite t p g) (λ x y z f. cc) k) (no_returns c (MayWrite t p g) (λ y z f. cc) k)
answer_marks cycle k c (Callback p g) e = answer_none k c (Callback p g) (no_marks c (Callback p g) (λ x y z f. cc) k) (no_returns c (Callback p g) (λ y z f. cc) k)
answer_marks cycle k c (Done t n) e = answer_none k c (Done t n) (no_marks c (Done t n) (λ x y z f. cc) k) (no_returns c (Done t n) (λ y z f. cc) k)
answer_marks cycle k c (AbortNow t) e = answer_none k c (AbortNow t) (no_marks c (AbortNow t) (λ x y z f. cc) k) (no_returns c (AbortNow t) (λ y z f. cc) k)
answer_marks cycle k c (Downgrade p g t) e = answer_none k c (Downgrade p g t) (no_marks c (Downgrade p g t) (λ x y z f. cc) k) (no_returns c (Downgrade p g t) (λ y z f. cc) k)

-- each mark of client d is of a copy and a live transaction
abbrev LiveAt : Server → ℕ → Type 0
LiveAt s d = (p : ℕ) → s.in_use d p ≡ true → HasAnyRow s d p × HasLiveTxn s d

-- what a step makes of the marks of client d
record StepMarks (s t : Server) (i : Input) (d : ℕ) : Type 0 where
  come : (p : ℕ) → t.in_use d p ≡ true → SaysInUse s i d p ⊎ ((s.in_use d p ≡ true) × SameLiveTxn s t d × (GivesBack s i d p → ⊥))
  back : (p : ℕ) → SaysInUse s i d p ⊎ ((s.in_use d p ≡ true) × SameLiveTxn s t d × (GivesBack s i d p → ⊥)) → t.in_use d p ≡ true
  live : LiveAt t d

-- a step that leaves all that client d has, and is of no message of it that counts
step_leaves : (s t : Server) (i : Input) (d : ℕ) → KeepsClient s t d → LiveAt s d → ((b : Body) → Comes s i d b → ⊥) → StepMarks s t i d
step_leaves s t i d l h n = record {
  come = λ p e. inr (sym (l.mark p) ∙ e, (l.incarnation, l.begun, lives p (sym (l.mark p) ∙ e)), λ x. n (GiveBack p x.0) x.1);
  back = λ p x. elim x [ inl y ↦ absurd (n (InUse y.0 p y.1.0) y.1.1) | inr y ↦ l.mark p ∙ y.0 ];
  live = λ p e. let x = h p (sym (l.mark p) ∙ e) in ((x.0.0, l.row p x.0.0 x.0.1), lives p (sym (l.mark p) ∙ e));
}
  where
    lives : (p : ℕ) → s.in_use d p ≡ true → HasLiveTxn t d
    lives p e = rw (l.ended, l.begun) (h p e).1

-- how a message's transaction begins
record Begun (s k : Server) (c : ℕ) (b : Body) : Type 0 where
  current : (k.session c).current ≡ (s.session c).current
  row : (p : ℕ) → (k.session c).row p ≡ (s.session c).row p
  said : (p : ℕ) → Marks k c b p → Marks s c b p
  says : (p : ℕ) → Marks s c b p → Marks k c b p
  kept : (p : ℕ) → k.in_use c p ≡ true → (s.in_use c p ≡ true) × ((k.session c).txn ≡ (s.session c).txn) × ((k.session c).ended ≡ (s.session c).ended)
  stay : (p : ℕ) → s.in_use c p ≡ true → (k.session c).txn ≡ (s.session c).txn → k.in_use c p ≡ true
  step : (k.session c).txn ≤ (k.session c).ended + 1
  met : named_txn b ≤ (k.session c).txn

begins_marks : (s : Server) (c : ℕ) (b : Body) → Orderly AnyMessage s → Begun s (server_after s (begin_transaction s c (named_txn b))) c b
begins_marks s c b o = go (nat_lt (s.session c).txn (named_txn b)) refl
  where
    below : nat_lt (s.session c).txn (named_txn b) ≡ true → (s.session c).txn < named_txn b
    below e = grind arith

    above : nat_lt (s.session c).txn (named_txn b) ≡ false → named_txn b ≤ (s.session c).txn
    above e = grind arith

    k : Server
    k = server_after s (ForgetTransaction c ∷ ChangeSession c (BeginTransaction (named_txn b)) ∷ [])

    row : (p : ℕ) → (k.session c).row p ≡ (s.session c).row p
    row p = grind arith

    txn : (k.session c).txn ≡ named_txn b
    txn = grind arith

    ended : (k.session c).ended ≡ named_txn b - 1
    ended = grind arith

    gone : (p : ℕ) → k.in_use c p ≡ false
    gone p = grind arith

    named : (t p g : ℕ) → b ≡ InUse t p g → named_txn b ≡ t
    named t p g e = rw e refl

    go : (r : Bool) → nat_lt (s.session c).txn (named_txn b) ≡ r → Begun s (server_after s (if r then ForgetTransaction c ∷ ChangeSession c (BeginTransaction (named_txn b)) ∷ [] else [])) c b
    go true e = record {
      current = grind arith;
      row = row;
      said = λ p x. (x.0, (x.1.0, x.1.1, sym (row p) ∙ x.1.2, let l = below e in let m = o.ended_by c in let n = named x.0 p x.1.0 x.1.1 in omega arith));
      says = λ p x. (x.0, (x.1.0, x.1.1, row p ∙ x.1.2, let l = below e in let m = ended in let n = named x.0 p x.1.0 x.1.1 in omega arith));
      kept = λ p x. absurd (let z = gone p in cc);
      stay = λ p x y. absurd (let l = below e in let m = txn in omega arith);
      step = let m = txn in let n = ended in omega arith;
      met = let m = txn in omega arith;
    }
    go false e = record {
      current = refl;
      row = λ p. refl;
      said = λ p x. x;
      says = λ p x. x;
      kept = λ p x. (x, refl, refl);
      stay = λ p x y. x;
      step = o.step c;
      met = above e;
    }

-- a message of the current incarnation
current_marks : (cycle : DeadlockTest) (s : Server) (c : ℕ) (b : Body) → Orderly AnyMessage s → LiveAt s c → StepMarks s (server_after s (take_current cycle s c b)) (MessageComes c (s.session c).current b) c
current_marks cycle s c b o h = subst (λ (z : Server). StepMarks s z i c) (sym whole) (record { come = come; back = back; live = live })
  where
    i : Input
    i = MessageComes c (s.session c).current b

    k : Server
    k = server_after s (begin_transaction s c (named_txn b))

    a : Server
    a = server_after k (direct_answer cycle k c b)

    t : Server
    t = server_after a (settle_pages cycle a a.pages)

    whole : server_after s (take_current cycle s c b) ≡ t
    whole = after_append s (begin_transaction s c (named_txn b)) _ ∙ after_append k (direct_answer cycle k c b) _

    u : Begun s k c b
    u = begins_marks s c b o

    m : AnswerMarks k a c b
    m = answer_marks cycle k c b u.step

    l : KeepsClient a t c
    l = leaves_all a c (settle_pages cycle a a.pages) (gentle_settles c cycle a a.pages)

    of_body : (d : Body) → Comes s i c d → b ≡ d
    of_body d e = cc

    says : (p : ℕ) → Marks s c b p → SaysInUse s i c p
    says p x = (x.0, (x.1.0, ap (MessageComes c (s.session c).current) x.1.1, x.1.2, x.1.3))

    said : (p : ℕ) → SaysInUse s i c p → Marks s c b p
    said p x = (x.0, (x.1.0, of_body (InUse x.0 p x.1.0) x.1.1, x.1.2, x.1.3))

    gives : (p : ℕ) → Returns k c b p → GivesBack s i c p
    gives p x = (x.0, ap (MessageComes c (s.session c).current) x.1, sym (u.row p) ∙ x.2)

    given : (p : ℕ) → GivesBack s i c p → Returns k c b p
    given p x = (x.0, of_body (GiveBack p x.0) x.1, u.row p ∙ x.2)

    txns : (t.session c).txn ≡ (k.session c).txn
    txns = l.begun ∙ m.txn

    come : (p : ℕ) → t.in_use c p ≡ true → SaysInUse s i c p ⊎ ((s.in_use c p ≡ true) × SameLiveTxn s t c × (GivesBack s i c p → ⊥))
    come p e = elim (m.come p (sym (l.mark p) ∙ e)) [
      | inl x ↦ inl (says p (u.said p x))
      | inr x ↦ (let y = u.kept p x.0 in let z = (h p y.0).1 in inr (y.0, (l.incarnation ∙ m.current ∙ u.current, txns ∙ y.1, rw (txns, y.1, l.ended, x.1, y.2) z), λ w. x.2 (given p w)))
    ]

    back : (p : ℕ) → SaysInUse s i c p ⊎ ((s.in_use c p ≡ true) × SameLiveTxn s t c × (GivesBack s i c p → ⊥)) → t.in_use c p ≡ true
    back p (inl x) = l.mark p ∙ (m.set p (u.says p (said p x))).0
    back p (inr x) = let z = x.1.2 in let e = l.ended in let f = l.begun in l.mark p ∙ m.stay p (u.stay p x.0 (sym txns ∙ x.1.1)) (omega arith) (λ w. x.2 (gives p w))

    other : (p q : ℕ) → Marks k c b p → Returns k c b q → ⊥
    other p q x y = let z : InUse x.0 p x.1.0 ≡ GiveBack q y.0 = sym x.1.1 ∙ y.1 in cc

    live : LiveAt t c
    live p e = elim (m.come p (sym (l.mark p) ∙ e)) [
      | inl x ↦ ((x.1.0, l.row p x.1.0 (m.rows p x.1.0 (other p p x) x.1.2)), (let f = (m.set p x).1 in let g = x.1.3 in let n = u.met in let q : named_txn b ≡ x.0 = rw x.1.1 refl in let v = l.ended in let w = txns in omega arith))
      | inr x ↦ (let y = u.kept p x.0 in let z = h p y.0 in ((z.0.0, l.row p z.0.0 (m.rows p z.0.0 x.2 (u.row p ∙ z.0.1))), rw (txns, y.1, l.ended, x.1, y.2) z.1))
    ]

-- a greater Hello
admitted_marks : (cycle : DeadlockTest) (s : Server) (c i : ℕ) → (s.session c).current < i → StepMarks s (server_after s (admit_incarnation cycle s c i)) (MessageComes c i Hello) c
admitted_marks cycle s c i l = record {
  come = λ p e. absurd (let z = gone p in cc);
  back = λ p x. elim x [ inl y ↦ absurd (no_in_use p y) | inr y ↦ absurd (let z = y.1.0 in let w = admitted in omega arith) ];
  live = λ p e. absurd (let z = gone p in cc);
}
  where
    xs : List ServerStep
    xs = ForgetTransaction c ∷ ChangeSession c (Admit i) ∷ Send c i Welcome ∷ []

    a : Server
    a = server_after s xs

    t : Server
    t = server_after s (admit_incarnation cycle s c i)

    k : KeepsClient a t c
    k = leaves_all a c (settle_pages cycle a a.pages) (gentle_settles c cycle a a.pages)

    gone : (p : ℕ) → t.in_use c p ≡ false
    gone p = k.mark p ∙ out
      where
        out : a.in_use c p ≡ false
        out = grind arith

    admitted : (t.session c).current ≡ i
    admitted = k.incarnation ∙ set
      where
        set : (a.session c).current ≡ i
        set = grind arith

    no_in_use : (p : ℕ) → SaysInUse s (MessageComes c i Hello) c p → ⊥
    no_in_use p y = let z = y.1.1 in cc

-- a message of the client itself, by its incarnation
own_marks : (s : Server) (c i : ℕ) (b : Body) → Orderly AnyMessage s → LiveAt s c → StepMarks s (server_after s (server_take on_cycle s c i b)) (MessageComes c i b) c
own_marks s c i b o h = is_hello b refl
  where
    quiet : ((d : Body) → Comes s (MessageComes c i b) c d → ⊥) → server_take on_cycle s c i b ≡ [] → StepMarks s (server_after s (server_take on_cycle s c i b)) (MessageComes c i b) c
    quiet n e = rw e (step_leaves s s (MessageComes c i b) c (leaves_all s c [] tt) h n)

    -- it is not of the current incarnation
    stale : i ≢ (s.session c).current → (d : Body) → Comes s (MessageComes c i b) c d → ⊥
    stale n d e = n (let z = e in cc)

    here : (i == (s.session c).current) ≡ true → i ≡ (s.session c).current
    here e = grind arith

    apart : (i == (s.session c).current) ≡ false → i ≢ (s.session c).current
    apart e = grind arith

    ahead : nat_lt (s.session c).current i ≡ true → (s.session c).current < i
    ahead e = grind arith

    behind : nat_lt (s.session c).current i ≡ false → (i == (s.session c).current) ≡ false → i < (s.session c).current
    behind e f = grind arith

    message : b ≢ Hello → (r : Bool) → (i == (s.session c).current) ≡ r → StepMarks s (server_after s (server_take on_cycle s c i b)) (MessageComes c i b) c
    message n true e = rw (serves_current on_cycle s c i b n (here e)) (subst (λ (j : ℕ). StepMarks s (server_after s (take_current on_cycle s c b)) (MessageComes c j b) c) (sym (here e)) (current_marks on_cycle s c b o h))
    message n false e = quiet (stale (apart e)) (serves_no_other_incarnation on_cycle s c i b n (apart e))

    again : b ≡ Hello → StepMarks s s (MessageComes c i b) c
    again f = record {
      come = λ p e. inr (e, (refl, refl, (h p e).1), λ x. absurd (let z = x.1 in cc));
      back = λ p x. elim x [ inl y ↦ absurd (let z = y.1.1 in cc) | inr y ↦ y.0 ];
      live = h;
    }

    hello : b ≡ Hello → (r : Bool) → nat_lt (s.session c).current i ≡ r → (u : Bool) → (i == (s.session c).current) ≡ u → StepMarks s (server_after s (server_take on_cycle s c i b)) (MessageComes c i b) c
    hello f true e u g = rw (f, serves_new_hello on_cycle s c i (ahead e)) (admitted_marks on_cycle s c i (ahead e))
    hello f false e true g = rw (f, serves_hello_again on_cycle s c i (here g)) (rw f at (again f))
    hello f false e false g = rw (f, serves_no_old_hello on_cycle s c i (behind e g)) (rw f at (again f))

    is_hello : (y : Body) → b ≡ y → StepMarks s (server_after s (server_take on_cycle s c i b)) (MessageComes c i b) c
    is_hello Hello f = hello f (nat_lt (s.session c).current i) refl (i == (s.session c).current) refl
    is_hello _ f = message (λ z. absurd cc) (i == (s.session c).current) refl

step_marks : (s : Server) (i : Input) → Orderly AnyMessage s → InputInRange s i → (d : ℕ) → LiveAt s d → StepMarks s (server_after s (input_steps on_cycle s i)) i d
step_marks s (MessageComes c i b) o f d h = go (d == c) refl
  where
    same : (d == c) ≡ true → c ≡ d
    same e = grind arith

    apart : (d == c) ≡ false → d ≢ c
    apart e = grind arith

    go : (r : Bool) → (d == c) ≡ r → StepMarks s (server_after s (server_take on_cycle s c i b)) (MessageComes c i b) d
    go true e = subst (λ (x : ℕ). StepMarks s (server_after s (server_take on_cycle s c i b)) (MessageComes c i b) x) (same e) (own_marks s c i b o (subst (λ (x : ℕ). LiveAt s x) (sym (same e)) h))
    go false e = step_leaves s _ (MessageComes c i b) d ((others_keep_rows_and_permissions on_cycle s).0 c i b d (apart e)) h (λ y z. apart e (let w = z in cc))
step_marks s SendsAgain o f d h = step_leaves s _ SendsAgain d ((others_keep_rows_and_permissions on_cycle s).1 d) h (λ y z. absurd cc)
step_marks s (ReachesDisk n) o f d h = step_leaves s _ (ReachesDisk n) d ((others_keep_rows_and_permissions on_cycle s).2 n d) h (λ y z. absurd cc)

marks_live_by : (L : Limits) (o : Opening) (s : Server) → ReachedBy L on_cycle o InputInRange s → (d p : ℕ) → s.in_use d p ≡ true → HasAnyRow s d p × HasLiveTxn s d
marks_live_by L o s Opened d p e = absurd cc
marks_live_by L o s (AfterInput {server = k} r i f) d p e = (step_marks k i (orderly_by L o k r) f d (marks_live_by L o k r d)).live p e

pub marks_live : MarksLive
marks_live s r = marks_live_by r.0 r.1 s r.2

pub marks_set_and_taken : MarksSetAndTaken
marks_set_and_taken s r i f d p = let z = step_marks s i (orderly s r) f d (marks_live s r d) in (z.come p, z.back p)
