-- A Commit is applied exactly where it may be.
use Rattle.std.proofs.Common.{Bool, List, None, Option, Some, [], ap, arith, false, if◌then◌else◌, inl, inr, nat_le, nat_lt, refl, subst, sym, true, ℕ, ◌++◌, ◌+◌, ◌<◌, ◌==◌, ◌∙◌, ◌∷◌, ◌≡◌}
use Rattle.cb_protocol.proofs.FirstAsks.{Settles, settles}
use Rattle.cb_protocol.proofs.ServerOrder.{after_append}
use Rattle.cb_protocol.proofs.ServerWalks.{KeptUnder, kept_by_each}
use Rattle.cb_protocol.proofs.SettlingRight.{is_some_is}
use Rattle.cb_protocol.specs.Basics.{is_exactly}
use Rattle.cb_protocol.specs.CommitLaws.{AppliedWhereItMay, IsApplied, MayBeApplied, WritesPermitted, server_after_commit, server_with}
use Rattle.cb_protocol.specs.Messages.{AbortNow, Commit, Done, PageWrite}
use Rattle.cb_protocol.specs.Server.{AppliedCommit, ChangeSession, DeadlockTest, ForgetTransaction, Server, ServerStep, server_after}
use Rattle.cb_protocol.specs.ServerMessages.{begin_transaction, commit_allowed, direct_answer, repeat_done, server_take, take_current}
use Rattle.cb_protocol.specs.Session.{ApplyCommit, BeginTransaction, GrantRow, PermitWrite}
use Rattle.cb_protocol.specs.Settling.{send_to, settle_pages}

-- the test of the writes
pub exactly : (r : Option ℕ) (g : ℕ) → r ≡ Some g → is_exactly r g ≡ true
exactly r g e = grind arith

allowed_is : (s : Server) (c : ℕ) (ws : List PageWrite) → commit_allowed s c ws ≡ true → WritesPermitted s c ws
allowed_is s c [] e x i = absurd i
allowed_is s c (w ∷ ws) e x i = elim i [
  | inl q ↦ subst (λ (y : PageWrite). (s.store.holder y.page ≡ Some c) × ((s.session c).row y.page ≡ Some y.grant)) q
      (is_some_is (s.store.holder w.page) c (grind arith), is_some_is ((s.session c).row w.page) w.grant (grind arith))
  | inr j ↦ allowed_is s c ws (grind arith) x j
]

allowed_by : (s : Server) (c : ℕ) (ws : List PageWrite) → WritesPermitted s c ws → commit_allowed s c ws ≡ true
allowed_by s c [] f = refl
allowed_by s c (w ∷ ws) f = let a = f w (inl refl) in
    rw (exactly (s.store.holder w.page) c a.0, exactly ((s.session c).row w.page) w.grant a.1) (allowed_by s c ws (λ x i. f x (inr i)))

-- what settling leaves
commits_left : (xs : List AppliedCommit) → KeptUnder Settles (λ k. k.commits ≡ xs)
commits_left xs s (ChangeSession d (GrantRow p g)) ds a e = e
commits_left xs s (ChangeSession d (PermitWrite p g)) ds a e = e
commits_left xs s (ChangeSession d _) ds a e = absurd a
commits_left xs s _ ds a e = e

ended_left : (c t : ℕ) → KeptUnder Settles (λ k. (k.session c).ended ≡ t)
ended_left c t s (ChangeSession d (GrantRow p g)) ds a e = grind arith
ended_left c t s (ChangeSession d (PermitWrite p g)) ds a e = grind arith
ended_left c t s (ChangeSession d _) ds a e = absurd a
ended_left c t s _ ds a e = e

outcome_left : (c : ℕ) (o : Option ℕ) → KeptUnder Settles (λ k. k.outcome c ≡ o)
outcome_left c o s (ChangeSession d (GrantRow p g)) ds a e = grind arith
outcome_left c o s (ChangeSession d (PermitWrite p g)) ds a e = grind arith
outcome_left c o s (ChangeSession d _) ds a e = absurd a
outcome_left c o s _ ds a e = e

-- what the transaction's beginning leaves
record BegunSame (s m : Server) (c : ℕ) : Type 0 where
  commits : m.commits ≡ s.commits
  current : (m.session c).current ≡ (s.session c).current
  last : m.store.last_commit ≡ s.store.last_commit

begun_same : (s : Server) (c t : ℕ) → BegunSame s (server_with s c t) c
begun_same s c t = go (nat_lt (s.session c).txn t)
  where
    here : BegunSame s (server_after s (ForgetTransaction c ∷ ChangeSession c (BeginTransaction t) ∷ [])) c
    here = record { commits = refl; current = grind arith; last = refl }

    go : (r : Bool) → BegunSame s (server_after s (if r then ForgetTransaction c ∷ ChangeSession c (BeginTransaction t) ∷ [] else [])) c
    go true = here
    go false = record { commits = refl; current = refl; last = refl }

-- the tests of the table
record Passes (m : Server) (c t : ℕ) (ws : List PageWrite) : Type 0 where
  lives : (m.session c).ended < t
  not_doomed : m.doomed c ≡ false
  permitted : WritesPermitted m c ws

applies : (cycle : DeadlockTest) (m : Server) (c t : ℕ) (ws : List PageWrite) → Passes m c t ws
    → direct_answer cycle m c (Commit t ws) ≡ ForgetTransaction c ∷ ChangeSession c (ApplyCommit t ws) ∷ []
applies cycle m c t ws a = rw (below, a.not_doomed, allowed_by m c ws a.permitted) refl
  where
    below : nat_lt (m.session c).ended t ≡ true
    below = let l = a.lives in grind arith

applies_none : (cycle : DeadlockTest) (m : Server) (c t : ℕ) (ws : List PageWrite) → (Passes m c t ws → ⊥)
    → (server_after m (direct_answer cycle m c (Commit t ws))).commits ≡ m.commits
applies_none cycle m c t ws f = go (nat_lt (m.session c).ended t) refl (m.doomed c) refl (commit_allowed m c ws) refl (t == (m.session c).ended)
  where
    below : nat_lt (m.session c).ended t ≡ true → (m.session c).ended < t
    below e = grind arith

    again : (o : Option ℕ) → (server_after m (repeat_done m c t o)).commits ≡ m.commits
    again None = refl
    again (Some n) = side (nat_le n m.flushed)
      where
        side : (r : Bool) → (server_after m (if r then send_to m c (Done t n) ∷ [] else [])).commits ≡ m.commits
        side true = refl
        side false = refl

    go : (r : Bool) → nat_lt (m.session c).ended t ≡ r → (u : Bool) → m.doomed c ≡ u → (v : Bool) → commit_allowed m c ws ≡ v → (w : Bool)
        → (server_after m (if r then (if u then send_to m c (AbortNow t) ∷ [] else if v then ForgetTransaction c ∷ ChangeSession c (ApplyCommit t ws) ∷ [] else [])
        else if w then repeat_done m c t (m.outcome c) else [])).commits ≡ m.commits
    go true e true d v k w = refl
    go true e false d true k w = absurd (f (record { lives = below e; not_doomed = d; permitted = allowed_is m c ws k }))
    go true e false d false k w = refl
    go false e u d v k true = again (m.outcome c)
    go false e u d v k false = refl

current_is : (cycle : DeadlockTest) (s : Server) (c i t : ℕ) (ws : List PageWrite) → i ≡ (s.session c).current
    → server_take cycle s c i (Commit t ws) ≡ take_current cycle s c (Commit t ws)
unfolding server_take
current_is cycle s c i t ws e = rw same refl
  where
    same : (i == (s.session c).current) ≡ true
    same = grind arith

after_current : (cycle : DeadlockTest) (s : Server) (c t : ℕ) (ws : List PageWrite)
    → let m = server_with s c t in let a = server_after m (direct_answer cycle m c (Commit t ws)) in
    server_after s (take_current cycle s c (Commit t ws)) ≡ server_after a (settle_pages cycle a a.pages)
after_current cycle s c t ws = let m = server_with s c t in let ds = direct_answer cycle m c (Commit t ws) in let a = server_after m ds in
    after_append s (begin_transaction s c t) (ds ++ settle_pages cycle a a.pages) ∙ after_append m ds (settle_pages cycle a a.pages)

applied : (cycle : DeadlockTest) (s : Server) (c i t : ℕ) (ws : List PageWrite) → MayBeApplied s c i t ws
    → IsApplied s (server_after_commit cycle s c i t ws) c i t ws
applied cycle s c i t ws may = subst (λ (k : Server). IsApplied s k c i t ws) (sym path) settled
  where
    m : Server
    m = server_with s c t

    a : Server
    a = server_after (server_with s c t) (ForgetTransaction c ∷ ChangeSession c (ApplyCommit t ws) ∷ [])

    passes : Passes (server_with s c t) c t ws
    passes = record { lives = may.lives; not_doomed = may.not_doomed; permitted = may.permitted }

    path : server_after_commit cycle s c i t ws ≡ server_after a (settle_pages cycle a a.pages)
    path = ap (λ (ds : List ServerStep). server_after s ds) (current_is cycle s c i t ws may.current)
        ∙ (after_current cycle s c t ws ∙ ap (λ (ds : List ServerStep). let k = server_after m ds in server_after k (settle_pages cycle k k.pages)) (applies cycle m c t ws passes))

    same : BegunSame s (server_with s c t) c
    same = begun_same s c t

    ended : (a.session c).ended ≡ t
    ended = grind arith

    outcome : a.outcome c ≡ Some (m.store.last_commit + 1)
    outcome = grind arith

    entry : AppliedCommit
    entry = record { client = c; incarnation = i; txn = t; number = s.store.last_commit + 1; writes = ws }

    first : a.commits ≡ record { client = c; incarnation = i; txn = t; number = s.store.last_commit + 1; writes = ws } ∷ s.commits
    first = rw (may.current, same.last) (rw (same.current, same.commits) refl)

    settled : IsApplied s (server_after a (settle_pages cycle a a.pages)) c i t ws
    settled = record {
      listed = kept_by_each Settles _ (commits_left _) a (settle_pages cycle a a.pages) (settles cycle a a.pages) first;
      ended = kept_by_each Settles _ (ended_left c t) a (settle_pages cycle a a.pages) (settles cycle a a.pages) ended;
      outcome = kept_by_each Settles _ (outcome_left c (Some (s.store.last_commit + 1))) a (settle_pages cycle a a.pages) (settles cycle a a.pages)
          (outcome ∙ ap (λ (n : ℕ). Some (n + 1)) same.last);
    }

none_applied : (cycle : DeadlockTest) (s : Server) (c i t : ℕ) (ws : List PageWrite) → (MayBeApplied s c i t ws → ⊥)
    → (server_after_commit cycle s c i t ws).commits ≡ s.commits
unfolding server_take
none_applied cycle s c i t ws f = go (i == (s.session c).current) refl
  where
    m : Server
    m = server_with s c t

    a : Server
    a = server_after (server_with s c t) (direct_answer cycle (server_with s c t) c (Commit t ws))

    here : (i == (s.session c).current) ≡ true → i ≡ (s.session c).current
    here e = grind arith

    go : (r : Bool) → (i == (s.session c).current) ≡ r → (server_after s (if r then take_current cycle s c (Commit t ws) else [])).commits ≡ s.commits
    go false e = refl
    go true e = ap (λ (k : Server). k.commits) (after_current cycle s c t ws) ∙ kept_by_each Settles (λ k. k.commits ≡ s.commits) (commits_left s.commits) a (settle_pages cycle a a.pages) (settles cycle a a.pages)
        (applies_none cycle m c t ws (λ p. f (record { current = here e; lives = p.lives; not_doomed = p.not_doomed; permitted = p.permitted })) ∙ (begun_same s c t).commits)

pub applied_where_it_may : AppliedWhereItMay
applied_where_it_may cycle s c i t ws = (applied cycle s c i t ws, none_applied cycle s c i t ws)
