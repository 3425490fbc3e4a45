-- What a message leaves of its own client.
use Rattle.std.proofs.Common.{◌≡◌, ◌≢◌, true≢false, ◌<◌, ◌≤◌, ◌+◌, ◌==◌, ◌&&◌, ◌⊎◌, ℕ, Bool, true, false, nat_le, nat_lt, subst, if◌then◌else◌, List, [], ◌∷◌, refl, sym, ◌∙◌, ap, arith, Option, Some, None, inl, inr}
use Rattle.cb_hands.specs.OwnStays.{KeepsOwn, OwnStays}
use Rattle.cb_protocol.proofs.OthersKeep.{gentle_ask_read, gentle_ask_write, gentle_live, gentle_settles, leaves_all}
use Rattle.cb_protocol.proofs.Cases.{server_after_append}
use Rattle.cb_protocol.specs.Basics.{is_exactly}
use Rattle.cb_protocol.specs.Messages.{AbortNow, AskRead, AskWrite, Body, Commit, Done, Downgraded, Drop, GiveBack, Hello, InUse, PageWrite}
use Rattle.cb_protocol.specs.Server.{ChangeSession, DeadlockTest, ForgetTransaction, MarkInUse, Server, UnmarkInUse, server_after}
use Rattle.cb_protocol.specs.ServerMessages.{begin_transaction, commit_allowed, direct_answer, named_txn, repeat_done, server_take, take_ask_read, take_ask_write, take_current}
use Rattle.cb_protocol.specs.Session.{ApplyCommit, BeginTransaction, DropTransaction, EndPermission, RemoveRow}
use Rattle.cb_protocol.specs.Settling.{send_to, settle_pages}
use Rattle.cb_protocol.specs.StepsKeep.{KeepsClient}

-- a part of a message: rows but one given back stay, permissions too, unless the transaction ended;
-- no transaction ends less than before
record Part (before after : Server) (client : ℕ) (body : Body) : Type 0 where
  row : (page grant : ℕ) → body ≢ GiveBack page grant → (before.session client).row page ≡ Some grant → (after.session client).row page ≡ Some grant
  permission : (page : ℕ) → before.store.holder page ≡ Some client → (after.store.holder page ≡ Some client) ⊎ ((before.session client).txn ≤ (after.session client).ended)
  ended : (before.session client).ended ≤ (after.session client).ended

same : (s : Server) (c : ℕ) (b : Body) → Part s s c b
same s c b = record { row = λ p g n e. e; permission = λ p e. inl e; ended = omega arith }

-- what is kept of every client
kept : (s t : Server) (c : ℕ) (b : Body) → KeepsClient s t c → Part s t c b
kept s t c b keeps = record {
  row = λ p g n e. keeps.row p g e;
  permission = λ p e. inl (keeps.permission p e);
  ended = let e = keeps.ended in omega (arith, e);
}

-- a transaction begins
record Begins (s m : Server) (c : ℕ) : Type 0 where
  row : (p g : ℕ) → (s.session c).row p ≡ Some g → (m.session c).row p ≡ Some g
  permission : (p : ℕ) → s.store.holder p ≡ Some c → (m.store.holder p ≡ Some c) ⊎ ((s.session c).txn ≤ (m.session c).ended)
  later : (s.session c).txn ≤ (m.session c).txn
  order : (m.session c).txn ≤ (m.session c).ended + 1
  keep_write : m.store.keep_write ≡ s.store.keep_write

begins : (s : Server) (c n : ℕ) → (s.session c).txn ≤ (s.session c).ended + 1 → Begins s (server_after s (begin_transaction s c n)) c
begins s c n order = go (nat_lt (s.session c).txn n) refl
  where
    go : (r : Bool) → nat_lt (s.session c).txn n ≡ r → Begins s (server_after s (if r then ForgetTransaction c ∷ ChangeSession c (BeginTransaction n) ∷ [] else [])) c
    go false e = record { row = λ p g h. h; permission = λ p h. inl h; later = omega arith; order = order; keep_write = refl }
    go true e = record {
      row = grind arith;
      permission = λ p h. inr (grind arith);
      later = grind arith;
      order = grind arith;
      keep_write = refl;
    }

-- a transaction that has not ended ends, by its Drop or its commit
module _ (s : Server) (c n : ℕ) (b : Body) (order : (s.session c).txn ≤ (s.session c).ended + 1) (lives : (s.session c).ended < n) where
  dropped : Part s (server_after s (ForgetTransaction c ∷ ChangeSession c (DropTransaction n) ∷ [])) c b
  dropped = record { row = grind arith; permission = λ p h. inr (grind arith); ended = grind arith }

  applied : (writes : List PageWrite) → Part s (server_after s (ForgetTransaction c ∷ ChangeSession c (ApplyCommit n writes) ∷ [])) c b
  applied writes = record { row = grind arith; permission = λ p h. inr (grind arith); ended = grind arith }

sends : (s : Server) (c : ℕ) (b said : Body) → Part s (server_after s (send_to s c said ∷ [])) c b
sends s c b said = same s c b

repeats : (s : Server) (c n : ℕ) (b : Body) (o : Option ℕ) → Part s (server_after s (repeat_done s c n o)) c b
repeats s c n b None = same s c b
repeats s c n b (Some number) = go (nat_le number s.flushed)
  where
    go : (r : Bool) → Part s (server_after s (if r then send_to s c (Done n number) ∷ [] else [])) c b
    go true = same s c b
    go false = same s c b

gives_back : (s : Server) (c p g : ℕ) → s.store.keep_write ≡ false → (r : Bool) → is_exactly ((s.session c).row p) g ≡ r
    → Part s (server_after s (if r then UnmarkInUse c p ∷ ChangeSession c (RemoveRow p g) ∷ [] else [])) c (GiveBack p g)
gives_back s c p g keep false e = same s c (GiveBack p g)
gives_back s c p g keep true e = record {
  row = λ q h n there. other q h n there (q == p) refl;
  permission = λ q held. inl (grind (arith, keep, held));
  ended = grind arith;
}
  where
    there_is : (o : Option ℕ) → is_exactly o g ≡ true → o ≡ Some g
    there_is o f = grind arith

    other : (q h : ℕ) → GiveBack p g ≢ GiveBack q h → (s.session c).row q ≡ Some h → (r : Bool) → (q == p) ≡ r
        → ((server_after s (UnmarkInUse c p ∷ ChangeSession c (RemoveRow p g) ∷ [])).session c).row q ≡ Some h
    other q h n there false f = grind (arith, f, there)
    other q h n there true f =
        let at : q ≡ p = grind arith in
        let row : (s.session c).row p ≡ Some g = there_is ((s.session c).row p) e in
        let same_grant : Some g ≡ Some h = sym row ∙ ap (s.session c).row (sym at) ∙ there in
        let grants : g ≡ h = let z = same_grant in cc in
        absurd (n (λ i. GiveBack (sym at i) (grants i)))

-- the direct answer
answers : (cycle : DeadlockTest) (s : Server) (c : ℕ) (b : Body) → s.store.keep_write ≡ false → (s.session c).txn ≤ (s.session c).ended + 1 → Part s (server_after s (direct_answer cycle s c b)) c b
answers cycle s c (AskRead t p) keep order = kept s (server_after s (direct_answer cycle s c (AskRead t p))) c (AskRead t p) (leaves_all s c (direct_answer cycle s c (AskRead t p)) (gentle_live c s c t (take_ask_read cycle s c p ((s.session c).row p)) (gentle_ask_read c cycle s c p ((s.session c).row p))))
answers cycle s c (AskWrite t p g) keep order = kept s (server_after s (direct_answer cycle s c (AskWrite t p g))) c (AskWrite t p g) (leaves_all s c (direct_answer cycle s c (AskWrite t p g)) (gentle_live c s c t (take_ask_write cycle s c p g) (gentle_ask_write c cycle s c p g)))
answers cycle s c (GiveBack p g) keep order = gives_back s c p g keep (is_exactly ((s.session c).row p) g) refl
answers cycle s c (InUse t p g) keep order = go (nat_lt (s.session c).ended t && is_exactly ((s.session c).row p) g)
  where
    go : (r : Bool) → Part s (server_after s (if r then MarkInUse c p ∷ [] else [])) c (InUse t p g)
    go true = record { row = λ q h n e. e; permission = λ q e. inl e; ended = omega arith }
    go false = same s c _
answers cycle s c (Commit t ws) keep order = go (nat_lt (s.session c).ended t) refl (s.doomed c) (commit_allowed s c ws) (t == (s.session c).ended)
  where
    go : (r : Bool) → nat_lt (s.session c).ended t ≡ r → (u v w : Bool)
        → Part s (server_after s (if r then (if u then send_to s c (AbortNow t) ∷ [] else if v then ForgetTransaction c ∷ ChangeSession c (ApplyCommit t ws) ∷ [] else []) else if w then repeat_done s c t (s.outcome c) else [])) c (Commit t ws)
    go true e true v w = sends s c _ (AbortNow t)
    go true e false true w = applied s c t _ order (grind arith) ws
    go true e false false w = same s c _
    go false e u v true = repeats s c t _ (s.outcome c)
    go false e u v false = same s c _
answers cycle s c (Drop t) keep order = go (nat_lt (s.session c).ended t) refl
  where
    go : (r : Bool) → nat_lt (s.session c).ended t ≡ r → Part s (server_after s (if r then ForgetTransaction c ∷ ChangeSession c (DropTransaction t) ∷ [] else [])) c (Drop t)
    go true e = dropped s c t _ order (grind arith)
    go false e = same s c _
answers cycle s c (Downgraded p g t) keep order = go s.store.keep_write keep (is_exactly ((s.session c).row p) g) (is_exactly (s.store.holder p) c) (s.store.tag p == t)
  where
    go : (k : Bool) → k ≡ false → (x y z : Bool) → Part s (server_after s (if k && x && y && z then ChangeSession c (EndPermission p g t) ∷ [] else [])) c (Downgraded p g t)
    go true e x y z = absurd (true≢false e)
    go false e x y z = same s c _
answers cycle s c _ keep order = same s c _

-- the whole
current : (cycle : DeadlockTest) (s : Server) (c : ℕ) (b : Body) → s.store.keep_write ≡ false → (s.session c).txn ≤ (s.session c).ended + 1 → KeepsOwn s (server_after s (take_current cycle s c b)) c b
current cycle s c b keep order =
    let begun = begins s c (named_txn b) order in
    let answer = answers cycle m c b (begun.keep_write ∙ keep) begun.order in
    let settled : KeepsClient a u c = leaves_all a c (settle_pages cycle a a.pages) (gentle_settles c cycle a a.pages) in
    subst (λ (t : Server). KeepsOwn s t c b) (sym walk) (record {
      row = λ p g n e. settled.row p g (answer.row p g n (begun.row p g e));
      permission = λ p e. elim (begun.permission p e) [
        | inl held ↦ elim (answer.permission p held) [
          | inl stays ↦ inl (settled.permission p stays)
          | inr over ↦ inr (let l = begun.later in let k = settled.ended in omega (arith, l, k, over))
        ]
        | inr over ↦ inr (let l = answer.ended in let k = settled.ended in omega (arith, l, k, over))
      ];
    })
  where
    m : Server
    m = server_after s (begin_transaction s c (named_txn b))

    a : Server
    a = server_after m (direct_answer cycle m c b)

    u : Server
    u = server_after a (settle_pages cycle a a.pages)

    walk : server_after s (take_current cycle s c b) ≡ u
    walk = server_after_append s (begin_transaction s c (named_txn b)) _ ∙ server_after_append m (direct_answer cycle m c b) _

message : (cycle : DeadlockTest) (s : Server) (c i : ℕ) (b : Body) → s.store.keep_write ≡ false → (s.session c).txn ≤ (s.session c).ended + 1
    → KeepsOwn s (server_after s (if i == (s.session c).current then take_current cycle s c b else [])) c b
message cycle s c i b keep order = go (i == (s.session c).current)
  where
    go : (r : Bool) → KeepsOwn s (server_after s (if r then take_current cycle s c b else [])) c b
    go true = current cycle s c b keep order
    go false = record { row = λ p g n e. e; permission = λ p e. inl e }

takes : (cycle : DeadlockTest) (s : Server) (c i : ℕ) (b : Body) → s.store.keep_write ≡ false → (s.session c).txn ≤ (s.session c).ended + 1 → b ≢ Hello → KeepsOwn s (server_after s (server_take cycle s c i b)) c b
unfolding server_take
takes cycle s c i Hello keep order n = absurd (n refl)
takes cycle s c i b keep order n = message cycle s c i b keep order

pub own_stays : OwnStays
own_stays = takes
