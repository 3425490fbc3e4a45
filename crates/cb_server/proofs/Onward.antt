-- What a message other than Hello leaves of its own client's incarnation and transaction.
use Rattle.std.proofs.Common.{◌≡◌, ◌≢◌, ◌≤◌, ◌==◌, ◌&&◌, ℕ, Bool, true, false, nat_le, nat_lt, if◌then◌else◌, [], ◌∷◌, refl, sym, ◌∙◌, subst, arith, Option, Some, None}
use Rattle.cb_protocol.proofs.Cases.{server_after_append}
use Rattle.cb_protocol.proofs.OthersKeep.{gentle_ask_read, gentle_ask_write, gentle_live, gentle_settles, leaves_all}
use Rattle.cb_protocol.specs.Basics.{is_exactly}
use Rattle.cb_protocol.specs.Messages.{AbortNow, AskRead, AskWrite, Body, Commit, Done, Downgraded, Drop, GiveBack, Hello, InUse}
use Rattle.cb_protocol.specs.Server.{ChangeSession, DeadlockTest, ForgetTransaction, MarkInUse, Server, UnmarkInUse, server_after}
use Rattle.cb_protocol.specs.ServerMessages.{begin_transaction, commit_allowed, direct_answer, named_txn, repeat_done, server_take, take_ask_read, take_ask_write, take_current}
use Rattle.cb_protocol.specs.Session.{ApplyCommit, BeginTransaction, DropTransaction, EndPermission, RemoveRow}
use Rattle.cb_protocol.specs.Settling.{send_to, settle_pages}
use Rattle.cb_protocol.specs.StepsKeep.{KeepsClient}

-- the incarnation is the same, and no earlier transaction is current
pub record Onward (before after : Server) (client : ℕ) : Type 0 where
  pub current : (after.session client).current ≡ (before.session client).current
  pub begun : (before.session client).txn ≤ (after.session client).txn

same : (s : Server) (c : ℕ) → Onward s s c
same s c = record { current = refl; begun = omega arith }

kept : (s t : Server) (c : ℕ) → KeepsClient s t c → Onward s t c
kept s t c keeps = record { current = keeps.incarnation; begun = let e = keeps.begun in omega (arith, e) }

onward_then : (s t u : Server) (c : ℕ) → Onward s t c → Onward t u c → Onward s u c
onward_then s t u c one other = record {
  current = other.current ∙ one.current;
  begun = let a = one.begun in let b = other.begun in omega (arith, a, b);
}

begins : (s : Server) (c n : ℕ) → Onward s (server_after s (begin_transaction s c n)) c
begins s c n = go (nat_lt (s.session c).txn n) refl
  where
    go : (r : Bool) → nat_lt (s.session c).txn n ≡ r → Onward s (server_after s (if r then ForgetTransaction c ∷ ChangeSession c (BeginTransaction n) ∷ [] else [])) c
    go false e = same s c
    go true e = record { current = grind arith; begun = grind arith }

repeats : (s : Server) (c n : ℕ) (o : Option ℕ) → Onward s (server_after s (repeat_done s c n o)) c
repeats s c n None = same s c
repeats s c n (Some number) = go (nat_le number s.flushed)
  where
    go : (r : Bool) → Onward s (server_after s (if r then send_to s c (Done n number) ∷ [] else [])) c
    go true = same s c
    go false = same s c

answers : (cycle : DeadlockTest) (s : Server) (c : ℕ) (b : Body) → Onward s (server_after s (direct_answer cycle s c b)) c
answers cycle s c (AskRead t p) = kept s (server_after s (direct_answer cycle s c (AskRead t p))) c (leaves_all s c (direct_answer cycle s c (AskRead t p)) (gentle_live c s c t (take_ask_read cycle s c p ((s.session c).row p)) (gentle_ask_read c cycle s c p ((s.session c).row p))))
answers cycle s c (AskWrite t p g) = kept s (server_after s (direct_answer cycle s c (AskWrite t p g))) c (leaves_all s c (direct_answer cycle s c (AskWrite t p g)) (gentle_live c s c t (take_ask_write cycle s c p g) (gentle_ask_write c cycle s c p g)))
answers cycle s c (GiveBack p g) = go (is_exactly ((s.session c).row p) g)
  where
    go : (r : Bool) → Onward s (server_after s (if r then UnmarkInUse c p ∷ ChangeSession c (RemoveRow p g) ∷ [] else [])) c
    go true = record { current = grind arith; begun = grind arith }
    go false = same s c
answers cycle s c (InUse t p g) = go (nat_lt (s.session c).ended t && is_exactly ((s.session c).row p) g)
  where
    go : (r : Bool) → Onward s (server_after s (if r then MarkInUse c p ∷ [] else [])) c
    go true = record { current = refl; begun = omega arith }
    go false = same s c
answers cycle s c (Commit t ws) = go (nat_lt (s.session c).ended t) (s.doomed c) (commit_allowed s c ws) (t == (s.session c).ended)
  where
    go : (r u v w : Bool)
        → Onward s (server_after s (if r then (if u then send_to s c (AbortNow t) ∷ [] else if v then ForgetTransaction c ∷ ChangeSession c (ApplyCommit t ws) ∷ [] else []) else if w then repeat_done s c t (s.outcome c) else [])) c
    go true true v w = record { current = refl; begun = omega arith }
    go true false true w = record { current = grind arith; begun = grind arith }
    go true false false w = same s c
    go false u v true = repeats s c t (s.outcome c)
    go false u v false = same s c
answers cycle s c (Drop t) = go (nat_lt (s.session c).ended t)
  where
    go : (r : Bool) → Onward s (server_after s (if r then ForgetTransaction c ∷ ChangeSession c (DropTransaction t) ∷ [] else [])) c
    go true = record { current = grind arith; begun = grind arith }
    go false = same s c
answers cycle s c (Downgraded p g t) = go s.store.keep_write (is_exactly ((s.session c).row p) g) (is_exactly (s.store.holder p) c) (s.store.tag p == t)
  where
    go : (k x y z : Bool) → Onward s (server_after s (if k && x && y && z then ChangeSession c (EndPermission p g t) ∷ [] else [])) c
    go true true true true = record { current = grind arith; begun = grind arith }
    go true true true false = same s c
    go true true false z = same s c
    go true false y z = same s c
    go false x y z = same s c
answers cycle s c _ = same s c

current : (cycle : DeadlockTest) (s : Server) (c : ℕ) (b : Body) → Onward s (server_after s (take_current cycle s c b)) c
current cycle s c b = subst (λ (t : Server). Onward s t c) (sym walk)
    (onward_then s m u c (begins s c (named_txn b)) (onward_then m a u c (answers cycle m c b) (kept a u c (leaves_all a c (settle_pages cycle a a.pages) (gentle_settles c cycle a a.pages)))))
  where
    m : Server
    m = server_after s (begin_transaction s c (named_txn b))

    a : Server
    a = server_after m (direct_answer cycle m c b)

    u : Server
    u = server_after a (settle_pages cycle a a.pages)

    walk : server_after s (take_current cycle s c b) ≡ u
    walk = server_after_append s (begin_transaction s c (named_txn b)) _ ∙ server_after_append m (direct_answer cycle m c b) _

message : (cycle : DeadlockTest) (s : Server) (c i : ℕ) (b : Body) → Onward s (server_after s (if i == (s.session c).current then take_current cycle s c b else [])) c
message cycle s c i b = go (i == (s.session c).current)
  where
    go : (r : Bool) → Onward s (server_after s (if r then take_current cycle s c b else [])) c
    go true = current cycle s c b
    go false = same s c

pub goes_on : (cycle : DeadlockTest) (s : Server) (c i : ℕ) (b : Body) → b ≢ Hello → Onward s (server_after s (server_take cycle s c i b)) c
unfolding server_take
goes_on cycle s c i Hello n = absurd (n refl)
goes_on cycle s c i b n = message cycle s c i b
