-- What is given back has no row any more.
use Rattle.std.proofs.Common.{◌≡◌, ◌≢◌, true≢false, ◌<◌, ℕ, Bool, true, false, nat_lt}
use Rattle.std.proofs.Common.{if◌then◌else◌, [], ◌∷◌, Some, None, refl, sym, ◌∙◌, ap, arith}
use Rattle.std.proofs.Common.{inl, inr}
use Rattle.cb_laws.specs.RowVersions.{HasRow}
use Rattle.cb_protocol.proofs.Cases.{server_after_append, serves_current}
use Rattle.cb_protocol.proofs.OthersKeep.{gentle_settles, leaves_all}
use Rattle.cb_protocol.specs.Basics.{is_exactly}
use Rattle.cb_protocol.specs.Messages.{GiveBack, Hello}
use Rattle.cb_protocol.specs.Server.{ChangeSession, DeadlockTest, ForgetTransaction, Server}
use Rattle.cb_protocol.specs.Server.{UnmarkInUse, server_after}
use Rattle.cb_protocol.specs.ServerMessages.{begin_transaction, direct_answer, server_take}
use Rattle.cb_protocol.specs.Session.{BeginTransaction, RemoveRow}
use Rattle.cb_protocol.specs.Settling.{settle_pages}
use Rattle.cb_protocol.specs.StepsKeep.{KeepsClient}

none_some : {A : Type 0} (x : A) → None ≡ Some x → ⊥
none_some x e = cc

-- a transaction begins, if one does
record Begins (s m : Server) (c p g : ℕ) : Type 0 where
  row : HasRow m c p g
  next_grant : m.next_grant ≡ s.next_grant

begins : (s : Server) (c n p g : ℕ) → HasRow s c p g
    → Begins s (server_after s (begin_transaction s c n)) c p g
begins s c n p g row = go (nat_lt (s.session c).txn n)
  where
    go : (r : Bool) → Begins s (server_after s (if r then ForgetTransaction c ∷ ChangeSession c (BeginTransaction n) ∷ [] else [])) c p g
    go false = record { row = row; next_grant = refl }
    go true = record { row = grind (arith, row); next_grant = refl }

-- the row goes
record Goes (m a : Server) (c p : ℕ) : Type 0 where
  none : (a.session c).row p ≡ None
  next_grant : a.next_grant ≡ m.next_grant

goes : (cycle : DeadlockTest) (m : Server) (c p g : ℕ) → HasRow m c p g
    → Goes m (server_after m (direct_answer cycle m c (GiveBack p g))) c p
goes cycle m c p g row = go (is_exactly ((m.session c).row p) g) refl
  where
    there : is_exactly ((m.session c).row p) g ≡ true
    there = grind (arith, row)

    go : (r : Bool) → is_exactly ((m.session c).row p) g ≡ r
        → Goes m (server_after m (if r then UnmarkInUse c p ∷ ChangeSession c (RemoveRow p g) ∷ [] else [])) c p
    go false e = absurd (true≢false (sym there ∙ e))
    go true e = record { none = grind arith; next_grant = refl }

-- and settling makes no such one
pub given_back_goes : (cycle : DeadlockTest) (s : Server) (c i p g : ℕ)
    → i ≡ (s.session c).current → HasRow s c p g → g < s.next_grant
    → HasRow (server_after s (server_take cycle s c i (GiveBack p g))) c p g → ⊥
given_back_goes cycle s c i p g current row below after =
    elim (settled.new_row p g (ap (λ (t : Server). (t.session c).row p) (sym walk) ∙ after)) [
      | inl e ↦ none_some g (sym gone.none ∙ e)
      | inr new ↦ (let l = new.1 in let n = gone.next_grant in let k = begun.next_grant in omega (arith, l, n, k, below))
    ]
  where
    other : GiveBack p g ≢ Hello
    other e = let z : GiveBack p g ≡ Hello = e in cc

    m : Server
    m = server_after s (begin_transaction s c 0)

    a : Server
    a = server_after (server_after s (begin_transaction s c 0)) (direct_answer cycle (server_after s (begin_transaction s c 0)) c (GiveBack p g))

    u : Server
    u = server_after a (settle_pages cycle a a.pages)

    begun : Begins s m c p g
    begun = begins s c 0 p g row

    gone : Goes m a c p
    gone = goes cycle m c p g begun.row

    settled : KeepsClient a u c
    settled = leaves_all a c (settle_pages cycle a a.pages) (gentle_settles c cycle a a.pages)

    walk : server_after s (server_take cycle s c i (GiveBack p g)) ≡ u
    walk = ap (λ ds. server_after s ds) (serves_current cycle s c i (GiveBack p g) other current)
        ∙ server_after_append s (begin_transaction s c 0) _
        ∙ server_after_append m (direct_answer cycle m c (GiveBack p g)) _
