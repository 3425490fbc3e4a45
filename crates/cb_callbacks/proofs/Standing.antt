-- A message's transaction begins, and how it stands then.
use Rattle.std.proofs.Common.{◌≡◌, ◌≢◌, ℕ, ◌-◌, nat_lt, Bool, true, false, ◌==◌, if◌then◌else◌, List, [], ◌∷◌, refl, sym, ap, subst, arith}
use Rattle.std.proofs.lemmas.Bool.Decides.{nat_tests}
use Rattle.cb_callbacks.specs.Numbers.{IsLiveOne}
use Rattle.cb_server_state.specs.Questions.{IsLast, standing_in}
use Rattle.cb_links.specs.declared.sessions.Standing.{Standing}
use Rattle.cb_links.specs.declared.sessions.Standing.TheVariants as standing
use Rattle.cb_protocol.specs.Server.{ChangeSession, ForgetTransaction, Server, ServerStep, has_not_ended, server_after}
use Rattle.cb_protocol.specs.ServerMessages.{begin_transaction}
use Rattle.cb_protocol.specs.Session.{BeginTransaction, Session, has_live_txn}

pub same_is : (c : ℕ) → (c == c) ≡ true
same_is c = grind (arith, nat_tests)

-- a later one
abbrev pub begins_later : ℕ → ℕ → List ServerStep
begins_later c t = ForgetTransaction c ∷ ChangeSession c (BeginTransaction t) ∷ []

pub is_later : (s : Server) (c t : ℕ) → standing.Later ≡ standing_in s c t → nat_lt (s.session c).txn t ≡ true
is_later s c t e = go (nat_lt (s.session c).txn t) (has_not_ended s c t) (s.doomed c) refl e
  where
    go : (r u v : Bool) → nat_lt (s.session c).txn t ≡ r → standing.Later ≡ (if r then standing.Later else if u then (if v then standing.Doomed else standing.Live) else standing.Ended)
        → nat_lt (s.session c).txn t ≡ true
    go true u v is e = is
    go false true true is e = absurd cc
    go false true false is e = absurd cc
    go false false v is e = absurd cc

pub later_begins : (s : Server) (c t : ℕ) → standing.Later ≡ standing_in s c t → begin_transaction s c t ≡ begins_later c t
later_begins s c t e = rw (is_later s c t e) refl

pub begun_session : (s : Server) (c t : ℕ) → (server_after s (begins_later c t)).session c ≡ record { current = (s.session c).current; row = (s.session c).row; txn = t; ended = t - 1 }
begun_session s c t = rw (same_is c) refl

begun_doom : (s : Server) (c t : ℕ) → (server_after s (begins_later c t)).doomed c ≡ false
begun_doom s c t = rw (same_is c) refl

pub later_lives : (s : Server) (c t : ℕ) → nat_lt (s.session c).txn t ≡ true → IsLiveOne (server_after s (begins_later c t)) c t false
later_lives s c t lt = record {
  is = ap (λ (k : Session). k.txn) (sym (begun_session s c t));
  lives = subst (λ (k : Session). has_live_txn k ≡ true) (sym (begun_session s c t)) below;
  not_ended = subst (λ (k : Session). nat_lt k.ended t ≡ true) (sym (begun_session s c t)) below;
  doomed = begun_doom s c t;
}
  where
    below : nat_lt (t - 1) t ≡ true
    below = grind (arith, nat_tests, lt)

-- one that isn't later
not_later : (s : Server) (c t : ℕ) (x : Standing) → x ≢ standing.Later → x ≡ standing_in s c t → nat_lt (s.session c).txn t ≡ false
not_later s c t x n e = go (nat_lt (s.session c).txn t) refl e
  where
    go : (r : Bool) → nat_lt (s.session c).txn t ≡ r → x ≡ (if r then standing.Later else if has_not_ended s c t then (if s.doomed c then standing.Doomed else standing.Live) else standing.Ended)
        → nat_lt (s.session c).txn t ≡ false
    go true is e = absurd (n e)
    go false is e = is

pub not_later_begins : (s : Server) (c t : ℕ) (x : Standing) → x ≢ standing.Later → x ≡ standing_in s c t → begin_transaction s c t ≡ []
not_later_begins s c t x n e = rw (not_later s c t x n e) refl

pub live_stands : (s : Server) (c t : ℕ) → standing.Live ≡ standing_in s c t → IsLast s c t → IsLiveOne s c t false
live_stands s c t e last = go (nat_lt (s.session c).txn t) (has_not_ended s c t) (s.doomed c) refl refl e
  where
    go : (r u v : Bool) → has_not_ended s c t ≡ u → s.doomed c ≡ v → standing.Live ≡ (if r then standing.Later else if u then (if v then standing.Doomed else standing.Live) else standing.Ended)
        → IsLiveOne s c t false
    go true u v a b e = absurd cc
    go false true true a b e = absurd cc
    go false true false a b e = record { is = last.is; lives = last.lives; not_ended = a; doomed = b }
    go false false v a b e = absurd cc

pub doomed_stands : (s : Server) (c t : ℕ) → standing.Doomed ≡ standing_in s c t → IsLast s c t → IsLiveOne s c t true
doomed_stands s c t e last = go (nat_lt (s.session c).txn t) (has_not_ended s c t) (s.doomed c) refl refl e
  where
    go : (r u v : Bool) → has_not_ended s c t ≡ u → s.doomed c ≡ v → standing.Doomed ≡ (if r then standing.Later else if u then (if v then standing.Doomed else standing.Live) else standing.Ended)
        → IsLiveOne s c t true
    go true u v a b e = absurd cc
    go false true true a b e = record { is = last.is; lives = last.lives; not_ended = a; doomed = b }
    go false true false a b e = absurd cc
    go false false v a b e = absurd cc

pub ended_stands : (s : Server) (c t : ℕ) → standing.Ended ≡ standing_in s c t → has_not_ended s c t ≡ false
ended_stands s c t e = go (nat_lt (s.session c).txn t) (has_not_ended s c t) (s.doomed c) refl e
  where
    go : (r u v : Bool) → has_not_ended s c t ≡ u → standing.Ended ≡ (if r then standing.Later else if u then (if v then standing.Doomed else standing.Live) else standing.Ended)
        → has_not_ended s c t ≡ false
    go true u v a e = absurd cc
    go false true true a e = absurd cc
    go false true false a e = absurd cc
    go false false v a e = a
