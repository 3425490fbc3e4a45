-- Whether a commit is applied, and what is done.
use Rattle.std.proofs.Common.{◌≡◌, ◌≢◌, ℕ, nat_lt, nat_le, Bool, true, false, ◌&&◌, if◌then◌else◌, List, [], ◌∷◌, refl, sym, ap, ◌∙◌, subst}
use Rattle.cb_server_state.specs.Questions.{IsLast, begun_server, standing_in}
use Rattle.cb_links.specs.declared.sessions.Standing.{Standing}
use Rattle.cb_links.specs.declared.sessions.Standing.TheVariants as standing
use Rattle.cb_protocol.specs.Basics.{max_number}
use Rattle.cb_protocol.specs.Messages.{AbortNow, Commit, PageWrite}
use Rattle.cb_protocol.specs.Server.{Server, ServerStep, server_after}
use Rattle.cb_protocol.specs.ServerMessages.{begin_transaction, commit_allowed, direct_answer, lacks_number, may_proceed, take_commit}
use Rattle.cb_protocol.specs.Settling.{send_to}
use Rattle.cb_protocol.specs.WaitsFor.{on_cycle}
use Rattle.cb_callbacks.specs.Numbers.{IsLiveOne}
use Rattle.cb_server.specs.Answering.{Begins, Makes, answer_to, applies, server_in}
use Rattle.cb_server.specs.declared.engine.Engine.{Engine}
use Rattle.cb_callbacks.proofs.Standing.{begins_later, doomed_stands, ended_stands, is_later, later_begins, later_lives, live_stands, not_later_begins}
use Rattle.cb_server.proofs.Making.{answers, makes_as, makes_nothing}

live_later : standing.Live ≢ standing.Later
live_later e = absurd cc

doomed_later : standing.Doomed ≢ standing.Later
doomed_later e = absurd cc

ended_later : standing.Ended ≢ standing.Later
ended_later e = absurd cc

-- whether it is applied, by how its transaction stands
pub applies_later : (s : Server) (c t : ℕ) (ws : List PageWrite) → standing.Later ≡ standing_in s c t
    → applies s c t ws ≡ commit_allowed (begun_server s c t) c ws
applies_later s c t ws is =
    ap (λ (l : List ServerStep). may_proceed (server_after s l) c t && commit_allowed (server_after s l) c ws) (later_begins s c t is)
    ∙ rw (lives.not_ended, lives.doomed) refl
  where
    lives : IsLiveOne (begun_server s c t) c t false
    lives = later_lives s c t (is_later s c t is)

as_it_is : (s : Server) (c t : ℕ) (ws : List PageWrite) (x : Standing) → x ≢ standing.Later → x ≡ standing_in s c t
    → applies s c t ws ≡ (may_proceed s c t && commit_allowed s c ws)
as_it_is s c t ws x n is =
    ap (λ (l : List ServerStep). may_proceed (server_after s l) c t && commit_allowed (server_after s l) c ws) (not_later_begins s c t x n is)

pub applies_live : (s : Server) (c t : ℕ) (ws : List PageWrite) → standing.Live ≡ standing_in s c t → IsLast s c t
    → applies s c t ws ≡ commit_allowed s c ws
applies_live s c t ws is last = as_it_is s c t ws standing.Live live_later is ∙ rw (lives.not_ended, lives.doomed) refl
  where
    lives : IsLiveOne s c t false
    lives = live_stands s c t is last

pub applies_doomed : (s : Server) (c t : ℕ) (ws : List PageWrite) → standing.Doomed ≡ standing_in s c t → IsLast s c t → applies s c t ws ≡ false
applies_doomed s c t ws is last = as_it_is s c t ws standing.Doomed doomed_later is ∙ rw (lives.not_ended, lives.doomed) refl
  where
    lives : IsLiveOne s c t true
    lives = doomed_stands s c t is last

pub applies_ended : (s : Server) (c t : ℕ) (ws : List PageWrite) → standing.Ended ≡ standing_in s c t → applies s c t ws ≡ false
applies_ended s c t ws is = as_it_is s c t ws standing.Ended ended_later is ∙ rw (ended_stands s c t is) refl

-- it is not: its transaction has begun
denied : (old mid : Engine) (c t : ℕ) (ws : List PageWrite) → Begins old c t mid → applies (server_in old) c t ws ≡ false → IsLiveOne (server_in mid) c t false
    → commit_allowed (server_in mid) c ws ≡ false
denied old mid c t ws b a l = by (subst (λ (s : Server). (may_proceed s c t && commit_allowed s c ws) ≡ false) (sym b.makes.says.becomes) a)
  where
    by : (may_proceed (server_in mid) c t && commit_allowed (server_in mid) c ws) ≡ false → commit_allowed (server_in mid) c ws ≡ false
    by e = rw (l.not_ended, l.doomed) at e

pub not_applied_live : (old mid : Engine) (c t : ℕ) (ws : List PageWrite) → Begins old c t mid → applies (server_in old) c t ws ≡ false → IsLiveOne (server_in mid) c t false
    → Makes old (answer_to on_cycle c (Commit t ws)) mid
not_applied_live old mid c t ws b a l =
    answers old mid mid c t (Commit t ws) refl b
    (makes_as mid mid (λ s. direct_answer on_cycle s c (Commit t ws)) (λ s. []) none (makes_nothing mid))
  where
    none : take_commit (server_in mid) c t ws ≡ []
    none = rw (l.not_ended, l.doomed, denied old mid c t ws b a l) refl

pub not_applied_doomed : (old mid new : Engine) (c t : ℕ) (ws : List PageWrite) → Begins old c t mid → IsLiveOne (server_in mid) c t true
    → Makes mid (λ s. send_to s c (AbortNow t) ∷ []) new → Makes old (answer_to on_cycle c (Commit t ws)) new
not_applied_doomed old mid new c t ws b l m =
    answers old mid new c t (Commit t ws) refl b
    (makes_as mid new (λ s. direct_answer on_cycle s c (Commit t ws)) (λ s. send_to s c (AbortNow t) ∷ []) said m)
  where
    said : take_commit (server_in mid) c t ws ≡ send_to (server_in mid) c (AbortNow t) ∷ []
    said = rw (l.not_ended, l.doomed) refl

pub not_applied_ended : (old mid new : Engine) (c t : ℕ) (ws : List PageWrite) → Begins old c t mid
    → Makes mid (λ s. take_commit s c t ws) new → Makes old (answer_to on_cycle c (Commit t ws)) new
not_applied_ended old mid new c t ws b m = answers old mid new c t (Commit t ws) refl b m

-- whether a number is lacking for it
last_commit_begun : (s : Server) (c t : ℕ) → (server_after s (begin_transaction s c t)).store.last_commit ≡ s.store.last_commit
last_commit_begun s c t = go (nat_lt (s.session c).txn t)
  where
    go : (r : Bool) → (server_after s (if r then begins_later c t else [])).store.last_commit ≡ s.store.last_commit
    go true = refl
    go false = refl

pub lacks_if_applied : (s : Server) (c t : ℕ) (ws : List PageWrite) → lacks_number (server_after s (begin_transaction s c t)) c (Commit t ws)
    ≡ (applies s c t ws && nat_le max_number s.store.last_commit)
lacks_if_applied s c t ws =
    join (may_proceed b c t) (commit_allowed b c ws) (nat_le max_number b.store.last_commit)
    ∙ ap (λ (n : ℕ). applies s c t ws && nat_le max_number n) (last_commit_begun s c t)
  where
    b : Server
    b = server_after s (begin_transaction s c t)

    join : (x y z : Bool) → (x && y && z) ≡ ((x && y) && z)
    join true y z = refl
    join false y z = refl
