-- Whether a number is lacking for a message once its transaction has begun.
use Rattle.std.proofs.Common.{◌≡◌, ◌≢◌, ℕ, ◌+◌, ◌-◌, nat_lt, Bool, true, false, not, ◌&&◌, ◌||◌, if◌then◌else◌, List, [], ◌∷◌, Option, None, Some, zero, suc, refl, sym, ap, ◌∙◌}
use Rattle.std.specs.Option.{is_some}
use Rattle.cb_callbacks.proofs.Queues.{without_gone}
use Rattle.cb_server_state.specs.Questions.{IsLast, standing_in}
use Rattle.cb_links.specs.declared.sessions.Standing.TheVariants as standing
use Rattle.cb_protocol.proofs.ReadAsksWaiting.{reads_same}
use Rattle.cb_protocol.specs.Basics.{is_none, max_number}
use Rattle.cb_protocol.specs.Messages.{AskRead}
use Rattle.cb_protocol.specs.Server.{ChangeSession, ForgetTransaction, Server, ServerStep, after_server_step, has_ask, server_after}
use Rattle.cb_protocol.specs.ServerMessages.{begin_transaction, has_waiting_ask, lacks_number, may_proceed, read_asks_below}
use Rattle.cb_protocol.specs.Session.{BeginTransaction}
use Rattle.cb_callbacks.specs.Numbers.{IsLiveOne, LacksNumber}
use Rattle.cb_callbacks.proofs.Standing.{doomed_stands, ended_stands, is_later, later_begins, later_lives, live_stands, not_later_begins, same_is}

-- the server once a later transaction has begun
abbrev later : Server → (c t : ℕ) → Server
later s c t = server_after s (ForgetTransaction c ∷ ChangeSession c (BeginTransaction t) ∷ [])

-- whatever begins, the client's rows stay
pub rows_stay : (s : Server) (c t p : ℕ) → ((server_after s (begin_transaction s c t)).session c).row p ≡ ((s.session c).row) p
rows_stay s c t p = go (nat_lt (s.session c).txn t)
  where
    go : (r : Bool) → ((server_after s (if r then ForgetTransaction c ∷ ChangeSession c (BeginTransaction t) ∷ [] else [])).session c).row p ≡ (s.session c).row p
    go true = ap (λ (b : Bool). (if b then record { current = (s.session c).current; row = (s.session c).row; txn = t; ended = t - 1 } else s.session c).row p) (same_is c)
    go false = refl

last_false : (a b : Bool) → (a && false && b) ≡ false
last_false true b = refl
last_false false b = refl

-- with a copy none is needed
pub has_copy_already : (s : Server) (c t p : ℕ) → is_none ((s.session c).row p) ≡ false → LacksNumber s c (AskRead t p) false
has_copy_already s c t p some = go (may_proceed k c t) (not (has_waiting_ask k c k.pages)) (nat_lt max_number (k.next_grant + read_asks_below k k.pages))
  where
    k : Server
    k = server_after s (begin_transaction s c t)

    none : is_none ((k.session c).row p) ≡ false
    none = ap is_none (rows_stay s c t p) ∙ some

    go : (a b d : Bool) → (a && is_none ((k.session c).row p) && b && d) ≡ false
    go a b d = ap (λ x. a && x && b && d) none ∙ three a b d
      where
        three : (a b d : Bool) → (a && false && b && d) ≡ false
        three true b d = refl
        three false b d = refl

-- none of the client's asks waits any more
none_waits : (s : Server) (c t end : ℕ) → has_waiting_ask (later s c t) c end ≡ false
none_waits s c t zero = refl
none_waits s c t (suc p) = ap (λ b. b || has_ask c ((later s c t).queue p)) (none_waits s c t p) ∙ without_gone c (s.queue p)

pub lacks_as_later : (s : Server) (c t p grants : ℕ) → standing.Later ≡ standing_in s c t → is_none ((s.session c).row p) ≡ true
    → grants ≡ read_asks_below (after_server_step s (ForgetTransaction c)) s.pages
    → LacksNumber s c (AskRead t p) (nat_lt max_number (s.next_grant + grants))
lacks_as_later s c t p grants is row g =
    ap (λ (l : List ServerStep). lacks_number (server_after s l) c (AskRead t p)) (later_begins s c t is)
    ∙ (rw (lives.not_ended, lives.doomed, kept, none_waits s c t s.pages) (ap (λ (n : ℕ). nat_lt max_number (s.next_grant + n)) (as_many ∙ sym g)))
  where
    lives : IsLiveOne (later s c t) c t false
    lives = later_lives s c t (is_later s c t is)

    kept : is_none (((later s c t).session c).row p) ≡ true
    kept = ap (λ (l : List ServerStep). is_none (((server_after s l).session c).row p)) (sym (later_begins s c t is)) ∙ (ap is_none (rows_stay s c t p) ∙ row)

    as_many : read_asks_below (later s c t) s.pages ≡ read_asks_below (after_server_step s (ForgetTransaction c)) s.pages
    as_many = reads_same (after_server_step s (ForgetTransaction c)) (later s c t) s.pages (λ q l. refl)

not_live : standing.Live ≢ standing.Later
not_live e = absurd cc

not_doomed : standing.Doomed ≢ standing.Later
not_doomed e = absurd cc

not_ended : standing.Ended ≢ standing.Later
not_ended e = absurd cc

lacks_as_live : (s : Server) (c t p grants : ℕ) → standing.Live ≡ standing_in s c t → IsLast s c t → is_none ((s.session c).row p) ≡ true
    → grants ≡ read_asks_below s s.pages
    → LacksNumber s c (AskRead t p) (not (has_waiting_ask s c s.pages) && nat_lt max_number (s.next_grant + grants))
lacks_as_live s c t p grants is last row g =
    ap (λ (l : List ServerStep). lacks_number (server_after s l) c (AskRead t p)) (not_later_begins s c t standing.Live not_live is)
    ∙ (rw (lives.not_ended, lives.doomed, row) (ap (λ (n : ℕ). not (has_waiting_ask s c s.pages) && nat_lt max_number (s.next_grant + n)) (sym g)))
  where
    lives : IsLiveOne s c t false
    lives = live_stands s c t is last

pub lacks_as_idle : (s : Server) (c t p grants : ℕ) → standing.Live ≡ standing_in s c t → IsLast s c t → is_none ((s.session c).row p) ≡ true
    → grants ≡ read_asks_below s s.pages → has_waiting_ask s c s.pages ≡ false → LacksNumber s c (AskRead t p) (nat_lt max_number (s.next_grant + grants))
lacks_as_idle s c t p grants is last row g idle =
    lacks_as_live s c t p grants is last row g ∙ ap (λ (b : Bool). not b && nat_lt max_number (s.next_grant + grants)) idle

pub lacks_none_waiting : (s : Server) (c t p : ℕ) → standing.Live ≡ standing_in s c t → IsLast s c t → is_none ((s.session c).row p) ≡ true
    → has_waiting_ask s c s.pages ≡ true → LacksNumber s c (AskRead t p) false
lacks_none_waiting s c t p is last row waits =
    lacks_as_live s c t p (read_asks_below s s.pages) is last row refl ∙ ap (λ (b : Bool). not b && nat_lt max_number (s.next_grant + read_asks_below s s.pages)) waits

pub lacks_none_doomed : (s : Server) (c t p : ℕ) → standing.Doomed ≡ standing_in s c t → IsLast s c t → LacksNumber s c (AskRead t p) false
lacks_none_doomed s c t p is last =
    ap (λ (l : List ServerStep). lacks_number (server_after s l) c (AskRead t p)) (not_later_begins s c t standing.Doomed not_doomed is)
    ∙ rw (lives.not_ended, lives.doomed) refl
  where
    lives : IsLiveOne s c t true
    lives = doomed_stands s c t is last

pub lacks_none_ended : (s : Server) (c t p : ℕ) → standing.Ended ≡ standing_in s c t → LacksNumber s c (AskRead t p) false
lacks_none_ended s c t p is =
    ap (λ (l : List ServerStep). lacks_number (server_after s l) c (AskRead t p)) (not_later_begins s c t standing.Ended not_ended is)
    ∙ rw (ended_stands s c t is) refl

-- the client was found to have no row, or one
pub none_found : (row : Option ℕ) (has_row : Bool) → has_row ≡ false → has_row ≡ is_some row → is_none row ≡ true
none_found None has_row none is = refl
none_found (Some number) has_row none is = sym none ∙ is

pub some_found : (row : Option ℕ) (has_row : Bool) → has_row ≡ true → has_row ≡ is_some row → is_none row ≡ false
some_found None has_row some is = sym some ∙ is
some_found (Some number) has_row some is = refl
