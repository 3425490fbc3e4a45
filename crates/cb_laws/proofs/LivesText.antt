-- Schedules over several lives of the server, line by line, with the answers that are stated for them.
use Rattle.std.proofs.Common.{Bool, List, None, [], arith, false, map, nat_le, nat_lt, refl, suc, true, zero, ℕ, ◌&&◌, ◌<◌, ◌==◌, ◌∷◌, ◌≡◌, ◌≢◌}
use Rattle.cb_protocol.proofs.ScheduleText.{Line, and_left, and_right, event_choice, event_is, zeros}
use Rattle.cb_protocol.specs.Basics.{Limits}
use Rattle.cb_protocol.specs.Lives.{lives_commits}
use Rattle.cb_protocol.specs.LivesWorld.{IsNewFloor, LeadsTo, Lives, LivesEvent, MayBeOnDisk, ServerRestarts, WithinLife, first_life, lives_step}
use Rattle.cb_protocol.specs.Server.{AppliedCommit, Server}
use Rattle.cb_protocol.specs.Session.{Session}
use Rattle.cb_protocol.specs.WaitsFor.{on_cycle}
use Rattle.cb_protocol.specs.World.{Answer, step}

-- a line of one life, or the server restarts with that floor, where the commits up to that number are on disk
pub data LivesLine : Type 0 where
  Within : Line → LivesLine
  Restarts : (floor number : ℕ) → LivesLine

abbrev pub within : List Line → List LivesLine
within ls = map (λ l. Within l) ls

-- the event of a line
abbrev pub event_of : LivesLine → LivesEvent
event_of (Within l) = WithinLife l.event
event_of (Restarts floor n) = ServerRestarts floor n

-- what a line makes of it
abbrev pub after_line : Limits → Lives → LivesLine → Lives
after_line L lives (Within l) = lives_step L on_cycle lives (WithinLife l.event) l.let_go
after_line L lives (Restarts floor n) = lives_step L on_cycle lives (ServerRestarts floor n) None

abbrev pub after_lines : Limits → Lives → List LivesLine → Lives
after_lines L lives [] = lives
after_lines L lives (l ∷ ls) = after_lines L (after_line L lives l) ls

-- a commit that counts: its transaction and its number
pub record CommitSeen : Type 0 where
  pub client : ℕ
  pub incarnation : ℕ
  pub txn : ℕ
  pub number : ℕ

abbrev pub commit : ℕ → ℕ → ℕ → ℕ → CommitSeen
commit c i t n = record { client = c; incarnation = i; txn = t; number = n }

-- each current incarnation of the clients below n is below the floor
abbrev pub all_below : (floor : ℕ) → (ℕ → Session) → (n : ℕ) → Bool
all_below floor sessions zero = true
all_below floor sessions (suc n) = nat_lt (sessions n).current floor && all_below floor sessions n

-- the floor is a new one
abbrev pub is_new_floor : Lives → ℕ → Bool
is_new_floor lives floor = nat_lt lives.floor floor && all_below floor lives.world.server.session lives.world.server.clients

-- the answers; whether each page let go was one that the pool might let go, each floor a new one, and each number one that the disk may have; the commits that count in the end, the newest first
pub record LivesOutput : Type 0 where
  pub answers : List Answer
  pub allowed : Bool
  pub commits : List CommitSeen

-- by the definitions
abbrev pub lives_output : Limits → Lives → List LivesLine → LivesOutput
lives_output L lives [] = record { answers = []; allowed = true; commits = map (λ (x : AppliedCommit). commit x.client x.incarnation x.txn x.number) (lives_commits lives) }
lives_output L lives (Within l ∷ ls) = let rest = lives_output L (after_line L lives (Within l)) ls in
    record { answers = (step L on_cycle lives.world l.event l.let_go).answer ∷ rest.answers; allowed = event_choice L lives.world l.event l.let_go && rest.allowed; commits = rest.commits }
lives_output L lives (Restarts floor n ∷ ls) = let rest = lives_output L (after_line L lives (Restarts floor n)) ls in
    record rest { allowed = is_new_floor lives floor && (nat_le lives.world.server.flushed n && nat_le n lives.world.server.store.last_commit && rest.allowed) }

-- as the lines state it; nobody is answered at a restart of the server
abbrev pub lives_stated : List LivesLine → List Answer
lives_stated [] = []
lives_stated (Within l ∷ ls) = l.answer ∷ lives_stated ls
lives_stated (Restarts floor n ∷ ls) = lives_stated ls

-- From the first life over zeros the events are answered as the lines state, and in the end those commits count.
abbrev pub LivesGive : Limits → List LivesLine → List CommitSeen → Type 0
LivesGive L ls cs = lives_output L (first_life L zeros) ls ≡ record { answers = lives_stated ls; allowed = true; commits = cs }

-- what the lines make of the first life over zeros
abbrev pub lives_of : Limits → List LivesLine → Lives
lives_of L ls = after_lines L (first_life L zeros) ls

-- the floor is above each of them
below_all : (floor : ℕ) (sessions : ℕ → Session) (n c : ℕ) → all_below floor sessions n ≡ true → c < n → (sessions c).current < floor
below_all floor sessions zero c e l = absurd (omega (arith, l))
below_all floor sessions (suc n) c e l = go (c == n) refl (below_all floor sessions n c (and_right (nat_lt (sessions n).current floor) _ e))
  where
    here : nat_lt (sessions n).current floor ≡ true → (sessions n).current < floor
    here h = grind arith

    go : (r : Bool) → (c == n) ≡ r → (c < n → (sessions c).current < floor) → (sessions c).current < floor
    go true h f = let q : c ≡ n = grind arith in rw q (here (and_left _ _ e))
    go false h f = let q : c ≢ n = grind arith in f (omega (arith, l, q))

-- so the server can tell that it is a new one
new_floor : (lives : Lives) (floor : ℕ) → is_new_floor lives floor ≡ true → IsNewFloor lives floor
new_floor lives floor e = record { rises = rises (and_left _ _ e); admitted = λ c l. below_all floor lives.world.server.session lives.world.server.clients c (and_right (nat_lt lives.floor floor) _ e) l }
  where
    rises : nat_lt lives.floor floor ≡ true → lives.floor < floor
    rises h = grind arith

-- the disk may have the commits up to that number
may_be : (s : Server) (n : ℕ) (rest : Bool) → (nat_le s.flushed n && nat_le n s.store.last_commit && rest) ≡ true → MayBeOnDisk s n × (rest ≡ true)
may_be s n rest e = (record { reported = grind arith; made = grind arith }, grind arith)

-- then the lines are a list of events of the headline
pub lines_lead : (L : Limits) (lives : Lives) (ls : List LivesLine) → (lives_output L lives ls).allowed ≡ true → LeadsTo L on_cycle lives (map event_of ls) (after_lines L lives ls)
lines_lead L lives [] e = refl
lines_lead L lives (Within l ∷ ls) e = (l.let_go, event_is L lives.world l.event l.let_go (and_left _ _ e), lines_lead L (after_line L lives (Within l)) ls (and_right (event_choice L lives.world l.event l.let_go) _ e))
lines_lead L lives (Restarts floor n ∷ ls) e = (let r = lives_output L (after_line L lives (Restarts floor n)) ls in let d = may_be lives.world.server n r.allowed (and_right (is_new_floor lives floor) _ e) in (None, (new_floor lives floor (and_left _ _ e), d.0), lines_lead L (after_line L lives (Restarts floor n)) ls d.1))
