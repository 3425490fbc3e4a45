-- How many tries are let in, and who. This project's rules.
use Rattle.std.specs.Prelude.{◌≡◌, ◌==◌, ◌&&◌, ◌⊎◌, ◌+◌, ◌-◌, ◌/◌, ◌^◌, ◌<◌, ◌≤◌, ℕ, Bool, true}
use Rattle.std.specs.Prelude.{false, if◌then◌else◌, max, min, nat_le, nat_lt, not}
use Rattle.cb_page.specs.Clients.{Clients, IsLeast, IsNext, has, with, without}
use Rattle.cb_admission.specs.declared.window.TryEnd.{TryEnd}
use Rattle.cb_admission.specs.declared.window.TryEnd.TheVariants as ended

-- how many tries are in, and how many may be; how many commits came since the width changed or a
-- try was aborted; how many were aborted; who waits; who was let in last, and how often in a row
-- while others waited
pub record WindowState : Type 0 where
  pub inside : ℕ
  pub width : ℕ
  pub clean : ℕ
  pub aborted : ℕ
  pub waiting : Clients
  pub last : ℕ
  pub turns : ℕ

-- What holds of every window: one may be in, and at most as many as there may be clients.
pub record IsWindow (window : WindowState) : Type 0 where
  pub least : 1 ≤ window.width
  pub widest : window.width ≤ 32
  pub clean : window.clean < 64
  pub turns : window.turns ≤ 16

-- One as wide as it gets, with nobody in and nobody waiting.
pub record IsNew (window : WindowState) : Type 0 where
  pub inside : window.inside ≡ 0
  pub width : window.width ≡ 32
  pub clean : window.clean ≡ 0
  pub aborted : window.aborted ≡ 0
  pub nobody : (client : ℕ) → has window.waiting client ≡ false
  pub turns : window.turns ≡ 0

-- the client was let in sixteen times in a row while others waited
abbrev pub is_passed_over : WindowState → (client : ℕ) → Bool
is_passed_over window client = (window.last == client) && nat_le 16 window.turns

-- a try of the client may enter: there is room, and the client isn't passed over
abbrev pub may_enter : WindowState → (client : ℕ) → Bool
may_enter window client =
    nat_lt window.inside window.width && not (is_passed_over window client)

-- So often in a row it is let in then, while others wait; not at all where nobody does.
pub record IsTurn (window : WindowState) (client turns : ℕ) : Type 0 where
  pub alone : ((other : ℕ) → has window.waiting other ≡ false) → turns ≡ 0
  pub contended : (other : ℕ) → has window.waiting other ≡ true
      → turns ≡ (if window.last == client then window.turns + 1 else 1)

-- A try of the client was let in: one more is in, and the client waits no more.
pub record Enters (old : WindowState) (client : ℕ) (new : WindowState) : Type 0 where
  pub inside : new.inside ≡ old.inside + 1
  pub width : new.width ≡ old.width
  pub clean : new.clean ≡ old.clean
  pub aborted : new.aborted ≡ old.aborted
  pub waiting : (other : ℕ) → has new.waiting other ≡ without old.waiting client other
  pub last : new.last ≡ client
  pub alone : ((other : ℕ) → has new.waiting other ≡ false) → new.turns ≡ 0
  pub contended : (other : ℕ) → has new.waiting other ≡ true
      → new.turns ≡ (if old.last == client then old.turns + 1 else 1)

-- None of the client's was: it waits. One that was passed over isn't the next time.
pub record StaysOut (old : WindowState) (client : ℕ) (new : WindowState) : Type 0 where
  pub inside : new.inside ≡ old.inside
  pub width : new.width ≡ old.width
  pub clean : new.clean ≡ old.clean
  pub aborted : new.aborted ≡ old.aborted
  pub waiting : (other : ℕ) → has new.waiting other ≡ with old.waiting client other
  pub last : new.last ≡ old.last
  pub turns : new.turns ≡ (if is_passed_over old client then 0 else old.turns)

-- The client no longer waits, though it wasn't let in; nobody is passed over then.
pub record GivesUp (old : WindowState) (client : ℕ) (new : WindowState) : Type 0 where
  pub inside : new.inside ≡ old.inside
  pub width : new.width ≡ old.width
  pub clean : new.clean ≡ old.clean
  pub aborted : new.aborted ≡ old.aborted
  pub waiting : (other : ℕ) → has new.waiting other ≡ without old.waiting client other
  pub last : new.last ≡ old.last
  pub turns : new.turns ≡ 0

-- how wide it is after a try that ended so: half as wide by one that was aborted, and never shut;
-- wider by one after 64 commits with none aborted between them
abbrev pub width_after : WindowState → TryEnd → ℕ
width_after window ended.Committed =
    if nat_lt (window.clean + 1) 64 then window.width else min (window.width + 1) 32
width_after window ended.Aborted = max (window.width / 2) 1
width_after window ended.GivenUp = window.width

-- how many clean commits it has then
abbrev pub clean_after : WindowState → TryEnd → ℕ
clean_after window ended.Committed =
    if nat_lt (window.clean + 1) 64 then window.clean + 1 else 0
clean_after window ended.Aborted = 0
clean_after window ended.GivenUp = window.clean

-- how many were aborted then, counted up to 2^64 - 1
abbrev pub aborted_after : WindowState → TryEnd → ℕ
aborted_after window ended.Aborted = min (window.aborted + 1) (2 ^ 64 - 1)
aborted_after window _ = window.aborted

-- one try fewer is in once it ended, however that was
abbrev pub after_try : WindowState → TryEnd → WindowState
after_try window end = record window {
  inside = window.inside - 1;
  width = width_after window end;
  clean = clean_after window end;
  aborted = aborted_after window end;
}

-- A try may be let in, and the client waits: the first after the one that was let in last, by their
-- numbers, or the first of all where none after that one waits.
pub record IsNextIn (window : WindowState) (client : ℕ) : Type 0 where
  pub room : window.inside < window.width
  pub turn : IsNext window.waiting (window.last + 1) client
      ⊎ (((other : ℕ) → window.last + 1 ≤ other → has window.waiting other ≡ false)
      × IsLeast window.waiting client)

-- None is to be let in: there is no room, or nobody waits.
abbrev pub NoneIsNext : WindowState → Type 0
NoneIsNext window = (window.width ≤ window.inside)
    ⊎ ((other : ℕ) → has window.waiting other ≡ false)
