-- How a worker asks to be let in, once it has served.
use Rattle.std.specs.Prelude.{◌≡◌, ◌⊎◌, ℕ, Option, Some, Result, Ok, Err, MatchOption}
use Rattle.std.specs.Option.{is_some}
use Rattle.cb_admission.specs.Windows.{Enters, GivesUp, StaysOut, WindowState, after_try, may_enter}
use Rattle.cb_admission.specs.declared.window.TryEnd.{TryEnd}
use Rattle.cb_station.specs.Admission.{with_window}
use Rattle.cb_station.specs.Stations.{IsStation, StationState}
use Rattle.cb_station.specs.Telling.{EndsTry, NoticesNext, Tells, untold_in, with_untold}
use Rattle.cb_worker.specs.Serving.{ServesAndTells}
use Rattle.cb_worker.specs.Workers.{WorkerState}
use Rattle.cb_worker.specs.declared.worker_fault.WorkerFault.{WorkerFault}

module _ {A : Type 0} where
  -- The client asked this window to let a try in: it has a ticket exactly if it may enter, and else
  -- it waits. Of the station only the window changes, and who is to be told.
  pub record Asked (before : StationState) (window : WindowState) (client : ℕ) (ticket : Option A)
      (after : StationState) : Type 0 where
    pub exact : is_some ticket ≡ may_enter window client
    pub through : MatchOption ticket (StaysOut window client after.flags.window)
        (λ let_in. Enters window client after.flags.window)
    pub rest : after ≡ with_untold (with_window before after.flags.window) (untold_in after)

  -- it asked the station's window; who is next is to be told if the client was let in
  abbrev pub AsksFirst : StationState → (client : ℕ) → Option A → StationState → Type 0
  AsksFirst before client ticket after = Asked before before.flags.window client ticket after
      × MatchOption ticket (untold_in after ≡ untold_in before)
      (λ let_in. NoticesNext after.flags.window (untold_in before) (untold_in after))

  -- it asked the window to which its last try gave the ticket back; who is next is to be told
  abbrev pub AsksAgain : StationState → TryEnd → (client : ℕ) → Option A → StationState → Type 0
  AsksAgain before end client ticket after =
      Asked before (after_try before.flags.window end) client ticket after
      × NoticesNext after.flags.window (untold_in before) (untold_in after)

-- The client no longer waits to be let in, and who is next is to be told. Of the station only the
-- window changes, and who is to be told.
pub record StopsWaiting (before : StationState) (client : ℕ) (after : StationState) : Type 0 where
  pub gives_up : GivesUp before.flags.window client after.flags.window
  pub rest : after ≡ with_untold (with_window before after.flags.window) (untold_in after)
  pub next : NoticesNext after.flags.window (untold_in before) (untold_in after)

-- it stopped waiting, and then all who were to be told were
abbrev pub StopsAndTells : StationState → (client : ℕ) → StationState → Type 0
StopsAndTells before client after = (stopped : StationState)
    × StopsWaiting before client stopped × Tells stopped after

module _ {A : Type 0} where
  -- it asked, and then all who were to be told were
  abbrev pub AsksAndTells : StationState → (client : ℕ) → Option A → StationState → Type 0
  AsksAndTells before client ticket after = (asked : StationState)
      × AsksFirst before client ticket asked × Tells asked after

  abbrev pub AsksAgainAndTells : StationState → TryEnd → (client : ℕ) → Option A → StationState
      → Type 0
  AsksAgainAndTells before end client ticket after = (asked : StationState)
      × AsksAgain before end client ticket asked × Tells asked after

  -- the worker served, and then its client asked; if serving was refused, it waits no longer
  abbrev pub EntersAt : (old : WorkerState) → (before : StationState)
      → Result (Option A) WorkerFault → (new : WorkerState) → (after : StationState) → Type 0
  EntersAt old before (Ok ticket) new after = (served : StationState)
      × ServesAndTells old before (Ok tt) new served
      × AsksAndTells served old.hand.client ticket after
  EntersAt old before (Err fault) new after = (served : StationState)
      × ServesAndTells old before (Err fault) new served
      × StopsAndTells served old.hand.client after

  -- the worker served, and then its client asked again; if serving was refused, its last try ended
  abbrev pub EntersAgainAt : (old : WorkerState) → (before : StationState) → TryEnd
      → Result (Option A) WorkerFault → (new : WorkerState) → (after : StationState) → Type 0
  EntersAgainAt old before end (Ok ticket) new after = (served : StationState)
      × ServesAndTells old before (Ok tt) new served
      × AsksAgainAndTells served end old.hand.client ticket after
  EntersAgainAt old before end (Err fault) new after = (served : StationState)
      × ServesAndTells old before (Err fault) new served × EndsTry served end after

  -- the client got this ticket by asking in its own name, for the first time or again, at some
  -- station of which all holds that always does
  abbrev pub WasLetIn : WorkerState → A → Type 0
  WasLetIn new ticket = (old : WorkerState) × (before : StationState) × (after : StationState)
      × IsStation before × (EntersAt old before (Ok (Some ticket)) new after
      ⊎ ((end : TryEnd) × EntersAgainAt old before end (Ok (Some ticket)) new after))
