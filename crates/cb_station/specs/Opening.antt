-- A station that has just been opened. This project's rules.
use Rattle.std.specs.Prelude.{◌≡◌, ℕ, false, [], None, replicate}
use Rattle.cb_admission.specs.Windows.{IsNew as IsNewWindow}
use Rattle.cb_page.specs.Bounds.{Bounds}
use Rattle.cb_station.specs.Stations.{StationState, mailbox_of}
use Rattle.cb_station.specs.Telling.{IsTold}

-- Nobody has joined, nothing lies in a mailbox or in the history, and nobody is to be told of
-- anything. It isn't closed, and expects one call of `work`.
pub record IsOpened (limits : Bounds) (station : StationState) : Type 0 where
  pub mailbox : (client : ℕ) → mailbox_of station client ≡ []
  pub hands : station.hands ≡ replicate limits.clients None
  pub history : station.history ≡ []
  pub flags : station.flags ≡ record {
    closed = false;
    halted = false;
    left = 1;
    working = 0;
    window = station.flags.window;
    news = false;
  }
  pub window : IsNewWindow station.flags.window
  pub told : IsTold station
