-- Who is to be told of what the station did, and that all were.
use Rattle.std.specs.Prelude.{◌≡◌, ◌<◌, ◌⊎◌, ◌||◌, ◌-◌, ℕ, true, false, nat_le}
use Rattle.cb_admission.specs.Windows.{IsNextIn, NoneIsNext, WindowState, after_try}
use Rattle.cb_admission.specs.declared.window.TryEnd.{TryEnd}
use Rattle.cb_mailboxes.specs.Dispatching as dispatching
use Rattle.cb_mailboxes.specs.Mailboxes.{IsNobody}
use Rattle.cb_page.specs.Clients.{Clients, has, with}
use Rattle.cb_station.specs.Admission.{with_window}
use Rattle.cb_station.specs.Stations.{StationState}

-- which clients are to be told that there is something for them
abbrev pub untold_in : StationState → Clients
untold_in station = dispatching.untold_in station.dispatcher

-- only who is to be told changes
abbrev pub with_untold : StationState → Clients → StationState
with_untold station clients =
    record station { dispatcher = dispatching.with_untold station.dispatcher clients }

-- Nobody is to be told of anything (this project's).
pub record IsTold (station : StationState) : Type 0 where
  pub clients : IsNobody (untold_in station)
  pub news : station.flags.news ≡ false

-- All who are to be told are told, and nothing else changes.
pub record Tells (before after : StationState) : Type 0 where
  pub rest : after ≡ with_untold (record before { flags = record before.flags { news = false } })
      (untold_in after)
  pub told : IsTold after

-- no call of `work` begins any more, of which whoever waits for that is to be told
abbrev pub closed : StationState → StationState
closed station =
    record station { flags = record station.flags { closed = true; news = true } }

-- one call of `work` that was expected won't begin, of which whoever waits for that is to be told;
-- the last one closes the station
abbrev pub without_work : StationState → StationState
without_work station = record station {
  flags = record station.flags {
    closed = station.flags.closed || nat_le station.flags.left 1;
    left = station.flags.left - 1;
    news = true;
  };
}

-- one call of `work` has ended, of which whoever waits for that is to be told; the last one closes
-- the station
abbrev pub after_work : StationState → StationState
after_work station = record station {
  flags = record station.flags {
    closed = station.flags.closed || nat_le station.flags.left 1;
    left = station.flags.left - 1;
    working = station.flags.working - 1;
    news = true;
  };
}

-- no call of `work` begins any more and nobody waits, and these clients are to be told
abbrev pub halted : StationState → Clients → StationState
halted station clients = with_untold (record station {
  flags = record station.flags { closed = true; halted = true; news = true };
}) clients

-- beside these clients the one that is to be let in next is to be told, if there is one
abbrev pub NoticesNext : WindowState → (before after : Clients) → Type 0
NoticesNext window before after =
    (NoneIsNext window × (after ≡ before))
    ⊎ ((next : ℕ) × IsNextIn window next
    × ((client : ℕ) → has after client ≡ with before next client))

-- A try ended so, and then all who were to be told were: among them who is to be let in next.
pub record EndsTry (before : StationState) (end : TryEnd) (after : StationState) : Type 0 where
  pub untold : Clients
  pub next : NoticesNext (after_try before.flags.window end) (untold_in before) untold
  pub tells : Tells
      (with_untold (with_window before (after_try before.flags.window end)) untold) after

-- The station was halted, and then all who were to be told were: everybody.
pub record Halts (before after : StationState) : Type 0 where
  pub untold : Clients
  pub everybody : (client : ℕ) → client < 32 → has untold client ≡ true
  pub tells : Tells (halted before untold) after
