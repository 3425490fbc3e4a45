-- What holds at each turn of the loops of `Office::tell_clients`.
use Rattle.std.proofs.Common.{◌≡◌, ◌<◌, ◌≤◌, ◌-◌, ℕ, false}
use Rattle.cb_page.specs.Clients.{has}
use Rattle.cb_station.specs.Telling.{untold_in, with_untold}
use Rattle.cb_station.proofs.office.Office.tell_clients.Given as goal

-- those before are told, and nothing else has changed
abbrev pub invariant-loop-client : goal.invariant-loop-client
invariant-loop-client l = record {
  rest : l.station ≡ with_untold l.fn.station (untold_in l.station);
  told : (client : ℕ) → client < l.from → has (untold_in l.station) client ≡ false;
  within : l.from ≤ 32;
}

abbrev pub decreases-loop-client : goal.decreases-loop-client
decreases-loop-client l = 32 - l.from
