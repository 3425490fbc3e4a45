-- The window of a station, through which tries are let in.
use Rattle.cb_admission.specs.Windows.{WindowState}
use Rattle.cb_station.specs.Stations.{StationState}

-- only the window changes
abbrev pub with_window : StationState → WindowState → StationState
with_window station window = record station {
  flags = record station.flags { window = window };
}
