-- What a guard lends.
use Rattle.std.specs.Sync.Mutex.{mutex_guard_value}
use Rattle.cb_station.specs.Stations.{StationState}
use Rattle.cb_station.specs.declared.locked.LockedStation.{LockedStation}

-- the station that lies under the lock
abbrev pub lent_station : LockedStation → StationState
lent_station locked = mutex_guard_value locked.station
