-- What a refusal of the database is to the shelf.
use Rattle.sqlite.specs.declared.error.Error.{Error}
use Rattle.sqlite.specs.declared.error.Error.TheVariants.{SqliteFailure}
use Rattle.sqlite.specs.declared.error.ErrorCode.TheVariants.{OutOfMemory}
use Rattle.cb_shelf.specs.declared.fault.ShelfFault.{ShelfFault}
use Rattle.cb_shelf.specs.declared.fault.ShelfFault.TheVariants.{Store, Memory}

-- want of memory is told as such, all else as a refusal of the store
abbrev pub fault_of : Error → ShelfFault
fault_of (SqliteFailure OutOfMemory) = Memory
fault_of _ = Store
