-- The tables that a shelf writes.
use Rattle.sqlite.specs.Effect.{Database}
use Rattle.cb_commit.specs.Stores.{StoreState}
use Rattle.cb_shelf.specs.declared.reading.Generation.TheVariants.{Newer}
use Rattle.cb_shelf.specs.Reading.{Holds}

-- they hold a store
abbrev pub HoldsNewer : Database → StoreState → Type 0
HoldsNewer = Holds Newer
