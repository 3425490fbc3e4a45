-- The world over all lives of its server as the first life begins.
use Rattle.std.specs.Prelude.{◌≡◌, []}
use Rattle.cb_cache.specs.CacheState.{limits_of}
use Rattle.cb_commit.specs.Stores.{zeros}
use Rattle.cb_page.specs.Bounds.{Bounds}
use Rattle.cb_protocol.specs.LivesWorld.{first_life}
use Rattle.cb_server_state.specs.States.{opening_of}
use Rattle.cb_schedule.specs.LivesState.{LivesState, RepresentsLives}

-- It runs over a store of zeros, in the first life of its server, and nothing has happened.
pub record IsFirstLife (bounds : Bounds) (v : LivesState) : Type 0 where
  pub limits : v.limits ≡ bounds
  pub tells : v.told ≡ record { opening = zeros bounds; entries = []; commits = [] }
  pub shows : RepresentsLives v (first_life (limits_of bounds) (opening_of (zeros bounds)))
