-- How a pool's pages agree with its chooser.
use Rattle.std.specs.Prelude.{◌≡◌, ℕ, List, length, slice_index_or, None}
use Rattle.std.specs.Option.{is_some}
use Rattle.cb_twoq.specs.Pages.{has}
use Rattle.cb_pool.specs.PoolState.{PoolState, IsPool, held}

-- the members are the pages that are here, each once, and the chooser has the pool's slots
pub record Agrees (pool : PoolState) (members : List ℕ) (slots : ℕ) : Type 0 where
  pub is_pool : IsPool pool
  pub members_here : (page : ℕ) → has members page ≡ is_some (slice_index_or pool.pages page None)
  pub count : length members ≡ held pool.pages
  pub same_slots : slots ≡ pool.slots
