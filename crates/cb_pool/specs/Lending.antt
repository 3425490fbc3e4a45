-- What a pool is once the loan of its bytes is over.
use Rattle.std.specs.Prelude.{◌≡◌, ⊤}
use Rattle.std.specs.Borrow.{MutBor, Fml, RattleType, follows_so}
use mathlib.Core.Option.{none}
use Rattle.cb_pool.specs.PoolState.{PoolState}
use Rattle.cb_pool.specs.contracts.pool.Pool.{the_row}
use Rattle.cb_twoq.specs.declared.chooser.Chooser as chooser

module _ (Q : RattleType) (choose : chooser.Ghosts Q.Denot) where
  -- the pool ends as this value
  abbrev pub pool_ends_as : MutBor PoolState → PoolState → Fml
  pool_ends_as lent last =
      follows_so (the_row Q choose) (the_row Q choose) lent.ghost_name none (λ _ _. ⊤)
      (λ now. now ≡ last)
