-- What a client is once the loan of a page's bytes is over.
use Rattle.std.specs.Prelude.{◌≡◌, ⊤}
use Rattle.std.specs.Borrow.{MutBor, Fml, RattleType, follows_so}
use mathlib.Core.Option.{none}
use Rattle.cb_client_core.specs.ClientState.{ClientState}
use Rattle.cb_client.specs.contracts.client.Client.{the_row}
use Rattle.cb_twoq.specs.declared.chooser.Chooser as chooser

module _ (Q : RattleType) (choose : chooser.Ghosts Q.Denot) where
  -- the client ends as this value
  abbrev pub client_ends_as : MutBor ClientState → ClientState → Fml
  client_ends_as lent last =
      follows_so (the_row Q choose) (the_row Q choose) lent.ghost_name none (λ _ _. ⊤)
      (λ now. now ≡ last)
