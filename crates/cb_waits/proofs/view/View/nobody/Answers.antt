-- Goals of `View::nobody`.
use Rattle.std.proofs.Common.{◌≡◌, false}
use Rattle.cb_page.specs.Clients.{Clients, has, set_of}
use Rattle.cb_page.proofs.ClientBits.{has_none}
use Rattle.cb_page.proofs.Lookups.{replicate_gives}
use Rattle.cb_waits.proofs.view.View.nobody.Goals as goal

pub returns : goal.returns
returns c = λ client other. replicate_gives (λ (set : Clients). has set other ≡ false) 32 client c.empty.result (set_of 0) (c.empty.ensures other) (has_none other)
