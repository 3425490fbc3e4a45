-- Goals of `held_pages_are_the_stores`.
use Rattle.cb_protocol.proofs.Backed.{held_pages_are_the_stores}
use Rattle.cb_protocol.proofs.passes.held_pages_are_the_stores.Goals as goal

pub returns : goal.returns
returns c = record { law = held_pages_are_the_stores }
