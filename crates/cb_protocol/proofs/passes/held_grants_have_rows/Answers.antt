-- Goals of `held_grants_have_rows`.
use Rattle.cb_protocol.proofs.Backed.{held_grants_have_rows}
use Rattle.cb_protocol.proofs.passes.held_grants_have_rows.Goals as goal

pub returns : goal.returns
returns c = record { law = held_grants_have_rows }
