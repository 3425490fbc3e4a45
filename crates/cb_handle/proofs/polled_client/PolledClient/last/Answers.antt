-- Goals of `PolledClient::last`.
use Rattle.std.proofs.Common.{◌∙◌, ap}
use Rattle.cb_handle.specs.Clients.{outcome_numbers}
use Rattle.cb_handle.proofs.polled_client.PolledClient.last.Goals as goal

pub returns : goal.returns
returns c = λ operations. c.numbers_of.ensures ∙ ap outcome_numbers (c.last.ensures operations)
