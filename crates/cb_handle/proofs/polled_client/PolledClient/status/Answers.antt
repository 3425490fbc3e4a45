-- Goals of `PolledClient::status`.
use Rattle.std.proofs.Common.{ap}
use Rattle.cb_handle.specs.Clients.{status_number}
use Rattle.cb_handle.proofs.polled_client.PolledClient.status.Goals as goal

pub returns-in-NotWelcome : goal.returns-in-NotWelcome
returns-in-NotWelcome c = λ operations. ap status_number (c.in-NotWelcome.ensures operations)

pub returns-in-Idle : goal.returns-in-Idle
returns-in-Idle c = λ operations. ap status_number (c.in-Idle.ensures operations)

pub returns-in-Open : goal.returns-in-Open
returns-in-Open c = λ operations. ap status_number (c.in-Open.ensures operations)

pub returns-in-Waiting : goal.returns-in-Waiting
returns-in-Waiting c = λ operations. ap status_number (c.in-Waiting.ensures operations)

pub returns-in-Committing : goal.returns-in-Committing
returns-in-Committing c = λ operations. ap status_number (c.in-Committing.ensures operations)
