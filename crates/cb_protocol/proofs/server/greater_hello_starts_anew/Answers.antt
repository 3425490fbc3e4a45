-- Goals of `greater_hello_starts_anew`.
use Rattle.cb_protocol.proofs.HelloStarts.{greater_hello}
use Rattle.cb_protocol.proofs.server.greater_hello_starts_anew.Goals as goal

pub returns : goal.returns
returns c = record { law = greater_hello }
