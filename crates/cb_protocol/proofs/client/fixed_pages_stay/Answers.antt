-- Goals of `fixed_pages_stay`.
use Rattle.cb_protocol.proofs.PagesStay.{fixed_pages_stay}
use Rattle.cb_protocol.specs.ClientAlone.{Anything}
use Rattle.cb_protocol.proofs.client.fixed_pages_stay.Goals as goal

pub returns : goal.returns
returns c = record { law = λ L. fixed_pages_stay L Anything }
