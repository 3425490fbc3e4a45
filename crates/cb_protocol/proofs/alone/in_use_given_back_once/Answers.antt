-- Goals of `in_use_given_back_once`.
use Rattle.cb_protocol.proofs.TransactionEnds.{in_use_given_back_once}
use Rattle.cb_protocol.specs.ClientAlone.{Anything}
use Rattle.cb_protocol.specs.Ranges.{InputFits}
use Rattle.cb_protocol.proofs.alone.in_use_given_back_once.Goals as goal

pub returns : goal.returns
returns c = record { whatever_comes = λ L. in_use_given_back_once L Anything; where_it_fits = λ L. in_use_given_back_once L (InputFits L) }
