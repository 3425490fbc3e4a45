-- Goals of `rules_are_kept`.
use Rattle.cb_server.proofs.LawsKept.{rules_kept}
use Rattle.cb_server.proofs.laws.rules_are_kept.Goals as goal

pub returns : goal.returns
returns c = record { rules = rules_kept }
