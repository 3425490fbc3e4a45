-- Goals of `others_stay`.
use Rattle.cb_hands.proofs.Agreeing.{commit_leaves_others, others_stay}
use Rattle.cb_hands.proofs.agreement.others_stay.Goals as goal

pub returns : goal.returns
returns c = record { stay = others_stay; commit = commit_leaves_others }
