-- Goals of `lives_keep_the_promise`.
use Rattle.cb_protocol.proofs.HeadlineProof.{one_life_is_promised, runs_are_of_one_life}
use Rattle.cb_protocol.proofs.LivesProof.{lives_headline}
use Rattle.cb_protocol.proofs.lives.lives_keep_the_promise.Goals as goal

pub returns : goal.returns
returns c = record { promise = lives_headline; one_life = one_life_is_promised; runs = runs_are_of_one_life }
