-- Goals of `grants_are_left`.
use Rattle.cb_protocol.proofs.GrantNumbers.{left_at_admission, left_at_answer, left_at_begin}
use Rattle.cb_callbacks.proofs.laws.grants_are_left.Goals as goal

pub returns : goal.returns
returns c = record { begins = left_at_begin; answers = left_at_answer; admits = left_at_admission }
