-- Goals of `grants_never_run_out`.
use Rattle.cb_protocol.proofs.GrantNumbers.{grants_left_at_first, grants_never_run_out, settling_takes_kept_grants}
use Rattle.cb_protocol.proofs.numbers.grants_never_run_out.Goals as goal

pub returns : goal.returns
returns c = record { settling = settling_takes_kept_grants; at_first = grants_left_at_first; stays = grants_never_run_out }
