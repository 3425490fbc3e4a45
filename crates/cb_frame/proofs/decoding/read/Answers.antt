-- Goals of `read`.
use Rattle.std.proofs.Common.{rules}
use Rattle.cb_frame.proofs.decoding.read.Goals as goal

pub returns-in_default-kind_of-clause-frame : goal.returns-in_default-kind_of-clause-frame
returns-in_default-kind_of-clause-frame c = search rules

pub returns-then-not-has_kind-clause-frame : goal.returns-then-not-has_kind-clause-frame
returns-then-not-has_kind-clause-frame c = search rules

pub returns-then-not-can_be_length-clause-frame : goal.returns-then-not-can_be_length-clause-frame
returns-then-not-can_be_length-clause-frame c = search rules

pub returns-then-bytes-len-clause-frame : goal.returns-then-bytes-len-clause-frame
returns-then-bytes-len-clause-frame c = search rules

pub returns-in_err-frame-clause-frame : goal.returns-in_err-frame-clause-frame
returns-in_err-frame-clause-frame c = search rules

pub returns-clause-frame : goal.returns-clause-frame
returns-clause-frame c = search rules
