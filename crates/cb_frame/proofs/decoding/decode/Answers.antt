-- Goals of `decode`.
use Rattle.std.proofs.Common.{arith}
use Rattle.cb_frame.proofs.Again.{is_found, is_only}
use Rattle.cb_frame.proofs.decoding.decode.Goals as goal

pub returns-clause-found : goal.returns-clause-found
returns-clause-found c = is_found c.args.limits.now c.args.bytes.now c.read.result (λ i. omega (arith, c.type_inv.bytes i)) c.read.ensures.frame

pub returns-clause-only : goal.returns-clause-only
returns-clause-only c version frame spelled rest is e =
    is_only c.args.limits.now version frame spelled rest c.args.bytes.now c.read.result c.read.ensures.range is e c.read.ensures.frame
