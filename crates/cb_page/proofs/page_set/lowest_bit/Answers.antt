-- Goals of `lowest_bit`.
use Rattle.std.proofs.Common.{arith}
use Rattle.std.proofs.lemmas.Nat.Bits.{bit_at_above}
use Rattle.cb_page.proofs.Words.{lowest_from, none_from}
use Rattle.cb_page.proofs.page_set.lowest_bit.Goals as goal

pub returns-then-start-ge64 : goal.returns-then-start-ge64
returns-then-start-ge64 c k from = bit_at_above c.args.word 64 k c.ranges.word.fits (omega arith)

pub returns-then-rest-eq0 : goal.returns-then-rest-eq0
returns-then-rest-eq0 c k from = none_from c.args.word c.args.start k c.if-rest-eq0.true from

pub returns-else-rest-eq0 : goal.returns-else-rest-eq0
returns-else-rest-eq0 c =
    let found = lowest_from c.args.word c.args.start c.ranges.word.fits (omega (arith, c.if-rest-eq0.false)) c.if-start-ge64.false in
    (omega arith, found.0, found.1, found.2)
