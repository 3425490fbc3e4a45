-- Goals of `number_of`.
use Rattle.std.proofs.Common.{◌+◌, get_or, arith, ◌∙◌, sym, refl}
use Rattle.std.proofs.lemmas.Int.Digits.{digits_value_more, digits_more}
use Rattle.cb_transcript.proofs.PiecesLemmas.{not_a_digit, too_large, digit, spelled}
use Rattle.cb_transcript.proofs.pieces.number_of.Goals as goal

pub returns-then-not-is_ascii_digit : goal.returns-then-not-is_ascii_digit
returns-then-not-is_ascii_digit c =
    rw (not_a_digit c.args.word.now c.loop-byte.byte-index c.loop-byte-test.true (sym c.is_ascii_digit.ensures.value ∙ c.if-not-is_ascii_digit.true)) refl

pub returns-then-value : goal.returns-then-value
returns-then-value c =
    rw (too_large c.args.word.now (c.loop-byte.byte-index + 1) (omega (arith, digits_value_more 10 c.args.word.now c.loop-byte.byte-index c.loop-byte-test.true))) refl

pub loop-byte-preserved : goal.loop-byte-preserved
loop-byte-preserved c =
    let here = digit (get_or c.args.word.now c.loop-byte.byte-index 0) (sym c.is_ascii_digit.ensures.value ∙ c.if-not-is_ascii_digit.false) in
    let more = digits_value_more 10 c.args.word.now c.loop-byte.byte-index c.loop-byte-test.true in
    record {
      digits = digits_more 10 _ _ c.loop-byte-test.true c.loop-byte.invariant.digits here.0;
      value = omega (arith, here.0, here.1, more);
      bound = omega (arith, here.0, here.1);
    }

pub returns-then-value-gt-MAX_NUMBER : goal.returns-then-value-gt-MAX_NUMBER
returns-then-value-gt-MAX_NUMBER c =
    rw (too_large c.args.word.now c.loop-byte.byte-index (omega arith)) refl

pub returns : goal.returns
returns c = spelled c.args.word.now _ _ c.loop-byte-test.false c.loop-byte.invariant.digits c.loop-byte.invariant.value (omega arith)
