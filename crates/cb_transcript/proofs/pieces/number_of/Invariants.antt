-- What holds at each turn of the loops of `number_of`.
use Rattle.std.proofs.Common.{◌≡◌, ◌<◌, take}
use Rattle.std.specs.Str.Parse.{digits_value, AllDigits}
use Rattle.cb_transcript.proofs.pieces.number_of.Given as goal

abbrev pub invariant-loop-byte : goal.invariant-loop-byte
invariant-loop-byte l = record {
  digits : AllDigits 10 (take l.byte-index l.word);
  value : l.value ≡ digits_value 10 (take l.byte-index l.word);
  bound : l.value < 4611686018427387910;
}
