-- What holds at each turn of the loops of `EscapedDisplay::fmt`.
use Rattle.std.specs.Fmt.{HasWritten, IsPlainFormatter}
use Rattle.std.specs.List.{flat_map}
use Rattle.cb_console.specs.Escaped.{escaped_character}
use Rattle.cb_console.proofs.escaped.EscapedDisplay.fmt.Given as goal

abbrev pub invariant-loop-character : goal.invariant-loop-character
invariant-loop-character g l =
    IsPlainFormatter l.initial.f
    → HasWritten g.W.Write.write_str_gives l.initial.f (flat_map escaped_character l.yielded) l.f
