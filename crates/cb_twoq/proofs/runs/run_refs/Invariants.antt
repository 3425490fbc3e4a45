-- What holds at each turn of the loops of `run_refs`.
use Rattle.std.proofs.Common.{◌≡◌, ◌≤◌, length, take}
use Rattle.std.specs.Vec.{vec_capacity}
use Rattle.cb_twoq.specs.Runs.{Runs}
use Rattle.cb_twoq.proofs.runs.run_refs.Given as goal

abbrev pub invariant-loop-i : goal.invariant-loop-i
invariant-loop-i g l = record {
  runs : Runs (g.Q.Chooser.slots l.initial.chooser) (g.Q.Chooser.members l.initial.chooser) (take l.i l.references) l.answers.items (g.Q.Chooser.members l.chooser);
  slots : g.Q.Chooser.slots l.chooser ≡ g.Q.Chooser.slots l.initial.chooser;
  count : length l.answers.items ≡ l.i;
  room : length l.references ≤ vec_capacity l.answers;
}
