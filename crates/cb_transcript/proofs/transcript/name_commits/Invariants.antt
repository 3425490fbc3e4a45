-- What holds at each turn of the loops of `name_commits`.
use Rattle.std.proofs.Common.{◌≡◌, ◌≤◌, ◌+◌, ◌++◌, length, map, take}
use Rattle.std.specs.Vec.{vec_capacity}
use Rattle.cb_transcript.specs.Transcripts.{committed_name}
use Rattle.cb_transcript.proofs.transcript.name_commits.Given as goal

abbrev pub invariant-loop-commit : goal.invariant-loop-commit
invariant-loop-commit l = record {
  names : l.names.items ≡ l.initial.names.items ++ map committed_name (take l.commit-index l.commits);
  capacity : vec_capacity l.names ≡ vec_capacity l.initial.names;
  room : length l.initial.names.items + length l.commits ≤ vec_capacity l.initial.names;
}
