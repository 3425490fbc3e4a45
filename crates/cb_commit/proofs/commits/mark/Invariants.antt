-- What holds at each turn of the loops of `mark`.
use Rattle.std.proofs.Common.{◌≡◌, take, length}
use Rattle.cb_commit.specs.Changes.{marked}
use Rattle.cb_commit.proofs.commits.mark.Given as goal

-- the pages so far are marked
abbrev pub invariant-loop-write : goal.invariant-loop-write
invariant-loop-write l = record {
  flags : l.changed ≡ marked l.initial.changed (take l.write-index l.write-items);
  count : length l.changed ≡ length l.initial.changed;
}
