-- The commits that reach the disk are in memory.
use Rattle.std.proofs.Common.{◌≡◌, ℕ, ◌+◌, ◌-◌, List, length, map, take, drop, ap, sym, arith, ◌∙◌}
use Rattle.std.proofs.lemmas.List.{length-drop}
use Rattle.std.proofs.Math.Seq.{drop-drop}
use Rattle.cb_commit.specs.declared.commit.Commit.{Commit}
use Rattle.cb_commit.specs.History.{AreCommits, CanFlush, CommitsState, done_of, dones_between, remembered}
use Rattle.cb_commit.proofs.Folding.{dones_part}

-- how many commits are in memory
pub kept : (s : CommitsState) → AreCommits s → length (remembered s) + s.opening.number + s.forgotten ≡ s.store.number
kept s are = omega (arith, length-drop s.forgotten s.commits, are.count, are.forgotten_on_disk, are.to_last)

-- Their Dones are those of a part of what is in memory: as far from its end as their numbers are
-- from the last one.
pub dones_remembered : (s : CommitsState) (number : ℕ) → AreCommits s → CanFlush s number
    → dones_between s.flushed number s.commits
    ≡ map done_of (take (number - s.flushed) (drop (length (remembered s) - (s.store.number - s.flushed)) (remembered s)))
dones_remembered s number are may =
    let from = length (remembered s) - (s.store.number - s.flushed) in
    let n : s.flushed - s.opening.number ≡ s.forgotten + from = omega (arith, kept s are, are.forgotten_on_disk, are.to_last) in
    dones_part s.commits s.opening.number s.flushed number are.numbered are.from_opening (omega (arith, may.above))
    ∙ ap (λ (k : ℕ). map done_of (take (number - s.flushed) (drop k s.commits))) n
    ∙ ap (λ (cs : List Commit). map done_of (take (number - s.flushed) cs)) (sym (drop-drop from s.forgotten s.commits))
