-- Goals of `mark`.
use Rattle.std.proofs.Common.{◌≡◌, ◌+◌, ◌∙◌, take, length, ap, refl, true, ◌++◌, ◌∷◌, []}
use Rattle.std.proofs.lemmas.List.{take_more, length-set}
use Rattle.cb_commit.proofs.Rewriting.{marked_push}
use Rattle.cb_commit.proofs.commits.mark.Goals as goal

pub loop-write-preserved : goal.loop-write-preserved
loop-write-preserved c =
    let inv = c.loop-write.invariant in
    let writes = c.as_slice-write-items.result.now in
    let more : take (c.loop-write.write-index + 1) writes ≡ take c.loop-write.write-index writes ++ c.write-item.result ∷ [] = take_more writes c.loop-write.write-index c.write-item.result c.loop-write-test.true ∙ rw (← c.write-item.is) refl in
    record {
      flags = rw (more, marked_push (take c.loop-write.write-index writes) c.write-item.result c.args.changed.now, ← inv.flags) c.insert.ensures;
      count = ap length c.insert.ensures ∙ length-set c.loop-write.changed c.write-item.result.page true ∙ inv.count;
    }
