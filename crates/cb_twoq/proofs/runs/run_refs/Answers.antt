-- Goals of `run_refs`.
use Rattle.std.proofs.Common.{◌≡◌, ◌+◌, suc, ◌∷◌, [], ◌++◌, take, rules, sym, ap, ◌∙◌, arith}
use Rattle.std.proofs.Math.Seq.{take-suc}
use Rattle.cb_twoq.proofs.Running.{answered, one_more}
use Rattle.cb_twoq.proofs.runs.run_refs.Goals as goal

pub loop-i-preserved : goal.loop-i-preserved
loop-i-preserved g c =
    let next : c.loop-i.i + 1 ≡ suc c.loop-i.i = omega arith in
    let seen : take (c.loop-i.i + 1) c.args.references.now ≡ take c.loop-i.i c.args.references.now ++ c.index-references-i.result ∷ [] =
    ap (λ n. take n c.args.references.now) next
    ∙ take-suc c.args.references.now c.loop-i.i c.index-references-i.result (omega arith)
    ∙ ap (λ r. take c.loop-i.i c.args.references.now ++ r ∷ []) (sym c.index-references-i.is) in
    record {
      runs = rw (seen, c.push_reserved.ensures.items) (one_more _ _ (take c.loop-i.i c.args.references.now) c.loop-i.answers.items
          (g.Q.Chooser.members c.loop-i.chooser) (g.Q.Chooser.members c.reference-answer.new.self) c.index-references-i.result c.reference-answer.result c.loop-i.invariant.runs
          (rw (← c.loop-i.invariant.slots) (answered g.Q.Chooser.members _ c.loop-i.chooser c.reference-answer.new.self _ _ c.reference-answer.result c.reference-answer.ensures.ok c.reference-answer.ensures.member c.reference-answer.ensures.full c.reference-answer.ensures.err)));
      slots = c.reference-answer.ensures.slots ∙ c.loop-i.invariant.slots;
      count = search rules;
      room = search rules;
    }
