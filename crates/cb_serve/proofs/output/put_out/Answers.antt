-- Goals of `put_out`.
use Rattle.std.proofs.Common.{ℕ, ◌<◌, ◌≤◌, List, arith, drop, length, length-drop, subst, take}
use Rattle.std.proofs.KnownBytes.{Appends-trans}
use Rattle.std.proofs.Math.Seq.{take-add}
use Rattle.std.specs.Io.KnownBytes.{Appends}
use Rattle.cb_serve.proofs.Slices.{rest_is}
use Rattle.cb_serve.proofs.output.put_out.Goals as goal

pub loop-at-preserved : goal.loop-at-preserved
loop-at-preserved g c =
    let more = rest_is c.loop-at.at c.args.bytes.now in
    let few : c.in_ok-count.count ≤ length (drop c.loop-at.at c.args.bytes.now) =
    subst (λ (k : List ℕ). c.in_ok-count.count ≤ length k) more c.in_ok-count.ensures.ok.1 in
    let some : 0 < c.in_ok-count.count = c.in_ok-count.ensures.ok.0 in
    let within : c.loop-at.at ≤ length c.args.bytes.now = c.loop-at.invariant.0 in (
      omega (arith, length-drop c.loop-at.at c.args.bytes.now),
      rw (take-add c.loop-at.at c.in_ok-count.count c.args.bytes.now) (Appends-trans _ _ _ _ _ c.loop-at.invariant.1
          (subst (λ (k : List ℕ). Appends (g.W.Write.contents c.loop-at.output) (g.W.Write.contents c.write_some.new.output) (take c.in_ok-count.count k)) more c.in_ok-count.ensures.ok.2)),
    )
