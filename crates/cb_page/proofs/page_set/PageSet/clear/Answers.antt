-- Goals of `PageSet::clear`.
use Rattle.std.proofs.Common.{◌<◌, ◌/◌, length, sym, ap, ◌∙◌, arith}
use Rattle.std.proofs.lemmas.List.{length-set}
use Rattle.std.proofs.lemmas.Grind.{common_steps}
use Rattle.cb_page.proofs.Words.{length-flags_of, none_in, zero_not_flagged}
use Rattle.cb_page.proofs.Summary.{cleared_less, summarizes-zero}
use Rattle.cb_page.proofs.page_set.PageSet.clear.Goals as goal

pub loop-at-smaller : goal.loop-at-smaller
loop-at-smaller c = cleared_less c.loop-at.self-inside.filled c.in-Some.at c.in-Some.ensures.1 c.in-Some.ensures.2

pub loop-at-preserved : goal.loop-at-preserved
loop-at-preserved c =
    let set = c.loop-at.self-inside in
    let kept = c.loop-at.invariant in
    let room : c.in-Some.at < length set.words.items = grind (arith, common_steps, kept.summary.bits) in
    record {
      length = omega (arith, length-set set.words.items c.in-Some.at 0, kept.length);
      pages = kept.pages;
      summary = summarizes-zero set.filled set.words.items c.in-Some.at kept.fits kept.summary room;
      fits = omega (arith, kept.fits, c.in-Some.ensures.1, loop-at-smaller c);
    }

pub returns : goal.returns
returns c =
    let set = c.loop-at.self-inside in
    let all = ap length (sym c.self.view_is) ∙ length-flags_of c.self.inside.words.items c.self.inside.pages in
    rw (all, ← c.loop-at.invariant.pages) (none_in set.words.items set.pages (λ k.
    zero_not_flagged set.words.items k ((c.loop-at.invariant.summary.bits (k / 64)).0 (c.in_default.ensures (k / 64) (omega arith)))))
