-- Goals of `reads_of`.
use Rattle.std.proofs.Common.{◌∙◌, arith}
use Rattle.cb_station.proofs.PagesRead.{reads_end, reads_more, within}
use Rattle.cb_station.proofs.reading.reads_of.Goals as goal

pub loop-page-preserved : goal.loop-page-preserved
loop-page-preserved c = record {
  reads = rw c.index-from.ensures.value (reads_more c.args.hand.now c.args.pages.now c.loop-page.from c.in-Some.page c.loop-page.reads.items c.push_read.new.reads.items c.in-Some.ensures.0 c.in-Some.ensures.2 c.in-Some.ensures.1
      c.loop-page.invariant.reads c.in_ok-push_read.ensures);
  within = rw c.index-from.ensures.value (let l = within c.args.pages.now c.in-Some.page c.in-Some.ensures.1 in omega (arith, l));
}

pub returns : goal.returns
returns c = c.loop-page.invariant.reads ∙ reads_end c.args.hand.now c.args.pages.now c.loop-page.from c.loop-page.invariant.within c.in_default.ensures
