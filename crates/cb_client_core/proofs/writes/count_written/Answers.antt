-- Goals of `count_written`.
use Rattle.std.proofs.Common.{◌∙◌, ap, length, arith}
use Rattle.cb_cache.specs.CacheState.{client_with}
use Rattle.cb_client_core.proofs.Writing.{count_goes_on, flag_within, no_more, one_write}
use Rattle.cb_client_core.proofs.writes.count_written.Goals as goal

pub loop-page-preserved : goal.loop-page-preserved
loop-page-preserved g c =
    let this = c.index-from.ensures.value in
    let below = flag_within c.args.copies.now.wrote c.in-Some.page c.in-Some.ensures.1 in
    let sized = c.limits-known.ensures.sound.sizes.wrote in
    let most = c.limits-known.ensures.sound.limits.pages in
    let least = c.loop-page.invariant.least in
    let next = c.in-Some.ensures.0 in
    record {
      counts = λ k. rw this (count_goes_on (client_with c.args.copies.now k) c.loop-page.from c.in-Some.page c.loop-page.count (c.loop-page.invariant.counts k) c.in-Some.ensures.0 c.in-Some.ensures.2 (one_write c.args.copies.now c.limits-known.ensures.sound k c.in-Some.page c.in-Some.ensures.1));
      least = omega (arith, this, least, next);
      within = omega (arith, below, sized, this);
    }

pub returns : goal.returns
returns g c = λ client. c.loop-page.invariant.counts client ∙ ap length (no_more (client_with c.args.copies.now client) c.loop-page.from c.args.copies.now.limits.pages c.loop-page.invariant.within (λ q le. c.in_default.ensures q le))
