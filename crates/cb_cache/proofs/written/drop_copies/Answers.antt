-- Goals of `drop_copies`.
use Rattle.std.proofs.Common.{arith, rules, ◌∙◌}
use Rattle.std.proofs.lemmas.Grind.{common_steps}
use Rattle.cb_twoq.proofs.Called.{refers_none}
use Rattle.cb_cache.proofs.written.drop_copies.Goals as goal

pub loop-page-preserved : goal.loop-page-preserved
loop-page-preserved g c = record {
  count = search rules;
  seen = λ p. grind (arith, common_steps);
  version = λ p. grind (arith, common_steps);
  tag = λ p. grind (arith, common_steps);
  held_below = λ p lt. grind (arith, common_steps);
  held_above = search rules;
  slots = search rules;
  page_size = search rules;
  fixed = search rules;
  pool_count = search rules;
  below = λ p lt. grind (arith, common_steps);
  above = search rules;
  references = rw c.remove.ensures (refers_none c.loop-page.pool.calls c.in-Some.page c.loop-page.pool.fixed ∙ c.loop-page.invariant.references);
}
