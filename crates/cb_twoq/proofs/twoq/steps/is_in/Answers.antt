-- Goals of `is_in`.
use Rattle.std.proofs.Common.{sym, ◌∙◌}
use Rattle.cb_twoq.proofs.Orders.{has_reverse}
use Rattle.cb_twoq.proofs.twoq.steps.is_in.Goals as goal

pub returns : goal.returns
returns c = c.contains.ensures ∙ sym (has_reverse c.args.page c.args.pages.now.keys)
