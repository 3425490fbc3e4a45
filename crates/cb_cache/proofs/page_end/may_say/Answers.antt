-- Goals of `may_say`.
use Rattle.std.proofs.Common.{◌∙◌, sym, false}
use Rattle.cb_cache.proofs.PageSteps.{says_at_most}
use Rattle.cb_cache.proofs.page_end.may_say.Goals as goal

pub returns-else-due-clause-said : goal.returns-else-due-clause-said
returns-else-due-clause-said g c =
    says_at_most c.args.copies.now c.args.locks.now c.args.page c.args.dropped false c.goes-goes.result (sym c.answers-due.ensures ∙ c.if-due.false) c.goes-goes.ensures
