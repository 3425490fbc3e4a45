-- Goals of `PageSet::pages`.
use Rattle.std.proofs.Common.{sym, ap, ◌∙◌, length}
use Rattle.cb_page.proofs.Words.{length-flags_of}
use Rattle.cb_page.proofs.page_set.PageSet.pages.Goals as goal

pub returns-clause-value : goal.returns-clause-value
returns-clause-value c = sym (ap length (sym c.self.view_is) ∙ length-flags_of c.self.inside.words.items c.self.inside.pages)
