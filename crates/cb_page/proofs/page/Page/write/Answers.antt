-- Goals of `Page::write`.
use Rattle.std.proofs.Common.{arith}
use Rattle.std.proofs.lemmas.Grind.{common_steps}
use Rattle.cb_page.proofs.page.Page.write.Goals as goal

pub returns : goal.returns
returns c = grind (arith, common_steps)
