-- Goals of `PageSet::new`.
use Rattle.cb_page.proofs.Words.{flags_of_zeros}
use Rattle.cb_page.proofs.page_set.PageSet.new.Goals as goal

pub returns : goal.returns
returns c = rw c.in_ok-zero_words.ensures (flags_of_zeros c.div_ceil.result c.args.pages)
