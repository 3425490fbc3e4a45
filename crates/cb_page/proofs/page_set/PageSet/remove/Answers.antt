-- Goals of `PageSet::remove`.
use Rattle.std.proofs.Common.{◌/◌, ◌^◌, ◌<◌, sym, ap, ◌∙◌, length, arith}
use Rattle.std.proofs.lemmas.List.{length-set}
use Rattle.cb_page.proofs.Words.{length-flags_of, flags-remove}
use Rattle.cb_page.proofs.Summary.{summarizes-less, summarizes-zero}
use Rattle.cb_page.proofs.page_set.PageSet.remove.Goals as goal

pub index-requires : goal.index-requires
index-requires c =
    let all = ap length (sym c.self.view_is) ∙ length-flags_of c.self.inside.words.items c.self.inside.pages in
    omega (arith, all, c.requires, c.self.invariant)

pub index_mut-requires : goal.index_mut-requires
index_mut-requires c =
    let all = ap length (sym c.self.view_is) ∙ length-flags_of c.self.inside.words.items c.self.inside.pages in
    omega (arith, all, c.requires, c.self.invariant)

pub invariant_of-self : goal.invariant_of-self
invariant_of-self c =
    let set = c.self.inside in
    let at = c.index-page.result / 64 in
    let all = ap length (sym c.self.view_is) ∙ length-flags_of set.words.items set.pages in
    let room : at < length set.words.items = omega (arith, all, c.requires, c.self.invariant) in
    let fits : set.filled < 2 ^ 64 = omega arith in
    rw c.if-word-eq0.true (omega (arith, length-set set.words.items at 0, c.self.invariant), summarizes-zero set.filled set.words.items at fits c.self.invariant.1 room)

pub returns-then-word-eq0 : goal.returns-then-word-eq0
returns-then-word-eq0 c =
    let set = c.self.inside in
    let all = ap length (sym c.self.view_is) ∙ length-flags_of set.words.items set.pages in
    rw (← c.index-page.ensures.value, ← c.self.view_is)
    (flags-remove set.words.items set.pages c.index-page.result c.index.result.now (omega (arith, all, c.requires)) (omega (arith, all, c.requires, c.self.invariant)) c.index.ensures)

pub invariant_of-self-else-word-eq0 : goal.invariant_of-self-else-word-eq0
invariant_of-self-else-word-eq0 c =
    let set = c.self.inside in
    let at = c.index-page.result / 64 in
    let all = ap length (sym c.self.view_is) ∙ length-flags_of set.words.items set.pages in
    let room : at < length set.words.items = omega (arith, all, c.requires, c.self.invariant) in
    (omega (arith, length-set set.words.items at, c.self.invariant), summarizes-less set.filled set.words.items at c.index.result.now _ c.self.invariant.1 room c.index.ensures c.if-word-eq0.false)

pub returns-else-word-eq0 : goal.returns-else-word-eq0
returns-else-word-eq0 c =
    let set = c.self.inside in
    let all = ap length (sym c.self.view_is) ∙ length-flags_of set.words.items set.pages in
    rw (← c.index-page.ensures.value, ← c.self.view_is)
    (flags-remove set.words.items set.pages c.index-page.result c.index.result.now (omega (arith, all, c.requires)) (omega (arith, all, c.requires, c.self.invariant)) c.index.ensures)
