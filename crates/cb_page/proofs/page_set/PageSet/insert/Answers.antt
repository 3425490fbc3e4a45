-- Goals of `PageSet::insert`.
use Rattle.std.proofs.Common.{◌*◌, ◌/◌, ◌%◌, ◌^◌, ◌<◌, bit_or, sym, ap, ◌∙◌, length, arith}
use Rattle.std.proofs.lemmas.List.{length-set}
use Rattle.cb_page.proofs.Words.{length-flags_of, flags-insert}
use Rattle.cb_page.proofs.Summary.{summarizes-insert}
use Rattle.cb_page.proofs.page_set.PageSet.insert.Goals as goal

pub index-word-requires : goal.index-word-requires
index-word-requires c =
    let all = ap length (sym c.self.view_is) ∙ length-flags_of c.self.inside.words.items c.self.inside.pages in
    omega (arith, all, c.requires, c.self.invariant)

pub index_mut-requires : goal.index_mut-requires
index_mut-requires c =
    let all = ap length (sym c.self.view_is) ∙ length-flags_of c.self.inside.words.items c.self.inside.pages in
    omega (arith, all, c.requires, c.self.invariant)

pub returns : goal.returns
returns c =
    let all = ap length (sym c.self.view_is) ∙ length-flags_of c.self.inside.words.items c.self.inside.pages in
    rw (← c.index-page.ensures.value, ← c.self.view_is)
    (flags-insert c.self.inside.words.items c.self.inside.pages c.index-page.result c.index-word.result.now (omega (arith, all, c.requires)) (omega (arith, all, c.requires, c.self.invariant)) c.index-word.ensures)

pub invariant_of-self : goal.invariant_of-self
invariant_of-self c =
    let set = c.self.inside in
    let room : c.index-page.result / 64 < length set.words.items = omega (arith, ap length (sym c.self.view_is) ∙ length-flags_of set.words.items set.pages, c.requires, c.self.invariant.0) in (
      omega (arith, length-set set.words.items (c.index-page.result / 64) (bit_or c.index-word.result.now (1 * 2 ^ (c.index-page.result % 64) % 2 ^ 64)), c.self.invariant.0),
      summarizes-insert set.filled set.words.items c.index-page.result c.index-word.result.now c.self.invariant.1 room,
    )
