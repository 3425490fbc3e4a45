-- Goals of `read_counts`.
use Rattle.std.proofs.Common.{◌≡◌, Err, rules}
use Rattle.cb_shelf.proofs.Asking.{tells_refused, tells_last}
use Rattle.cb_shelf.specs.Reading.Misfits.{pages, parts}
use Rattle.cb_shelf.proofs.Questions.{pages_asks, parts_asks}
use Rattle.cb_shelf.proofs.Answering.{expected_same}
use Rattle.cb_shelf.proofs.reading.read_counts.Goals as goal

pub expect_number-requires : goal.expect_number-requires
expect_number-requires g c = rw c.pages_text.ensures (pages_asks c.args.tables)

pub expect_number-requires-2 : goal.expect_number-requires-2
expect_number-requires-2 g c = rw c.parts_text.ensures (parts_asks c.args.tables)

pub returns-in_err-expect_number-clause-tells : goal.returns-in_err-expect_number-clause-tells
returns-in_err-expect_number-clause-tells g c =
    let same : c.from_residual.result ≡ Err c.in_err-expect_number.field-0.0 = search rules in
    tells_refused g.S.Store _ _ _ _ _ _ _ _ same (λ db. pages) (expected_same g.S.Store _ _ _ _ _ _ _ c.pages_text.ensures c.all_pages.ensures c.in_err-expect_number.ensures.tells)

pub returns-clause-tells : goal.returns-clause-tells
returns-clause-tells g c =
    tells_last g.S.Store _ _ _ _ _ _ _ _ _ _ c.expect_number-2.result (λ db y first second. (first, second)) (λ db first. parts)
    (expected_same g.S.Store _ _ _ _ _ _ _ c.pages_text.ensures c.all_pages.ensures c.in_ok-expect_number.ensures.tells)
    (expected_same g.S.Store _ _ _ _ _ _ _ c.parts_text.ensures c.all_parts.ensures c.expect_number-2.ensures.tells) c.expect_number-2.ensures.inside.survives
