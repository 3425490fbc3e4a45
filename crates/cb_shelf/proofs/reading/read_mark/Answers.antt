-- Goals of `read_mark`.
use Rattle.std.proofs.Common.{◌≡◌, Err, IfOk, OnErr, rules}
use Rattle.cb_shelf.specs.Asking.{IsQuestion, IsRow}
use Rattle.cb_shelf.specs.Inside.{IsNever}
use Rattle.cb_shelf.proofs.Asking.{tells_refused}
use Rattle.cb_shelf.specs.Reading.{mark_values, IsMark}
use Rattle.cb_shelf.proofs.Questions.{mark_asks}
use Rattle.cb_shelf.proofs.Answering.{tells_row, question_is}
use Rattle.cb_shelf.proofs.reading.read_mark.Goals as goal

pub returns-in_err-rows-clause-tells : goal.returns-in_err-rows-clause-tells
returns-in_err-rows-clause-tells g c =
    let asks : IsQuestion c.mark_text.result.now = rw c.mark_text.ensures (mark_asks c.args.tables) in
    let same : c.from_residual.result ≡ Err c.in_err-rows.field-0.0 = search rules in
    tells_refused g.S.Store _ _ _ _ IsNever _ _ _ same (λ db wrong. absurd wrong) (c.in_err-rows.ensures.tells asks)

pub returns-clause-tells : goal.returns-clause-tells
returns-clause-tells g c =
    let asks : IsQuestion c.mark_text.result.now = rw c.mark_text.ensures (mark_asks c.args.tables) in
    let limits = c.args.limits.now in
    let ok : IfOk c.marked.result (λ number. IsRow c.in_ok-rows.rows.items (mark_values number limits.page_size limits.pages)) = rw (← c.deref.ensures.value) c.marked.ensures.ok in
    let err : OnErr c.marked.result ((values : _) → IsMark limits values → ¬ IsRow c.in_ok-rows.rows.items values) = rw (← c.deref.ensures.value) c.marked.ensures.err in
    tells_row g.S.Store _ _ (λ rows. rows.items) (λ number. mark_values number limits.page_size limits.pages) (IsMark limits) _ _ c.in_ok-rows.rows c.marked.result (question_is _ _ c.mark_text.ensures) ok err (c.in_ok-rows.ensures.tells asks)
