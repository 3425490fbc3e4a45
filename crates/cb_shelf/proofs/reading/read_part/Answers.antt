-- Goals of `read_part`.
use Rattle.std.proofs.Common.{◌≡◌, Ok, Err, pos, ℕ, List, [], ◌∷◌, rules}
use Rattle.sqlite.specs.Value.{owned}
use Rattle.sqlite.specs.declared.types.Value.TheVariants.{Int, Blob}
use Rattle.cb_shelf.specs.Asking.{IsQuestion, IsRow, RepliesRow, RepliesElse}
use Rattle.cb_shelf.specs.Inside.{IsNever}
use Rattle.cb_shelf.proofs.Asking.{tells_refused, tells_judged}
use Rattle.cb_shelf.specs.Reading.{part_of, IsBytes}
use Rattle.cb_shelf.proofs.Questions.{part_asks}
use Rattle.cb_shelf.proofs.Answering.{not_refused, part_is, tells_row, tells_wanting}
use Rattle.cb_shelf.proofs.reading.read_part.Goals as goal

pub returns-in_err-rows-clause-tells : goal.returns-in_err-rows-clause-tells
returns-in_err-rows-clause-tells g c =
    let asks : IsQuestion c.part_text.result.now = rw c.part_text.ensures (part_asks c.args.tables) in
    let same : c.from_residual.result ≡ Err c.in_err-rows.field-0.0 = search rules in
    tells_refused g.S.Store _ _ _ _ IsNever _ _ _ same (λ db wrong. absurd wrong) (c.in_err-rows.ensures.tells asks)

pub returns-in_err-body-clause-tells : goal.returns-in_err-body-clause-tells
returns-in_err-body-clause-tells g c =
    let asks : IsQuestion c.part_text.result.now = rw c.part_text.ensures (part_asks c.args.tables) in
    let page : owned c.params-to_sql.result ≡ Int (pos c.args.page) = search rules in
    let place : owned c.params-to_sql-2.result ≡ Int (pos c.args.place) = search rules in
    let given = part_is c.args.tables c.args.page c.args.place _ _ _ c.part_text.ensures page place in
    let err : (values : _) → IsBytes c.args.count values → ¬ IsRow c.in_ok-rows.rows.items values = rw (← c.deref.ensures.value) c.in_err-body.ensures.err in
    let same : c.from_residual-in_err-body.result ≡ Err c.in_err-body.field-0.0 = search rules in
    tells_refused g.S.Store _ _ _ _ _ _ _ _ same (λ db h. h)
    (tells_row g.S.Store _ (part_of c.args.tables c.args.page c.args.place) (λ rows. rows.items) (λ (bytes : List ℕ). Blob bytes ∷ []) (IsBytes c.args.count) _ _ c.in_ok-rows.rows (Err c.in_err-body.field-0.0) given tt err (c.in_ok-rows.ensures.tells asks))

pub returns-in_err-extend_from_slice-clause-tells : goal.returns-in_err-extend_from_slice-clause-tells
returns-in_err-extend_from_slice-clause-tells g c =
    let asks : IsQuestion c.part_text.result.now = rw c.part_text.ensures (part_asks c.args.tables) in
    tells_wanting g.S.Store _ _ _ _ IsNever _ _ c.from_residual-in_err-extend_from_slice.result c.from_residual-in_err-extend_from_slice.ensures.1 (c.in_ok-rows.ensures.tells asks)

pub returns-clause-tells : goal.returns-clause-tells
returns-clause-tells g c =
    let asks : IsQuestion c.part_text.result.now = rw c.part_text.ensures (part_asks c.args.tables) in
    let page : owned c.params-to_sql.result ≡ Int (pos c.args.page) = search rules in
    let place : owned c.params-to_sql-2.result ≡ Int (pos c.args.place) = search rules in
    let given = part_is c.args.tables c.args.page c.args.place _ _ _ c.part_text.ensures page place in
    let ok : IsRow c.in_ok-rows.rows.items (Blob c.in_ok-body.body.now ∷ []) = rw (← c.deref.ensures.value) c.in_ok-body.ensures.ok in
    tells_judged g.S.Store _ _ (λ db (bytes : List ℕ). RepliesRow db (part_of c.args.tables c.args.page c.args.place) (Blob bytes ∷ [])) _ (λ db. RepliesElse db (part_of c.args.tables c.args.page c.args.place) (IsBytes c.args.count)) _ c.in_ok-body.body.now (Ok tt)
    (λ db known. (c.in_ok-body.body.now, search rules, search rules, known)) (λ db known wrong. not_refused wrong)
    (tells_row g.S.Store _ (part_of c.args.tables c.args.page c.args.place) (λ rows. rows.items) (λ (bytes : List ℕ). Blob bytes ∷ []) (IsBytes c.args.count) _ _ c.in_ok-rows.rows (Ok c.in_ok-body.body.now) given ok tt (c.in_ok-rows.ensures.tells asks))
