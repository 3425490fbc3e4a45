-- Goals of `read_page`.
use Rattle.std.proofs.Common.{◌≡◌, Ok, Err, inl, inr, subst, rules, ℕ}
use Rattle.cb_shelf.proofs.Asking.{tells_then, tells_refused, tells_stops}
use Rattle.cb_shelf.specs.Statements.{part_count}
use Rattle.cb_shelf.specs.Reading.{HasParts, LacksPart}
use Rattle.cb_shelf.proofs.Answering.{not_refused}
use Rattle.cb_shelf.proofs.reading.read_page.Goals as goal

pub returns-in_err-version-clause-tells : goal.returns-in_err-version-clause-tells
returns-in_err-version-clause-tells g c =
    let same : c.from_residual.result ≡ Err c.in_err-version.field-0.0 = search rules in
    tells_refused g.S.Store _ _ _ _ _ _ _ _ same (λ db h. inl h) c.in_err-version.ensures.tells

pub returns-in_err-bytes-clause-tells : goal.returns-in_err-bytes-clause-tells
returns-in_err-bytes-clause-tells g c =
    let size : c.page_size.result ≡ c.args.limits.now.page_size = search rules in
    let same : c.from_residual-in_err-bytes.result ≡ Err c.in_err-bytes.field-0.0 = search rules in
    tells_stops g.S.Store _ _ _ _ _ _ _ _ _ _ _ _ same (λ db first h. inr (subst (λ (n : ℕ). LacksPart c.args.tables c.args.page n db) size h))
    c.in_ok-version.ensures.tells c.in_err-bytes.ensures.tells c.in_err-bytes.ensures.inside.survives

pub returns-clause-tells : goal.returns-clause-tells
returns-clause-tells g c =
    let size : c.page_size.result ≡ c.args.limits.now.page_size = search rules in
    tells_then g.S.Store _ _ _ _ _ _ _ _ _ _ _ (Ok _)
    (λ db first second. record { version = first; parts = rw c.from_vec-bytes.ensures (subst (λ (n : ℕ). HasParts c.args.tables db c.args.page (part_count n) c.in_ok-bytes.bytes.items) size second) })
    (λ db first second wrong. not_refused wrong) c.in_ok-version.ensures.tells c.in_ok-bytes.ensures.tells c.in_ok-bytes.ensures.inside.survives
