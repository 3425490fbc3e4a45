-- Goals of `read_version`.
use Rattle.std.proofs.Common.{◌≡◌, Err, pos, rules}
use Rattle.sqlite.specs.Value.{owned}
use Rattle.sqlite.specs.declared.types.Value.TheVariants.{Int}
use Rattle.cb_shelf.proofs.Asking.{tells_refused}
use Rattle.cb_shelf.specs.Reading.{version_of, number_values, IsNumber, IsUpTo}
use Rattle.cb_shelf.proofs.Questions.{version_asks}
use Rattle.cb_shelf.proofs.Answering.{version_is, tells_same, tells_up_to, else_weaker}
use Rattle.cb_shelf.proofs.reading.read_version.Goals as goal

pub ask_number-requires : goal.ask_number-requires
ask_number-requires g c = rw c.version_text.ensures (version_asks c.args.tables)

pub returns-in_err-version-clause-tells : goal.returns-in_err-version-clause-tells
returns-in_err-version-clause-tells g c =
    let page : owned c.params-to_sql.result ≡ Int (pos c.args.page) = search rules in
    let same : c.from_residual.result ≡ Err c.in_err-version.field-0.0 = search rules in
    tells_refused g.S.Store _ _ _ _ _ _ _ _ same (λ db. else_weaker db (version_of c.args.tables c.args.page) (IsUpTo c.args.number) IsNumber (λ values fits. (fits.0, fits.2)))
    (tells_same g.S.Store _ _ _ _ number_values IsNumber _ (version_is c.args.tables c.args.page _ _ c.version_text.ensures page) c.in_err-version.ensures.tells)

pub returns-clause-tells : goal.returns-clause-tells
returns-clause-tells g c =
    let page : owned c.params-to_sql.result ≡ Int (pos c.args.page) = search rules in
    tells_up_to g.S.Store _ _ (version_of c.args.tables c.args.page) _ c.args.number c.version_up_to.result c.version_up_to.ensures.ok c.version_up_to.ensures.err
    (tells_same g.S.Store _ _ _ _ number_values IsNumber _ (version_is c.args.tables c.args.page _ _ c.version_text.ensures page) c.in_ok-version.ensures.tells)
