-- Goals of `forget`.
use Rattle.std.proofs.Common.{◌∙◌, None, Some, ap, refl, sym}
use Rattle.cb_asks.specs.declared.ask.Fate.TheVariants as fate
use Rattle.cb_server_state.proofs.Spending.{spent}
use Rattle.cb_server_state.proofs.server_state.forget.Goals as goal

pub returns-in_err-ask-clause-fate : goal.returns-in_err-ask-clause-fate
returns-in_err-ask-clause-fate c =
    spent c.args.asks.now c.args.client (λ client. fate.Gone client) None c.from_residual.result c.from_residual.ensures
    (λ page some. sym c.in_err-ask.was ∙ c.remove.ensures.ask page some) (λ nowhere. refl)

pub returns-clause-fate : goal.returns-clause-fate
returns-clause-fate c =
    spent c.args.asks.now c.args.client (λ client. fate.Gone client) (Some c.in_ok-ask.ask) (Some c.gone.result) (ap Some c.gone.ensures)
    (λ page some. sym c.in_ok-ask.was ∙ c.remove.ensures.ask page some) (λ nowhere. sym c.in_ok-ask.was ∙ c.remove.ensures.none nowhere)
