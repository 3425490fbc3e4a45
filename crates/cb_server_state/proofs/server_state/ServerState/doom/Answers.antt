-- Goals of `ServerState::doom`.
use Rattle.std.proofs.Common.{◌∙◌, None, Some, ap, refl, sym}
use Rattle.cb_asks.specs.declared.ask.Fate.TheVariants as fate
use Rattle.cb_server_state.proofs.Changes.{dooms}
use Rattle.cb_server_state.proofs.Spending.{spent}
use Rattle.cb_server_state.proofs.server_state.ServerState.doom.Goals as goal

pub returns-in_err-ask-clause-says : goal.returns-in_err-ask-clause-says
returns-in_err-ask-clause-says c =
    rw c.doom.ensures
    (dooms c.args.self.now c.args.client _ _ c.args.outbox.now c.say.new.self c.requires.agree c.requires.client c.requires.live c.remove.ensures.removes
    (rw (c.incarnation-incarnation.ensures, c.txn-txn.ensures) refl) c.say.ensures)

pub returns-in_err-ask-clause-fate : goal.returns-in_err-ask-clause-fate
returns-in_err-ask-clause-fate c =
    spent c.args.self.now.asks c.args.client (λ client. fate.Doomed client) None c.from_residual.result c.from_residual.ensures
    (λ page some. sym c.in_err-ask.was ∙ c.remove.ensures.ask page some) (λ nowhere. refl)

pub returns-clause-says : goal.returns-clause-says
returns-clause-says c =
    rw c.doom.ensures
    (dooms c.args.self.now c.args.client _ _ c.args.outbox.now c.say.new.self c.requires.agree c.requires.client c.requires.live c.remove.ensures.removes
    (rw (c.incarnation-incarnation.ensures, c.txn-txn.ensures) refl) c.say.ensures)

pub returns-clause-fate : goal.returns-clause-fate
returns-clause-fate c =
    spent c.args.self.now.asks c.args.client (λ client. fate.Doomed client) (Some c.in_ok-ask.ask) (Some c.doomed.result) (ap Some c.doomed.ensures)
    (λ page some. sym c.in_ok-ask.was ∙ c.remove.ensures.ask page some) (λ nowhere. sym c.in_ok-ask.was ∙ c.remove.ensures.none nowhere)
