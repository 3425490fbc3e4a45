-- Goals of `Client::finish_with`.
use Rattle.std.proofs.Common.{◌≡◌, Err, rules, refl, sym, ◌∙◌}
use Rattle.cb_client_core.specs.declared.stage.Stage.TheVariants as stages
use Rattle.cb_client.proofs.CallSteps.{refused}
use Rattle.cb_client.proofs.Writing.{finish_keeps, finishes}
use Rattle.cb_client.proofs.client.Client.finish_with.Goals as goal

pub returns-in_err-check_finish : goal.returns-in_err-check_finish
returns-in_err-check_finish g c =
    let same : c.from_residual.result ≡ Err c.in_err-check_finish.field-0.0 = search rules in
    rw same (record { by_table = (refused _ _ _ c.in_err-check_finish.ensures.decided, refl) })

pub invariant_of-self : goal.invariant_of-self
invariant_of-self g c =
    let said = c.requires.says (λ z. absurd (let e : stages.Open ≡ stages.Idle = sym (c.in_ok-check_finish.ensures.open refl) ∙ z in cc)) in
    finish_keeps _ _ (rw (← c.self.view_is) at c.in_ok-check_finish.ensures.decided) (rw (← c.self.view_is) at said) c.self.invariant

pub returns : goal.returns
returns g c =
    let said = c.requires.says (λ z. absurd (let e : stages.Open ≡ stages.Idle = sym (c.in_ok-check_finish.ensures.open refl) ∙ z in cc)) in
    record { by_table = rw (← c.self.view_is) (finishes _ _ (rw (← c.self.view_is) at c.in_ok-check_finish.ensures.decided) (rw (← c.self.view_is) at said)) }
