-- Goals of `Client::read`.
use Rattle.cb_cache.specs.CacheState.{content_at}
use Rattle.cb_client_core.specs.ClientState.{ClientState}
use Rattle.std.specs.Option.{is_some}
use Rattle.cb_client.specs.CallAnswers.{after_read}
use Rattle.std.proofs.Common.{ap, ◌≡◌, Some, false, Err, refl, ◌∙◌, rules}
use Rattle.cb_client.proofs.CallSteps.{refused}
use Rattle.cb_client.proofs.Calling.{answers_ask, answers_bytes}
use Rattle.cb_client.proofs.client.Client.read.Goals as goal

pub returns-in_err-here : goal.returns-in_err-here
returns-in_err-here g c =
    let same : c.from_residual.result ≡ Err c.in_err-here.field-0.0 = search rules in (
      (refl, λ x. tt, c.in_err-here.ensures.after),
      record {
        ends = tt;
        by_table = rw (← c.in_err-here.ensures.after) c.in_err-here.ensures.called;
        answer = rw same (refused _ _ _ c.in_err-here.ensures.decided);
      },
    )

pub returns-then-here : goal.returns-then-here
returns-then-here g c =
    let lent : Some c.bytes.result.now ≡ content_at (after_read c.args.self.now c.args.page).copies c.args.page =
    c.bytes.ensures ∙ ap (λ (v : ClientState). content_at v.copies c.args.page) (c.self.view_is ∙ c.in_ok-here.ensures.after) in (
      (refl, λ x. tt, c.self.view_is ∙ c.in_ok-here.ensures.after),
      record {
        ends = tt;
        by_table = rw (← c.in_ok-here.ensures.after) c.in_ok-here.ensures.called;
        answer = answers_bytes c.args.self.now c.args.page c.bytes.result.now c.in_ok-here.ensures.decided lent (c.in_ok-here.ensures.page c.if-here.true);
      },
    )

pub returns-else-here : goal.returns-else-here
returns-else-here g c =
    let out : is_some (content_at (after_read c.args.self.now c.args.page).copies c.args.page) ≡ false = search rules in (
      (refl, λ x. tt, c.self.view_is ∙ c.in_ok-here.ensures.after),
      record {
        ends = tt;
        by_table = rw (← c.in_ok-here.ensures.after) c.in_ok-here.ensures.called;
        answer = answers_ask c.args.self.now c.args.page c.in_ok-here.ensures.decided out;
      },
    )
