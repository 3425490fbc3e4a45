-- Goals of `take_all`.
use Rattle.std.proofs.Common.{◌≡◌, ℕ, List, Err, drop, rules, subst}
use Rattle.cb_serve.proofs.Faults.{on_fault}
use Rattle.cb_serve.proofs.Pieces.{so_far_more, so_far_no_frame, so_far_nothing, so_far_part, so_far_stops}
use Rattle.cb_serve.proofs.Slices.{rest_is}
use Rattle.cb_serve.specs.Steps.{RefusesFront, StopsTaking, TakesFront}
use Rattle.cb_serve.specs.declared.taking.Step.{Step}
use Rattle.cb_serve.proofs.taking.take_all.Goals as goal

pub loop-step-init : goal.loop-step-init
loop-step-init c = (so_far_nothing c.args.server.now c.args.bytes.now c.args.said.now.items c.args.passed_over.now, λ known. known)

pub loop-step-preserved : goal.loop-step-preserved
loop-step-preserved c = (
  so_far_more _ _ _ _ _ _ _ _ _ _ _ _ _ _ c.loop-step.invariant.0 c.in_ok-step.ensures.ok.1 (search rules) (search rules)
      (subst (λ (s : Step). TakesFront c.loop-step.server (drop c.loop-step.used c.args.bytes.now) s c.in_ok-step.ensures.ok.0 c.take_front.new.server) c.in-Taken.is
      (subst (λ (k : List ℕ). TakesFront c.loop-step.server k c.in_ok-step.step c.in_ok-step.ensures.ok.0 c.take_front.new.server) (rest_is c.loop-step.used c.args.bytes.now) c.in_ok-step.ensures.ok.2)),
  λ known. c.in_ok-step.ensures.known (c.loop-step.invariant.1 known),
)

pub returns-in-Part-clause-ok : goal.returns-in-Part-clause-ok
returns-in-Part-clause-ok c =
    so_far_part _ _ _ _ _ _ _ _ _ _ _ c.loop-step.invariant.0 c.in_ok-step.ensures.ok.1
    (subst (λ (s : Step). TakesFront c.loop-step.server (drop c.loop-step.used c.args.bytes.now) s c.in_ok-step.ensures.ok.0 c.take_front.new.server) c.in-Part.is
    (subst (λ (k : List ℕ). TakesFront c.loop-step.server k c.in_ok-step.step c.in_ok-step.ensures.ok.0 c.take_front.new.server) (rest_is c.loop-step.used c.args.bytes.now) c.in_ok-step.ensures.ok.2))

pub returns-in-NoFrame-clause-ok : goal.returns-in-NoFrame-clause-ok
returns-in-NoFrame-clause-ok c =
    so_far_no_frame _ _ _ _ _ _ _ _ _ _ _ c.loop-step.invariant.0 c.in_ok-step.ensures.ok.1
    (subst (λ (s : Step). TakesFront c.loop-step.server (drop c.loop-step.used c.args.bytes.now) s c.in_ok-step.ensures.ok.0 c.take_front.new.server) c.in-NoFrame.is
    (subst (λ (k : List ℕ). TakesFront c.loop-step.server k c.in_ok-step.step c.in_ok-step.ensures.ok.0 c.take_front.new.server) (rest_is c.loop-step.used c.args.bytes.now) c.in_ok-step.ensures.ok.2))

pub returns-in_err-step-clause-err : goal.returns-in_err-step-clause-err
returns-in_err-step-clause-err c =
    let same : c.from_residual.result ≡ Err c.in_err-step.field-0.0 = search rules in
    on_fault (StopsTaking c.args.server.now c.args.bytes.now c.args.passed_over.now c.loop-step.passed_over) c.from_residual.result c.in_err-step.field-0.0 same
    (so_far_stops _ _ _ _ _ _ _ _ c.in_err-step.field-0.0 c.loop-step.invariant.0
    (subst (λ (k : List ℕ). RefusesFront c.loop-step.server k c.in_err-step.field-0.0) (rest_is c.loop-step.used c.args.bytes.now) c.in_err-step.ensures.err))
