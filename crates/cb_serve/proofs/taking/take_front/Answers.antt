-- Goals of `take_front`.
use Rattle.std.proofs.Common.{◌≡◌, [], Err, rules, subst, sym}
use Rattle.std.proofs.lemmas.List.{append-nil}
use Rattle.cb_frame.specs.Grammar.{Fits}
use Rattle.cb_page.specs.Bounds.{Bounds}
use Rattle.cb_serve.proofs.Faults.{on_fault, on_memory}
use Rattle.cb_serve.proofs.Pieces.{front_again, front_frame, front_no_frame, front_part, front_refused, front_unread}
use Rattle.cb_serve.specs.Fronts.{IsFront}
use Rattle.cb_serve.specs.Steps.{RefusesFront}
use Rattle.cb_serve.specs.declared.front.Front.{Front}
use Rattle.cb_serve.proofs.taking.take_front.Goals as goal

pub take_frame-requires : goal.take_frame-requires
take_frame-requires c =
    let is = subst (λ (x : Front). IsFront c.limits.result.now c.args.bytes.now x) c.in-Frame.is c.in_ok-front.ensures in
    subst (λ (l : Bounds). Fits l c.in-Frame.frame) c.limits.ensures.value is.0.1.fits

pub returns-in_ok-take_frame-in-Frame-clause-ok : goal.returns-in_ok-take_frame-in-Frame-clause-ok
returns-in_ok-take_frame-in-Frame-clause-ok c = (
  c.in_ok-take_frame-in-Frame.ensures.ok.0,
  c.in_ok-take_frame-in-Frame.ensures.ok.1,
  front_frame c.args.server.now c.take_frame.new.server c.limits.result.now c.args.bytes.now c.in-Frame.frame c.in-Frame.used c.args.end c.in_ok-take_frame-in-Frame.ensures.ok.0 c.limits.ensures.value c.requires
      (subst (λ (x : Front). IsFront c.limits.result.now c.args.bytes.now x) c.in-Frame.is c.in_ok-front.ensures) c.in_ok-take_frame-in-Frame.ensures.ok.2,
)

pub returns-in_ok-say_again-in-Again-clause-ok : goal.returns-in_ok-say_again-in-Again-clause-ok
returns-in_ok-say_again-in-Again-clause-ok c = (
  c.in_ok-say_again-in-Again.ensures.ok.0,
  c.in_ok-say_again-in-Again.ensures.ok.1,
  front_again c.args.server.now c.say_again.new.server c.limits.result.now c.args.bytes.now c.in_ok-say_again-in-Again.ensures.ok.0
      (subst (λ (x : Front). IsFront c.limits.result.now c.args.bytes.now x) c.in-Again.is c.in_ok-front.ensures) c.in_ok-say_again-in-Again.ensures.ok.2,
)

pub returns-in-Unread-clause-ok : goal.returns-in-Unread-clause-ok
returns-in-Unread-clause-ok c = (
  [],
  sym (append-nil c.args.said.now.items),
  front_unread c.args.server.now c.limits.result.now c.args.bytes.now c.in-Unread.used c.limits.ensures.value
      (subst (λ (x : Front). IsFront c.limits.result.now c.args.bytes.now x) c.in-Unread.is c.in_ok-front.ensures),
)

pub returns-in-Part-clause-ok : goal.returns-in-Part-clause-ok
returns-in-Part-clause-ok c = (
  [],
  sym (append-nil c.args.said.now.items),
  front_part c.args.server.now c.limits.result.now c.args.bytes.now c.limits.ensures.value
      (subst (λ (x : Front). IsFront c.limits.result.now c.args.bytes.now x) c.in-Part.is c.in_ok-front.ensures),
)

pub returns-in-NoFrame-clause-ok : goal.returns-in-NoFrame-clause-ok
returns-in-NoFrame-clause-ok c = (
  [],
  sym (append-nil c.args.said.now.items),
  front_no_frame c.args.server.now c.limits.result.now c.args.bytes.now c.limits.ensures.value
      (subst (λ (x : Front). IsFront c.limits.result.now c.args.bytes.now x) c.in-NoFrame.is c.in_ok-front.ensures),
)

pub returns-in_err-front-clause-err : goal.returns-in_err-front-clause-err
returns-in_err-front-clause-err c = on_memory (RefusesFront c.args.server.now c.args.bytes.now) c.from_residual.result c.from_residual.ensures.1 tt

pub returns-in_err-take_frame-in-Frame-clause-err : goal.returns-in_err-take_frame-in-Frame-clause-err
returns-in_err-take_frame-in-Frame-clause-err c =
    let same : c.from_residual-in_err-take_frame-in-Frame.result ≡ Err c.in_err-take_frame-in-Frame.field-0.0 = search rules in
    on_fault (RefusesFront c.args.server.now c.args.bytes.now) c.from_residual-in_err-take_frame-in-Frame.result c.in_err-take_frame-in-Frame.field-0.0 same
    (front_refused c.args.server.now c.limits.result.now c.args.bytes.now c.in-Frame.frame c.in-Frame.used c.in_err-take_frame-in-Frame.field-0.0 c.limits.ensures.value
    (subst (λ (x : Front). IsFront c.limits.result.now c.args.bytes.now x) c.in-Frame.is c.in_ok-front.ensures) c.in_err-take_frame-in-Frame.ensures.err)

pub returns-in_err-say_again-in-Again-clause-err : goal.returns-in_err-say_again-in-Again-clause-err
returns-in_err-say_again-in-Again-clause-err c =
    let same : c.from_residual-in_err-say_again-in-Again.result ≡ Err c.in_err-say_again-in-Again.field-0.0 = search rules in
    on_fault (RefusesFront c.args.server.now c.args.bytes.now) c.from_residual-in_err-say_again-in-Again.result c.in_err-say_again-in-Again.field-0.0 same
    (subst (RefusesFront c.args.server.now c.args.bytes.now) (sym c.in_err-say_again-in-Again.ensures.err) tt)
