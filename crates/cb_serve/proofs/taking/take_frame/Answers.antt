-- Goals of `take_frame`.
use Rattle.std.proofs.Common.{◌≡◌, ◌∙◌, [], false, sym}
use Rattle.std.proofs.lemmas.List.{append-nil}
use Rattle.std.specs.List.{flat_map}
use Rattle.cb_frame.specs.Spelling.{spelling}
use Rattle.cb_server.specs.Taking.{input_of}
use Rattle.cb_serve.proofs.Faults.{on_memory}
use Rattle.cb_serve.proofs.Hearing.{is_heard, knows_frame, unheard}
use Rattle.cb_serve.proofs.Inputs.{answers_one, appended, fits_still}
use Rattle.cb_serve.proofs.Pieces.{frame_refused}
use Rattle.cb_serve.specs.Steps.{RefusesFrame}
use Rattle.cb_serve.proofs.taking.take_frame.Goals as goal

pub append_frames-requires : goal.append_frames-requires
append_frames-requires c =
    fits_still _ c.args.server.now.limits c.in-Ok.answers.items _ (c.limits.ensures.value ∙ c.in-Ok.ensures.ok.does.limits) c.as_slice.ensures.value c.in-Ok.ensures.fits

pub returns-then-greets_from-clause-ok : goal.returns-then-greets_from-clause-ok
returns-then-greets_from-clause-ok c = (
  [],
  sym (append-nil c.args.said.now.items),
  unheard c.args.server.now c.args.end c.args.frame (sym c.greets_from.ensures ∙ c.if-greets_from.true),
)

pub returns-in-Ok-clause-ok : goal.returns-in-Ok-clause-ok
returns-in-Ok-clause-ok c = (
  flat_map spelling c.in-Ok.answers.items,
  appended _ _ c.in-Ok.answers.items _ c.as_slice.ensures.value c.in_ok-append_frames-in-Ok.ensures,
  is_heard c.args.server.now c.take_owned.new.self c.args.end c.args.frame (flat_map spelling c.in-Ok.answers.items) (sym c.greets_from.ensures ∙ c.if-greets_from.false)
      (answers_one c.args.server.now (input_of c.args.frame) c.in-Ok.answers.items c.take_owned.new.self c.in-Ok.ensures.ok.does c.in-Ok.ensures.fits),
)

pub returns-in-Ok-clause-known : goal.returns-in-Ok-clause-known
returns-in-Ok-clause-known c known =
    knows_frame c.args.server.now c.take_owned.new.self c.args.end c.args.frame (flat_map spelling c.in-Ok.answers.items) (sym c.greets_from.ensures ∙ c.if-greets_from.false)
    (answers_one c.args.server.now (input_of c.args.frame) c.in-Ok.answers.items c.take_owned.new.self c.in-Ok.ensures.ok.does c.in-Ok.ensures.fits) known

pub returns-in_err-append_frames-in-Ok-clause-err : goal.returns-in_err-append_frames-in-Ok-clause-err
returns-in_err-append_frames-in-Ok-clause-err c = on_memory (RefusesFrame c.args.server.now c.args.frame) c.from_residual.result c.from_residual.ensures.1 tt

pub returns-clause-err : goal.returns-clause-err
returns-clause-err c = frame_refused c.args.server.now c.args.frame c.in-Err.fault c.from.result c.from.ensures c.in-Err.ensures.err
