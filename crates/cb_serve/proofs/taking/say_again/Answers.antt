-- Goals of `say_again`.
use Rattle.std.proofs.Common.{◌∙◌}
use Rattle.std.specs.List.{flat_map}
use Rattle.cb_frame.specs.Spelling.{spelling}
use Rattle.cb_protocol.specs.AnyMessages.{SendsAgain}
use Rattle.cb_serve.proofs.Hearing.{knows_again}
use Rattle.cb_serve.proofs.Inputs.{answers_one, appended, fits_still}
use Rattle.cb_serve.proofs.taking.say_again.Goals as goal

pub append_frames-requires : goal.append_frames-requires
append_frames-requires c =
    fits_still _ c.args.server.now.limits c.in_ok-answers.answers.items _ (c.limits.ensures.value ∙ c.in_ok-answers.ensures.ok.limits) c.as_slice.ensures.value c.in_ok-answers.ensures.fits

pub returns-clause-ok : goal.returns-clause-ok
returns-clause-ok c = (
  flat_map spelling c.in_ok-answers.answers.items,
  appended _ _ c.in_ok-answers.answers.items _ c.as_slice.ensures.value c.in_ok-append_frames.ensures,
  answers_one c.args.server.now SendsAgain c.in_ok-answers.answers.items c.again.new.self c.in_ok-answers.ensures.ok c.in_ok-answers.ensures.fits,
)

pub returns-clause-known : goal.returns-clause-known
returns-clause-known c end known =
    knows_again c.args.server.now c.again.new.self end (flat_map spelling c.in_ok-answers.answers.items)
    (answers_one c.args.server.now SendsAgain c.in_ok-answers.answers.items c.again.new.self c.in_ok-answers.ensures.ok c.in_ok-answers.ensures.fits) known
