-- Goals of `run_file`.
use Rattle.std.proofs.Common.{◌∙◌}
use Rattle.cb_play.proofs.Told.{over_run}
use Rattle.cb_play.proofs.store_run.run_file.Goals as goal

pub returns : goal.returns
returns g c =
    over_run _ _ _ _ _ c.run_over-printed.new.file _ c.in_ok-ended.ended _ _ _ _ c.over-2.ensures.over c.over-2.ensures.status c.over-2.ensures.run (c.run_over-printed.ensures.path ∙ c.open-opened.ensures.path)
    c.in_ok-ended.was c.run_over-printed.ensures.prints
