-- Goals of `print_whole_lives`.
use Rattle.std.proofs.Common.{rules, length}
use Rattle.cb_console.proofs.Checked.{ends_by}
use Rattle.cb_console.specs.Output.{lives_lines_from}
use Rattle.cb_transcript.specs.LivesTranscripts.{IsSerialOverLives}
use Rattle.cb_console.proofs.play.print_whole_lives.Goals as goal

pub returns : goal.returns
returns g c =
    ends_by (lives_lines_from 1 c.args.transcript.entries) (lives_lines_from 1 c.entries.result.now) (length c.args.transcript.commits) (length c.commits-commits.result.now) (IsSerialOverLives c.args.transcript)
    c.check_lives-checked.result c.print_checked.result _ _ _ _ _ (search rules) (search rules) c.check_lives-checked.ensures c.in_ok-put_lives_entries.ensures c.print_checked.ensures
