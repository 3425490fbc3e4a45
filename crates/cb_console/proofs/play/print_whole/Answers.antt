-- Goals of `print_whole`.
use Rattle.std.proofs.Common.{rules, length}
use Rattle.cb_console.proofs.Checked.{ends_by}
use Rattle.cb_console.specs.Output.{lines_from}
use Rattle.cb_transcript.specs.Transcripts.{IsSerialOnOpening}
use Rattle.cb_console.proofs.play.print_whole.Goals as goal

pub returns : goal.returns
returns g c =
    ends_by (lines_from 1 c.args.transcript.now.entries) (lines_from 1 c.entries.result.now) (length c.args.transcript.now.commits) (length c.commits.result.now) (IsSerialOnOpening c.args.transcript.now)
    c.check_serial-checked.result c.print_checked.result _ _ _ _ _ (search rules) (search rules) c.check_serial-checked.ensures.serial c.in_ok-put_entries.ensures c.print_checked.ensures
