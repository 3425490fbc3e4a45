-- Goals of `run_settings`.
use Rattle.std.proofs.Common.{rules}
use Rattle.cb_console.proofs.RunLemmas.{refuses_run}
use Rattle.cb_console.proofs.running.run_settings.Goals as goal

pub returns-in_err-config-clause-fault : goal.returns-in_err-config-clause-fault
returns-in_err-config-clause-fault c =
    refuses_run c.args.text.now c.in_err-config.field-0.0 c.from_residual.result c.from_residual.ensures.1 c.in_err-config.ensures.fault

pub returns-then-keep_write-clause-fault : goal.returns-then-keep_write-clause-fault
returns-then-keep_write-clause-fault c = search rules

pub returns-clause-ok : goal.returns-clause-ok
returns-clause-ok c = search rules
