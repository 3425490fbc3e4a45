-- Goals of `read_and_play`.
use Rattle.std.proofs.Common.{rules, true, false}
use Rattle.cb_console.proofs.Playing.{refused_for, told, told_lives}
use Rattle.cb_console.specs.Settings.{IsConfig}
use Rattle.cb_console.proofs.play.read_and_play.Goals as goal

pub returns-then-config-clause-ok : goal.returns-then-config-clause-ok
returns-then-config-clause-ok c =
    let config : IsConfig c.args.config.now c.in_ok-config.config = search rules in
    told_lives c.args.config.now c.args.schedule.now c.in_ok-config.config c.play_lives_text.result config c.if-config.true c.play_lives_text.ensures.ok

pub returns-then-config-clause-fault : goal.returns-then-config-clause-fault
returns-then-config-clause-fault c =
    let config : IsConfig c.args.config.now c.in_ok-config.config = search rules in
    refused_for c.args.config.now c.args.schedule.now c.in_ok-config.config true c.play_lives_text.result config c.if-config.true c.play_lives_text.ensures.fault

pub returns-clause-ok : goal.returns-clause-ok
returns-clause-ok c =
    let config : IsConfig c.args.config.now c.in_ok-config.config = search rules in
    told c.args.config.now c.args.schedule.now c.in_ok-config.config c.play_text.result config c.if-config.false c.play_text.ensures.ok

pub returns-clause-fault : goal.returns-clause-fault
returns-clause-fault c =
    let config : IsConfig c.args.config.now c.in_ok-config.config = search rules in
    refused_for c.args.config.now c.args.schedule.now c.in_ok-config.config false c.play_text.result config c.if-config.false c.play_text.ensures.fault
