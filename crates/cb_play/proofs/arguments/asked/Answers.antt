-- Goals of `asked`.
use Rattle.std.proofs.Common.{rules, ◌≡◌, List, Some, codes, option_map, refl}
use Rattle.std.specs.Str.Parse.{ExplainsUnsignedError, HasUnsignedDigitsIfOk}
use Rattle.clap.specs.Words.{Row, Text, first_value, found_of, rows_of, subcommand_name_of, subcommand_rows_of}
use Rattle.cb_play.proofs.Asking.{flag_of, number_of, read_of, text_of}
use Rattle.cb_play.proofs.arguments.asked.Goals as goal

pub returns-in_ok-get_str-in-Some-play-default-2 : goal.returns-in_ok-get_str-in-Some-play-default-2
returns-in_ok-get_str-in-Some-play-default-2 c =
    let name : Some (codes "play") ≡ subcommand_name_of c.args.matches.now = search rules in
    let rows : Some (rows_of (found_of c.in-Some-play-default.matches.now)) ≡ option_map (λ (p : Text × List Row). p.1) (subcommand_rows_of c.args.matches.now) = search rules in
    let config : Some c.in_ok-get_str-in-Some-play-default.field-0.now ≡ first_value (found_of c.in-Some-play-default.matches.now) (codes "CONFIG") = search rules in
    let schedule : Some c.in_ok-get_str-in-Some-play-default-2.field-0.now ≡ first_value (found_of c.in-Some-play-default.matches.now) (codes "SCHEDULE") = search rules in
    (codes "play", rows_of (found_of c.in-Some-play-default.matches.now), read_of c.args.matches.now _ _ name rows, (refl, text_of c.in-Some-play-default.matches.now (codes "CONFIG") _ config, text_of c.in-Some-play-default.matches.now (codes "SCHEDULE") _ schedule))

pub returns-in_ok-get_str-in-Some-chart-default-2 : goal.returns-in_ok-get_str-in-Some-chart-default-2
returns-in_ok-get_str-in-Some-chart-default-2 c =
    let name : Some (codes "chart") ≡ subcommand_name_of c.args.matches.now = search rules in
    let rows : Some (rows_of (found_of c.in-Some-chart-default.matches.now)) ≡ option_map (λ (p : Text × List Row). p.1) (subcommand_rows_of c.args.matches.now) = search rules in
    let config : Some c.in_ok-get_str-in-Some-chart-default.field-0.now ≡ first_value (found_of c.in-Some-chart-default.matches.now) (codes "CONFIG") = search rules in
    let schedule : Some c.in_ok-get_str-in-Some-chart-default-2.field-0.now ≡ first_value (found_of c.in-Some-chart-default.matches.now) (codes "SCHEDULE") = search rules in
    (codes "chart", rows_of (found_of c.in-Some-chart-default.matches.now), read_of c.args.matches.now _ _ name rows, (refl, text_of c.in-Some-chart-default.matches.now (codes "CONFIG") _ config, text_of c.in-Some-chart-default.matches.now (codes "SCHEDULE") _ schedule))

pub returns-in_ok-get_one-in-Some-draw-default-2 : goal.returns-in_ok-get_one-in-Some-draw-default-2
returns-in_ok-get_one-in-Some-draw-default-2 c =
    let name : Some (codes "draw") ≡ subcommand_name_of c.args.matches.now = search rules in
    let rows : Some (rows_of (found_of c.in-Some-draw-default.matches.now)) ≡ option_map (λ (p : Text × List Row). p.1) (subcommand_rows_of c.args.matches.now) = search rules in
    let config : Some c.in_ok-get_str-in-Some-draw-default.field-0.now ≡ first_value (found_of c.in-Some-draw-default.matches.now) (codes "CONFIG") = search rules in
    let seed : c.get_one.result ≡ Some c.in_ok-get_one-in-Some-draw-default.field-0 = search rules in
    let count : c.get_one-in-Some-draw-default.result ≡ Some c.in_ok-get_one-in-Some-draw-default-2.field-0 = search rules in
    (codes "draw", rows_of (found_of c.in-Some-draw-default.matches.now), read_of c.args.matches.now _ _ name rows, (refl, text_of c.in-Some-draw-default.matches.now (codes "CONFIG") _ config, number_of (ExplainsUnsignedError 10) HasUnsignedDigitsIfOk c.in-Some-draw-default.matches.now (codes "seed") _ _ seed c.get_one.ensures.none c.get_one.ensures.value, number_of (ExplainsUnsignedError 10) HasUnsignedDigitsIfOk c.in-Some-draw-default.matches.now (codes "events") _ _ count c.get_one-in-Some-draw-default.ensures.none c.get_one-in-Some-draw-default.ensures.value))

pub returns-in_ok-get_str-in-Some-run-default-2 : goal.returns-in_ok-get_str-in-Some-run-default-2
returns-in_ok-get_str-in-Some-run-default-2 c =
    let name : Some (codes "run") ≡ subcommand_name_of c.args.matches.now = search rules in
    let rows : Some (rows_of (found_of c.in-Some-run-default.matches.now)) ≡ option_map (λ (p : Text × List Row). p.1) (subcommand_rows_of c.args.matches.now) = search rules in
    let config : Some c.in_ok-get_str-in-Some-run-default.field-0.now ≡ first_value (found_of c.in-Some-run-default.matches.now) (codes "CONFIG") = search rules in
    let store : Some c.in_ok-get_str-in-Some-run-default-2.field-0.now ≡ first_value (found_of c.in-Some-run-default.matches.now) (codes "STORE") = search rules in
    (codes "run", rows_of (found_of c.in-Some-run-default.matches.now), read_of c.args.matches.now _ _ name rows, (refl, text_of c.in-Some-run-default.matches.now (codes "CONFIG") _ config, text_of c.in-Some-run-default.matches.now (codes "STORE") _ store, flag_of c.in-Some-run-default.matches.now (codes "progress") _ c.get_flag.ensures.none c.get_flag.ensures.value c.get_flag.ensures.other))

pub returns-in_ok-get_str-in-Some-serve-default-2 : goal.returns-in_ok-get_str-in-Some-serve-default-2
returns-in_ok-get_str-in-Some-serve-default-2 c =
    let name : Some (codes "serve") ≡ subcommand_name_of c.args.matches.now = search rules in
    let rows : Some (rows_of (found_of c.in-Some-serve-default.matches.now)) ≡ option_map (λ (p : Text × List Row). p.1) (subcommand_rows_of c.args.matches.now) = search rules in
    let config : Some c.in_ok-get_str-in-Some-serve-default.field-0.now ≡ first_value (found_of c.in-Some-serve-default.matches.now) (codes "CONFIG") = search rules in
    let store : Some c.in_ok-get_str-in-Some-serve-default-2.field-0.now ≡ first_value (found_of c.in-Some-serve-default.matches.now) (codes "STORE") = search rules in
    (codes "serve", rows_of (found_of c.in-Some-serve-default.matches.now), read_of c.args.matches.now _ _ name rows, (refl, text_of c.in-Some-serve-default.matches.now (codes "CONFIG") _ config, text_of c.in-Some-serve-default.matches.now (codes "STORE") _ store, flag_of c.in-Some-serve-default.matches.now (codes "announce") _ c.get_flag-in-Some-serve-default.ensures.none c.get_flag-in-Some-serve-default.ensures.value c.get_flag-in-Some-serve-default.ensures.other))

pub returns-in_ok-get_str-in-Some-sides-default : goal.returns-in_ok-get_str-in-Some-sides-default
returns-in_ok-get_str-in-Some-sides-default c =
    let name : Some (codes "sides") ≡ subcommand_name_of c.args.matches.now = search rules in
    let rows : Some (rows_of (found_of c.in-Some-sides-default.matches.now)) ≡ option_map (λ (p : Text × List Row). p.1) (subcommand_rows_of c.args.matches.now) = search rules in
    let file : Some c.in_ok-get_str-in-Some-sides-default.field-0.now ≡ first_value (found_of c.in-Some-sides-default.matches.now) (codes "FILE") = search rules in
    (codes "sides", rows_of (found_of c.in-Some-sides-default.matches.now), read_of c.args.matches.now _ _ name rows, (refl, text_of c.in-Some-sides-default.matches.now (codes "FILE") _ file))

pub returns-in_ok-get_str-in-Some-script-default : goal.returns-in_ok-get_str-in-Some-script-default
returns-in_ok-get_str-in-Some-script-default c =
    let name : Some (codes "script") ≡ subcommand_name_of c.args.matches.now = search rules in
    let rows : Some (rows_of (found_of c.in-Some-script-default.matches.now)) ≡ option_map (λ (p : Text × List Row). p.1) (subcommand_rows_of c.args.matches.now) = search rules in
    let file : Some c.in_ok-get_str-in-Some-script-default.field-0.now ≡ first_value (found_of c.in-Some-script-default.matches.now) (codes "FILE") = search rules in
    (codes "script", rows_of (found_of c.in-Some-script-default.matches.now), read_of c.args.matches.now _ _ name rows, (refl, text_of c.in-Some-script-default.matches.now (codes "FILE") _ file))
