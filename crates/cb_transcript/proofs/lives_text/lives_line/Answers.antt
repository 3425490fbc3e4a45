-- Goals of `lives_line`.
use Rattle.std.proofs.Common.{rules, ◌≡◌, ◌∷◌, true}
use Rattle.cb_transcript.proofs.LivesLemmas.{life_line}
use Rattle.cb_transcript.specs.LivesText.{is_life}
use Rattle.cb_transcript.specs.Pieces.{words_of}
use Rattle.cb_transcript.proofs.lives_text.lives_line.Goals as goal

pub returns-then-eq : goal.returns-then-eq
returns-then-eq c =
    let split : words_of c.args.bytes.now ≡ c.in-Some.first.now ∷ words_of c.in-Some.rest.now = search rules in
    let life : is_life c.in-Some.first.now ≡ true = search rules in
    life_line c.args.limits.now c.args.line c.args.bytes.now c.in-Some.first.now (words_of c.in-Some.rest.now) c.in_ok-floor.floor c.in_ok-floor.number
    c.in_ok-first.ensures.text split life (c.in_ok-floor.ensures c.args.limits.now)
