-- Goals of `Chart::follow`.
use Rattle.std.proofs.Common.{◌≡◌, ◌+◌, ◌++◌, ◌∷◌, [], List, length, take, refl, sym, ap, ◌∙◌, subst, arith}
use Rattle.std.proofs.lemmas.List.{length-take-le, take_more}
use Rattle.std.proofs.Math.Seq.{take-length}
use Rattle.cb_chart.specs.Charts.{Shows}
use Rattle.cb_transcript.specs.declared.event.Event.{Event}
use Rattle.cb_chart.proofs.chart.Chart.follow.Goals as goal

pub loop-index-init : goal.loop-index-init
loop-index-init c = λ limits shows. shows

pub loop-index-preserved : goal.loop-index-preserved
loop-index-preserved c = λ limits shows.
    let events = c.args.events.now in
    let index = c.loop-index.index in
    let more : take (index + 1) events ≡ take index events ++ c.index-events-index.result ∷ []
    = take_more events index c.index-events-index.result c.loop-index-test.true ∙ rw (← c.index-events-index.is) refl in
    subst (λ (seen : List Event). Shows limits seen c.play_one.new.self) (sym more)
    (c.in_ok-play_one.ensures limits (take index events) (length-take-le index events (omega (arith, c.loop-index-test.true))) (c.loop-index.invariant limits shows))

pub returns : goal.returns
returns c = λ limits shows.
    let events = c.args.events.now in
    let whole : c.loop-index.index ≡ length events = omega (arith, c.loop-index.auto.index-end, c.loop-index-test.false) in
    subst (λ (seen : List Event). Shows limits seen c.loop-index.self) (ap (λ n. take n events) whole ∙ take-length events) (c.loop-index.invariant limits shows)
