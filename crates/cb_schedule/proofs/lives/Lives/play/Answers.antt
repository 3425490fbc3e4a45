-- Goals of `Lives::play`.
use Rattle.std.proofs.Common.{◌≡◌, length, take, ap, subst, ◌∙◌, List, arith}
use Rattle.std.proofs.lemmas.List.{take_more}
use Rattle.std.proofs.Math.Seq.{take-length}
use Rattle.cb_transcript.specs.declared.lives_event.LivesEvent.{LivesEvent}
use Rattle.cb_schedule.proofs.PlayingLives.{played_end, played_more, played_none}
use Rattle.cb_schedule.proofs.lives.Lives.play.Goals as goal
use Rattle.cb_schedule.specs.LivesPlays.{LivesPlayed}

pub loop-event-init : goal.loop-event-init
loop-event-init g c =
    let ran = c.is_running.ensures.value.0 c.if-not-is_running.false in
    record { played = played_none c.args.self ran (c.is_running.ensures.reached ran) }

pub returns-in_default-clause-fault : goal.returns-in_default-clause-fault
returns-in_default-clause-fault g c = λ ran. (
  c.loop-event.event-index,
  c.loop-event-test.true,
  played_end c.args.self _ c.loop-event.self _ c.loop-event.invariant.played (c.into_transcript-in_default.ensures.value ∙ c.in_default.ensures.kept),
)

pub loop-event-preserved : goal.loop-event-preserved
loop-event-preserved g c =
    let one = take_more c.args.events.now c.loop-event.event-index c.event-item.result c.loop-event-test.true in
    record {
      played = rw (one, ← c.event-item.is)
          (played_more c.args.self _ c.loop-event.self c.event-item.result c.in-Ok.ensures.ok.0 c.advance_by.new.self c.loop-event.invariant.played c.in-Ok.ensures.ok.1 c.in-Ok.ensures.ok.2);
    }

pub returns-clause-ok : goal.returns-clause-ok
returns-clause-ok g c =
    let events = c.args.events.now in
    let whole : c.loop-event.event-index ≡ length events = omega arith in
    subst (λ (es : List LivesEvent). LivesPlayed c.args.self es c.into_transcript-2.result) (ap (λ n. take n events) whole ∙ take-length events)
    (played_end c.args.self _ c.loop-event.self _ c.loop-event.invariant.played c.into_transcript-2.ensures.value)
