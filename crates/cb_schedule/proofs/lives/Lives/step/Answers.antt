-- Goals of `Lives::step`.
use Rattle.std.proofs.Common.{subst}
use Rattle.cb_transcript.specs.declared.lives_transcript.LivesEntry.{LivesEntry}
use Rattle.cb_transcript.specs.declared.lives_transcript.LivesEntry.TheVariants as entry
use Rattle.cb_schedule.proofs.OverLives.{after_event, played_within, told_in_life}
use Rattle.cb_schedule.proofs.lives.Lives.step.Goals as goal
use Rattle.cb_schedule.specs.LivesPlays.{LivesStep}
use Rattle.cb_schedule.specs.LivesState.{LivesState}

pub play_in_life-requires : goal.play_in_life-requires
play_in_life-requires g c =
    let v : LivesState = record { limits = c.self.inside.limits; net = c.self.inside.net; opening = c.self.inside.opening; floor = c.self.inside.floor; former = c.self.inside.former; told = c.self.inside.told; stopped = c.self.inside.stopped } in
    told_in_life v (c.self.invariant.running c.if-self.false)

pub invariant_of-self-2 : goal.invariant_of-self-2
invariant_of-self-2 g c =
    let v : LivesState = record { limits = c.self.inside.limits; net = c.self.inside.net; opening = c.self.inside.opening; floor = c.self.inside.floor; former = c.self.inside.former; told = c.self.inside.told; stopped = c.self.inside.stopped } in
    (played_within v c.play_in_life.new.net c.play_in_life.new.told c.args.event c.in_ok-answer.answer c.self.invariant c.if-self.false c.in_ok-answer.ensures.forgotten c.in_ok-answer.ensures.becomes c.in_ok-answer.ensures.told).0

pub returns-clause-ok : goal.returns-clause-ok
returns-clause-ok g c =
    let v : LivesState = record { limits = c.self.inside.limits; net = c.self.inside.net; opening = c.self.inside.opening; floor = c.self.inside.floor; former = c.self.inside.former; told = c.self.inside.told; stopped = c.self.inside.stopped } in
    let happened : LivesEntry = entry.Within (record { event = c.args.event; answer = c.in_ok-answer.answer }) in
    subst (λ (w : LivesState). LivesStep w happened (after_event v c.play_in_life.new.net c.play_in_life.new.told)) c.self.view_is
    (played_within v c.play_in_life.new.net c.play_in_life.new.told c.args.event c.in_ok-answer.answer c.self.invariant c.if-self.false c.in_ok-answer.ensures.forgotten c.in_ok-answer.ensures.becomes c.in_ok-answer.ensures.told).1
