-- Goals of `Lives::refuse`.
use Rattle.std.proofs.Common.{refl, subst, sym}
use Rattle.cb_transcript.specs.declared.lives_transcript.LivesEntry.TheVariants as entry
use Rattle.cb_transcript.specs.declared.restart.RestartAnswer.TheVariants as restart
use Rattle.cb_transcript.specs.declared.restart.RestartEntry.{RestartEntry}
use Rattle.cb_schedule.proofs.OverLives.{after_refusal, played_refusal}
use Rattle.cb_schedule.proofs.lives.Lives.refuse.Goals as goal
use Rattle.cb_schedule.specs.LivesPlays.{LivesStep}
use Rattle.cb_schedule.specs.LivesState.{IsAnswerOf, LivesState}

pub invariant_of-self-2 : goal.invariant_of-self-2
invariant_of-self-2 g c =
    let v : LivesState = record { limits = c.self.inside.limits; net = c.self.inside.net; opening = c.self.inside.opening; floor = c.self.inside.floor; former = c.self.inside.former; told = c.self.inside.told; stopped = c.self.inside.stopped } in
    let told : RestartEntry = record { floor = c.args.floor; number = c.args.number; answer = restart.Refused c.args.refusal } in
    (played_refusal v c.tell.new.self told c.args.refusal c.self.invariant c.if-self.false refl (subst (λ (w : LivesState). IsAnswerOf w c.args.floor c.args.number (restart.Refused c.args.refusal)) (sym c.self.view_is) c.requires) c.in_ok-tell.ensures.ok).0

pub returns-clause-ok : goal.returns-clause-ok
returns-clause-ok g c =
    let v : LivesState = record { limits = c.self.inside.limits; net = c.self.inside.net; opening = c.self.inside.opening; floor = c.self.inside.floor; former = c.self.inside.former; told = c.self.inside.told; stopped = c.self.inside.stopped } in
    let told : RestartEntry = record { floor = c.args.floor; number = c.args.number; answer = restart.Refused c.args.refusal } in
    subst (λ (w : LivesState). LivesStep w (entry.ServerRestarts told) (after_refusal v c.tell.new.self)) c.self.view_is
    (played_refusal v c.tell.new.self told c.args.refusal c.self.invariant c.if-self.false refl (subst (λ (w : LivesState). IsAnswerOf w c.args.floor c.args.number (restart.Refused c.args.refusal)) (sym c.self.view_is) c.requires) c.in_ok-tell.ensures.ok).1
