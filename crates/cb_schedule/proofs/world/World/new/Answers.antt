-- Goals of `World::new`.
use Rattle.std.proofs.Common.{refl, false, subst, sym, ap, ◌∙◌}
use Rattle.cb_protocol.specs.Headline.{Promise}
use Rattle.cb_protocol.specs.World.{Opening, new_world}
use Rattle.cb_cache.specs.CacheState.{limits_of}
use Rattle.cb_transcript.specs.Transcripts.{TranscriptState}
use Rattle.cb_server_state.specs.States.{opening_of}
use Rattle.cb_schedule.specs.WorldState.{WorldState}
use Rattle.cb_schedule.proofs.Telling.{told_is_serial}
use Rattle.cb_schedule.proofs.Worlds.{first_promise, sound_opening, reached_at_first}
use Rattle.cb_schedule.proofs.world.World.new.Goals as goal

pub invariant_of-result : goal.invariant_of-result
invariant_of-result g c =
    let v : WorldState = record { limits = c.args.limits.now; net = c.in_ok-new.field-0; opening = c.new-2.result.opening; transcript = c.new-2.result.entries; commits = c.new-2.result.commits; stopped = false } in
    let first = reached_at_first v c.args.limits.now c.args.store refl c.in_ok-new.ensures.limits (ap (λ (t : TranscriptState). t.opening) c.new-2.ensures ∙ c.in_ok-opening.ensures) (sound_opening c.args.store c.number-known.ensures.sound) c.in_ok-new.ensures.represents (ap (λ (t : TranscriptState). t.entries) c.new-2.ensures) (ap (λ (t : TranscriptState). t.commits) c.new-2.ensures) in
    let promised = subst (λ (o : Opening). Promise o (new_world (limits_of c.args.limits.now) (opening_of c.args.store))) (sym first.0) (first_promise (limits_of c.args.limits.now) (opening_of c.args.store) c.callback_read.ensures.promise (sound_opening c.args.store c.number-known.ensures.sound)) in
    record { packets = rw c.in_ok-new.ensures.packets tt; serial = told_is_serial v _ first.1 promised; running = λ _. first.2 }

pub returns-clause-runs : goal.returns-clause-runs
returns-clause-runs g c = refl

pub returns-clause-promise : goal.returns-clause-promise
returns-clause-promise g c =
    let v : WorldState = record { limits = c.args.limits.now; net = c.in_ok-new.field-0; opening = c.new-2.result.opening; transcript = c.new-2.result.entries; commits = c.new-2.result.commits; stopped = false } in
    let sound = sound_opening c.args.store c.number-known.ensures.sound in
    let first = reached_at_first v c.args.limits.now c.args.store refl c.in_ok-new.ensures.limits (ap (λ (t : TranscriptState). t.opening) c.new-2.ensures ∙ c.in_ok-opening.ensures) sound c.in_ok-new.ensures.represents (ap (λ (t : TranscriptState). t.entries) c.new-2.ensures) (ap (λ (t : TranscriptState). t.commits) c.new-2.ensures) in
    subst (λ (o : Opening). Promise o (new_world (limits_of c.args.limits.now) (opening_of c.args.store))) (sym first.0) (first_promise (limits_of c.args.limits.now) (opening_of c.args.store) c.callback_read.ensures.promise sound)

pub returns-clause-represents : goal.returns-clause-represents
returns-clause-represents g c =
    let v : WorldState = record { limits = c.args.limits.now; net = c.in_ok-new.field-0; opening = c.new-2.result.opening; transcript = c.new-2.result.entries; commits = c.new-2.result.commits; stopped = false } in
    let first = reached_at_first v c.args.limits.now c.args.store refl c.in_ok-new.ensures.limits (ap (λ (t : TranscriptState). t.opening) c.new-2.ensures ∙ c.in_ok-opening.ensures) (sound_opening c.args.store c.number-known.ensures.sound) c.in_ok-new.ensures.represents (ap (λ (t : TranscriptState). t.entries) c.new-2.ensures) (ap (λ (t : TranscriptState). t.commits) c.new-2.ensures) in
    first.1
