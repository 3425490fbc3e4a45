-- Goals of `Replay::play`.
use Rattle.std.proofs.Common.{ap, length, refl, rules, Some, slice_index_or, subst, sym, ◌∙◌, ◌≡◌}
use Rattle.std.proofs.lemmas.Option.{slice_get_read}
use Rattle.cb_transcript.specs.Operations.{done_at, done_in}
use Rattle.cb_transcript.specs.Replays.{AnswersAs, shown}
use Rattle.cb_transcript.proofs.Replays.{done_within, plays_on, plays_stop}
use Rattle.cb_transcript.proofs.replay.Replay.play.Goals as goal

pub offset_bounds-entries-places : goal.offset_bounds-entries-places
offset_bounds-entries-places c = let there = c.requires.places c.loop-at.at 0 c.loop-at-test.true in
    let within = done_within c.args.entries.now (slice_index_or c.args.places.now c.loop-at.at 0) there.0 there.1 in search rules

pub bounds-entries-places : goal.bounds-entries-places
bounds-entries-places c = let there = c.requires.places c.loop-at.at 0 c.loop-at-test.true in
    done_within c.args.entries.now (slice_index_or c.args.places.now c.loop-at.at 0) there.0 there.1

pub returns-then-not-answers-clause-played : goal.returns-then-not-answers-clause-played
returns-then-not-answers-clause-played c = let there = c.requires.places c.loop-at.at 0 c.loop-at-test.true in
    let within = done_within c.args.entries.now (slice_index_or c.args.places.now c.loop-at.at 0) there.0 there.1 in
    let entry : done_at c.args.entries.now (slice_index_or c.args.places.now c.loop-at.at 0) ≡ done_in (Some c.index-entries-places.result) = ap done_in (slice_get_read c.args.entries.now (length c.args.entries.now) (slice_index_or c.args.places.now c.loop-at.at 0) c.index-entries-places.result refl within c.index-entries-places.is) in
    let answers = subst (λ done. AnswersAs (shown c.loop-at.self) done (shown c.answers.new.self) c.answers.result) (sym entry ∙ there.1) c.answers.ensures.answers in
    (c.loop-at-test.true, c.loop-at.invariant.plays.legal, plays_stop (shown c.args.self.now) (shown c.loop-at.self) (shown c.answers.new.self) c.args.entries.now c.args.places.now c.loop-at.at 0 there.0 c.loop-at-test.true there.1 (subst (λ answer. AnswersAs (shown c.loop-at.self) (Some there.0) (shown c.answers.new.self) answer) (search rules) answers) c.loop-at.invariant.plays)

pub loop-at-preserved : goal.loop-at-preserved
loop-at-preserved c = let there = c.requires.places c.loop-at.at 0 c.loop-at-test.true in
    let within = done_within c.args.entries.now (slice_index_or c.args.places.now c.loop-at.at 0) there.0 there.1 in
    let entry : done_at c.args.entries.now (slice_index_or c.args.places.now c.loop-at.at 0) ≡ done_in (Some c.index-entries-places.result) = ap done_in (slice_get_read c.args.entries.now (length c.args.entries.now) (slice_index_or c.args.places.now c.loop-at.at 0) c.index-entries-places.result refl within c.index-entries-places.is) in
    let answers = subst (λ done. AnswersAs (shown c.loop-at.self) done (shown c.answers.new.self) c.answers.result) (sym entry ∙ there.1) c.answers.ensures.answers in
    record {
      pages = c.answers.ensures.pages;
      plays = plays_on (shown c.args.self.now) (shown c.loop-at.self) (shown c.answers.new.self) c.args.entries.now c.args.places.now c.loop-at.at 0 there.0 c.loop-at-test.true there.1 (subst (λ answer. AnswersAs (shown c.loop-at.self) (Some there.0) (shown c.answers.new.self) answer) (search rules) answers) c.loop-at.invariant.plays;
    }
