-- Goals of `Chart::play_one`.
use Rattle.std.proofs.Common.{◌≡◌, ◌++◌, ◌∷◌, [], List, length, map, ap, sym, ◌∙◌, subst}
use Rattle.std.specs.Option.{option_to_list}
use Rattle.cb_chart.specs.Arrows.{arrow_to, sent_by}
use Rattle.cb_chart.specs.Bars.{AreBars}
use Rattle.cb_chart.specs.declared.arrows.Sending.{Sending}
use Rattle.cb_chart.specs.declared.bars.Bar.{Bar}
use Rattle.cb_chart.specs.declared.bars.ClientCopy.{ClientCopy}
use Rattle.cb_chart.proofs.Drawing.{marks_more, shows_more}
use Rattle.cb_transcript.specs.declared.event.Event.{Event}
use Rattle.cb_transcript.specs.Transcripts.{TranscriptState}
use Rattle.cb_transcript.specs.declared.answer.SentPacket.{SentPacket}
use Rattle.cb_schedule.specs.Plays.{Steps}
use Rattle.cb_chart.proofs.chart.Chart.play_one.Goals as goal

pub returns : goal.returns
returns c = λ limits before long shows.
    let old = c.args.self.now in
    let answer = c.in_ok-answer.answer in
    shows_more limits before c.args.event.now answer c.args.number old _ long shows (record {
      steps = subst (λ (e : Event). Steps old.world e answer c.step.new.self) c.in_ok-copy.ensures.same c.in_ok-answer.ensures.ok;
      sendings = subst (λ (xs : List SentPacket). c.add_sendings.new.sendings.items ≡ old.sendings.items ++ map (sent_by c.args.number) xs) c.as_slice.ensures c.in_ok-add_sendings.ensures;
      arrows = subst (λ (xs : List Sending). c.add_arrow.new.arrows.items ≡ old.arrows.items ++ option_to_list (arrow_to xs c.args.event.now answer.word c.args.number)) c.as_slice-sendings.ensures.value c.in_ok-add_arrow.ensures;
      commits = marks_more old.marks.items c.push.new.self.items _ (length c.step.new.self.commits) c.in_ok-push.ensures.items
          (ap length (c.commits.ensures ∙ ap (λ (t : TranscriptState). t.commits) c.transcript.ensures.value));
      bars = λ sights at are. subst (λ (seen : List ClientCopy). AreBars (sights ++ seen ∷ []) c.in_ok-self.field-0.items) (c.as_slice-3.ensures.value ∙ c.in_ok-copies.ensures)
          (c.in_ok-self.ensures sights at (subst (λ (xs : List Bar). AreBars sights xs) (sym c.as_slice-2.ensures.value) are));
    })
