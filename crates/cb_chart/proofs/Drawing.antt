-- A chart after one event more.
use Rattle.std.proofs.Common.{◌≡◌, ◌+◌, ◌++◌, ◌∷◌, ℕ, suc, List, [], length, map, refl, sym, ap, ◌∙◌, subst, arith}
use Rattle.std.specs.Option.{option_to_list}
use Rattle.std.proofs.lemmas.List.{append-nil, append_assoc, length-map, map-append}
use Rattle.cb_cache.specs.CacheState.{limits_of}
use Rattle.cb_commit.specs.Stores.{StoreState, zeros}
use Rattle.cb_protocol.specs.World.{new_world}
use Rattle.cb_server_state.specs.States.{opening_of}
use Rattle.cb_chart.specs.Arrows.{arrow_to, arrows_from, sendings_from, sent_by}
use Rattle.cb_chart.specs.Bars.{AreBars}
use Rattle.cb_chart.specs.Charts.{Passes, Shows, last_of}
use Rattle.cb_chart.specs.Sights.{sight}
use Rattle.cb_chart.specs.declared.arrows.Arrow.{Arrow}
use Rattle.cb_chart.specs.declared.arrows.Sending.{Sending}
use Rattle.cb_chart.specs.declared.bars.ClientCopy.{ClientCopy}
use Rattle.cb_chart.specs.declared.chart.Chart.{Chart}
use Rattle.cb_chart.specs.declared.marks.Mark.{Mark}
use Rattle.cb_transcript.specs.declared.event.Event.{Event}
use Rattle.cb_page.specs.Bounds.{Bounds}
use Rattle.cb_transcript.specs.declared.answer.Answer.{Answer}
use Rattle.cb_transcript.specs.declared.answer.TranscriptEntry.{TranscriptEntry}
use Rattle.cb_transcript.specs.Transcripts.{TranscriptState}
use Rattle.cb_schedule.specs.Draws.{IsOpening}
use Rattle.cb_schedule.specs.Plays.{Steps}
use Rattle.cb_schedule.specs.WorldState.{Represents, WorldState, told}

-- what one entry more sends
sends_more : (at : ℕ) (entries : List TranscriptEntry) (entry : TranscriptEntry) (count : ℕ) → at + length entries ≡ count
    → sendings_from at (entries ++ entry ∷ []) ≡ sendings_from at entries ++ map (sent_by count) entry.answer.sent
sends_more at [] entry count is =
    let same : at ≡ count = omega (arith, is) in
    rw (same) (append-nil (map (sent_by count) entry.answer.sent))
sends_more at (e ∷ entries) entry count is =
    let rest : sendings_from (at + 1) (entries ++ entry ∷ []) ≡ sendings_from (at + 1) entries ++ map (sent_by count) entry.answer.sent = sends_more (at + 1) entries entry count (omega (arith, is)) in
    ap (λ xs. map (sent_by at) e.answer.sent ++ xs) rest
    ∙ sym (append_assoc (map (sent_by at) e.answer.sent) (sendings_from (at + 1) entries) (map (sent_by count) entry.answer.sent))

-- the arrow to one entry more
arrows_more : (before : List Sending) (at : ℕ) (entries : List TranscriptEntry) (entry : TranscriptEntry) (count : ℕ) (all : List Sending) → at + length entries ≡ count
    → all ≡ before ++ sendings_from at (entries ++ entry ∷ [])
    → arrows_from before at (entries ++ entry ∷ []) ≡ arrows_from before at entries ++ option_to_list (arrow_to all entry.event entry.answer.word count)
arrows_more before at [] entry count all is whole =
    let same : at ≡ count = omega (arith, is) in
    let sent : all ≡ before ++ map (sent_by at) entry.answer.sent = whole ∙ ap (λ xs. before ++ xs) (append-nil (map (sent_by at) entry.answer.sent)) in
    append-nil (option_to_list (arrow_to (before ++ map (sent_by at) entry.answer.sent) entry.event entry.answer.word at))
    ∙ rw (sent, same) refl
arrows_more before at (e ∷ entries) entry count all is whole =
    let then : List Sending = before ++ map (sent_by at) e.answer.sent in
    let here : List Arrow = option_to_list (arrow_to then e.event e.answer.word at) in
    let joined : all ≡ then ++ sendings_from (at + 1) (entries ++ entry ∷ [])
    = whole ∙ sym (append_assoc before (map (sent_by at) e.answer.sent) (sendings_from (at + 1) (entries ++ entry ∷ []))) in
    let rest : arrows_from then (at + 1) (entries ++ entry ∷ []) ≡ arrows_from then (at + 1) entries ++ option_to_list (arrow_to all entry.event entry.answer.word count)
    = arrows_more then (at + 1) entries entry count all (omega (arith, is)) joined in
    ap (λ xs. here ++ xs) rest
    ∙ sym (append_assoc here (arrows_from then (at + 1) entries) (option_to_list (arrow_to all entry.event entry.answer.word count)))

-- one world more
passes_more : (w : WorldState) (events : List Event) (worlds : List WorldState) (event : Event) (answer : Answer) (v : WorldState) → Passes w events worlds → Steps (last_of w worlds) event answer v
    → Passes w (events ++ event ∷ []) (worlds ++ v ∷ [])
passes_more w [] [] event answer v passes steps = ((answer, steps), tt)
passes_more w [] (x ∷ worlds) event answer v passes steps = absurd passes
passes_more w (e ∷ events) [] event answer v passes steps = absurd passes
passes_more w (e ∷ events) (x ∷ worlds) event answer v passes steps = (passes.0, passes_more x events worlds event answer v passes.1 steps)

last_more : (w : WorldState) (worlds : List WorldState) (v : WorldState) → last_of w (worlds ++ v ∷ []) ≡ v
last_more w [] v = refl
last_more w (x ∷ worlds) v = last_more x worlds v

passes_length : (w : WorldState) (events : List Event) (worlds : List WorldState) → Passes w events worlds → length worlds ≡ length events
passes_length w [] [] passes = refl
passes_length w [] (x ∷ worlds) passes = absurd passes
passes_length w (e ∷ events) [] passes = absurd passes
passes_length w (e ∷ events) (x ∷ worlds) passes = ap suc (passes_length x events worlds passes.1)

-- What one event more changes in a chart.
pub record Draws (event : Event) (answer : Answer) (at : ℕ) (old new : Chart) : Type 0 where
  pub steps : Steps old.world event answer new.world
  pub sendings : new.sendings.items ≡ old.sendings.items ++ map (sent_by at) answer.sent
  pub arrows : new.arrows.items ≡ old.arrows.items ++ option_to_list (arrow_to new.sendings.items event answer.word at)
  pub commits : map (λ mark. mark.commits) new.marks.items ≡ map (λ mark. mark.commits) old.marks.items ++ length new.world.commits ∷ []
  pub bars : (sights : List (List ClientCopy)) → length sights ≡ at → AreBars sights old.bars.items → AreBars (sights ++ sight new.world ∷ []) new.bars.items

-- the mark of one event more
pub marks_more : (old new : List Mark) (mark : Mark) (count : ℕ) → new ≡ old ++ mark ∷ [] → mark.commits ≡ count
    → map (λ (m : Mark). m.commits) new ≡ map (λ (m : Mark). m.commits) old ++ count ∷ []
marks_more old new mark count pushed is =
    ap (map (λ (m : Mark). m.commits)) pushed ∙ map-append (λ (m : Mark). m.commits) old (mark ∷ []) ∙ ap (λ n. map (λ (m : Mark). m.commits) old ++ n ∷ []) is

pub shows_more : (limits : Bounds) (before : List Event) (event : Event) (answer : Answer) (at : ℕ) (old new : Chart) → length before ≡ at → Shows limits before old → Draws event answer at old new
    → Shows limits (before ++ event ∷ []) new
shows_more limits before event answer at old new long shows draws = record {
  first = shows.first;
  is_opening = shows.is_opening;
  worlds = shows.worlds ++ new.world ∷ [];
  passes = passes_more shows.first before shows.worlds event answer new.world shows.passes (subst (λ (w : WorldState). Steps w event answer new.world) shows.last draws.steps);
  last = sym (last_more shows.first shows.worlds new.world);
  made = ap (map (λ (e : TranscriptEntry). e.event)) told ∙ map-append (λ (e : TranscriptEntry). e.event) old.world.transcript (entry ∷ []) ∙ ap (λ xs. xs ++ event ∷ []) shows.made;
  sendings = sent;
  arrows = draws.arrows
      ∙ ap (λ xs. xs ++ option_to_list (arrow_to new.sendings.items event answer.word at)) shows.arrows
      ∙ sym (arrows_more [] 0 old.world.transcript entry at new.sendings.items counted (sent ∙ ap (sendings_from 0) told))
      ∙ ap (arrows_from [] 0) (sym told);
  bars = subst (λ (sights : List (List ClientCopy)). AreBars sights new.bars.items) (sym (map-append sight shows.worlds (new.world ∷ [])))
      (draws.bars (map sight shows.worlds) (as_many ∙ passes_length shows.first before shows.worlds shows.passes ∙ long) shows.bars);
  commits = draws.commits ∙ ap (λ xs. xs ++ length new.world.commits ∷ []) shows.commits
      ∙ sym (map-append (λ (w : WorldState). length w.commits) shows.worlds (new.world ∷ []));
}
  where
    entry : TranscriptEntry
    entry = record { event = event; answer = answer }

    told : new.world.transcript ≡ old.world.transcript ++ entry ∷ []
    told = draws.steps.transcript

    as_many : length (map sight shows.worlds) ≡ length shows.worlds
    as_many = simp length-map

    made_as_many : length (map (λ (e : TranscriptEntry). e.event) old.world.transcript) ≡ length old.world.transcript
    made_as_many = simp length-map

    counted : 0 + length old.world.transcript ≡ at
    counted =
        let made : length (map (λ (e : TranscriptEntry). e.event) old.world.transcript) ≡ length before = ap length shows.made in
        omega (arith, made, made_as_many, long)

    sent : new.sendings.items ≡ sendings_from 0 new.world.transcript
    sent = draws.sendings ∙ ap (λ xs. xs ++ map (sent_by at) answer.sent) shows.sendings
        ∙ sym (sends_more 0 old.world.transcript entry at counted) ∙ ap (sendings_from 0) (sym told)

-- a world with nothing told is an opening one
pub opens : (limits : Bounds) (w : WorldState) (store : StoreState) → store ≡ zeros limits → w.limits ≡ limits → told w ≡ record { opening = store; entries = []; commits = [] }
    → w.net.packets.sent ≡ [] → Represents w (new_world (limits_of limits) (opening_of store)) → IsOpening limits w
opens limits w store is same tells packets shows = record {
  limits = same;
  tells = subst (λ (s : StoreState). told w ≡ record { opening = s; entries = []; commits = [] }) is tells;
  packets = packets;
  shows = subst (λ (s : StoreState). Represents w (new_world (limits_of limits) (opening_of s))) is shows;
}

-- the chart of no event
pub shows_none : (limits : Bounds) (chart : Chart) → IsOpening limits chart.world → chart.sendings.items ≡ [] → chart.arrows.items ≡ [] → chart.bars.items ≡ [] → chart.marks.items ≡ []
    → Shows limits [] chart
shows_none limits chart opening no_sendings no_arrows no_bars no_marks = record {
  first = chart.world;
  is_opening = opening;
  worlds = [];
  passes = tt;
  last = refl;
  made = ap (map (λ (e : TranscriptEntry). e.event)) nothing;
  sendings = no_sendings ∙ ap (sendings_from 0) (sym nothing);
  arrows = no_arrows ∙ ap (arrows_from [] 0) (sym nothing);
  bars = record {
    exact = λ event copy h. absurd (omega (arith, h));
    within = λ bar h. absurd (let some = h.1 in omega (arith, some, ap length no_bars));
  };
  commits = ap (map (λ mark. mark.commits)) no_marks;
}
  where
    nothing : chart.world.transcript ≡ []
    nothing = ap (λ (t : TranscriptState). t.entries) opening.tells
