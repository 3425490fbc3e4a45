-- A play over all lives so far, and one event more.
use Rattle.std.proofs.Common.{◌≡◌, false, List, [], ◌∷◌, ◌++◌, map, refl, sym, ap, subst, ◌∙◌, append_assoc}
use Rattle.std.specs.List.{AllByRecursion}
use Rattle.std.proofs.lemmas.List.{append-nil, map-append}
use Rattle.cb_cache.specs.CacheState.{limits_of}
use Rattle.cb_transcript.specs.declared.lives_event.LivesEvent.{LivesEvent}
use Rattle.cb_page.specs.Bounds.{Bounds}
use Rattle.cb_protocol.specs.Basics.{Limits}
use Rattle.cb_protocol.specs.Headline.{SoundOpening}
use Rattle.cb_protocol.specs.Lives.{lives_commits}
use Rattle.cb_protocol.specs.LivesWorld as protocol
use Rattle.cb_protocol.specs.LivesWorld.{Lives, Reaches}
use Rattle.cb_protocol.specs.WaitsFor.{on_cycle}
use Rattle.cb_protocol.specs.World.{Opening}
use Rattle.cb_transcript.specs.LivesTranscripts.{LivesTranscriptState, told_event}
use Rattle.cb_transcript.specs.declared.lives_transcript.LivesEntry.{LivesEntry}
use Rattle.cb_schedule.proofs.OverLives.{all_holds, reached_on}
use Rattle.cb_schedule.specs.LivesPlays.{LivesMoment, LivesPlayed, LivesRun, LivesStep, lives_after}
use Rattle.cb_schedule.specs.LivesState.{HoldsOverLives, IsReachedOverLives, LivesBecome, LivesState, RepresentsLives, first_opening}
use Rattle.cb_schedule.specs.WorldState.{TellsCommits}

run_more : (L : Limits) (lives : Lives) (ms : List LivesMoment) (m : LivesMoment) → LivesRun L lives ms → LivesBecome L (lives_after lives ms) m.entry m.lives → LivesRun L lives (ms ++ m ∷ [])
run_more L lives [] m p b = (b, tt)
run_more L lives (k ∷ ks) m p b = (p.0, run_more L k.lives ks m p.1 b)

after_more : (lives : Lives) (ms : List LivesMoment) (m : LivesMoment) → lives_after lives (ms ++ m ∷ []) ≡ m.lives
after_more lives [] m = refl
after_more lives (k ∷ ks) m = after_more k.lives ks m

abbrev AllHold : Opening → List LivesMoment → Type 0
AllHold o ms = AllByRecursion (λ moment. HoldsOverLives o moment.lives) ms

hold_more : (o : Opening) (ms : List LivesMoment) (m : LivesMoment) → AllHold o ms → HoldsOverLives o m.lives → AllHold o (ms ++ m ∷ [])
hold_more o [] m hs h = (h, tt)
hold_more o (k ∷ ks) m hs h = (hs.0, hold_more o ks m hs.1 h)

-- these events were played, and the last world of the run is what v is
pub record LivesPlayedTo (w : LivesState) (es : List LivesEvent) (v : LivesState) : Type 0 where
  pub played : LivesPlayed w es v.told
  pub limits : v.limits ≡ w.limits
  pub opening : v.told.opening ≡ w.told.opening
  pub sound : SoundOpening (first_opening w)
  pub events : List protocol.LivesEvent
  pub reached : Reaches (limits_of w.limits) on_cycle (first_opening w) events (lives_after played.first played.moments)
  pub represents : RepresentsLives v (lives_after played.first played.moments)

pub played_none : (w : LivesState) → w.stopped ≡ false → IsReachedOverLives w → LivesPlayedTo w [] w
played_none w ran s = record {
  played = record {
    ran = ran;
    first = s.lives;
    represents = s.represents;
    events = s.events;
    reached = s.reached;
    first_holds = all_holds (limits_of w.limits) (first_opening w) s.events s.lives s.sound s.reached;
    moments = [];
    runs = tt;
    holds = tt;
    by_events = refl;
    opening = refl;
    entries = sym (append-nil w.told.entries);
    commits = s.represents.commits;
  };
  limits = refl;
  opening = refl;
  sound = s.sound;
  events = s.events;
  reached = s.reached;
  represents = s.represents;
}

pub played_more : (w : LivesState) (es : List LivesEvent) (u : LivesState) (e : LivesEvent) (happened : LivesEntry) (v : LivesState) → LivesPlayedTo w es u → told_event happened ≡ e → LivesStep u happened v → LivesPlayedTo w (es ++ e ∷ []) v
played_more w es u e happened v p is s =
    let L = limits_of w.limits in
    let o = first_opening w in
    let end = lives_after p.played.first p.played.moments in
    let next = s.becomes end p.represents in
    let becomes : LivesBecome L end happened next.0 = subst (λ (l : Bounds). LivesBecome (limits_of l) end happened next.0) p.limits next.1 in
    let reached = reached_on L o p.events end happened next.0 p.reached becomes in
    let holds = all_holds L o reached.0 next.0 p.sound reached.1 in
    let m : LivesMoment = record { entry = happened; lives = next.0 } in
    let last : lives_after p.played.first (p.played.moments ++ m ∷ []) ≡ next.0 = after_more p.played.first p.played.moments m in
    record {
      played = record {
        ran = p.played.ran;
        first = p.played.first;
        represents = p.played.represents;
        events = p.played.events;
        reached = p.played.reached;
        first_holds = p.played.first_holds;
        moments = p.played.moments ++ m ∷ [];
        runs = run_more L p.played.first p.played.moments m p.played.runs becomes;
        holds = hold_more o p.played.moments m p.played.holds holds;
        by_events = map-append (λ (moment : LivesMoment). told_event moment.entry) p.played.moments (m ∷ []) ∙ (λ k. p.played.by_events k ++ is k ∷ []);
        opening = s.first ∙ p.opening;
        entries = s.entries ∙ ap (λ (xs : List LivesEntry). xs ++ happened ∷ []) p.played.entries ∙ append_assoc w.told.entries (map (λ (moment : LivesMoment). moment.entry) p.played.moments) (happened ∷ [])
            ∙ ap (λ (xs : List LivesEntry). w.told.entries ++ xs) (sym (map-append (λ (moment : LivesMoment). moment.entry) p.played.moments (m ∷ [])));
        commits = subst (λ (x : Lives). TellsCommits v.told.commits (lives_commits x)) (sym last) next.2.commits;
      };
      limits = s.limits ∙ p.limits;
      opening = s.first ∙ p.opening;
      sound = p.sound;
      events = reached.0;
      reached = subst (λ (x : Lives). Reaches L on_cycle o reached.0 x) (sym last) reached.1;
      represents = subst (λ (x : Lives). RepresentsLives v x) (sym last) next.2;
    }

-- what was told is what the last world tells
pub played_end : (w : LivesState) (es : List LivesEvent) (v : LivesState) (t : LivesTranscriptState) → LivesPlayedTo w es v → t ≡ v.told → LivesPlayed w es t
played_end w es v t p e = subst (λ (x : LivesTranscriptState). LivesPlayed w es x) (sym e) p.played
