-- A world over all lives of its server, event by event: it stays reached, and all holds of it.
use Rattle.std.proofs.Common.{◌≡◌, ◌+◌, ◌-◌, ◌<◌, ◌≤◌, ◌∙◌, ◌⊎◌, ℕ, false, List, [], ◌∷◌, ◌++◌, length, map, take, drop, refl, ap, sym, subst, append_assoc, drop_of_length-le, inl, inr, None, arith}
use Rattle.std.specs.Prelude.{reverse}
use Rattle.std.proofs.lemmas.List.{append-nil, map-append, reverse-append, reverse-reverse, length-reverse, length-map, length-append, length-drop, length-take-le, take-map, drop-map, take-append-drop, take_all, drop-append-le}
use Rattle.std.proofs.lemmas.Bool.{cases_lt}
use Rattle.std.proofs.Math.Seq.{drop-append_seam, take-append_seam, take-append-add}
use Rattle.cb_cache.specs.CacheState.{limits_of}
use Rattle.cb_commit.specs.History.{AreCommits, remembered, store_at}
use Rattle.cb_commit.specs.Stores.{StoreState}
use Rattle.cb_commit.specs.declared.commit.Commit.{Commit}
use Rattle.cb_transcript.specs.declared.event.Event.{Event}
use Rattle.cb_laws.proofs.AccountsKept.{told_the_truth}
use Rattle.cb_laws.proofs.LivesGoOn.{lives_go_on}
use Rattle.cb_page.specs.Bounds.{Bounds}
use Rattle.cb_protocol.proofs.LivesProof.{lives_headline}
use Rattle.cb_protocol.specs.AnyMessages.{committed_names}
use Rattle.cb_protocol.specs.Basics.{Limits}
use Rattle.cb_protocol.specs.Headline.{SoundOpening}
use Rattle.cb_protocol.specs.Lives.{lives_commits}
use Rattle.cb_protocol.specs.LivesWorld as protocol
use Rattle.cb_protocol.specs.LivesWorld.{Lives, IsNewFloor, MayBeOnDisk, Reaches, ServerRestarts, WithinLife, commits_on_disk, commits_up_to, first_life, lives_step, server_of_life, store_on_disk}
use Rattle.cb_protocol.specs.Serial.{IsSerial, TransactionName as ProtocolName, committed_operations}
use Rattle.cb_protocol.specs.Server.{AppliedCommit, Server}
use Rattle.cb_protocol.specs.Transcript.{transcript_operations}
use Rattle.cb_protocol.specs.WaitsFor.{on_cycle}
use Rattle.cb_protocol.specs.World as world
use Rattle.cb_protocol.specs.World.{Opening, World, new_world}
use Rattle.cb_server.specs.ServerValue.{IsResumed, ServerValue, commits_of, server_of}
use Rattle.cb_server_state.specs.States.{newest_first, opening_of}
use Rattle.cb_transcript.specs.LivesTranscripts.{IsSerialOverLives, LivesTranscriptState, within_lives}
use Rattle.cb_transcript.specs.ProtocolEvents.{answer_of, event_of, transcript_of}
use Rattle.cb_transcript.specs.Transcripts.{committed_name, name_of}
use Rattle.cb_transcript.specs.declared.answer.Answer.{Answer}
use Rattle.cb_transcript.specs.declared.answer.TranscriptEntry.{TranscriptEntry}
use Rattle.cb_transcript.specs.declared.lives_transcript.LivesEntry.{LivesEntry}
use Rattle.cb_transcript.specs.declared.lives_transcript.LivesEntry.TheVariants as entry
use Rattle.cb_transcript.specs.declared.restart.RestartAnswer.{RestartAnswer}
use Rattle.cb_transcript.specs.declared.restart.RestartAnswer.TheVariants as answer
use Rattle.cb_transcript.specs.declared.restart.RestartEntry.{RestartEntry}
use Rattle.cb_transcript.specs.declared.restart.RestartRefusal.{RestartRefusal}
use Rattle.cb_transcript.specs.declared.restart.RestartRefusal.TheVariants as refusal
use Rattle.cb_transcript.specs.declared.transcript.TransactionName.{TransactionName}
use Rattle.cb_schedule.proofs.DiskStores.{disk_opening, first_up_to, newest_length}
use Rattle.cb_schedule.proofs.Telling.{enough, follows, names_in, names_listed, tells}
use Rattle.cb_schedule.proofs.Worlds.{net_becomes}
use Rattle.cb_schedule.specs.LivesPlays.{IsLives, LivesStep}
use Rattle.cb_schedule.specs.LivesState.{HoldsOverLives, IsAnswerOf, IsReachedOverLives, IsRefused, LivesBecome, LivesState, RepresentsLives, RestartBecomes, first_opening}
use Rattle.cb_schedule.specs.LivesTold.{IsToldInLife, TellsInLife}
use Rattle.cb_schedule.specs.NetMoves.{NetBecomes}
use Rattle.cb_schedule.specs.NetState.{NetState, RepresentsNet, limits_in}
use Rattle.cb_schedule.specs.NextLife.{IsNewFloorOf, LeavesStore}
use Rattle.cb_schedule.specs.WorldState.{IsTold, Represents, Tells, TellsCommits, WorldState}

within_append : (es fs : List LivesEntry) → within_lives (es ++ fs) ≡ within_lives es ++ within_lives fs
within_append [] fs = refl
within_append (entry.Within t ∷ es) fs = ap (λ (ts : List TranscriptEntry). t ∷ ts) (within_append es fs)
within_append (entry.ServerRestarts t ∷ es) fs = within_append es fs

-- a restart is told beside the events within lives
within_restart : (es : List LivesEntry) (t : RestartEntry) → within_lives (es ++ entry.ServerRestarts t ∷ []) ≡ within_lives es
within_restart es t = within_append es (entry.ServerRestarts t ∷ []) ∙ append-nil (within_lives es)

-- The names told, where the newest commits come first: those of former lives, and behind them those of the present one.
record Splits (names : List TransactionName) (present former : List AppliedCommit) (count : ℕ) : Type 0 where
  counted : count ≤ length names
  whole : length names ≡ count + length present
  earlier : TellsCommits (take count names) former
  later : TellsCommits (drop count names) present

splits : (names : List TransactionName) (present former : List AppliedCommit) (count : ℕ) → TellsCommits names (present ++ former) → count ≡ length former → Splits names present former count
splits names present former count t e = record {
  counted = omega (arith, fits);
  whole = fits;
  earlier = ap reverse (sym (take-map name_of count names) ∙ ap (take count) all ∙ ap (λ (n : ℕ). take n (old ++ new)) as_many ∙ take-append_seam old new) ∙ reverse-reverse (committed_names former);
  later = ap reverse (sym (drop-map name_of count names) ∙ ap (drop count) all ∙ ap (λ (n : ℕ). drop n (old ++ new)) as_many ∙ drop-append_seam old new) ∙ reverse-reverse (committed_names present);
}
  where
    old : List ProtocolName
    old = reverse (committed_names former)

    new : List ProtocolName
    new = reverse (committed_names present)

    all : map name_of names ≡ old ++ new
    all = sym (reverse-reverse (map name_of names)) ∙ ap reverse (t ∙ map-append _ present former) ∙ reverse-append (committed_names present) (committed_names former)

    as_many : count ≡ length old
    as_many = e ∙ sym (length-reverse (committed_names former) ∙ length-map former _)

    fits : length names ≡ count + length present
    fits = let a = ap length all in let b = length-map names name_of in let c = length-append old new in let d : length new ≡ length present = length-reverse (committed_names present) ∙ length-map present _ in omega (arith, as_many, a, b, c, d)

-- and joined again
joins : (old new : List TransactionName) (present former : List AppliedCommit) → TellsCommits old former → TellsCommits new present → TellsCommits (old ++ new) (present ++ former)
joins old new present former t u = ap reverse (map-append name_of old new) ∙ reverse-append (map name_of old) (map name_of new)
    ∙ (λ k. u k ++ t k) ∙ sym (map-append _ present former)

-- the world of the present life: its transcript goes on over all lives
abbrev pub present : LivesState → WorldState
present v = record {
  limits = v.limits;
  net = v.net;
  opening = v.opening;
  transcript = within_lives v.told.entries;
  commits = drop v.former v.told.commits;
  stopped = v.stopped;
}

presents : (v : LivesState) (lives : Lives) → RepresentsLives v lives → Represents (present v) lives.world
presents v lives r = record {
  net = r.net;
  transcript = r.transcript;
  commits = (splits v.told.commits lives.world.server.commits lives.former v.former r.commits r.former).later;
}

-- so many of the names told are of former lives
pub told_in_life : (v : LivesState) → IsReachedOverLives v → IsToldInLife v.net v.former v.told.commits
told_in_life v s = let r = s.represents in record {
  counted = (splits v.told.commits s.lives.world.server.commits s.lives.former v.former r.commits r.former).counted;
  present = (s.lives.world, r.net, (presents v s.lives r).commits);
}

-- what is still to be told is there
pub untold_fits : (n m : NetState) (e : world.Event) (a : Answer) (former : ℕ) (names : List TransactionName) (cs : List Commit) → IsToldInLife n former names → NetBecomes n e a m → newest_first cs ≡ (server_of m.server).commits → length names - former ≤ length cs
untold_fits n m e a former names cs told b listed =
    let f = enough m (drop former names) cs (follows n m e a (drop former names) cs told.present b listed) in
    let l = length-drop former names in omega (arith, f, l)

-- how many of the names told stay, where the last commits are lost
pub kept_count : (v : LivesState) (number : ℕ) → IsReachedOverLives v → MayBeOnDisk (server_of v.net.server) number → AreCommits (commits_of v.net.server) → ((commits_of v.net.server).store.number - number ≤ length v.told.commits)
    × (length v.told.commits - ((commits_of v.net.server).store.number - number) ≡ v.former + (number - v.opening.number))
kept_count v number s may are =
    let r = s.represents in
    let parts = splits v.told.commits s.lives.world.server.commits s.lives.former v.former r.commits r.former in
    let made : length s.lives.world.server.commits ≡ length (commits_of v.net.server).commits = ap (λ (x : Server). length x.commits) r.net.server ∙ newest_length (commits_of v.net.server).commits in
    let a = parts.whole in
    let b = are.count in
    let c = are.from_opening in
    let d = may.reported in
    let e = may.made in
    let o : (commits_of v.net.server).opening.number ≡ v.opening.number = ap (λ (x : StoreState). x.number) s.begun in
    (omega (arith, a, b, c, d, e, o, made), omega (arith, a, b, c, d, e, o, made))

-- after an event within the life
abbrev pub after_event : LivesState → NetState → LivesTranscriptState → LivesState
after_event v n t = record v { net = n; told = t; stopped = false }

-- What an event within the life makes of the net it makes of the world over all lives.
within_becomes : (v : LivesState) (n : NetState) (t : LivesTranscriptState) (e : Event) (a : Answer) (lives : Lives) → limits_in v.net ≡ v.limits → RepresentsLives v lives
    → newest_first (remembered (commits_of n.server)) ≡ (server_of n.server).commits
    → NetBecomes v.net (event_of e) a n → TellsInLife n v.former v.told (entry.Within (record { event = e; answer = a })) t
    → (after : Lives) × LivesBecome (limits_of v.limits) lives (entry.Within (record { event = e; answer = a })) after × RepresentsLives (after_event v n t) after
within_becomes v n t e a lives l r listed b told = (
  after,
  (x.1.0, x.1.1, ap (λ (s : world.StepResult). s.answer) x.1.2, refl),
  record {
    net = subst (λ (w : World). RepresentsNet n w) (sym same) x.2.net;
    transcript = ap (λ (w : World). w.transcript) same ∙ x.2.transcript;
    floor = r.floor;
    opening = r.opening;
    commits = subst (λ (w : World). TellsCommits t.commits (w.server.commits ++ lives.former)) (sym same) (subst (λ (ns : List TransactionName). TellsCommits ns (x.0.server.commits ++ lives.former)) rejoined
        (joins (take v.former v.told.commits) (drop v.former t.commits) x.0.server.commits lives.former parts.earlier x.2.commits));
    former = r.former;
  },
)
  where
    cs : List Commit
    cs = remembered (commits_of n.server)

    names : List TransactionName
    names = drop v.former v.told.commits

    parts : Splits v.told.commits lives.world.server.commits lives.former v.former
    parts = splits v.told.commits lives.world.server.commits lives.former v.former r.commits r.former

    more : List TransactionName
    more = map committed_name (drop (length names) cs)

    dropped : drop v.former t.commits ≡ names ++ more
    dropped = ap (drop v.former) told.commits ∙ drop-append-le v.former v.told.commits more parts.counted

    rejoined : take v.former v.told.commits ++ drop v.former t.commits ≡ t.commits
    rejoined = ap (λ (ns : List TransactionName). take v.former v.told.commits ++ ns) dropped ∙ sym (append_assoc (take v.former v.told.commits) names more)
        ∙ ap (λ (ns : List TransactionName). ns ++ more) (take-append-drop v.former v.told.commits) ∙ sym told.commits

    is_told : IsTold v.net names
    is_told = (lives.world, r.net, (presents v lives r).commits)

    one : Tells n names (drop v.former t.commits)
    one = subst (λ (ns : List TransactionName). Tells n names ns) (sym dropped) (tells n names cs listed (follows v.net n (event_of e) a names cs is_told b listed))

    x : (x : World) × world.Becomes (limits_of v.limits) on_cycle lives.world (event_of e) (answer_of a) x × Represents (present (after_event v n t)) x
    x = net_becomes (present v) (present (after_event v n t)) e a lives.world l b (ap within_lives told.entries ∙ within_append v.told.entries (entry.Within (record { event = e; answer = a }) ∷ [])) one (presents v lives r)

    after : Lives
    after = lives_step (limits_of v.limits) on_cycle lives (WithinLife (event_of e)) x.1.0

    same : after.world ≡ x.0
    same = ap (λ (s : world.StepResult). s.world) x.1.2

-- what is told is serial
serial_told : (v : LivesState) (lives : Lives) → RepresentsLives v lives → HoldsOverLives (first_opening v) lives → IsSerialOverLives v.told
serial_told v lives r h =
    subst (λ (ns : List ProtocolName). IsSerial (first_opening v).bytes (committed_operations ns (transcript_operations (transcript_of (within_lives v.told.entries))))) (sym r.commits)
    (subst (λ es. IsSerial (first_opening v).bytes (committed_operations (committed_names (lives_commits lives)) (transcript_operations es))) r.transcript h.promise.serial.legal)

-- all that holds of what is reached
pub all_holds : (L : Limits) (o : Opening) (es : List protocol.LivesEvent) (lives : Lives) → SoundOpening o → Reaches L on_cycle o es lives → HoldsOverLives o lives
all_holds L o es lives s r = record { promise = lives_headline L on_cycle o es lives s r; told = told_the_truth L on_cycle o es lives s r }

restart_reached : (L : Limits) (o : Opening) (es : List protocol.LivesEvent) (lives : Lives) (told : RestartEntry) (r : RestartAnswer) (after : Lives) → Reaches L on_cycle o es lives → RestartBecomes L lives told.floor told.number r after
    → (fs : List protocol.LivesEvent) × Reaches L on_cycle o fs after
restart_reached L o es lives told answer.Restarted after p b = (
  es ++ ServerRestarts told.floor told.number ∷ [],
  subst (λ (x : Lives). Reaches L on_cycle o (es ++ ServerRestarts told.floor told.number ∷ []) x) (sym b.1) ((lives_go_on L on_cycle).goes_on o es lives (ServerRestarts told.floor told.number) None p b.0),
)
restart_reached L o es lives told (answer.Refused why) after p b = (es, subst (λ (x : Lives). Reaches L on_cycle o es x) (sym b.1) p)

-- what is reached goes on by what is told
pub reached_on : (L : Limits) (o : Opening) (es : List protocol.LivesEvent) (lives : Lives) (happened : LivesEntry) (after : Lives) → Reaches L on_cycle o es lives → LivesBecome L lives happened after
    → (fs : List protocol.LivesEvent) × Reaches L on_cycle o fs after
reached_on L o es lives (entry.Within told) after p b = (
  es ++ WithinLife (event_of told.event) ∷ [],
  subst (λ (x : Lives). Reaches L on_cycle o (es ++ WithinLife (event_of told.event) ∷ []) x) (sym b.3) ((lives_go_on L on_cycle).goes_on o es lives (WithinLife (event_of told.event)) b.0 p b.1),
)
reached_on L o es lives (entry.ServerRestarts told) after p b = restart_reached L o es lives told told.answer after p b

-- one event more, and what holds then
went_on : (v w : LivesState) (happened : LivesEntry) → IsReachedOverLives v → v.stopped ≡ false → w.stopped ≡ false → w.limits ≡ v.limits → limits_in w.net ≡ w.limits → (commits_of w.net.server).opening ≡ w.opening
    → w.told.opening ≡ v.told.opening → w.told.entries ≡ v.told.entries ++ happened ∷ []
    → ((lives : Lives) → RepresentsLives v lives → (after : Lives) × LivesBecome (limits_of v.limits) lives happened after × RepresentsLives w after)
    → IsLives w × LivesStep v happened w
went_on v w happened s ran runs l k b f e becomes =
    let next = becomes s.lives s.represents in
    let on = reached_on (limits_of v.limits) (first_opening v) s.events s.lives happened next.0 s.reached next.1 in
    let holds = all_holds (limits_of v.limits) (first_opening v) on.0 next.0 s.sound on.1 in
    let first : first_opening w ≡ first_opening v = ap opening_of f in (
      record {
        serial = serial_told w next.0 next.2 (subst (λ (o : Opening). HoldsOverLives o next.0) (sym first) holds);
        running = λ _. record {
          limits = k;
          begun = b;
          sound = subst SoundOpening (sym first) s.sound;
          lives = next.0;
          represents = next.2;
          events = on.0;
          reached = subst (λ (o : Opening). Reaches (limits_of w.limits) on_cycle o on.0 next.0) (sym first)
              (subst (λ (m : Bounds). Reaches (limits_of m) on_cycle (first_opening v) on.0 next.0) (sym l) on.1);
        };
      },
      record {
        ran = ran;
        runs = runs;
        limits = l;
        first = f;
        entries = e;
        becomes = becomes;
        holds = (next.0, on.0, next.2, on.1, holds);
      },
    )

-- A running world plays an event of the present life.
pub played_within : (v : LivesState) (n : NetState) (t : LivesTranscriptState) (e : Event) (a : Answer) → IsLives v → v.stopped ≡ false
    → (commits_of n.server).forgotten ≡ 0
    → NetBecomes v.net (event_of e) a n → TellsInLife n v.former v.told (entry.Within (record { event = e; answer = a })) t
    → IsLives (after_event v n t) × LivesStep v (entry.Within (record { event = e; answer = a })) (after_event v n t)
played_within v n t e a z ran none b told =
    let s = z.running ran in
    let listed : newest_first (remembered (commits_of n.server)) ≡ (server_of n.server).commits = ap (λ (k : ℕ). newest_first (drop k (commits_of n.server).commits)) none in
    let happened : LivesEntry = entry.Within (record { event = e; answer = a }) in
    went_on v (after_event v n t) happened s ran refl refl (b.limits ∙ s.limits) (b.opening ∙ s.begun) told.opening told.entries
    (λ lives r. within_becomes v n t e a lives s.limits r listed b told)

-- a refused restart is told, and nothing else
abbrev pub after_refusal : LivesState → LivesTranscriptState → LivesState
after_refusal v t = record v { told = t; stopped = false }

new_floor : (v : LivesState) (lives : Lives) (floor : ℕ) → RepresentsLives v lives → IsNewFloorOf (server_of v.net.server) v.floor floor → IsNewFloor lives floor
new_floor v lives floor r a = record { rises = subst (λ (n : ℕ). n < floor) (sym r.floor) a.rises; admitted = subst (λ (s : Server). (c : ℕ) → c < s.clients → (s.session c).current < floor) (sym r.net.server) a.admitted }

refused : (v : LivesState) (lives : Lives) (floor number : ℕ) (why : RestartRefusal) → RepresentsLives v lives → IsAnswerOf v floor number (answer.Refused why) → IsRefused lives floor number why
refused v lives floor number refusal.Floor r h = λ a. h (record { rises = subst (λ (n : ℕ). n < floor) r.floor a.rises; admitted = subst (λ (s : Server). (c : ℕ) → c < s.clients → (s.session c).current < floor) r.net.server a.admitted })
refused v lives floor number refusal.Number r h = (new_floor v lives floor r h.0, λ m. h.1 (subst (λ (s : Server). MayBeOnDisk s number) r.net.server m))

pub played_refusal : (v : LivesState) (t : LivesTranscriptState) (told : RestartEntry) (why : RestartRefusal) → IsLives v → v.stopped ≡ false → told.answer ≡ answer.Refused why → IsAnswerOf v told.floor told.number (answer.Refused why)
    → t ≡ record v.told { entries = v.told.entries ++ entry.ServerRestarts told ∷ []; commits = v.told.commits ++ [] }
    → IsLives (after_refusal v t) × LivesStep v (entry.ServerRestarts told) (after_refusal v t)
played_refusal v t told why z ran is h tells =
    let s = z.running ran in
    let stays : (lives : Lives) → RepresentsLives v lives → RepresentsLives (after_refusal v t) lives = λ lives r. record {
      net = r.net;
      transcript = r.transcript ∙ ap transcript_of (sym (ap (λ (x : LivesTranscriptState). within_lives x.entries) tells ∙ within_restart v.told.entries told));
      floor = r.floor;
      opening = r.opening;
      commits = subst (λ (x : LivesTranscriptState). TellsCommits x.commits (lives_commits lives)) (sym tells) (subst (λ (ns : List TransactionName). TellsCommits ns (lives_commits lives)) (sym (append-nil v.told.commits)) r.commits);
      former = r.former;
    } in
    went_on v (after_refusal v t) (entry.ServerRestarts told) s ran refl refl s.limits s.begun (ap (λ (x : LivesTranscriptState). x.opening) tells) (ap (λ (x : LivesTranscriptState). x.entries) tells)
    (λ lives r. (lives, subst (λ (x : RestartAnswer). RestartBecomes (limits_of v.limits) lives told.floor told.number x lives) (sym is) (refused v lives told.floor told.number why r h, refl), stays lives r))

-- what there is to know of the server whose life ends, and of the next one
pub record Ends (v : LivesState) (floor number : ℕ) (store : StoreState) (s : ServerValue) : Type 0 where
  pub new : IsNewFloorOf (server_of v.net.server) v.floor floor
  pub may : MayBeOnDisk (server_of v.net.server) number
  pub leaves : LeavesStore v.net.server number store
  pub resumed : IsResumed v.limits (store_at (commits_of v.net.server) number) floor s

-- after a restart, where so many of the names told stay
abbrev pub after_restart : LivesState → (floor : ℕ) → StoreState → ServerValue → (count : ℕ) → LivesTranscriptState → LivesState
after_restart v floor store s count t = record {
  limits = v.limits;
  net = record v.net { server = s };
  opening = store;
  floor = floor;
  former = count;
  told = t;
  stopped = false;
}

take_plus : (m n : ℕ) (ns : List TransactionName) → take (m + n) ns ≡ take m ns ++ take n (drop m ns)
take_plus m n ns = ap (take (m + n)) (sym (take-append-drop m ns)) ∙ go (lower m (length ns))
  where
    lower : (a b : ℕ) → (a ≤ b) ⊎ (b ≤ a)
    lower a b = elim (cases_lt a b) [ inl l ↦ inl (omega (arith, l)) | inr l ↦ inr l ]

    go : (m ≤ length ns) ⊎ (length ns ≤ m) → take (m + n) (take m ns ++ drop m ns) ≡ take m ns ++ take n (drop m ns)
    go (inl l) = ap (λ (k : ℕ). take (k + n) (take m ns ++ drop m ns)) (sym (length-take-le m ns l)) ∙ take-append-add (take m ns) (drop m ns) n
    go (inr l) = let nothing : take {A = TransactionName} n [] ≡ [] = take_all n [] (omega arith) in
        rw (take_all m ns l, drop_of_length-le ns l, append-nil, nothing, append-nil) (take_all (m + n) ns (omega (arith, l)))

-- A restart of the server makes of the world over all lives what the protocol's does.
restart_becomes : (v : LivesState) (floor number : ℕ) (store : StoreState) (s : ServerValue) (count : ℕ) (t : LivesTranscriptState) (told : RestartEntry) (lives : Lives) → RepresentsLives v lives
    → (commits_of v.net.server).opening ≡ v.opening → Ends v floor number store s → count ≡ v.former + (number - v.opening.number)
    → t ≡ record v.told { entries = v.told.entries ++ entry.ServerRestarts told ∷ []; commits = take count v.told.commits }
    → RepresentsLives (after_restart v floor store s count t) (lives_step (limits_of v.limits) on_cycle lives (ServerRestarts floor number) None)
restart_becomes v floor number store s count t told lives r begun ends counted tells = record {
  net = record {
    server = ap (λ (x : Opening). server_of_life (limits_of v.limits) x floor) (disk ∙ ap opening_of ends.leaves.left) ∙ sym ends.resumed.server;
    world_clients = record { clients = r.net.world_clients.clients; incarnations = r.net.world_clients.incarnations };
    packets = r.net.packets;
  };
  transcript = r.transcript ∙ ap transcript_of (sym (ap (λ (x : LivesTranscriptState). within_lives x.entries) tells ∙ within_restart v.told.entries told));
  floor = refl;
  opening = disk;
  commits = subst (λ (x : LivesTranscriptState). TellsCommits x.commits (commits_on_disk lives.world.server number ++ lives.former)) (sym tells)
      (subst (λ (xs : List AppliedCommit). TellsCommits (take count v.told.commits) (xs ++ lives.former)) (sym firsts)
      (subst (λ (ns : List TransactionName). TellsCommits ns (newest_first (take made cs) ++ lives.former)) (sym kept)
      (joins (take v.former v.told.commits) (take made (drop v.former v.told.commits)) (newest_first (take made cs)) lives.former parts.earlier later)));
  former = (let a = length-append (commits_on_disk lives.world.server number) lives.former in let b = ap length firsts in let c = newest_length (take made cs) in let d = length-take-le made cs within in let e = r.former in omega (arith, a, b, c, d, e, counted, same));
}
  where
    o : StoreState
    o = (commits_of v.net.server).opening

    cs : List Commit
    cs = (commits_of v.net.server).commits

    made : ℕ
    made = number - o.number

    same : number - v.opening.number ≡ made
    same = ap (λ (x : StoreState). number - x.number) (sym begun)

    least : o.number ≤ number
    least = let a = ends.leaves.are.from_opening in let b = ends.may.reported in omega (arith, a, b)

    most : number ≤ o.number + length cs
    most = let a = ends.leaves.are.count in let b = ends.may.made in omega (arith, a, b)

    within : made ≤ length cs
    within = let a = most in omega (arith, a)

    whole : number ≡ o.number + made
    whole = let a = least in omega (arith, a)

    firsts : commits_on_disk lives.world.server number ≡ newest_first (take made cs)
    firsts = ap (λ (x : Server). commits_on_disk x number) r.net.server ∙ ap (λ (n : ℕ). commits_up_to n (newest_first cs)) whole ∙ first_up_to made o.number cs ends.leaves.are.numbered

    -- by the commits that the server made, and the store with which its life began
    shown : store_on_disk lives.opening lives.world.server number ≡ store_on_disk (opening_of o) (server_of v.net.server) number
    shown = λ k. store_on_disk ((r.opening ∙ ap opening_of (sym begun)) k) (r.net.server k) number

    disk : store_on_disk lives.opening lives.world.server number ≡ opening_of store
    disk = shown ∙ disk_opening o number cs ends.leaves.are.numbered ends.leaves.fit least most ∙ ap opening_of (sym ends.leaves.left)

    parts : Splits v.told.commits lives.world.server.commits lives.former v.former
    parts = splits v.told.commits lives.world.server.commits lives.former v.former r.commits r.former

    kept : take count v.told.commits ≡ take v.former v.told.commits ++ take made (drop v.former v.told.commits)
    kept = ap (λ (n : ℕ). take n v.told.commits) (counted ∙ ap (λ (n : ℕ). v.former + n) same) ∙ take_plus v.former made v.told.commits

    named : map name_of (drop v.former v.told.commits) ≡ names_in cs
    named = sym (reverse-reverse (map name_of (drop v.former v.told.commits)))
        ∙ ap reverse (parts.later ∙ ap (λ (x : Server). committed_names x.commits) r.net.server ∙ names_listed cs) ∙ reverse-reverse (names_in cs)

    later : TellsCommits (take made (drop v.former v.told.commits)) (newest_first (take made cs))
    later = ap reverse (sym (take-map name_of made (drop v.former v.told.commits)) ∙ ap (take made) named ∙ take-map name_of made (map committed_name cs) ∙ ap (map name_of) (take-map committed_name made cs)) ∙ sym (names_listed (take made cs))

-- A running world's server restarts.
pub played_restart : (v : LivesState) (floor number : ℕ) (store : StoreState) (s : ServerValue) (count : ℕ) (t : LivesTranscriptState) → IsLives v → v.stopped ≡ false → Ends v floor number store s → count ≡ v.former + (number - v.opening.number)
    → t ≡ record v.told { entries = v.told.entries ++ entry.ServerRestarts (record { floor = floor; number = number; answer = answer.Restarted }) ∷ []; commits = take count v.told.commits }
    → IsLives (after_restart v floor store s count t) × LivesStep v (entry.ServerRestarts (record { floor = floor; number = number; answer = answer.Restarted })) (after_restart v floor store s count t)
played_restart v floor number store s count t z ran ends counted tells =
    let now = z.running ran in
    let L = limits_of v.limits in
    let told : RestartEntry = record { floor = floor; number = number; answer = answer.Restarted } in
    let allowed : (lives : Lives) → RepresentsLives v lives → IsNewFloor lives floor × MayBeOnDisk lives.world.server number =
    λ lives r. (new_floor v lives floor r ends.new, subst (λ (x : Server). MayBeOnDisk x number) (sym r.net.server) ends.may) in
    went_on v (after_restart v floor store s count t) (entry.ServerRestarts told) now ran refl refl now.limits (ends.resumed.opening ∙ sym ends.leaves.left)
    (ap (λ (x : LivesTranscriptState). x.opening) tells) (ap (λ (x : LivesTranscriptState). x.entries) tells)
    (λ lives r. (lives_step L on_cycle lives (ServerRestarts floor number) None, (allowed lives r, refl), restart_becomes v floor number store s count t told lives r now.begun ends counted tells))

-- so where its net and its floor are equal to those
pub restarted : (v : LivesState) (floor number : ℕ) (store : StoreState) (s : ServerValue) (count : ℕ) (t : LivesTranscriptState) (n : NetState) (f : ℕ) → n ≡ record v.net { server = s } → f ≡ floor
    → IsLives v → v.stopped ≡ false → Ends v floor number store s → count ≡ v.former + (number - v.opening.number)
    → t ≡ record v.told { entries = v.told.entries ++ entry.ServerRestarts (record { floor = floor; number = number; answer = answer.Restarted }) ∷ []; commits = take count v.told.commits }
    → let w : LivesState = record { limits = v.limits; net = n; opening = store; floor = f; former = count; told = t; stopped = false } in
    IsLives w × LivesStep v (entry.ServerRestarts (record { floor = floor; number = number; answer = answer.Restarted })) w
restarted v floor number store s count t n f e g z ran ends counted tells =
    let happened : LivesEntry = entry.ServerRestarts (record { floor = floor; number = number; answer = answer.Restarted }) in
    let By : LivesState → Type 0 = λ w. IsLives w × LivesStep v happened w in
    subst (λ (x : NetState). By (record { limits = v.limits; net = x; opening = store; floor = f; former = count; told = t; stopped = false })) (sym e)
    (subst (λ (y : ℕ). By (record { limits = v.limits; net = record v.net { server = s }; opening = store; floor = y; former = count; told = t; stopped = false })) (sym g)
    (played_restart v floor number store s count t z ran ends counted tells))

-- The first life over a store, in which nothing has happened.
pub begins : (limits : Bounds) (net : NetState) (store : StoreState) → SoundOpening (opening_of store) → limits_in net ≡ limits → (commits_of net.server).opening ≡ store → RepresentsNet net (new_world (limits_of limits) (opening_of store))
    → (first opening : StoreState) (t : LivesTranscriptState) → first ≡ store → opening ≡ store → t ≡ record { opening = first; entries = []; commits = [] }
    → let v : LivesState = record { limits = limits; net = net; opening = opening; floor = 0; former = 0; told = t; stopped = false } in
    IsLives v × RepresentsLives v (first_life (limits_of limits) (opening_of store)) × HoldsOverLives (first_opening v) (first_life (limits_of limits) (opening_of store))
begins limits net store sound l k r first opening t f o is =
    let v : LivesState = record { limits = limits; net = net; opening = opening; floor = 0; former = 0; told = t; stopped = false } in
    let L = limits_of limits in
    let same : first_opening v ≡ opening_of store = ap (λ (x : LivesTranscriptState). opening_of x.opening) is ∙ ap opening_of f in
    let represents : RepresentsLives v (first_life L (opening_of store)) = record {
      net = r;
      transcript = ap (λ (x : LivesTranscriptState). transcript_of (within_lives x.entries)) (sym is);
      floor = refl;
      opening = ap opening_of (sym o);
      commits = ap (λ (x : LivesTranscriptState). reverse (map name_of x.commits)) is;
      former = refl;
    } in
    let holds : HoldsOverLives (first_opening v) (first_life L (opening_of store)) = subst (λ (x : Opening). HoldsOverLives x (first_life L (opening_of store))) (sym same) (all_holds L (opening_of store) [] (first_life L (opening_of store)) sound refl) in (
      record {
        serial = serial_told v (first_life L (opening_of store)) represents holds;
        running = λ _. record {
          limits = l;
          begun = k ∙ sym o;
          sound = subst SoundOpening (sym same) sound;
          lives = first_life L (opening_of store);
          represents = represents;
          events = [];
          reached = ap (first_life L) same;
        };
      },
      represents,
      holds,
    )
