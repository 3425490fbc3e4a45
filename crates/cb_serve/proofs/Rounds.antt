-- Rounds, one after another.
use Rattle.std.proofs.Common.{◌≡◌, ◌∙◌, ◌≢◌, ◌+◌, ◌-◌, ◌^◌, inl, inr, ℕ, length, List, [], ◌∷◌, ◌++◌, Bool, true, false, Option, Some, None, IfSome, Result, Ok, Err, IfErr, OnOk, option_map, refl, sym, ap, subst, take, drop}
use Rattle.std.proofs.KnownBytes.{Appends-nil, Appends-trans, Consumes-nil, Consumes-trans}
use Rattle.std.proofs.lemmas.Grind.{flat_map-append}
use Rattle.std.proofs.lemmas.List.{append-nil, length-append, take-append-drop}
use Rattle.std.specs.Io.KnownBytes.{Appends, Consumes, IsAtEnd}
use Rattle.std.specs.List.{AllByRecursion, flat_map}
use Rattle.sqlite.specs.Held.{Held}
use Rattle.sqlite.specs.Store.{Ghosts}
use Rattle.cb_commit.specs.Stores.{StoreState}
use Rattle.cb_page.specs.Bounds.{Bounds}
use Rattle.cb_protocol.specs.Flush.{next_batch}
use Rattle.cb_protocol.specs.Server.{Server}
use Rattle.cb_protocol.specs.AnyMessages.{ReachesDisk}
use Rattle.cb_server.proofs.Knowing.{knows_after}
use Rattle.cb_server.specs.Knowing.{KnowsBelow}
use Rattle.cb_server.specs.ServerValue.{IsResumed, ServerValue, server_of}
use Rattle.cb_server_state.specs.Commits.{batch_of}
use Rattle.cb_commit.specs.Batches.{BatchState}
use Rattle.cb_shelf.specs.LifeRows.{LifeState}
use Rattle.cb_shelf.specs.Writing.{Fits}
use Rattle.cb_serve.proofs.Faults.{IsOfOutput}
use Rattle.cb_serve.proofs.Inputs.{spells_nothing}
use Rattle.cb_serve.proofs.Writing.{survives_still}
use Rattle.cb_serve.specs.Answering.{LacksNumber, Spells, after_inputs, inputs_in, said_to}
use Rattle.cb_serve.specs.Living.{IsRoundOfLife, KeepsRoom, MakesRoom}
use Rattle.cb_serve.specs.Living.MakesRoom.{had}
use Rattle.cb_serve.specs.Parts.{Answered, FindsNoRoom, Commits, DoesRound, EndsRound, PutsAnswers, PutsDones, StopsAnswering, StopsBehind, StopsCommit, StopsReading, StopsRound, StopsWithin, standing}
use Rattle.cb_serve.specs.Rounds.{Round, SaysDones, Standing, StaysUnwritten, Writes, WritesOrNot, counted_on, reached}
use Rattle.cb_serve.specs.Serving.{AreRounds, Ends, HasCause, IsStopped, Serves, StopsInLife, Tells, opened, put_in, read_in}
use Rattle.cb_serve.specs.Steps.{RefusesFront, StopsTaking, TakesAll}
use Rattle.cb_serve.specs.Streams.{IsNoFrame, IsPart, IsPiece, IsRest, bytes_of, count_passed}
use Rattle.cb_serve.specs.declared.fault.RoundFault.{RoundFault}
use Rattle.cb_serve.specs.declared.fault.RoundFault.TheVariants as round
use Rattle.cb_serve.specs.declared.fault.ServeFault.{ServeFault}
use Rattle.cb_serve.specs.declared.fault.ServeFault.TheVariants as fault
use Rattle.cb_serve.specs.declared.round.Buffers.{Buffers}
use Rattle.cb_serve.specs.declared.round.RoundEnd.{RoundEnd}
use Rattle.cb_serve.specs.declared.round.RoundEnd.TheVariants as end
use Rattle.cb_serve.specs.declared.taking.Taken.{Taken}

-- some pieces were taken, and nothing was put out
pub stops_taking : (f : RoundFault) (old : ServerValue) (buffers after : Buffers) (out : Option (List ℕ)) → StopsTaking old buffers.pending.items buffers.passed_over after.passed_over f
    → StopsAnswering f old buffers after out out
stops_taking f old buffers after out t = record {
  pieces = t.pieces;
  rest = drop t.used buffers.pending.items;
  answers = t.said;
  are = t.takes.are;
  cut = sym (take-append-drop t.used buffers.pending.items) ∙ ap (λ (k : List ℕ). k ++ drop t.used buffers.pending.items) t.takes.cut;
  passed = t.count;
  says = t.takes.answers.says;
  put = [];
  puts = Appends-nil out;
  told = told f t.refuses;
}
  where
    told : (k : RoundFault) → RefusesFront t.mid (drop t.used buffers.pending.items) k
        → PutsAnswers k old.limits [] t.said (after_inputs (server_of old) (inputs_in t.pieces)) (drop t.used buffers.pending.items)
    told round.Exhausted lacks = (
      refl,
      subst (λ (s : Server). LacksNumber old.limits s (drop t.used buffers.pending.items)) t.takes.answers.becomes
          (subst (λ (l : Bounds). LacksNumber l (server_of t.mid) (drop t.used buffers.pending.items)) t.takes.answers.limits lacks),
    )
    told round.Memory known = refl
    told round.Shape wrong = absurd wrong
    told round.Store wrong = absurd wrong
    told (round.Input r) wrong = absurd wrong
    told (round.Output e) wrong = absurd wrong

-- all whole pieces were taken, and a front of what is said to them was put out
pub stops_at_answers : (f : RoundFault) (old new : ServerValue) (buffers later : Buffers) (said after : List ℕ) (taken : Taken) (n : ℕ) (out out2 : Option (List ℕ)) → IsOfOutput f → said ≡ []
    → TakesAll old buffers.pending.items said buffers.passed_over taken after later.passed_over new → Appends out out2 (take n after) → StopsAnswering f old buffers later out out2
stops_at_answers f old new buffers later said after taken n out out2 of_output empty t puts = record {
  pieces = t.pieces;
  rest = drop taken.used buffers.pending.items;
  answers = t.more;
  are = t.takes.are;
  cut = sym (take-append-drop taken.used buffers.pending.items) ∙ ap (λ (k : List ℕ). k ++ drop taken.used buffers.pending.items) t.takes.cut;
  passed = t.count;
  says = t.takes.answers.says;
  put = take n t.more;
  puts = subst (λ (k : List ℕ). Appends out out2 (take n k)) (t.said ∙ ap (λ (k : List ℕ). k ++ t.more) empty) puts;
  told = told f of_output;
}
  where
    told : (k : RoundFault) → IsOfOutput k
        → PutsAnswers k old.limits (take n t.more) t.more (after_inputs (server_of old) (inputs_in t.pieces)) (drop taken.used buffers.pending.items)
    told (round.Output e) known = (n, refl)
    told round.Shape wrong = absurd wrong
    told round.Store wrong = absurd wrong
    told round.Exhausted wrong = absurd wrong
    told (round.Input r) wrong = absurd wrong
    told round.Memory wrong = absurd wrong

-- what is left behind the pieces is none
rest_at : (limits : Bounds) (bytes : List ℕ) (ends : Bool) → (ends ≡ false → IsPart limits bytes) → (ends ≡ true → IsNoFrame limits bytes) → IsRest limits bytes
rest_at limits bytes false part no_frame = inl (part refl)
rest_at limits bytes true part no_frame = inr (no_frame refl)

-- what was known stays known once commits are on disk
known_on_disk : (server : Server) (batch : Option BatchState) (below : ℕ) → KnowsBelow server below → KnowsBelow (reached server batch) below
known_on_disk server None below known = known
known_on_disk server (Some batch) below known = knows_after server (ReachesDisk batch.number) below known (λ c i e. absurd cc)

-- a read that was refused, or no memory for what it gave
cause_of_reading : (f : RoundFault) (read : List ℕ) → StopsReading f read → HasCause f read
cause_of_reading (round.Input r) read why = why
cause_of_reading round.Memory read why = why
cause_of_reading round.Shape read wrong = absurd wrong
cause_of_reading round.Store read wrong = absurd wrong
cause_of_reading round.Exhausted read wrong = absurd wrong
cause_of_reading (round.Output r) read wrong = absurd wrong

-- something was read before
pub cause_behind : (f : RoundFault) (read : List ℕ) → StopsBehind f → read ≢ [] → HasCause f read
cause_behind (round.Input r) read wrong some = absurd wrong
cause_behind (round.Output r) read final some = (final, some)
cause_behind round.Memory read why some = some
cause_behind round.Shape read why some = some
cause_behind round.Store read why some = some
cause_behind round.Exhausted read why some = some

module _ {S : Type 0} (g : Ghosts S) where
  -- whom the server knew as the tables had room is known still once all is on disk
  pub known_then : (mid new : ServerValue) (life new_life : LifeState) (first tables later : Held S) (out1 out2 : Option (List ℕ)) → KeepsRoom g (server_of mid) life new_life first tables → Commits g mid tables later new out1 out2
      → KnowsBelow (server_of new) new_life.below
  known_then mid new life new_life first tables later out1 out2 keeps c =
      subst (λ (s : Server). KnowsBelow s new_life.below) (sym c.becomes) (known_on_disk (server_of mid) c.batch new_life.below keeps.known)

  -- the parts of a round are a round
  pub does_round : (limits : Bounds) (old mid new : ServerValue) (buffers read_buffers after : Buffers) (first tables later : Held S) (life new_life : LifeState) (read : List ℕ) (taken : Taken)
      (in1 in2 out1 out2 out3 : Option (List ℕ)) → KeepsRoom g (server_of mid) life new_life first tables → old.limits ≡ limits
      → read_buffers.pending.items ≡ buffers.pending.items ++ read → read_buffers.passed_over ≡ buffers.passed_over → Consumes in1 in2 read → read ≢ []
      → Answered old read_buffers after taken mid out1 out2 → Commits g mid tables later new out2 out3
      → DoesRound g limits (standing g old buffers first) (standing g new after later) life new_life in1 in2 out1 out3
  does_round limits old mid new buffers read_buffers after first tables later life new_life read taken in1 in2 out1 out2 out3 keeps same reads counts consumes some a c =
      let inputs = inputs_in a.pieces in
      let is : server_of mid ≡ after_inputs (server_of old) (inputs_in a.pieces) = a.takes.answers.becomes in
      let kept : mid.limits ≡ limits = a.takes.answers.limits ∙ same in
      record {
        round = record { read = read; pieces = a.pieces; answers = a.answers; batch = c.batch; dones = c.dones };
        is = record {
          mid = tables;
          room = keeps.room;
          known = known_then mid new life new_life first tables later out2 out3 keeps c;
          is = record {
            some = some;
            are = subst (λ (l : Bounds). AllByRecursion (IsPiece l) a.pieces) same a.takes.are;
            cut = sym reads ∙ sym (take-append-drop taken.used read_buffers.pending.items) ∙ ap (λ (k : List ℕ). k ++ drop taken.used read_buffers.pending.items) a.takes.cut
                ∙ ap (λ (k : List ℕ). flat_map bytes_of a.pieces ++ k) (sym a.rest);
            rest = subst (λ (l : Bounds). IsRest l after.pending.items) same (rest_at old.limits after.pending.items taken.ends a.part a.no_frame);
            passed = subst (λ (n : ℕ). after.passed_over ≡ counted_on n (count_passed a.pieces)) counts a.passed;
            answers = subst (λ (l : Bounds). Spells l (said_to (server_of old) (inputs_in a.pieces)) a.answers) same a.takes.answers.says;
            batch = subst (λ (s : Server). next_batch s ≡ option_map batch_of c.batch) is c.next;
            written = subst (λ (l : Bounds). Writes g l c.batch tables later) kept c.written;
            crash = c.crash;
            dones = subst (λ (s : Server). SaysDones limits s c.batch c.dones) is (subst (λ (l : Bounds). SaysDones l (server_of mid) c.batch c.dones) kept c.says);
            server = c.becomes ∙ ap (λ (s : Server). reached s c.batch) is;
            all_on_disk = c.all_on_disk;
          };
        };
        reads = consumes;
        puts = Appends-trans out1 out2 out3 a.answers c.dones a.puts c.puts;
      }

  -- the input has ended
  pub ended_round : (limits : Bounds) (server : ServerValue) (buffers after : Buffers) (tables : Held S) (life : LifeState) (read : List ℕ) (in1 in2 out : Option (List ℕ))
      → after.pending.items ≡ buffers.pending.items ++ read → after.passed_over ≡ buffers.passed_over → read ≡ [] → Consumes in1 in2 read → IsAtEnd in2
      → EndsRound g limits end.Ended (standing g server buffers tables) (standing g server after tables) life life in1 in2 out out
  ended_round limits server buffers after tables life read in1 in2 out reads counts none consumes at_end =
      let waiting : after.pending.items ≡ buffers.pending.items = reads ∙ ap (λ (k : List ℕ). buffers.pending.items ++ k) none ∙ append-nil buffers.pending.items in (
        ap (λ (k : List ℕ). record { server = server_of server; waiting = k; passed = after.passed_over; tables = tables }) waiting
            ∙ ap (λ (n : ℕ). record { server = server_of server; waiting = buffers.pending.items; passed = n; tables = tables }) counts,
        subst (λ (k : List ℕ). Consumes in1 in2 k) none consumes,
        at_end,
        refl,
        refl,
      )

  -- nothing more was done
  pub stopped_still : (limits : Bounds) (f : RoundFault) (old : Standing S) (read : List ℕ) → StopsReading f read → IsPart limits old.waiting → IsStopped g limits f read [] old.passed old old.tables
  stopped_still limits f old read why begins = record {
    begins = begins;
    pieces = [];
    rest = old.waiting ++ read;
    are = tt;
    cut = refl;
    counted = refl;
    next = tt;
    batch = None;
    answers = [];
    dones = [];
    fits = tt;
    written = refl;
    crash = survives_still g old.tables _;
    says = spells_nothing limits;
    told = told f why;
  }
    where
      told : (k : RoundFault) → StopsReading k read → Tells g limits k [] [] (old.waiting ++ read) [] [] None old.server old.tables old.tables
      told (round.Input r) known = (refl, refl, (refl, refl))
      told round.Memory known = inl (refl, (refl, refl))
      told round.Shape wrong = absurd wrong
      told round.Store wrong = absurd wrong
      told round.Exhausted wrong = absurd wrong
      told (round.Output e) wrong = absurd wrong

  -- a read failed
  pub stops_reading : (limits : Bounds) (f : RoundFault) (old : Standing S) (life : LifeState) (read : List ℕ) (in1 in2 out : Option (List ℕ)) → StopsReading f read → Consumes in1 in2 read
      → StopsRound g limits f old life old.passed old.tables in1 in2 out out
  stops_reading limits f old life read in1 in2 out why consumes =
      record { read = read; reads = consumes; put = []; puts = Appends-nil out; cause = cause_of_reading f read why; stopped = λ begins. inl (old.tables, life, had refl refl, stopped_still limits f old read why begins) }

  -- some answers were put out
  pub stops_answering : (limits : Bounds) (f : RoundFault) (old : ServerValue) (buffers read_buffers after : Buffers) (first tables : Held S) (life new_life : LifeState) (read : List ℕ) (in1 in2 out1 out2 : Option (List ℕ))
      → MakesRoom g life new_life first tables → old.limits ≡ limits → read_buffers.pending.items ≡ buffers.pending.items ++ read → read_buffers.passed_over ≡ buffers.passed_over
      → Consumes in1 in2 read → HasCause f read → StopsAnswering f old read_buffers after out1 out2 → StopsRound g limits f (standing g old buffers first) life after.passed_over tables in1 in2 out1 out2
  stops_answering limits f old buffers read_buffers after first tables life new_life read in1 in2 out1 out2 room same reads counts consumes cause a = record {
    read = read;
    reads = consumes;
    put = a.put;
    puts = a.puts;
    cause = cause;
    stopped = λ begins. inl (
      tables,
      new_life,
      room,
      record {
        begins = begins;
        pieces = a.pieces;
        rest = a.rest;
        are = subst (λ (l : Bounds). AllByRecursion (IsPiece l) a.pieces) same a.are;
        cut = sym reads ∙ a.cut;
        counted = subst (λ (n : ℕ). after.passed_over ≡ counted_on n (count_passed a.pieces)) counts a.passed;
        next = tt;
        batch = None;
        answers = a.answers;
        dones = [];
        fits = tt;
        written = refl;
        crash = survives_still g tables _;
        says = subst (λ (l : Bounds). Spells l (said_to (server_of old) (inputs_in a.pieces)) a.answers) same a.says;
        told = told f a.told;
      },
    );
  }
    where
      told : (k : RoundFault) → PutsAnswers k old.limits a.put a.answers (after_inputs (server_of old) (inputs_in a.pieces)) a.rest
          → Tells g limits k a.put a.pieces a.rest a.answers [] None (after_inputs (server_of old) (inputs_in a.pieces)) tables tables
      told round.Exhausted h = (
        h.0,
        (refl, refl),
        subst (λ (l : Bounds). LacksNumber l (after_inputs (server_of old) (inputs_in a.pieces)) a.rest) same h.1,
      )
      told round.Memory none = inl (none, (refl, refl))
      told (round.Output e) h = inl (h.0, h.1, (refl, refl))
      told round.Shape wrong = absurd wrong
      told round.Store wrong = absurd wrong
      told (round.Input r) wrong = absurd wrong

  -- there was no room for whom the server knew
  pub stops_without_room : (limits : Bounds) (f : RoundFault) (old : ServerValue) (buffers read_buffers after : Buffers) (first tables : Held S) (life : LifeState) (read : List ℕ) (in1 in2 out1 out2 : Option (List ℕ)) → old.limits ≡ limits
      → read_buffers.pending.items ≡ buffers.pending.items ++ read → read_buffers.passed_over ≡ buffers.passed_over → Consumes in1 in2 read → HasCause f read → FindsNoRoom g f old read_buffers after life first tables out1 out2
      → StopsRound g limits f (standing g old buffers first) life after.passed_over tables in1 in2 out1 out2
  stops_without_room limits f old buffers read_buffers after first tables life read in1 in2 out1 out2 same reads counts consumes cause a = record {
    read = read;
    reads = consumes;
    put = [];
    puts = subst (λ (o : Option (List ℕ)). Appends out1 o []) (sym a.unsaid) (Appends-nil out1);
    cause = cause;
    stopped = λ begins. inr (record {
      begins = begins;
      pieces = a.pieces;
      rest = a.rest;
      are = subst (λ (l : Bounds). AllByRecursion (IsPiece l) a.pieces) same a.are;
      cut = sym reads ∙ a.cut;
      counted = subst (λ (n : ℕ). after.passed_over ≡ counted_on n (count_passed a.pieces)) counts a.passed;
      unsaid = refl;
      told = a.told;
      crash = a.crash;
    });
  }

  -- whichever of both it was
  pub stops_within : (limits : Bounds) (f : RoundFault) (old : ServerValue) (buffers read_buffers after : Buffers) (first tables : Held S) (life : LifeState) (read : List ℕ) (in1 in2 out1 out2 : Option (List ℕ)) → old.limits ≡ limits
      → read_buffers.pending.items ≡ buffers.pending.items ++ read → read_buffers.passed_over ≡ buffers.passed_over → Consumes in1 in2 read → HasCause f read → StopsWithin g f old read_buffers after life first tables out1 out2
      → StopsRound g limits f (standing g old buffers first) life after.passed_over tables in1 in2 out1 out2
  stops_within limits f old buffers read_buffers after first tables life read in1 in2 out1 out2 same reads counts consumes cause (inl a) =
      stops_answering limits f old buffers read_buffers after first tables life a.0 read in1 in2 out1 out2 a.1 same reads counts consumes cause a.2
  stops_within limits f old buffers read_buffers after first tables life read in1 in2 out1 out2 same reads counts consumes cause (inr a) =
      stops_without_room limits f old buffers read_buffers after first tables life read in1 in2 out1 out2 same reads counts consumes cause a

  -- the answers were put out, and some of the Dones, or none
  pub stops_committing : (limits : Bounds) (f : RoundFault) (old mid : ServerValue) (buffers read_buffers after : Buffers) (first tables later : Held S) (life new_life : LifeState) (read : List ℕ) (taken : Taken)
      (in1 in2 out1 out2 out3 : Option (List ℕ)) → MakesRoom g life new_life first tables → old.limits ≡ limits → read_buffers.pending.items ≡ buffers.pending.items ++ read → read_buffers.passed_over ≡ buffers.passed_over → Consumes in1 in2 read → HasCause f read
      → Answered old read_buffers after taken mid out1 out2 → StopsCommit g f mid tables later out2 out3
      → StopsRound g limits f (standing g old buffers first) life after.passed_over later in1 in2 out1 out3
  stops_committing limits f old mid buffers read_buffers after first tables later life new_life read taken in1 in2 out1 out2 out3 room same reads counts consumes cause a c =
      let is : server_of mid ≡ after_inputs (server_of old) (inputs_in a.pieces) = a.takes.answers.becomes in
      let kept : mid.limits ≡ limits = a.takes.answers.limits ∙ same in
      record {
        read = read;
        reads = consumes;
        put = a.answers ++ c.put;
        puts = Appends-trans out1 out2 out3 a.answers c.put a.puts c.puts;
        cause = cause;
        stopped = λ begins. inl (
          tables,
          new_life,
          room,
          record {
            begins = begins;
            pieces = a.pieces;
            rest = drop taken.used read_buffers.pending.items;
            are = subst (λ (l : Bounds). AllByRecursion (IsPiece l) a.pieces) same a.takes.are;
            cut = sym reads ∙ sym (take-append-drop taken.used read_buffers.pending.items) ∙ ap (λ (k : List ℕ). k ++ drop taken.used read_buffers.pending.items) a.takes.cut;
            counted = subst (λ (n : ℕ). after.passed_over ≡ counted_on n (count_passed a.pieces)) counts a.passed;
            next = subst (λ (s : Server). IfSome c.batch (λ b. next_batch s ≡ Some (batch_of b))) is c.next;
            batch = c.batch;
            answers = a.answers;
            dones = c.dones;
            fits = subst (λ (l : Bounds). IfSome c.batch (Fits l)) kept c.fits;
            written = subst (λ (l : Bounds). WritesOrNot g l c.batch tables later) kept c.written;
            crash = c.crash;
            says = subst (λ (l : Bounds). Spells l (said_to (server_of old) (inputs_in a.pieces)) a.answers) same a.takes.answers.says;
            told = told is kept f c.told;
          },
        );
      }
    where
      told : server_of mid ≡ after_inputs (server_of old) (inputs_in a.pieces) → mid.limits ≡ limits
          → (k : RoundFault) → PutsDones g k mid.limits c.put c.dones c.batch (server_of mid) tables later
          → Tells g limits k (a.answers ++ c.put) a.pieces (drop taken.used read_buffers.pending.items) a.answers c.dones c.batch
          (after_inputs (server_of old) (inputs_in a.pieces)) tables later
      told is kept round.Store h =
          (ap (λ (k : List ℕ). a.answers ++ k) h.0 ∙ append-nil a.answers, subst (λ (l : Bounds). StaysUnwritten g l c.batch tables later) kept h.1)
      told is kept round.Memory none = inr (ap (λ (k : List ℕ). a.answers ++ k) none ∙ append-nil a.answers)
      told is kept (round.Output e) w = inr (
        w.0,
        ap (λ (k : List ℕ). a.answers ++ k) w.1,
        subst (λ (s : Server). SaysDones limits s c.batch c.dones) is (subst (λ (l : Bounds). SaysDones l (server_of mid) c.batch c.dones) kept w.2),
        subst (λ (l : Bounds). Writes g l c.batch tables later) kept w.3,
      )
      told is kept round.Shape wrong = absurd wrong
      told is kept round.Exhausted wrong = absurd wrong
      told is kept (round.Input r) wrong = absurd wrong

  -- one round more
  rounds_more : (limits : Bounds) (rounds : List Round) (round : Round) (a b c : Standing S) (i j k : LifeState) → AreRounds g limits rounds a b i j → IsPart limits b.waiting → IsRoundOfLife g limits round b c j k
      → AreRounds g limits (rounds ++ round ∷ []) a c i k
  rounds_more limits [] round a b c i j k are part is =
      (subst (λ (s : Standing S). IsPart limits s.waiting) are.0 part, c, k, subst (λ (s : Standing S). IsRoundOfLife g limits round s c i k) are.0 (subst (λ (l : LifeState). IsRoundOfLife g limits round b c l k) are.1 is), (refl, refl))
  rounds_more limits (first ∷ rounds) round a b c i j k are part is = (are.0, are.1, are.2, are.3, rounds_more limits rounds round are.1 b c are.2 j k are.4 part is)

  -- How far a loop over rounds has come.
  pub record Far (limits : Bounds) (count : ℕ) (start now : Standing S) (begun life : LifeState) (in0 in1 out0 out1 : Option (List ℕ)) : Type 0 where
    pub rounds : List Round
    pub counted : length rounds ≡ count
    pub are : AreRounds g limits rounds start now begun life
    pub reads : Consumes in0 in1 (read_in rounds)
    pub puts : Appends out0 out1 (put_in rounds)

  pub far_nothing : (limits : Bounds) (start : Standing S) (life : LifeState) (in0 out0 : Option (List ℕ)) → Far limits 0 start start life life in0 in0 out0 out0
  far_nothing limits start life in0 out0 = record { rounds = []; counted = refl; are = (refl, refl); reads = Consumes-nil in0; puts = Appends-nil out0 }

  pub far_more : (limits : Bounds) (count : ℕ) (start now next : Standing S) (begun life new_life : LifeState) (in0 in1 in2 out0 out1 out2 : Option (List ℕ)) → IsPart limits now.waiting → Far limits count start now begun life in0 in1 out0 out1
      → DoesRound g limits now next life new_life in1 in2 out1 out2 → Far limits (count + 1) start next begun new_life in0 in2 out0 out2
  far_more limits count start now next begun life new_life in0 in1 in2 out0 out1 out2 part far d = record {
    rounds = far.rounds ++ d.round ∷ [];
    counted = length-append far.rounds (d.round ∷ []) ∙ ap (λ (n : ℕ). n + 1) far.counted;
    are = rounds_more limits far.rounds d.round start now next begun life new_life far.are part d.is;
    reads = subst (λ (k : List ℕ). Consumes in0 in2 k) (sym (flat_map-append (λ (r : Round). r.read) far.rounds (d.round ∷ []) ∙ ap (λ (k : List ℕ). read_in far.rounds ++ k) (append-nil d.round.read)))
        (Consumes-trans in0 in1 in2 (read_in far.rounds) d.round.read far.reads d.reads);
    puts = subst (λ (k : List ℕ). Appends out0 out2 k)
        (sym (flat_map-append (λ (r : Round). r.answers ++ r.dones) far.rounds (d.round ∷ []) ∙ ap (λ (k : List ℕ). put_in far.rounds ++ k) (append-nil (d.round.answers ++ d.round.dones))))
        (Appends-trans out0 out1 out2 (put_in far.rounds) (d.round.answers ++ d.round.dones) far.puts d.puts);
  }

  -- it ends there
  pub serves_at : {E : Type 0} (limits : Bounds) (count : ℕ) (ending : Result E ServeFault) (passed : ℕ) (start now : Standing S) (begun life : LifeState) (tables : Held S) (read put : List ℕ)
      (in0 in1 in2 out0 out1 out2 : Option (List ℕ)) → Far limits count start now begun life in0 in1 out0 out1 → Consumes in1 in2 read → Appends out1 out2 put
      → Ends g limits ending count read put passed in2 now life tables → Serves g limits ending passed start begun tables in0 in2 out0 out2
  serves_at limits count ending passed start now begun life tables read put in0 in1 in2 out0 out1 out2 far consumes appends ends = record {
    rounds = far.rounds;
    last = now;
    last_life = life;
    are = far.are;
    read = read;
    reads = Consumes-trans in0 in1 in2 (read_in far.rounds) read far.reads consumes;
    put = put;
    puts = Appends-trans out0 out1 out2 (put_in far.rounds) put far.puts appends;
    ends = subst (λ (n : ℕ). Ends g limits ending n read put passed in2 now life tables) (sym far.counted) ends;
  }

  -- a round stops
  pub serves_stopped : {E : Type 0} (limits l : Bounds) (count : ℕ) (start now : Standing S) (begun life : LifeState) (f : RoundFault) (passed : ℕ) (tables : Held S) (in0 in1 in2 out0 out1 out2 : Option (List ℕ)) → l ≡ limits
      → IsPart limits now.waiting → Far limits count start now begun life in0 in1 out0 out1 → StopsRound g l f now life passed tables in1 in2 out1 out2 → Serves g limits {E = E} (Err (fault.Round f)) passed start begun tables in0 in2 out0 out2
  serves_stopped limits l count start now begun life f passed tables in0 in1 in2 out0 out1 out2 same part far stops =
      serves_at limits count (Err (fault.Round f)) passed start now begun life tables stops.read stops.put in0 in1 in2 out0 out1 out2 far stops.reads stops.puts
      (stops.cause, subst (λ (k : Bounds). IsPart k now.waiting → StopsInLife g k f stops.read stops.put passed now life tables) same stops.stopped part)

  -- no more rounds can be counted
  pub serves_endless : {E : Type 0} (limits : Bounds) (count : ℕ) (start now : Standing S) (begun life : LifeState) (in0 in1 out0 out1 : Option (List ℕ))
      → count ≡ 2 ^ 64 - 1 → Far limits count start now begun life in0 in1 out0 out1 → Serves g limits {E = E} (Err fault.Endless) now.passed start begun now.tables in0 in1 out0 out1
  serves_endless limits count start now begun life in0 in1 out0 out1 all far =
      serves_at limits count (Err fault.Endless) now.passed start now begun life now.tables [] [] in0 in1 in1 out0 out1 out1 far (Consumes-nil in1) (Appends-nil out1)
      (all, (refl, refl, refl, refl))

  round_at : (limits l : Bounds) (now next : Standing S) (i j : LifeState) (in1 in2 out1 out2 : Option (List ℕ)) → l ≡ limits → DoesRound g l now next i j in1 in2 out1 out2 → DoesRound g limits now next i j in1 in2 out1 out2
  round_at limits l now next i j in1 in2 out1 out2 same d = subst (λ (k : Bounds). DoesRound g k now next i j in1 in2 out1 out2) same d

  -- a round was done, and the input goes on
  pub goes_on : (limits l : Bounds) (count : ℕ) (start now next : Standing S) (begun life new_life : LifeState) (e : RoundEnd) (in0 in1 in2 out0 out1 out2 : Option (List ℕ)) → l ≡ limits → e ≡ end.GoesOn
      → IsPart limits now.waiting → Far limits count start now begun life in0 in1 out0 out1 → EndsRound g l e now next life new_life in1 in2 out1 out2 → IsPart limits next.waiting × Far limits (count + 1) start next begun new_life in0 in2 out0 out2
  goes_on limits l count start now next begun life new_life e in0 in1 in2 out0 out1 out2 same is part far ends =
      let d = subst (λ (k : RoundEnd). EndsRound g l k now next life new_life in1 in2 out1 out2) is ends in
      (subst (λ (k : Bounds). IsPart k next.waiting) same d.1, far_more limits count start now next begun life new_life in0 in1 in2 out0 out1 out2 part far (round_at limits l now next life new_life in1 in2 out1 out2 same d.0))

  -- a round was done, and the input goes on wrongly
  pub serves_no_frame : {E : Type 0} (limits l : Bounds) (count : ℕ) (start now next : Standing S) (begun life new_life : LifeState) (e : RoundEnd) (in0 in1 in2 out0 out1 out2 : Option (List ℕ)) → l ≡ limits → e ≡ end.NoFrame
      → IsPart limits now.waiting → Far limits count start now begun life in0 in1 out0 out1 → EndsRound g l e now next life new_life in1 in2 out1 out2 → Serves g limits {E = E} (Err fault.NoFrame) next.passed start begun next.tables in0 in2 out0 out2
  serves_no_frame limits l count start now next begun life new_life e in0 in1 in2 out0 out1 out2 same is part far ends =
      let d = subst (λ (k : RoundEnd). EndsRound g l k now next life new_life in1 in2 out1 out2) is ends in
      serves_at limits (count + 1) (Err fault.NoFrame) next.passed start next begun new_life next.tables [] [] in0 in2 in2 out0 out2 out2
      (far_more limits count start now next begun life new_life in0 in1 in2 out0 out1 out2 part far (round_at limits l now next life new_life in1 in2 out1 out2 same d.0)) (Consumes-nil in2) (Appends-nil out2)
      (subst (λ (k : Bounds). IsNoFrame k next.waiting) same d.1, (refl, refl, refl, refl))

  -- how it ends with the input
  ends_with_input : {E : Type 0} (limits : Bounds) (count : ℕ) (r : Result E ServeFault) (now next : Standing S) (life : LifeState) (in2 : Option (List ℕ)) → next ≡ now → IsPart limits now.waiting → IsAtEnd in2
      → OnOk r (next.waiting ≡ []) → IfErr r (λ f. (f ≡ fault.Cut) × (next.waiting ≢ [])) → Ends g limits r count [] [] next.passed in2 now life next.tables
  ends_with_input limits count (Ok x) now next life in2 same part at_end ok err =
      (ap (λ (k : Standing S). k.waiting) (sym same) ∙ ok, at_end, (refl, refl, ap (λ (k : Standing S). k.passed) same, ap (λ (k : Standing S). k.tables) same))
  ends_with_input {E} limits count (Err f) now next life in2 same part at_end ok err =
      subst (λ (k : ServeFault). Ends g limits {E = E} (Err k) count [] [] next.passed in2 now life next.tables) (sym err.0)
      (part, (λ e. err.1 (ap (λ (k : Standing S). k.waiting) same ∙ e)), at_end, (refl, refl, ap (λ (k : Standing S). k.passed) same, ap (λ (k : Standing S). k.tables) same))

  pub serves_ended : {E : Type 0} (limits l : Bounds) (count : ℕ) (r : Result E ServeFault) (start now next : Standing S) (begun life new_life : LifeState) (e : RoundEnd) (waiting : List ℕ) (in0 in1 in2 out0 out1 out2 : Option (List ℕ))
      → l ≡ limits → e ≡ end.Ended → waiting ≡ next.waiting → IsPart limits now.waiting → Far limits count start now begun life in0 in1 out0 out1
      → EndsRound g l e now next life new_life in1 in2 out1 out2 → OnOk r (waiting ≡ []) → IfErr r (λ f. (f ≡ fault.Cut) × (waiting ≢ []))
      → Serves g limits r next.passed start begun next.tables in0 in2 out0 out2
  serves_ended limits l count r start now next begun life new_life e waiting in0 in1 in2 out0 out1 out2 same is names part far ends ok err =
      let d = subst (λ (k : RoundEnd). EndsRound g l k now next life new_life in1 in2 out1 out2) is ends in
      serves_at limits count r next.passed start now begun life next.tables [] [] in0 in1 in2 out0 out1 out2 far d.1
      (subst (λ (o : Option (List ℕ)). Appends out1 o []) (sym d.3) (Appends-nil out1))
      (ends_with_input limits count r now next life in2 d.0 part d.2 (subst (λ (k : List ℕ). OnOk r (k ≡ [])) names ok)
      (subst (λ (k : List ℕ). IfErr r (λ f. (f ≡ fault.Cut) × (k ≢ []))) names err))

  -- the whole of it, over a store
  pub serves_over : {E : Type 0} (limits : Bounds) (store : StoreState) (life : LifeState) (r : Result E ServeFault) (passed : ℕ) (server : ServerValue) (pending : List ℕ) (old new : Held S)
      (in0 in1 out0 out1 : Option (List ℕ)) → IsResumed limits store life.floor server → pending ≡ []
      → Serves g server.limits r passed (record { server = server_of server; waiting = pending; passed = 0; tables = old }) life new in0 in1 out0 out1
      → Serves g limits r passed (record { server = opened limits store life.floor; waiting = []; passed = 0; tables = old }) life new in0 in1 out0 out1
  serves_over limits store life r passed server pending old new in0 in1 out0 out1 is empty serves =
      subst (λ (l : Bounds). Serves g l r passed (record { server = opened limits store life.floor; waiting = []; passed = 0; tables = old }) life new in0 in1 out0 out1) is.limits
      (subst (λ (k : List ℕ). Serves g server.limits r passed (record { server = opened limits store life.floor; waiting = k; passed = 0; tables = old }) life new in0 in1 out0 out1) empty
      (subst (λ (s : Server). Serves g server.limits r passed (record { server = s; waiting = pending; passed = 0; tables = old }) life new in0 in1 out0 out1) is.server serves))
