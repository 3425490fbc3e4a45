-- What a file holds after any steps.
use Rattle.std.proofs.Common.{zero, suc, get_or, ◌≡◌, ℕ, ◌+◌, ◌-◌, ◌≤◌, true, false, List, [], ◌∷◌, ◌++◌, length, map, take, drop, Option, Some, None, IfSome, refl, sym, ap, ◌∙◌, subst, arith}
use Rattle.std.specs.List.{All, Contains}
use Rattle.std.proofs.Math.Seq.{take-append-add, take-add}
use Rattle.std.proofs.lemmas.List.{append_assoc, append-nil, length-append, length-take-le, take_all}
use Rattle.std.proofs.lemmas.List.Elements.{All-append, All-cons, All-contains, All-contains_itself, All-map, All-nil, Contains-append_left, Contains-append_right}
use Rattle.sqlite_trees.specs.declared.store.Store.{Ghosts}
use Rattle.sqlite.specs.Effect.{Database}
use Rattle.cb_page.specs.Bounds.{Bounds}
use Rattle.cb_frame.specs.declared.frame.Frame.{Frame}
use Rattle.cb_commit.specs.declared.commit.Commit.{Commit}
use Rattle.cb_commit.specs.Stores.{StoreState}
use Rattle.cb_commit.specs.Batches.{BatchState}
use Rattle.cb_commit.specs.History.{AreCommits, CanFlush, CommitsState, Numbered, done_of, dones_between, store_after, written as with_commit}
use Rattle.cb_commit.proofs.Folding.{dones_part}
use Rattle.cb_shelf.specs.LifeRows.{LifeState}
use Rattle.cb_shelf.specs.Living as living
use Rattle.cb_shelf.specs.Newer.{HoldsNewer}
use Rattle.cb_shelf.specs.Flushing.{once_written, dones_of}
use Rattle.cb_shelf.specs.Events.{Event, MayCome, after_event, rewritten_tables}
use Rattle.cb_shelf.specs.Events.Event.{committed, taken, written, reported}
use Rattle.cb_shelf.proofs.Following.{IsAt, keeps, begins}
use Rattle.cb_shelf_laws.specs.Rows.{HasFullPages}
use Rattle.cb_shelf_laws.specs.Laws.{Step as RowStep, MakesSteps as MakesRows}
use Rattle.cb_shelf_laws.specs.Laws.{after_steps as after_rows}
use Rattle.cb_shelf_laws.specs.Laws.Step.{reopened as row_reopened, written as row_written}
use Rattle.cb_shelf_laws.specs.Laws.Step.{lived as row_lived, raised as row_raised}
use Rattle.cb_shelf_laws.proofs.Following.{load_follows, load_follows_copy, load_follows_find}
use Rattle.cb_shelf_laws.proofs.Following.{steps_answer}
use Rattle.cb_shelf_laws.proofs.Lives.{unlived_begins}
use Rattle.cb_shelf_laws.proofs.Unlived.{unlived_kept}
use Rattle.cb_shelf_laws.specs.Stops.{Step, Course, begun, commits_of, commits_in, restarted}
use Rattle.cb_shelf_laws.specs.Stops.{after_step, after_steps, FirstOpen, IsDoneOf, Writes}
use Rattle.cb_shelf_laws.specs.Stops.{MakesStep, MakesSteps, LoadsFollowCommits}
use Rattle.cb_shelf_laws.specs.Stops.FirstOpen.{made, copied, found, unlived}
use Rattle.cb_shelf_laws.specs.Stops.Step.{happened, refused, reopened, lived, raised, stopped}

-- ---- lists of commits

-- the commits up to a number of two lists in one, past the first list
split : (former commits : List Commit) (from first number : ℕ) → from + length former ≡ first → first ≤ number → take (number - from) (former ++ commits) ≡ former ++ take (number - first) commits
split former commits from first number is least =
    let eq : number - from ≡ length former + (number - first) = omega (arith, is, least) in
    ap (λ n. take n (former ++ commits)) eq ∙ take-append-add former commits (number - first)

-- a commit among the first ones is among more of them
grows : (commits : List Commit) (few many : ℕ) (commit : Commit) → few ≤ many → Contains (take few commits) commit → Contains (take many commits) commit
grows commits few many commit le has =
    let eq : many ≡ few + (many - few) = omega (arith, le) in
    subst (λ xs. Contains xs commit) (sym (ap (λ n. take n commits) eq ∙ take-add few (many - few) commits))
    (Contains-append_left (take few commits) (take (many - few) (drop few commits)) commit has)

-- the Done of one of these commits
abbrev IsOfOne : List Commit → Frame → Type 0
IsOfOne commits frame = (commit : Commit) × Contains commits commit × (frame ≡ done_of commit)

done_grows : (commits : List Commit) (few many : ℕ) (frame : Frame) → few ≤ many → IsOfOne (take few commits) frame → IsOfOne (take many commits) frame
done_grows commits few many frame le h = (h.0, grows commits few many h.0 le h.1, h.2)

dones_grow : (commits : List Commit) (few many : ℕ) (frames : List Frame) → few ≤ many → All (IsOfOne (take few commits)) frames → All (IsOfOne (take many commits)) frames
dones_grow commits few many frames le h = λ k d lt. done_grows commits few many _ le (h k d lt)

store_append : (cs ds : List Commit) (s : StoreState) → store_after s (cs ++ ds) ≡ store_after (store_after s cs) ds
store_append [] ds s = refl
store_append (c ∷ cs) ds s = store_append cs ds (with_commit s c)

-- the number of the last commit in the store after so many
number_after : (count : ℕ) (cs : List Commit) (s : StoreState) → Numbered s.number cs → count ≤ length cs → (store_after s (take count cs)).number ≡ s.number + count
number_after zero cs s numbered le = omega arith
number_after (suc count) [] s numbered le = absurd (omega (arith, le))
number_after (suc count) (c ∷ cs) s numbered le =
    number_after count cs (with_commit s c) (subst (λ n. Numbered n cs) (sym numbered.0) numbered.1) (omega (arith, le)) ∙ omega (arith, numbered.0)

-- ---- the numbers of commits

numbered_append : (cs ds : List Commit) (last : ℕ) → Numbered last cs → Numbered (last + length cs) ds → Numbered last (cs ++ ds)
numbered_append [] ds last first second = let e : last ≡ last + 0 = omega arith in rw e second
numbered_append (c ∷ cs) ds last first second =
    let e : (last + 1) + length cs ≡ last + suc (length cs) = omega arith in (first.0, numbered_append cs ds (last + 1) first.1 (rw e second))

numbered_take : (count : ℕ) (cs : List Commit) (last : ℕ) → Numbered last cs → Numbered last (take count cs)
numbered_take zero cs last numbered = tt
numbered_take (suc count) [] last numbered = tt
numbered_take (suc count) (c ∷ cs) last numbered = (numbered.0, numbered_take count cs (last + 1) numbered.1)

-- so many commits have no number above theirs
numbers_within : (count : ℕ) (cs : List Commit) (last most : ℕ) → Numbered last cs → last + count ≤ most → All (λ (c : Commit). c.number ≤ most) (take count cs)
numbers_within zero cs last most numbered le = All-nil (λ (c : Commit). c.number ≤ most)
numbers_within (suc count) [] last most numbered le = All-nil (λ (c : Commit). c.number ≤ most)
numbers_within (suc count) (c ∷ cs) last most numbered le = All-cons (λ (c : Commit). c.number ≤ most) c (take count cs) (omega (arith, numbered.0, le)) (numbers_within count cs (last + 1) most numbered.1 (omega (arith, le)))

-- ---- the commits

-- What stands after any steps: the tables are at this commit of the present server, which began over
-- the former commits, numbered on from the first store; and each Done that was said is of a commit
-- on disk.
record Stands (first : StoreState) (c : Course) : Type 0 where
  number : ℕ
  at : IsAt c.present number
  base : c.present.commits.opening ≡ store_after first c.former
  count : first.number + length c.former ≡ c.present.commits.opening.number
  numbered : Numbered first.number c.former
  dones : All (IsOfOne (take (c.present.commits.flushed - first.number) (commits_of c))) c.dones

-- the store that the tables are, over the first one
stored : (first : StoreState) (c : Course) (h : Stands first c) → c.present.tables ≡ store_after first (c.former ++ take (h.number - c.present.commits.opening.number) c.present.commits.commits)
stored first c h =
    let rest = take (h.number - c.present.commits.opening.number) c.present.commits.commits in
    h.at.tables ∙ ap (λ s. store_after s rest) h.base ∙ sym (store_append c.former rest first)

-- the Dones of a report are of commits that it reports
reported_dones : (from : ℕ) (former : List Commit) (s : CommitsState) (number : ℕ) → AreCommits s → from + length former ≡ s.opening.number → CanFlush s number
    → All (IsOfOne (take (number - from) (former ++ s.commits))) (dones_between s.flushed number s.commits)
reported_dones from former s number are count can =
    let first = s.opening.number in
    let chosen = take (number - s.flushed) (drop (s.flushed - first) s.commits) in
    let least = are.from_opening in
    let eq : number - first ≡ (s.flushed - first) + (number - s.flushed) = omega (arith, least, can.above) in
    let all : take (number - from) (former ++ s.commits) ≡ former ++ (take (s.flushed - first) s.commits ++ chosen) =
    split former s.commits from first number count (omega (arith, least, can.above))
    ∙ ap (λ xs. former ++ xs) (ap (λ n. take n s.commits) eq ∙ take-add (s.flushed - first) (number - s.flushed) s.commits) in
    let is : dones_between s.flushed number s.commits ≡ map done_of chosen = dones_part s.commits first s.flushed number are.numbered least (omega (arith, can.above)) in
    let each : All (λ commit. IsOfOne (take (number - from) (former ++ s.commits)) (done_of commit)) chosen = λ k d lt. (
      get_or chosen k d,
      subst (λ xs. Contains xs (get_or chosen k d)) (sym all)
          (Contains-append_right former _ (get_or chosen k d) (Contains-append_right (take (s.flushed - first) s.commits) chosen (get_or chosen k d) (All-contains_itself chosen k d lt))),
      refl,
    ) in
    subst (λ frames. All (IsOfOne (take (number - from) (former ++ s.commits))) frames) (sym is)
    (All-map (IsOfOne (take (number - from) (former ++ s.commits))) done_of chosen each)

-- a commit more leaves the Dones as they were
with_one_more : (former commits : List Commit) (commit : Commit) (flushed : ℕ) (frames : List Frame) → All (IsOfOne (take flushed (former ++ commits))) frames → All (IsOfOne (take flushed (former ++ (commits ++ commit ∷ [])))) frames
with_one_more former commits commit flushed frames h = λ k d lt. let one = h k d lt in (
  one.0,
  subst (λ xs. Contains (take flushed xs) one.0) (append_assoc former commits (commit ∷ [])) (later (former ++ commits) one.0 one.1),
  one.2,
)
  where
    later : (xs : List Commit) (x : Commit) → Contains (take flushed xs) x → Contains (take flushed (xs ++ commit ∷ [])) x
    later xs x has = go xs flushed has
      where
        longer : (n : ℕ) (xs : List Commit) → (rest : List Commit) × (take n (xs ++ commit ∷ []) ≡ take n xs ++ rest)
        longer zero [] = ([], refl)
        longer zero (y ∷ ys) = ([], refl)
        longer (suc n) [] = (take (suc n) (commit ∷ []), refl)
        longer (suc n) (y ∷ ys) = let tail = longer n ys in (tail.0, ap (λ zs. y ∷ zs) tail.1)

        go : (xs : List Commit) (n : ℕ) → Contains (take n xs) x → Contains (take n (xs ++ commit ∷ [])) x
        go xs n has = let both = longer n xs in subst (λ ys. Contains ys x) (sym both.1) (Contains-append_left (take n xs) both.0 x has)

nothing_more : (commits : List Commit) (frames : List Frame) → All (IsOfOne commits) frames → All (IsOfOne commits) (frames ++ [])
nothing_more commits frames h = subst (λ fs. All (IsOfOne commits) fs) (sym (append-nil frames)) h

happens : (first : StoreState) (c : Course) (event : Event) → MayCome c.present event → Stands first c → Stands first (after_step c (happened event))
happens first c (committed commit) may h = let next = keeps c.present (committed commit) h.number may h.at in record {
  number = next.0;
  at = next.1;
  base = h.base;
  count = h.count;
  numbered = h.numbered;
  dones = nothing_more _ c.dones (with_one_more c.former c.present.commits.commits commit (c.present.commits.flushed - first.number) c.dones h.dones);
}
happens first c taken may h = let next = keeps c.present taken h.number may h.at in record { number = next.0; at = next.1; base = h.base; count = h.count; numbered = h.numbered; dones = nothing_more _ c.dones h.dones }
happens first c written may h = let next = keeps c.present written h.number may h.at in record { number = next.0; at = next.1; base = h.base; count = h.count; numbered = h.numbered; dones = nothing_more _ c.dones h.dones }
happens first c reported may h = go c.present.unreported refl
  where
    go : (o : Option BatchState) → c.present.unreported ≡ o → Stands first (after_step c (happened reported))
    go None is = let next = keeps c.present reported h.number may h.at in record {
      number = next.0;
      at = next.1;
      base = subst (λ o. (once_written c.present.commits o).opening ≡ store_after first c.former) (sym is) h.base;
      count = subst (λ o. first.number + length c.former ≡ (once_written c.present.commits o).opening.number) (sym is) h.count;
      numbered = h.numbered;
      dones = subst (λ o. All (IsOfOne (take ((once_written c.present.commits o).flushed - first.number) (c.former ++ (once_written c.present.commits o).commits))) (c.dones ++ dones_of c.present.commits o)) (sym is) (nothing_more _ c.dones h.dones);
    }
    go (Some batch) is = let next = keeps c.present reported h.number may h.at in
        let can : CanFlush c.present.commits batch.number = (subst (λ o. IfSome o (λ b. CanFlush c.present.commits b.number × (h.number ≡ b.number))) is h.at.written).0 in record {
          number = next.0;
          at = next.1;
          base = subst (λ o. (once_written c.present.commits o).opening ≡ store_after first c.former) (sym is) h.base;
          count = subst (λ o. first.number + length c.former ≡ (once_written c.present.commits o).opening.number) (sym is) h.count;
          numbered = h.numbered;
          dones = subst (λ o. All (IsOfOne (take ((once_written c.present.commits o).flushed - first.number) (c.former ++ (once_written c.present.commits o).commits))) (c.dones ++ dones_of c.present.commits o)) (sym is)
              (All-append (IsOfOne (take (batch.number - first.number) (commits_of c))) c.dones (dones_between c.present.commits.flushed batch.number c.present.commits.commits)
              (dones_grow (commits_of c) (c.present.commits.flushed - first.number) (batch.number - first.number) c.dones (omega (arith, can.above)) h.dones)
              (reported_dones first.number c.former c.present.commits batch.number h.at.are h.count can));
        }

-- another server begins over the tables
stops : (first : StoreState) (c : Course) → Stands first c → Stands first (restarted c)
stops first c h =
    let s = c.present.commits in
    let from = first.number in
    let base = s.opening.number in
    let count = h.number - base in
    let least = h.at.are.from_opening in
    let within : count ≤ length s.commits = omega (arith, h.at.are.count, h.at.most) in
    let number : c.present.tables.number ≡ h.number =
    ap (λ (t : StoreState). t.number) h.at.tables ∙ number_after count s.commits s.opening h.at.are.numbered within ∙ omega (arith, least, h.at.least) in
    let in_tables : commits_in c.present ≡ take count s.commits = ap (λ n. take (n - base) s.commits) number in
    let former : c.former ++ commits_in c.present ≡ c.former ++ take count s.commits = ap (λ xs. c.former ++ xs) in_tables in
    let long : from + length (c.former ++ commits_in c.present) ≡ c.present.tables.number =
    ap (λ xs. from + length xs) former ∙ ap (λ n. from + n) (length-append c.former (take count s.commits)) ∙ omega (arith, h.count, length-take-le count s.commits within, number, least, h.at.least) in record {
      number = c.present.tables.number;
      at = begins c.present.tables;
      base = stored first c h ∙ sym (ap (store_after first) former);
      count = long;
      numbered = subst (Numbered from) (sym former) (numbered_append c.former (take count s.commits) from h.numbered (numbered_take count s.commits (from + length c.former) (subst (λ n. Numbered n s.commits) (sym h.count) h.at.are.numbered)));
      dones = λ k d lt. let one = h.dones k d lt in (
        one.0,
        subst (λ xs. Contains xs one.0)
            (split c.former s.commits from base h.number h.count (omega (arith, least, h.at.least)) ∙ sym former ∙ sym (append-nil (c.former ++ commits_in c.present))
            ∙ sym (take_all (c.present.tables.number - from) ((c.former ++ commits_in c.present) ++ []) (omega (arith, long, ap length (append-nil (c.former ++ commits_in c.present))))))
            (grows (commits_of c) (s.flushed - from) (h.number - from) one.0 (omega (arith, h.at.least)) one.1),
        one.2,
      );
    }

steps_on : {S : Type 0} (g : Ghosts S) (limits : Bounds) (first : StoreState) (c : Course) (step : Step) (before after : Database) → MakesStep g limits c step before after → Stands first c → Stands first (after_step c step)
steps_on g limits first c (happened event) before after m h = happens first c event m.0 h
steps_on g limits first c refused before after m h = h
steps_on g limits first c reopened before after m h = h
steps_on g limits first c (lived life) before after m h = record { number = h.number; at = h.at; base = h.base; count = h.count; numbered = h.numbered; dones = h.dones }
steps_on g limits first c (raised incarnation) before after m h = record { number = h.number; at = h.at; base = h.base; count = h.count; numbered = h.numbered; dones = h.dones }
steps_on g limits first c (stopped false) before after m h = stops first c h
steps_on g limits first c (stopped true) before after m h = let next = keeps c.present written h.number tt h.at in
    stops first (record c { present = after_event c.present written }) (record { number = next.0; at = next.1; base = h.base; count = h.count; numbered = h.numbered; dones = h.dones })

all_steps : {S : Type 0} (g : Ghosts S) (limits : Bounds) (first : StoreState) (steps : List Step) (c : Course) (before after : Database) → MakesSteps g limits c steps before after → Stands first c → Stands first (after_steps c steps)
all_steps g limits first [] c before after m h = h
all_steps g limits first (step ∷ steps) c before after m h = all_steps g limits first steps (after_step c step) m.0 after m.2 (steps_on g limits first c step before m.0 m.1 h)

-- ---- the rows

abbrev wrote : Option BatchState → List RowStep → List RowStep
wrote (Some batch) steps = row_written batch ∷ steps
wrote None steps = steps

-- what a step does to the rows, and then these
abbrev row_step : Course → Step → List RowStep → List RowStep
row_step c (happened written) rest = wrote c.present.held rest
row_step c (happened event) rest = rest
row_step c refused rest = rest
row_step c reopened rest = row_reopened ∷ rest
row_step c (lived life) rest = row_lived life ∷ rest
row_step c (raised incarnation) rest = row_raised (living.raised c.life incarnation) ∷ rest
row_step c (stopped false) rest = row_reopened ∷ rest
row_step c (stopped true) rest = wrote c.present.held (row_reopened ∷ rest)

abbrev row_steps : Course → List Step → List RowStep
row_steps c [] = []
row_steps c (step ∷ steps) = row_step c step (row_steps (after_step c step) steps)

wrote_rows : {S : Type 0} (g : Ghosts S) (limits : Bounds) (held : Option BatchState) (rest : List RowStep) (before between after : Database) → Writes g limits held before between → MakesRows g limits rest between after → MakesRows g limits (wrote held rest) before after
wrote_rows g limits (Some batch) rest before between after w m = (w.0, between, w.1, m)
wrote_rows g limits None rest before between after w m = subst (λ db. MakesRows g limits rest db after) (sym w) m

made_step : {S : Type 0} (g : Ghosts S) (limits : Bounds) (c : Course) (step : Step) (rest : List RowStep) (before between after : Database) → MakesStep g limits c step before between → MakesRows g limits rest between after
    → MakesRows g limits (row_step c step rest) before after
made_step g limits c (happened (committed commit)) rest before between after m rows = subst (λ db. MakesRows g limits rest db after) (sym m.1) rows
made_step g limits c (happened taken) rest before between after m rows = subst (λ db. MakesRows g limits rest db after) (sym m.1) rows
made_step g limits c (happened written) rest before between after m rows = wrote_rows g limits c.present.held rest before between after m.1 rows
made_step g limits c (happened reported) rest before between after m rows = subst (λ db. MakesRows g limits rest db after) (sym m.1) rows
made_step g limits c refused rest before between after m rows = subst (λ db. MakesRows g limits rest db after) (sym m) rows
made_step g limits c reopened rest before between after m rows = (between, m, rows)
made_step g limits c (lived life) rest before between after m rows = (between, m.1, rows)
made_step g limits c (raised incarnation) rest before between after m rows = (between, m.1, rows)
made_step g limits c (stopped false) rest before between after m rows = (between, m, rows)
made_step g limits c (stopped true) rest before between after m rows = wrote_rows g limits c.present.held (row_reopened ∷ rest) before m.0 after m.1 (between, m.2, rows)

made_steps : {S : Type 0} (g : Ghosts S) (limits : Bounds) (steps : List Step) (c : Course) (before after : Database) → MakesSteps g limits c steps before after → MakesRows g limits (row_steps c steps) before after
made_steps g limits [] c before after m = m
made_steps g limits (step ∷ steps) c before after m = made_step g limits c step (row_steps (after_step c step) steps) before m.0 after m.1 (made_steps g limits steps (after_step c step) m.0 after m.2)

wrote_tables : (held : Option BatchState) (rest : List RowStep) (tables : StoreState) → after_rows tables (wrote held rest) ≡ after_rows (rewritten_tables tables held) rest
wrote_tables (Some batch) rest tables = refl
wrote_tables None rest tables = refl

step_tables : (c : Course) (step : Step) (rest : List RowStep) → after_rows c.present.tables (row_step c step rest) ≡ after_rows (after_step c step).present.tables rest
step_tables c (happened (committed commit)) rest = refl
step_tables c (happened taken) rest = refl
step_tables c (happened written) rest = wrote_tables c.present.held rest c.present.tables
step_tables c (happened reported) rest = refl
step_tables c refused rest = refl
step_tables c reopened rest = refl
step_tables c (lived life) rest = refl
step_tables c (raised incarnation) rest = refl
step_tables c (stopped false) rest = refl
step_tables c (stopped true) rest = wrote_tables c.present.held (row_reopened ∷ rest) c.present.tables

all_tables : (steps : List Step) (c : Course) → after_rows c.present.tables (row_steps c steps) ≡ (after_steps c steps).present.tables
all_tables [] c = refl
all_tables (step ∷ steps) c = step_tables c step (row_steps (after_step c step) steps) ∙ all_tables steps (after_step c step)

-- what the tables answer, whatever the first open found
rows_follow : {S : Type 0} (g : Ghosts S) (limits : Bounds) (steps : List RowStep) (opening answered : StoreState) (life : LifeState) (before first after : Database) → FirstOpen g limits opening life before first
    → MakesRows g limits steps first after → HasFullPages answered → HoldsNewer after answered → answered ≡ after_rows opening steps
rows_follow g limits steps opening answered life before first after (made none lays is served) m full holds = load_follows g limits steps answered before first after none lays m full holds ∙ ap (λ s. after_rows s steps) (sym is)
rows_follow g limits steps opening answered life before first after (copied old laid of pages served) m full holds = load_follows_copy g limits steps opening answered before first after old of pages laid m full holds
rows_follow g limits steps opening answered life before first after (found older shelf told there lays of pages) m full holds = load_follows_find g older limits (row_reopened ∷ steps) opening answered before after shelf of pages there (first, lays, m) full holds
rows_follow g limits steps opening answered life before first after (unlived older none there follows lives of pages) m full holds =
    steps_answer g older limits steps opening answered first after of pages (unlived_kept older opening life before first none there (unlived_begins g older life before first none lives)) m full holds

-- ---- both

begun_stands : (first : StoreState) (life : LifeState) → Stands first (begun first life)
begun_stands first life = record { number = first.number; at = begins first; base = refl; count = omega arith; numbered = tt; dones = λ k d lt. absurd (omega (arith, lt)) }

-- a Done of one of the first commits has no number above theirs
dones_within : (cs : List Commit) (last count most : ℕ) (frames : List Frame) → Numbered last cs → most ≡ last + count → All (IsOfOne (take count cs)) frames → All (IsDoneOf (take count cs) most) frames
dones_within cs last count most frames numbered is h = λ k d lt. let one = h k d lt in
    (one.0, one.1, All-contains (λ (c : Commit). c.number ≤ most) (take count cs) one.0 (numbers_within count cs last most numbered (omega (arith, is))) one.1, one.2)

pub loads_follow : {S : Type 0} (g : Ghosts S) → LoadsFollowCommits g
loads_follow g limits steps opening answered life before first after opens m full holds =
    let c = after_steps (begun opening life) steps in
    let h = all_steps g limits opening steps (begun opening life) first after m (begun_stands opening life) in
    let s = c.present.commits in
    let count = h.number - opening.number in
    let from = h.at.are.from_opening in
    let is : take count (commits_of c) ≡ c.former ++ take (h.number - s.opening.number) s.commits = split c.former s.commits opening.number s.opening.number h.number h.count (omega (arith, from, h.at.least)) in
    let tables = rows_follow g limits (row_steps (begun opening life) steps) opening answered life before first after opens (made_steps g limits steps (begun opening life) first after m) full holds ∙ all_tables steps (begun opening life) in
    let store : answered ≡ store_after opening (take count (commits_of c)) = tables ∙ stored opening c h ∙ sym (ap (store_after opening) is) in
    let most : count ≤ length (commits_of c) = omega (arith, length-append c.former s.commits, h.count, h.at.are.count, h.at.most) in
    let numbered : Numbered opening.number (commits_of c) = numbered_append c.former s.commits opening.number h.numbered (subst (λ n. Numbered n s.commits) (sym h.count) h.at.are.numbered) in
    let number : answered.number ≡ opening.number + count = ap (λ (t : StoreState). t.number) store ∙ number_after count (commits_of c) opening numbered most in record {
      count = count;
      store = store;
      number = number;
      least = omega (arith, number, h.at.least);
      most = most;
      dones = dones_within (commits_of c) opening.number count answered.number c.dones numbered number (dones_grow (commits_of c) (s.flushed - opening.number) count c.dones (omega (arith, h.at.least)) h.dones);
    }
