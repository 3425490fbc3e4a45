-- Rounds of a life are steps of what happens to a file.
use Rattle.std.proofs.Common.{◌≡◌, ◌++◌, ℕ, true, false, List, [], ◌∷◌, Option, Some, None, refl, sym}
use Rattle.std.proofs.Common.{◌∙◌, ap, subst, arith}
use Rattle.std.specs.Prelude.{option_map}
use Rattle.sqlite.specs.Effect.{Database}
use Rattle.sqlite.specs.Held.{Held, state}
use Rattle.sqlite.specs.State.{HasCleanDisk}
use Rattle.sqlite.specs.Store.{Ghosts}
use Rattle.cb_commit.specs.Batches.{BatchState}
use Rattle.cb_commit.specs.Stores.{StoreState}
use Rattle.cb_protocol.specs.LivesWorld.{Lives}
use Rattle.cb_shelf.specs.Living.{life_statements}
use Rattle.cb_running_laws.specs.ServedFile.{BeginsLife, IsLivesOf, LivesFollow, Restarts, begun}
use Rattle.cb_running_laws.specs.ServedFile.{service_of}
use Rattle.cb_page.specs.Bounds.{Bounds}
use Rattle.cb_protocol.proofs.OthersKeep.{others_keep_rows_and_permissions}
use Rattle.cb_protocol.specs.Flush.{next_batch}
use Rattle.cb_protocol.specs.Messages.{Message}
use Rattle.cb_protocol.specs.Server.{Server}
use Rattle.cb_protocol.specs.WaitsFor.{on_cycle}
use Rattle.cb_server.specs.Knowing.{KnowsBelow}
use Rattle.cb_server_state.specs.Commits.{batch_of}
use Rattle.cb_shelf.specs.LifeRows.{LifeState, life_row}
use Rattle.cb_shelf.specs.Living as living
use Rattle.cb_shelf.specs.Statements.{MakesAll, batch_statements}
use Rattle.cb_serve.specs.Answering.{after_inputs, inputs_in, said_to}
use Rattle.cb_serve.specs.Living.{IsRoundOfLife, MakesRoom}
use Rattle.cb_serve.specs.Living.MakesRoom.{had, made}
use Rattle.cb_serve.specs.Rounds.{Round, Standing, Writes, reached}
use Rattle.cb_serve.specs.Serving.{AreRounds}
use Rattle.cb_running_laws.proofs.Keeping.{clean_before}
use Rattle.cb_running_laws.proofs.ServicesFollow.{nothing_more, regroup, services_restart}
use Rattle.cb_running_laws.specs.ServedFile.{Course, IsAt, MakesStep, MakesSteps, RoundsAreSteps}
use Rattle.cb_running_laws.specs.ServedFile.{Step, after_step, after_steps, said_in, said_once}
use Rattle.cb_running_laws.specs.ServedFile as step

-- steps, and then others
pub after_both : (steps more : List Step) (c : Course)
    → after_steps c (steps ++ more) ≡ after_steps (after_steps c steps) more
after_both [] more c = refl
after_both (s ∷ steps) more c = after_both steps more (after_step c s)

makes_both : {S : Type 0} (g : Ghosts S) (steps more : List Step) (c : Course)
    (before between after : Database) → MakesSteps g c steps before between
    → MakesSteps g (after_steps c steps) more between after
    → MakesSteps g c (steps ++ more) before after
makes_both g [] more c before between after m n =
    subst (λ db. MakesSteps g c more db after) (sym m) n
makes_both g (s ∷ steps) more c before between after m n =
    (m.0, m.1, makes_both g steps more (after_step c s) m.0 between after m.2 n)

-- who is below a number before commits are reported is so afterwards, and the other way
known_before : (s : Server) (batch : Option BatchState) (below : ℕ)
    → KnowsBelow (reached s batch) below → KnowsBelow s below
known_before s None below known = known
known_before s (Some batch) below known = λ d.
    let same = ((others_keep_rows_and_permissions on_cycle s).2 batch.number d).incarnation in
    let l = known d in omega (arith, same, l)

-- What came of steps: the tables, where the service stands, and what was said.
record Came {S : Type 0} (g : Ghosts S) (c : Course) (before after : Database) (server : Server)
    (life : LifeState) (said : List Message) : Type 0 where
  steps : List Step
  makes : MakesSteps g c steps before after
  runs : (after_steps c steps).runs ≡ true
  limits : (after_steps c steps).limits ≡ c.limits
  server_is : (after_steps c steps).server ≡ server
  told : (after_steps c steps).told ≡ (after_steps c steps).server
  answered : (after_steps c steps).unsaid ≡ []
  life_is : (after_steps c steps).life ≡ life
  said_is : (after_steps c steps).said ≡ c.said ++ said

module _ {S : Type 0} (g : Ghosts S) where
  -- a batch is written, reported, and its Dones go out
  batch_steps : (c : Course) (batch : Option BatchState) (old new : Held S) → c.runs ≡ true
      → c.told ≡ c.server → c.unsaid ≡ []
      → next_batch c.server ≡ option_map batch_of batch → Writes g c.limits batch old new
      → HasCleanDisk (state g new) → KnowsBelow (reached c.server batch) c.life.below
      → Came g c (state g old).now (state g new).now (reached c.server batch) c.life
      (said_once c.server batch)
  batch_steps c None old new runs told answered next wrote clean known = record {
    steps = [];
    makes = ap (λ (h : Held S). (state g h).now) (sym wrote);
    runs = runs;
    limits = refl;
    server_is = refl;
    told = told;
    answered = answered;
    life_is = refl;
    said_is = sym (nothing_more c.said);
  }
  batch_steps c (Some batch) old new runs told answered next wrote clean known = record {
    steps = step.writes batch ∷ step.reports ∷ step.says ∷ [];
    makes = (
      (state g new).now,
      (
        runs,
        told,
        next,
        wrote.fits,
        subst (MakesAll g (batch_statements batch) (state g old).now)
            (sym (wrote.settled clean).same) (wrote.made clean),
      ),
      ((state g new).now, (runs, refl), ((state g new).now, (runs, known, refl), refl)),
    );
    runs = runs;
    limits = refl;
    server_is = refl;
    told = refl;
    answered = refl;
    life_is = refl;
    said_is = ap (λ (l : List Message). c.said ++ (l ++ said_once c.server (Some batch))) answered;
  }

  -- the tables get room
  room_steps : (c : Course) (life : LifeState) (old mid : Held S) → c.runs ≡ true
      → MakesRoom g c.life life old mid → HasCleanDisk (state g mid)
      → (steps : List Step) × MakesSteps g c steps (state g old).now (state g mid).now
      × (after_steps c steps ≡ record c { life = life })
  room_steps c life old mid runs (had same tables) clean = (
    [],
    ap (λ (h : Held S). (state g h).now) (sym tables),
    λ i. record c { life = sym same i },
  )
  room_steps c life old mid runs (made i beyond is m s crash) clean = (
    step.raised i ∷ [],
    (
      (state g mid).now,
      (
        runs,
        beyond,
        subst (MakesAll g (life_row (living.raised c.life i) ∷ []) (state g old).now)
            (sym (s clean).same)
            (subst (λ (l : LifeState). MakesAll g (life_row l ∷ []) (state g old).now
            (state g mid).committed) is (m clean)),
      ),
      refl,
    ),
    λ j. record c { life = sym is j },
  )

  -- one round
  round_steps : (c : Course) (round : Round) (old new : Standing S) (life : LifeState)
      → c.runs ≡ true → c.told ≡ c.server → c.unsaid ≡ []
      → IsRoundOfLife g c.limits round (record old { server = c.server }) new c.life life
      → HasCleanDisk (state g new.tables)
      → Came g c (state g old.tables).now (state g new.tables).now new.server life
      (said_to c.server (inputs_in round.pieces)
      ++ said_once (after_inputs c.server (inputs_in round.pieces)) round.batch)
  round_steps c round old new life runs told answered is clean =
      let early : HasCleanDisk (state g is.mid)
      = (let k = is.is.crash.clean in omega (arith, k, clean)) in
      let taken : Server = after_inputs c.server (inputs_in round.pieces) in
      let said : List Message = said_to c.server (inputs_in round.pieces) in
      let c1 : Course = after_step c (step.takes round.pieces) in
      let room = room_steps c1 life old.tables is.mid runs is.room early in
      let c2 : Course = record c1 { life = life } in
      let c3 : Course = after_step c2 step.says in
      let known : KnowsBelow (reached taken round.batch) life.below
      = subst (λ (s : Server). KnowsBelow s life.below) is.is.server is.known in
      let rest = batch_steps c3 round.batch is.mid new.tables runs refl refl is.is.batch is.is.written
      clean known in
      let front : MakesSteps g c (step.takes round.pieces ∷ room.0) (state g old.tables).now
      (state g is.mid).now = ((state g old.tables).now, (runs, is.is.are, refl), room.1) in
      let there : after_steps c (step.takes round.pieces ∷ room.0) ≡ c2 = room.2 in
      let makes : MakesSteps g c ((step.takes round.pieces ∷ room.0) ++ (step.says ∷ rest.steps))
      (state g old.tables).now (state g new.tables).now
      = makes_both g (step.takes round.pieces ∷ room.0) (step.says ∷ rest.steps) c
      (state g old.tables).now (state g is.mid).now (state g new.tables).now front
      (subst (λ (x : Course). MakesSteps g x (step.says ∷ rest.steps) (state g is.mid).now
      (state g new.tables).now) (sym there)
      ((state g is.mid).now, (runs, known_before taken round.batch life.below known, refl), rest.makes)) in
      let end : after_steps c ((step.takes round.pieces ∷ room.0) ++ (step.says ∷ rest.steps))
      ≡ after_steps c3 rest.steps
      = after_both (step.takes round.pieces ∷ room.0) (step.says ∷ rest.steps) c
      ∙ ap (λ (x : Course). after_steps x (step.says ∷ rest.steps)) there in record {
        steps = (step.takes round.pieces ∷ room.0) ++ (step.says ∷ rest.steps);
        makes = makes;
        runs = ap (λ (x : Course). x.runs) end ∙ rest.runs;
        limits = ap (λ (x : Course). x.limits) end ∙ rest.limits;
        server_is = ap (λ (x : Course). x.server) end ∙ rest.server_is ∙ sym is.is.server;
        told = ap (λ (x : Course). x.told) end ∙ rest.told ∙ ap (λ (x : Course). x.server) (sym end);
        answered = ap (λ (x : Course). x.unsaid) end ∙ rest.answered;
        life_is = ap (λ (x : Course). x.life) end ∙ rest.life_is;
        said_is = ap (λ (x : Course). x.said) end ∙ rest.said_is
            ∙ ap (λ (l : List Message). (c.said ++ (l ++ said)) ++ said_once taken round.batch) answered
            ∙ sym (regroup c.said said (said_once taken round.batch));
      }

-- what was said, and more
said_on : (now before answers dones more : List Message) → now ≡ before ++ (answers ++ dones)
    → now ++ more ≡ before ++ (answers ++ (dones ++ more))
said_on now before answers dones more e = ap (λ (l : List Message). l ++ more) e
    ∙ sym (regroup before (answers ++ dones) more)
    ∙ ap (λ (l : List Message). before ++ l) (sym (regroup answers dones more))

-- What rounds come to from there on: steps, where the service stands then, and what was said.
abbrev Goes : {S : Type 0} (g : Ghosts S) (c : Course) (rounds : List Round) (old new : Standing S)
    (last : LifeState) → Type 0
Goes g c rounds old new last = (steps : List Step)
    × MakesSteps g c steps (state g old.tables).now (state g new.tables).now
    × IsAt (after_steps c steps) new last
    × ((after_steps c steps).said ≡ c.said ++ said_in old.server rounds)

-- one round, and then others
go_on : {S : Type 0} (g : Ghosts S) (c : Course) (round : Round) (rounds : List Round)
    (old mid new : Standing S) (mid_life last : LifeState) → c.server ≡ old.server
    → mid.server ≡ reached (after_inputs old.server (inputs_in round.pieces)) round.batch
    → (one : Came g c (state g old.tables).now (state g mid.tables).now mid.server mid_life
    (said_to c.server (inputs_in round.pieces)
    ++ said_once (after_inputs c.server (inputs_in round.pieces)) round.batch))
    → Goes g (after_steps c one.steps) rounds mid new last → Goes g c (round ∷ rounds) old new last
go_on g c round rounds old mid new mid_life last same is one more = (
  one.steps ++ more.0,
  makes_both g one.steps more.0 c (state g old.tables).now (state g mid.tables).now
      (state g new.tables).now one.makes more.1,
  subst (λ (x : Course). IsAt x new last) (sym (after_both one.steps more.0 c)) more.2,
  ap (λ (x : Course). x.said) (after_both one.steps more.0 c) ∙ more.3
      ∙ said_on (after_steps c one.steps).said c.said (said_to c.server (inputs_in round.pieces))
      (said_once (after_inputs c.server (inputs_in round.pieces)) round.batch)
      (said_in mid.server rounds) one.said_is
      ∙ (λ i. c.said ++ (said_to (same i) (inputs_in round.pieces)
      ++ (said_once (after_inputs (same i) (inputs_in round.pieces)) round.batch
      ++ said_in (is i) rounds))),
)

-- the others begin where it ended
next_rounds : {S : Type 0} (g : Ghosts S) (c : Course) (rounds : List Round) (before after : Database)
    (mid new : Standing S) (mid_life last : LifeState) (said : List Message)
    → (one : Came g c before after mid.server mid_life said)
    → AreRounds g c.limits rounds mid new mid_life last
    → (IsAt (after_steps c one.steps) mid mid_life
    → AreRounds g (after_steps c one.steps).limits rounds mid new mid_life last
    → Goes g (after_steps c one.steps) rounds mid new last)
    → Goes g (after_steps c one.steps) rounds mid new last
next_rounds g c rounds before after mid new mid_life last said one are go = go (record {
  runs = one.runs;
  server = one.server_is;
  told = one.told;
  answered = one.answered;
  life = one.life_is;
}) (subst (λ (b : Bounds). AreRounds g b rounds mid new mid_life last) (sym one.limits) are)

-- all of them
pub are_steps : {S : Type 0} (g : Ghosts S) → RoundsAreSteps g
are_steps {S} g c [] old new life last at are clean = (
  [],
  ap (λ (s : Standing S). (state g s.tables).now) (sym are.0),
  record {
    runs = at.runs;
    server = at.server ∙ ap (λ (s : Standing S). s.server) (sym are.0);
    told = at.told;
    answered = at.answered;
    life = at.life ∙ sym are.1;
  },
  sym (nothing_more c.said),
)
are_steps {S} g c (round ∷ rounds) old new life last at are clean =
    let early : HasCleanDisk (state g are.1.tables)
    = clean_before g false c.limits rounds are.1 new are.2 last are.4 clean in
    let one = round_steps g c round old are.1 are.2 at.runs at.told at.answered
    (subst (λ (l : LifeState). IsRoundOfLife g c.limits round (record old { server = c.server })
    are.1 l are.2) (sym at.life)
    (subst (λ (s : Server). IsRoundOfLife g c.limits round (record old { server = s }) are.1 life
    are.2) (sym at.server) are.3)) early in
    go_on g c round rounds old are.1 new are.2 last at.server are.3.is.server one
    (next_rounds g c rounds (state g old.tables).now (state g are.1.tables).now are.1 new are.2 last
    (said_to c.server (inputs_in round.pieces)
    ++ said_once (after_inputs c.server (inputs_in round.pieces)) round.batch) one are.4
    (λ there on. are_steps g (after_steps c one.steps) rounds are.1 new are.2 last there on clean))

-- ---- one life after another

-- a life that begins is a step
begins_so : {S : Type 0} (g : Ghosts S) (c : Course) (limits : Bounds) (life : LifeState)
    (store : StoreState) (found tables : Held S) → c.runs ≡ false
    → BeginsLife g limits life store found tables
    → MakesStep g c (step.served limits life store) (state g found).now (state g tables).now
begins_so g c limits life store found tables stopped b = (
  stopped,
  b.follows,
  subst (MakesAll g (life_statements life) (state g found).now)
      (sym (b.same ∙ b.settled.same)) b.made,
  b.number,
  b.of,
  b.full,
  b.holds,
)

pub lives_follow : {S : Type 0} (g : Ghosts S) → LivesFollow g
lives_follow {S} g limits own later steps more rounds opening store loaded life present last next before first found tables found_then tables_then service opens one m stopped begins are clean =
    let c0 : Course = begun limits opening life in
    let c : Course = after_steps c0 steps in
    let serve : Step = step.served own present store in
    let r = are_steps g (after_step c serve) rounds (service_of g own present store tables) service
    present last (record {
      runs = refl;
      server = refl;
      told = refl;
      answered = refl;
      life = refl;
    }) are clean in
    let d : Course = after_steps c (serve ∷ r.0) in (
      r.0,
      (
        r.2,
        λ n over again lives is.
            let front : MakesSteps g c (serve ∷ r.0) (state g found).now (state g service.tables).now
            = ((state g tables).now, begins_so g c own present store found tables stopped begins, r.1) in
            let all : List Step = steps ++ ((serve ∷ r.0) ++ more) in
            let makes : MakesSteps g c0 all first (state g found_then).now
            = makes_both g steps ((serve ∷ r.0) ++ more) c0 first (state g found).now
            (state g found_then).now m
            (makes_both g (serve ∷ r.0) more c (state g found).now (state g service.tables).now
            (state g found_then).now front n) in
            let end : after_steps c0 all ≡ after_steps d more
            = after_both steps ((serve ∷ r.0) ++ more) c0 ∙ after_both (serve ∷ r.0) more c in
            subst (λ (x : Course).
            MakesStep g x (step.served later next loaded) (state g found_then).now
            (state g tables_then).now → (l : Lives) → IsLivesOf l x
            → Restarts x later next (after_step x (step.served later next loaded)) l) end
            (services_restart g limits later all opening loaded life next before first
            (state g found_then).now (state g tables_then).now opens one makes)
            (begins_so g (after_steps d more) later next loaded found_then tables_then over again)
            lives is,
      ),
    )
