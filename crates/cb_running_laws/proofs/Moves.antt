-- Each move by which a worker comes is a step of the program that has its station.
use Rattle.std.proofs.Common.{◌≡◌, ◌++◌, ℕ, List, [], ◌∷◌, Some, None, Ok, inl, inr, refl, sym, ◌∙◌}
use Rattle.std.proofs.Common.{ap, subst}
use Rattle.cb_client_core.specs.ClientState.{IsClient}
use Rattle.cb_hands.specs.Hands.{HandState}
use Rattle.cb_page.specs.Bounds.{Bounds}
use Rattle.cb_protocol.specs.ClientCalls.{Call}
use Rattle.cb_station.specs.Stations.{StationState}
use Rattle.cb_station.specs.Telling.{Tells}
use Rattle.cb_running_laws.proofs.ByContracts.{becomes, commits_are_steps, joins_are_steps}
use Rattle.cb_running_laws.proofs.ByContracts.{leaves_are_steps, read_at_hand, restarts_are_steps}
use Rattle.cb_running_laws.proofs.ByContracts.{tells_are_steps, turns_are_steps}
use Rattle.cb_running_laws.proofs.Calling.{at_itself}
use Rattle.cb_running_laws.specs.ByContracts.{CallsAreRuns, CallsGoBySteps, WorkersJoinBySteps}
use Rattle.cb_running_laws.specs.ByContracts.{WorkersLeaveBySteps, WorkersRestartBySteps}
use Rattle.cb_running_laws.specs.ByContracts.{with_worker}
use Rattle.cb_running_laws.specs.Moves.{AreSteps, DoesAll, GoesOn, IsStep, moments_of, moved_after}
use Rattle.cb_running_laws.specs.Moves.{step_of}
use Rattle.cb_running_laws.specs.Programs.{IsSound, Program, limits_in}
use Rattle.cb_running_laws.specs.Steps as steps
use Rattle.cb_running_laws.specs.Steps.{CallsClient, Moment, Runs, performs, program_after}
use Rattle.cb_worker.specs.Committing.{CommitsAt}
use Rattle.cb_station.specs.Entering.{Joined, Left, Restarted}
use Rattle.cb_worker.specs.Entering.{HasLimits, JoinsAndTells, JoinsWith}
use Rattle.cb_worker.specs.Moving as moving
use Rattle.cb_worker.specs.Moving.{IsCalled, Move, Moved, MovesBy, new_worker}
use Rattle.cb_worker.specs.Turns.{Turns}
use Rattle.cb_worker.specs.Workers.{WorkerState}

-- a call of its client alone
called : (old : Program) (c : ℕ) (k next : WorkerState) (call : Call) → old.worker c ≡ Some k
    → (is : IsCalled k call next)
    → CallsClient old c call (record (with_worker old old.station c (Some next)) {
      performed = performs k.client call is.word old.performed;
    })
called old c k next call was is = record {
  worker = k;
  next = next;
  word = is.word;
  messages = is.messages;
  history = is.history;
  calls = is.calls;
  said = is.said;
  rest = is.rest;
  station = refl;
  becomes = (let it = becomes old old.station c k next was in
      record {
        was = it.was;
        becomes = it.becomes;
        others = it.others;
      });
  performed = refl;
}

pub move_is_step : (c : ℕ) (k : WorkerState) (move : Move) (next : WorkerState)
    → IsStep c k move next
move_is_step c k (moving.Turn before result after) next old was is made turns =
    turns_are_steps old c k next after result was
    (subst (λ (s : StationState). Turns k s result next after) (sym made) turns)
move_is_step c k (moving.Commit before result after) next old was is made commits =
    commits_are_steps old c k next after result was
    (subst (λ (s : StationState). CommitsAt k s result next after) (sym made) commits)
move_is_step c k (moving.ReadAtHand page) next old was is made reads =
    rw reads.1 (read_at_hand old c k page _ was is reads.0 refl)
move_is_step c k (moving.CallClient call) next old was is made called_so =
    called old c k next call was called_so

pub all_are_steps : (c : ℕ) (k : WorkerState) (moves : List Moved) → AreSteps c k moves
all_are_steps c k [] = tt
all_are_steps c k (moved ∷ moves) =
    (move_is_step c k moved.move moved.worker, all_are_steps c moved.worker moves)

pub calls_go_by_steps : CallsGoBySteps
calls_go_by_steps c old new still = all_are_steps c old still.moves

-- two runs, one behind the other
run_on : (program : Program) (xs ys : List Moment) → Runs program xs
    → Runs (program_after program xs) ys → Runs program (xs ++ ys)
run_on program [] ys a b = b
run_on program (x ∷ xs) ys a b = (a.0, a.1, run_on x.program xs ys a.2 b)

after_both : (program : Program) (xs ys : List Moment)
    → program_after program (xs ++ ys) ≡ program_after (program_after program xs) ys
after_both program [] ys = refl
after_both program (x ∷ xs) ys = after_both x.program xs ys

-- what a run leaves is sound
run_sound : (program : Program) (xs : List Moment) → IsSound program → Runs program xs
    → IsSound (program_after program xs)
run_sound program [] sound a = sound
run_sound program (x ∷ xs) sound a = run_sound x.program xs a.1 a.2

-- the client's worker after these moments
abbrev Leaves : Program → List Moment → ℕ → WorkerState → Type 0
Leaves program moments c worker = (program_after program moments).worker c ≡ Some worker

goes_on : (program : Program) (c : ℕ) (k : WorkerState) (moves : List Moved) (last : WorkerState)
    (made : MovesBy k moves last) (others : List (List Moment)) → IsSound program
    → program.worker c ≡ Some k → GoesOn program c k moves last made others
    → Runs program (moments_of program c k moves last made others)
    × Leaves program (moments_of program c k moves last made others) c last
goes_on program c k [] last made others sound was goes =
    (tt, was ∙ ap (λ (w : WorkerState). Some w) (sym made))
goes_on program c k (moved ∷ moves) last made [] sound was goes = absurd goes
goes_on program c k (moved ∷ moves) last made (these ∷ others) sound was goes =
    let before : Program = program_after program these in
    let next : Program = moved_after program these c k moved made.0 in
    let is : IsClient k.client = (run_sound program these sound goes.0).client c k goes.1 in
    let does : steps.Does before (step_of c moved.move) next =
    move_is_step c k moved.move moved.worker before goes.1 is goes.2 made.0 in
    let rest = goes_on next c moved.worker moves last made.1 others goes.3
    (at_itself before.worker c (Some moved.worker)) goes.4 in
    let tail : List Moment = record { step = step_of c moved.move; program = next }
    ∷ moments_of next c moved.worker moves last made.1 others in (
      run_on program these tail goes.0 (does, goes.3, rest.0),
      ap (λ (p : Program). p.worker c) (after_both program these tail) ∙ rest.1,
    )

pub calls_are_runs : CallsAreRuns
calls_are_runs program c worker last others sound was still goes =
    goes_on program c worker still.moves last still.moved others sound was goes

-- and then all who are to be told are
told_too : (old mid : Program) (step : steps.Step) (after : StationState)
    → steps.Does old step mid → Tells mid.station after
    → DoesAll old (step ∷ steps.Tell ∷ []) (record mid { station = after })
told_too old mid step after does tells = (
  mid,
  does,
  (record mid { station = after }, (tells_are_steps mid after).0 tells, refl),
)

-- a client that is let in came with the station's limits
let_in : (before after : StationState) (limits : Bounds) (c : ℕ) (hand : HandState)
    → JoinsWith before limits c (Ok hand) after
    → HasLimits before limits × JoinsAndTells before c (Ok hand) after
let_in before after limits c hand (inl so) = so
let_in before after limits c hand (inr refused) = absurd (let e = refused.1 in cc)

pub workers_join_by_steps : WorkersJoinBySteps
workers_join_by_steps old c limits worker joined here absent =
    let it = let_in joined.joins.0 joined.joins.1 limits c joined.hand joined.joins.3 in
    let same : limits_in old ≡ limits =
    ap (λ (s : StationState). s.dispatcher.server.limits) here ∙ it.0 in
    let joins : Joined old.station c (Ok joined.hand) it.1.0 =
    subst (λ (s : StationState). Joined s c (Ok joined.hand) it.1.0) (sym here) it.1.1 in
    let does = subst (λ (l : Bounds). steps.Does old (steps.Join c)
    (with_worker old it.1.0 c (Some (new_worker joined.hand l)))) same
    (joins_are_steps old c joined.hand it.1.0 absent joins) in (
      told_too old (with_worker old it.1.0 c (Some (new_worker joined.hand limits)))
          (steps.Join c) joined.joins.1 does it.1.2,
      all_are_steps c (new_worker joined.hand limits) joined.still.moves,
    )

pub workers_restart_by_steps : WorkersRestartBySteps
workers_restart_by_steps old c i worker next restarted here was same =
    let it = restarted.restarts.3 in
    let began : Restarted old.station worker.hand i (Ok restarted.hand) it.0 =
    subst (λ (s : StationState). Restarted s worker.hand i (Ok restarted.hand) it.0) (sym here)
    it.1 in
    let does = subst (λ (l : Bounds). steps.Does old (steps.Restart c i)
    (with_worker old it.0 c (Some (new_worker restarted.hand l)))) (sym same)
    (restarts_are_steps old c i worker restarted.hand it.0 was began) in (
      told_too old
          (with_worker old it.0 c (Some (new_worker restarted.hand worker.client.copies.limits)))
          (steps.Restart c i) restarted.restarts.1 does it.2,
      all_are_steps c (new_worker restarted.hand worker.client.copies.limits)
          restarted.still.moves,
    )

pub workers_leave_by_steps : WorkersLeaveBySteps
workers_leave_by_steps old c worker left here was =
    let it = left.3 in
    let leaves : Left old.station worker.hand (Ok tt) it.0 =
    subst (λ (s : StationState). Left s worker.hand (Ok tt) it.0) (sym here) it.1 in
    told_too old (with_worker old it.0 c None) (steps.Leave c) left.1
    (leaves_are_steps old c worker it.0 was leaves) it.2
