-- What holds of a machine and is kept by its steps holds along every run of the world.
use Rattle.std.proofs.Common.{List, [], subst, ◌∷◌}
use Rattle.cb_protocol.proofs.Invariant.{Invariant}
use Rattle.cb_protocol.proofs.LifeEvents.{event_follows, image_first, one_life}
use Rattle.cb_protocol.proofs.LifeImage.{Follows, Image}
use Rattle.cb_protocol.proofs.Machine.{Machine, MachineMay, MachineMayRun, MachineStep, happens, run, start}
use Rattle.cb_protocol.proofs.MachineSteps.{safe_happens}
use Rattle.cb_protocol.specs.Basics.{Limits}
use Rattle.cb_protocol.specs.Headline.{SoundOpening}
use Rattle.cb_protocol.specs.Server.{DeadlockTest}
use Rattle.cb_protocol.specs.World.{Answer, Becomes, Event, Moment, Opening, Plays, ReachedWorld, StepResult, World, new_world, world_after}

-- the world is the image of a machine, in the one life of its server
abbrev pub IsImage : Limits → Opening → World → Machine → Type 0
IsImage L o v w = Image L (one_life o) v w

becomes_follows : (L : Limits) (cycle : DeadlockTest) (o : Opening) (v : World) (w : Machine) (e : Event) (a : Answer) (u : World) → IsImage L o v w → Becomes L cycle v e a u → Follows L (one_life o) w u
becomes_follows L cycle o v w e a u m b = subst (λ (x : StepResult). Follows L (one_life o) w x.world) b.2 (event_follows L cycle (one_life o) v w e b.0 m b.1)

-- each allowed step of a machine keeps it
abbrev pub Keeps : (Machine → Type 0) → Type 0
Keeps P = (w : Machine) (e : MachineStep) → Invariant w → MachineMay w e → P w → P (happens w e)

kept_by_run : (P : Machine → Type 0) → Keeps P → (es : List MachineStep) (w : Machine) → Invariant w → MachineMayRun es w → P w → P (run es w)
kept_by_run P k [] w h a p = p
kept_by_run P k (e ∷ es) w h a p = kept_by_run P k es (happens w e) (safe_happens w e h a.0) a.1 (k w e h a.0 p)

-- The world is the image of a machine of which it holds.
abbrev pub ImageOfSome : Limits → Opening → (Machine → Type 0) → World → Type 0
ImageOfSome L o P v = (w : Machine) × IsImage L o v w × P w

-- what a machine's steps keep, a run of the world keeps
pub kept_along : (L : Limits) (cycle : DeadlockTest) (o : Opening) (P : Machine → Type 0) → Keeps P → (v : World) (ms : List Moment) → ImageOfSome L o P v → Plays L cycle v ms → ImageOfSome L o P (world_after v ms)
kept_along L cycle o P k v [] r p = r
kept_along L cycle o P k v (m ∷ ms) r p =
    let f : Follows L (one_life o) r.0 m.world = becomes_follows L cycle o v r.0 m.event m.answer m.world r.1 p.0 in
    kept_along L cycle o P k m.world ms (run f.steps r.0, f.image, kept_by_run P k f.steps r.0 r.1.safe f.allowed r.2) p.1

-- so it holds of each world that is reached
pub image_of_reached : (L : Limits) (cycle : DeadlockTest) (o : Opening) (P : Machine → Type 0) → Keeps P → P (start L o) → (v : World) → SoundOpening o → ReachedWorld L cycle o v → ImageOfSome L o P v
image_of_reached L cycle o P k p v s r =
    let first : ImageOfSome L o P (new_world L o) = (start L o, image_first L o s, p) in
    subst (λ (x : World). ImageOfSome L o P x) r.2 (kept_along L cycle o P k (new_world L o) r.0 first r.1)
