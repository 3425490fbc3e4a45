-- Each law by itself, from the whole promise; and what is reached, one step after another.
use Rattle.std.proofs.Common.{List, [], refl, ◌++◌, ◌∷◌, ◌≡◌}
use Rattle.cb_protocol.specs.Basics.{Limits}
use Rattle.cb_protocol.specs.Server.{DeadlockTest}
use Rattle.cb_protocol.proofs.HeadlineProof.{headline}
use Rattle.cb_protocol.specs.Headline.{Promise}
use Rattle.cb_protocol.specs.Laws.{Always, CommittedAlwaysSerial, CopiesAlwaysAgree, CopiesAlwaysBacked, DirectoryAlwaysKept, DonesAlwaysNameCommits, DonesAlwaysOnDisk, EachCommitsOnce, WriterAlwaysAlone}
use Rattle.cb_protocol.specs.World.{Answer, Becomes, Event, Moment, Opening, Plays, ReachedWorld, World, new_world, world_after}

always : (P : Opening → World → Type 0) → ((o : Opening) (w : World) → Promise o w → P o w) → Always P
always P f L cycle o w s r = f o w (headline L cycle o w s r)

pub copies_agree : CopiesAlwaysAgree
copies_agree = always _ (λ o w p. p.agree)

pub writer_alone : WriterAlwaysAlone
writer_alone = always _ (λ o w p. p.alone)

pub committed_serial : CommittedAlwaysSerial
committed_serial = always _ (λ o w p. p.serial)

pub commits_once : EachCommitsOnce
commits_once = always _ (λ o w p. p.once)

pub dones_name_commits : DonesAlwaysNameCommits
dones_name_commits = always _ (λ o w p. p.dones)

pub dones_on_disk : DonesAlwaysOnDisk
dones_on_disk = always _ (λ o w p. p.disk)

pub directory_kept : DirectoryAlwaysKept
directory_kept = always _ (λ o w p. p.directory)

pub copies_backed : CopiesAlwaysBacked
copies_backed = always _ (λ o w p. p.backed)

-- the opening world is reached
pub reached_opening : (L : Limits) (cycle : DeadlockTest) (o : Opening) → ReachedWorld L cycle o (new_world L o)
reached_opening L cycle o = ([], tt, refl)

one_more : (L : Limits) (cycle : DeadlockTest) (w : World) (ms : List Moment) (e : Event) (a : Answer) (v : World) → Plays L cycle w ms → Becomes L cycle (world_after w ms) e a v → Plays L cycle w (ms ++ record { event = e; answer = a; world = v } ∷ [])
one_more L cycle w [] e a v p b = (b, tt)
one_more L cycle w (m ∷ ms) e a v p b = (p.0, one_more L cycle m.world ms e a v p.1 b)

ends_there : (w : World) (ms : List Moment) (m : Moment) → world_after w (ms ++ m ∷ []) ≡ m.world
ends_there w [] m = refl
ends_there w (n ∷ ms) m = ends_there n.world ms m

-- and what a world that is reached becomes
pub reached_step : (L : Limits) (cycle : DeadlockTest) (o : Opening) (w : World) (e : Event) (a : Answer) (v : World) → ReachedWorld L cycle o w → Becomes L cycle w e a v → ReachedWorld L cycle o v
reached_step L cycle o w e a v r b = (
  r.0 ++ record { event = e; answer = a; world = v } ∷ [],
  one_more L cycle (new_world L o) r.0 e a v r.1 (rw r.2 b),
  ends_there (new_world L o) r.0 (record { event = e; answer = a; world = v }),
)
