-- The limits of all lives at the present server, and the range of incarnations.
use Rattle.std.proofs.Common.{List, Option, [], arith, inl, refl, subst, ℕ, ◌+◌, ◌<◌, ◌∷◌, ◌≡◌}
use Rattle.cb_protocol.proofs.InvariantKept.{put_each}
use Rattle.cb_protocol.specs.Basics.{IsIn, Limits, max_number}
use Rattle.cb_protocol.specs.Lives.{CommitWelcomed}
use Rattle.cb_protocol.specs.LivesWorld.{LeadsTo, Lives, LivesEvent, Reaches, ServerRestarts, WithinLife, first_life, lives_step}
use Rattle.cb_protocol.specs.Ranges.{IsNumber}
use Rattle.cb_protocol.specs.Flush.{server_flush}
use Rattle.cb_protocol.specs.Resend.{server_again}
use Rattle.cb_protocol.specs.ServerMessages.{server_take}
use Rattle.cb_protocol.specs.Server.{AppliedCommit, DeadlockTest, Server, ServerStep, after_server_step, server_after}
use Rattle.cb_protocol.specs.World.{Event, Opening, World, step}
use Rattle.cb_protocol.proofs.LivesProof.{promised, stands_along, stands_first}
use Rattle.cb_laws.proofs.EventTurns.{by_turns}
use Rattle.cb_laws.specs.LifeLaws.{FloorsInRange, IncarnationsStayInRange}
use Rattle.cb_laws.specs.LivesEvents.{HasLimits, ServersHaveLimits}

-- no step of a server changes them
limits_step : (L : Limits) (s : Server) (d : ServerStep) → HasLimits L s → HasLimits L (after_server_step s d)
limits_step L s d h = grind (arith, h)

limits_steps : (L : Limits) (s : Server) (ds : List ServerStep) → HasLimits L s → HasLimits L (server_after s ds)
limits_steps L s [] h = h
limits_steps L s (d ∷ ds) h = limits_steps L (after_server_step s d) ds (limits_step L s d h)

-- of the world of one life
pub record Sized (L : Limits) (v : World) : Type 0 where
  pub server : HasLimits L v.server
  pub incarnation : (c : ℕ) → IsNumber (v.incarnation c)

sized_event : (L : Limits) (cycle : DeadlockTest) (v : World) (e : Event) (let_go : Option ℕ) → Sized L v → Sized L (step L cycle v e let_go).world
sized_event L cycle v e let_go h = by_turns L cycle v e let_go (λ e u. Sized L u) (record {
  answered = λ e word. record { server = h.server; incarnation = h.incarnation };
  called = λ c x l. record { server = h.server; incarnation = h.incarnation };
  taken = λ n f i d s. record { server = h.server; incarnation = h.incarnation };
  served = λ n f i d. record { server = limits_steps L v.server (server_take cycle v.server f.client f.incarnation f.body) h.server; incarnation = h.incarnation };
  again = record { server = limits_steps L v.server (server_again v.server) h.server; incarnation = h.incarnation };
  flushed = λ e n f. record { server = limits_steps L v.server (server_flush v.server n) h.server; incarnation = h.incarnation };
  restarted = λ c l b. record { server = h.server; incarnation = put_each (λ d i. IsNumber i) v.incarnation c (v.incarnation c + 1) (omega arith, omega (arith, b)) (λ d ne. h.incarnation d) };
})

sized_step : (L : Limits) (cycle : DeadlockTest) (lives : Lives) (e : LivesEvent) (let_go : Option ℕ) → Sized L lives.world → Sized L (lives_step L cycle lives e let_go).world
sized_step L cycle lives (WithinLife e) let_go h = sized_event L cycle lives.world e let_go h
sized_step L cycle lives (ServerRestarts floor n) let_go h = record { server = record { clients = refl; pages = refl; keep_write = refl }; incarnation = h.incarnation }

sized_along : (L : Limits) (cycle : DeadlockTest) (es : List LivesEvent) (lives after : Lives) → LeadsTo L cycle lives es after → Sized L lives.world → Sized L after.world
sized_along L cycle [] lives after p h = subst (λ (x : Lives). Sized L x.world) p h
sized_along L cycle (e ∷ es) lives after p h = sized_along L cycle es (lives_step L cycle lives e p.0) after p.2 (sized_step L cycle lives e p.0 h)

pub sized_reached : (L : Limits) (cycle : DeadlockTest) (o : Opening) (es : List LivesEvent) (lives : Lives) → Reaches L cycle o es lives → Sized L lives.world
sized_reached L cycle o es lives p = sized_along L cycle es (first_life L o) lives p (record { server = record { clients = refl; pages = refl; keep_write = refl }; incarnation = λ c. (omega arith, omega arith) })

pub servers_have_limits : (L : Limits) (cycle : DeadlockTest) → ServersHaveLimits L cycle
servers_have_limits L cycle o es lives s p = (sized_reached L cycle o es lives p).server

-- no commit where each would be of an incarnation that nobody can have
none_made : (floor : ℕ) (lives : Lives) (xs : List AppliedCommit) → ((x : AppliedCommit) → IsIn x xs → CommitWelcomed lives x) → ((c : ℕ) → lives.world.incarnation c < lives.floor) → xs ≡ []
none_made floor lives [] f b = refl
none_made floor lives (x ∷ xs) f b = absurd (let w = f x (inl refl) in let l = b x.client in let k = w.of_life in let j = w.come in omega (arith, l, k, j))

pub incarnations_in_range : (L : Limits) (cycle : DeadlockTest) → IncarnationsStayInRange L cycle
incarnations_in_range L cycle o es lives s p = record {
  numbers = h.incarnation;
  nobody = λ l. (below l, none_made lives.floor lives lives.world.server.commits (promised L o lives (stands_along L cycle o es (first_life L o) lives p (stands_first L o s))).welcomed.commits (below l));
}
  where
    h : Sized L lives.world
    h = sized_reached L cycle o es lives p

    below : max_number < lives.floor → (c : ℕ) → lives.world.incarnation c < lives.floor
    below l c = let k = (h.incarnation c).1 in omega (arith, l, k)

pub floors_in_range : FloorsInRange
floors_in_range = record { within = λ n a b. (omega (arith, a), omega (arith, b)); beyond = λ n a. omega (arith, a) }
