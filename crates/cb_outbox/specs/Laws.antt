-- How what the server says composes. This project's rules.
use Rattle.std.specs.Prelude.{ℕ, ◌+◌, Bool, true, false, List, [], ◌++◌}
use Rattle.cb_protocol.specs.Server.{DeadlockTest, Server, ServerStep}
use Rattle.cb_protocol.specs.ServerMessages.{and_then}
use Rattle.cb_protocol.specs.Settling.{decide, settle_page, wait_or_doom}
use Rattle.cb_outbox.specs.Saying.{Decides, HasRoomFor, OutboxState, Says}

-- one list of steps after another
abbrev pub CarriesOn : Type 0
CarriesOn = (before middle after : Server) (first next : Server → List ServerStep)
    (old half new : OutboxState)
    → Says before first middle old half → Says middle next after half new
    → Says before (λ server. and_then server (first server) next) after old new

-- steps for an ask that can't be met, and then the deadlock test, are one decision
abbrev pub TestedAfter : Type 0
TestedAfter = (cycle : DeadlockTest) (before middle after : Server)
    (steps : Server → List ServerStep) (client : ℕ) (more : Bool) (old half new : OutboxState)
    → Says before steps middle old half
    → Decides middle (λ server. wait_or_doom cycle server client []) after more half new
    → Decides before (λ server. wait_or_doom cycle server client (steps server)) after more old new

-- the last decision on a page settles it
abbrev pub StopsSettling : Type 0
StopsSettling = (cycle : DeadlockTest) (before after : Server) (most page : ℕ)
    (old new : OutboxState)
    → Decides before (λ server. decide cycle server page (server.queue page)) after false old new
    → Says before (λ server. settle_page cycle (most + 1) server page) after old new

-- a decision that goes on is followed by the next
abbrev pub GoesOnSettling : Type 0
GoesOnSettling = (cycle : DeadlockTest) (before middle after : Server) (most page : ℕ)
    (old half new : OutboxState)
    → Decides before (λ server. decide cycle server page (server.queue page)) middle true old half
    → Says middle (λ server. settle_page cycle most server page) after half new
    → Says before (λ server. settle_page cycle (most + 1) server page) after old new

-- Room for steps and others after them is room for the first, and when those are done for the
-- others.
pub record RoomIsLeft (before after : Server) (steps : Server → List ServerStep)
    (others : List ServerStep) (old new : OutboxState) : Type 0 where
  pub first : HasRoomFor (steps before ++ others) old → HasRoomFor (steps before) old
  pub next : HasRoomFor (steps before ++ others) old → Says before steps after old new
      → HasRoomFor others new
