-- For which permissions a Downgrade is sent while an ask waits, and that it is sent once for each,
-- though an ask keeps the last one's tag alone. This project's rules.
use Rattle.std.specs.Prelude.{◌≡◌, ◌<◌, ◌≤◌, ℕ, List, ◌∷◌, ◌++◌, Some, None}
use Rattle.cb_protocol.specs.AnyMessages.{Input, input_steps}
use Rattle.cb_protocol.specs.AskLaws.{IsFirst}
use Rattle.cb_protocol.specs.Deadlock.{InputInRange, ReachedServer}
use Rattle.cb_protocol.specs.Messages.{Downgrade}
use Rattle.cb_protocol.specs.Numbers.{IsMessage}
use Rattle.cb_protocol.specs.Server.{MarkDowngradeSent, Send, Server, ServerStep, WaitingAsk}
use Rattle.cb_protocol.specs.Server.{after_server_step, server_after}
use Rattle.cb_protocol.specs.WaitsFor.{on_cycle}

-- the first ask for the page is to read, the client is the page's holder by that tag, each
-- Downgrade that was sent for the ask was of a smaller tag, and the ask keeps the note of this one
pub record DowngradeIsDue (server : Server) (client page current : ℕ) : Type 0 where
  pub first : WaitingAsk
  pub others : List WaitingAsk
  pub queue : server.queue page ≡ first ∷ others
  pub reads : first.write_grant ≡ None
  pub holder : server.store.holder page ≡ Some client
  pub tag : server.store.tag page ≡ current
  pub greater : (earlier : ℕ) → first.downgrade_sent ≡ Some earlier → earlier < current
  pub kept : (after_server_step server (MarkDowngradeSent page current)).queue page
      ≡ record first { downgrade_sent = Some current } ∷ others

-- A Downgrade that a message brings about is due, and is noted at once. So for an ask Downgrades
-- are of ever greater tags: of none twice.
abbrev pub DowngradesRise : Type 0
DowngradesRise = (server : Server) → ReachedServer server
    → (input : Input) → InputInRange server input → IsMessage input
    → (before after : List ServerStep) (client incarnation page grant tag : ℕ)
    → input_steps on_cycle server input
    ≡ before ++ Send client incarnation (Downgrade page grant tag) ∷ after
    → DowngradeIsDue (server_after server before) client page tag
    × ((more : List ServerStep) × (after ≡ MarkDowngradeSent page tag ∷ more))

-- While a read ask is first for a page, nobody becomes the page's write holder, and the tag of the
-- one who is only rises.
abbrev pub HolderStaysWhileReadWaits : Type 0
HolderStaysWhileReadWaits = (server : Server) → ReachedServer server
    → (input : Input) → InputInRange server input
    → (before after : List ServerStep) (step : ServerStep)
    → input_steps on_cycle server input ≡ before ++ step ∷ after
    → (page reader holder : ℕ) → let old = server_after server before in
    let new = after_server_step old step in IsFirst old page reader None
    → new.store.holder page ≡ Some holder
    → (old.store.holder page ≡ Some holder) × (old.store.tag page ≤ new.store.tag page)
