-- The invariant is kept.
use Rattle.std.proofs.Common.{◌≡◌, ℕ, ◌<◌, ◌≤◌, true, List, sym, subst, arith}
use Rattle.std.proofs.lemmas.Bool.Decides.{nat_tests}
use Rattle.cb_callbacks.specs.Callbacks.{AreCallbacks}
use Rattle.cb_callbacks.specs.Leaving.{FollowsLeft}
use Rattle.cb_server_state.specs.States.{PartsAgree, HasClient, server_of}
use Rattle.cb_server_state.specs.Waits.{HasBegun, Waits}
use Rattle.cb_server_state.specs.declared.server_state.ServerState.{ServerState}
use Rattle.cb_callbacks.proofs.Left.{Left, follows_left, waits_left}
use Rattle.cb_callbacks.proofs.Queues.{finds, listed_first}
use Rattle.cb_asks.specs.Asks.{queue_at}
use Rattle.cb_callbacks.specs.Deciding.{IsFirst}
use Rattle.cb_protocol.specs.Server.{Server, ServerStep, WaitingAsk, has_ask, server_after}
use Rattle.cb_waits.specs.Graph.{Edges}

-- an ask of a client left the page
pub kept_left : (before : ServerState) (view : Edges) (after : ServerState) (follows : Edges) (client page : ℕ) (steps : List ServerStep)
    → AreCallbacks (record { state = before; view = view })
    → has_ask client ((server_of before).queue page) ≡ true → PartsAgree after
    → server_of after ≡ server_after (server_of before) steps → Left client page (server_of before) (server_after (server_of before) steps)
    → FollowsLeft view (server_of after) client page follows → AreCallbacks (record { state = after; view = follows })
kept_left before view after follows client page steps kept here agree becomes left_steps followed =
    let range = kept.waits.in_range page client (finds client ((server_of before).queue page) here) in
    let left : Left client page (server_of before) (server_of after) = subst (λ (s : Server). Left client page (server_of before) s) (sym becomes) left_steps in
    let waits = waits_left client page (server_of before) (server_of after) kept.waits range.0 (kept.waits.greeted client page here) left in
    record {
      agree = agree;
      waits = waits;
      follows = follows_left client page (server_of before) (server_of after) view follows waits (subst (λ (n : ℕ). page < n) (sym left.same.pages) range.1) left kept.follows followed;
      few = subst (λ (n : ℕ). n ≤ 32) (sym left.same.clients) kept.few;
    }

-- who waits is a client, with a transaction
pub known : (state : ServerState) (client page : ℕ) → Waits (server_of state) → has_ask client ((server_of state).queue page) ≡ true → HasClient state client
known state client page waits here = (waits.in_range page client (finds client ((server_of state).queue page) here)).0

pub begun : (state : ServerState) (client page : ℕ) → Waits (server_of state) → has_ask client ((server_of state).queue page) ≡ true → HasBegun (server_of state) client
begun state client page waits here = let live = waits.live client page here in grind (arith, nat_tests, live)

-- so is the client of a first ask
pub first_known : (state : ServerState) (page : ℕ) (ask : WaitingAsk) → Waits (server_of state) → IsFirst state page ask → HasClient state ask.client
first_known state page ask waits first = known state ask.client page waits (listed_first (queue_at state.asks page) ask _ first)
