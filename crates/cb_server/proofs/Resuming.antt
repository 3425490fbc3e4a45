-- A server of a new life is one that has taken a Hello of its floor from each client.
use Rattle.std.proofs.Common.{◌≡◌, ℕ, ◌+◌, ◌≤◌, ap, ◌∙◌, sym}
use Rattle.cb_commit.specs.Stores.{StoreState}
use Rattle.cb_laws.proofs.LifeBegins.{greeted, greets_alone, none_greeted}
use Rattle.cb_page.specs.Bounds.{Bounds}
use Rattle.cb_protocol.specs.AnyMessages.{MessageComes, input_steps}
use Rattle.cb_protocol.specs.Messages.{Hello}
use Rattle.cb_protocol.specs.Server.{Server, server_after}
use Rattle.cb_protocol.specs.WaitsFor.{on_cycle}
use Rattle.cb_server_state.specs.States.{limits_of, opening_of}
use Rattle.cb_server.specs.ServerValue.{IsNew, IsResumed, ServerValue, commits_of, server_of}
use Rattle.cb_server.specs.Taking.{Greets}

-- It has taken a Hello of the floor from the clients below n.
pub record HasGreeted (limits : Bounds) (store : StoreState) (floor n : ℕ) (value : ServerValue) : Type 0 where
  pub limits_are : value.limits ≡ limits
  pub opening : (commits_of value).opening ≡ store
  pub forgotten : (commits_of value).forgotten ≡ 0
  pub server : server_of value ≡ greeted (limits_of limits) (opening_of store) floor n

pub greets_none : (limits : Bounds) (store : StoreState) (floor : ℕ) (value : ServerValue) → IsNew limits store value → HasGreeted limits store floor 0 value
greets_none limits store floor value new = record {
  limits_are = new.limits;
  opening = ap (λ c. c.opening) new.commits;
  forgotten = ap (λ c. c.forgotten) new.commits;
  server = new.server ∙ sym (none_greeted (limits_of limits) (opening_of store) floor);
}

pub greets_next : (limits : Bounds) (store : StoreState) (floor n : ℕ) (old new : ServerValue) → 1 ≤ floor → HasGreeted limits store floor n old → Greets old n floor new
    → HasGreeted limits store floor (n + 1) new
greets_next limits store floor n old new l has greets = record {
  limits_are = greets.1.limits ∙ has.limits_are;
  opening = greets.1.opening ∙ has.opening;
  forgotten = greets.1.forgotten ∙ has.forgotten;
  server = greets.1.becomes ∙ ap (λ (s : Server). server_after s (input_steps on_cycle s (MessageComes n floor Hello))) has.server
      ∙ greets_alone (limits_of limits) on_cycle (opening_of store) floor n l;
}

pub greets_all : (limits : Bounds) (store : StoreState) (floor : ℕ) (value : ServerValue) → HasGreeted limits store floor limits.clients value → IsResumed limits store floor value
greets_all limits store floor value has = record { limits = has.limits_are; opening = has.opening; forgotten = has.forgotten; server = has.server }
