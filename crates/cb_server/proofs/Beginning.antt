-- What a transaction that begins leaves of the engine.
use Rattle.std.proofs.Common.{◌≡◌, ℕ, ◌<◌, nat_lt, Bool, true, false, if◌then◌else◌, [], Option, length, refl, sym, ap, ◌∙◌, subst, arith}
use Rattle.cb_callbacks.proofs.Lacking.{rows_stay}
use Rattle.cb_callbacks.proofs.Standing.{begins_later, begun_session}
use Rattle.cb_links.specs.declared.sessions.Standing.{Standing}
use Rattle.cb_outbox.specs.Saying.{OutboxState}
use Rattle.cb_protocol.specs.Server.{Server, server_after}
use Rattle.cb_protocol.specs.ServerMessages.{begin_transaction}
use Rattle.cb_protocol.specs.Session.{Session}
use Rattle.cb_server_state.specs.Questions.{IsLastIfLive, standing_in}
use Rattle.cb_server_state.specs.States.{Does, server_of}
use Rattle.cb_server_state.specs.declared.server_state.ServerState.{ServerState}
use Rattle.cb_server.specs.Answering.{Begins, CanGrant, CanSay, IsCurrent, IsStanding, server_in}
use Rattle.cb_server.specs.declared.engine.Engine.{Engine}
use Rattle.cb_server.proofs.Making.{changes_make, makes_as, makes_nothing}

-- so the transaction stands in an engine that has this state
pub stands_in : (e : Engine) (v : ServerState) (c t : ℕ) (x : Standing) → v ≡ e.callbacks.state → x ≡ standing_in (server_of v) c t
    → IsLastIfLive x (server_of v) c t → IsStanding e c t x
stands_in e v c t x same is last = record {
  is = is ∙ ap (λ (k : ServerState). standing_in (server_of k) c t) same;
  last = subst (λ (k : ServerState). IsLastIfLive x (server_of k) c t) same last;
}

-- and where nothing but room has changed
pub stands_left : (old mid : Engine) (c t : ℕ) (x : Standing) → server_in mid ≡ server_in old → IsStanding old c t x → IsStanding mid c t x
stands_left old mid c t x same stands = record {
  is = stands.is ∙ sym (ap (λ (s : Server). standing_in s c t) same);
  last = subst (λ (s : Server). IsLastIfLive x s c t) (sym same) stands.last;
}

-- what beginning keeps
pub begins_by : (old new : Engine) (c t : ℕ) → begin_transaction (server_in old) c t ≡ begins_later c t
    → Does old.callbacks.state (begins_later c t) new.callbacks.state → new.outbox ≡ old.outbox → Begins old c t new
begins_by old new c t e changes o = record {
  makes = makes_as old new (λ s. begin_transaction s c t) (λ s. begins_later c t) e (changes_make old new (begins_later c t) changes o refl refl);
  outbox = o;
  places = changes.room;
}

pub begins_nothing : (e : Engine) (c t : ℕ) → begin_transaction (server_in e) c t ≡ [] → Begins e c t e
begins_nothing e c t is = record {
  makes = makes_as e e (λ s. begin_transaction s c t) (λ s. []) is (makes_nothing e);
  outbox = refl;
  places = λ page. omega arith;
}

pub says_after_begin : (old new : Engine) (c t : ℕ) → Begins old c t new → CanSay old → CanSay new
says_after_begin old new c t b can = record { frames = subst (λ (o : OutboxState). length o.sent < o.room) (sym b.outbox) can.frames }

pub grants_after_begin : (old new : Engine) (c t : ℕ) → Begins old c t new → CanGrant old → CanGrant new
grants_after_begin old new c t b can = record {
  say = says_after_begin old new c t b can.say;
  copy = subst (λ (o : OutboxState). 0 < o.spare) (sym b.outbox) can.copy;
  size = ap (λ (o : OutboxState). o.page_size) b.outbox ∙ can.size ∙ sym b.makes.stays.page_size;
}

current_after : (s : Server) (c t : ℕ) → ((server_after s (begin_transaction s c t)).session c).current ≡ (s.session c).current
current_after s c t = go (nat_lt (s.session c).txn t)
  where
    go : (r : Bool) → ((server_after s (if r then begins_later c t else [])).session c).current ≡ (s.session c).current
    go true = ap (λ (k : Session). k.current) (begun_session s c t)
    go false = refl

pub current_begun : (old new : Engine) (c t i : ℕ) → Begins old c t new → IsCurrent old c i → IsCurrent new c i
current_begun old new c t i b is = is ∙ sym (ap (λ (s : Server). (s.session c).current) b.makes.says.becomes ∙ current_after (server_in old) c t)

pub current_reserved : (old res : Engine) (c i : ℕ) → server_in res ≡ server_in old → IsCurrent old c i → IsCurrent res c i
current_reserved old res c i e is = is ∙ sym (ap (λ (s : Server). (s.session c).current) e)

-- so the client's row is in an engine that has this state
pub row_in : (e : Engine) (v : ServerState) (c p : ℕ) (row : Option ℕ) → v ≡ e.callbacks.state → row ≡ ((server_of v).session c).row p → row ≡ ((server_in e).session c).row p
row_in e v c p row same is = is ∙ ap (λ (k : ServerState). ((server_of k).session c).row p) same

-- the client's row of a page stays, where nothing but room has changed and once a transaction has begun
pub row_left : (old res : Engine) (c p : ℕ) (row : Option ℕ) → server_in res ≡ server_in old → row ≡ ((server_in old).session c).row p → row ≡ ((server_in res).session c).row p
row_left old res c p row e is = is ∙ sym (ap (λ (s : Server). (s.session c).row p) e)

pub row_begun : (old new : Engine) (c t p : ℕ) (row : Option ℕ) → Begins old c t new → row ≡ ((server_in old).session c).row p → row ≡ ((server_in new).session c).row p
row_begun old new c t p row b is = is ∙ sym (ap (λ (s : Server). (s.session c).row p) b.makes.says.becomes ∙ rows_stay (server_in old) c t p)
