-- A new client, and that a client is still reached after a call or a message.
use Rattle.std.proofs.Common.{◌≡◌, ◌<◌, ℕ, false, true≢false, List, [], replicate, slice_index_or, zero, suc, None, unwrap_or, refl, subst, sym, ◌∙◌, ap}
use Rattle.std.proofs.lemmas.List.{length-replicate}
use Rattle.std.specs.Option.{is_some}
use Rattle.cb_page.specs.Bounds.{Bounds}
use Rattle.cb_page.specs.Numbers.{IsNumber}
use Rattle.cb_cache.specs.CacheState.{limits_of}
use Rattle.cb_cache.specs.Rows.{no_copy}
use Rattle.cb_cache.specs.declared.table.PageCopy.{PageCopy}
use Rattle.cb_locks.specs.Dues.{is_due}
use Rattle.cb_locks.specs.Dues.{nothing_due}
use Rattle.cb_protocol.specs.Client.{Client, new_client}
use Rattle.cb_protocol.specs.ClientAlone.{Arises, Continues, ReceivesCall, ReceivesMessage, StartsNew}
use Rattle.cb_protocol.specs.ClientCalls.{Call}
use Rattle.cb_protocol.specs.Messages.{Body}
use Rattle.cb_protocol.specs.Ranges.{BodyFits, InputFits}
use Rattle.cb_protocol.specs.Serial.{Operation}
use Rattle.cb_client_core.specs.ClientState.{ClientState, IsClient, IsReached, client_of, downgrade_of, new_state}
use Rattle.cb_client_core.specs.ByTable.{Calls, Takes, limits_at}

-- a list of one value has it everywhere, also past the end
default_everywhere : {A : Type 0} (n q : ℕ) (a : A) → slice_index_or (replicate n a) q a ≡ a
default_everywhere zero q a = refl
default_everywhere (suc n) zero a = refl
default_everywhere (suc n) (suc q) a = default_everywhere n q a

-- it has no copies and no locks
pub starts : (number incarnation : ℕ) (limits : Bounds) → client_of (new_state number incarnation limits) [] ≡ new_client
starts number incarnation limits = λ i. record new_client {
  cache = record new_client.cache {
    seen = λ q. unwrap_or (default_everywhere limits.pages q no_copy i).seen 0;
    held = λ q. (default_everywhere limits.pages q no_copy i).held;
    version = λ q. (default_everywhere limits.pages q no_copy i).version;
    tag = λ q. unwrap_or (default_everywhere limits.pages q no_copy i).tag 0;
    content = λ q. default_everywhere limits.pages q None i;
    may_write = λ q. default_everywhere limits.pages q false i;
    wrote = λ q. default_everywhere limits.pages q false i;
    locked = λ q. default_everywhere limits.pages q false i;
  };
  wanted = λ q. default_everywhere limits.pages q false i;
  due = λ q. is_some (default_everywhere limits.pages q nothing_due i).callback;
  due_downgrade = λ q. downgrade_of (default_everywhere limits.pages q nothing_due i).downgrade;
}

pub starts_sound : (number incarnation : ℕ) (limits : Bounds) → number < limits.clients → IsNumber incarnation → IsClient (new_state number incarnation limits)
starts_sound number incarnation limits lt is = record {
  no = lt;
  incarnation = is;
  locked = length-replicate limits.pages false;
  dues = length-replicate limits.pages nothing_due;
  same_client = refl;
  same_incarnation = refl;
  same_txn = refl;
  due_held = λ q. rw (default_everywhere limits.pages q nothing_due) tt;
  due_locked = λ q e. absurd (true≢false (sym e ∙ ap is_due (default_everywhere limits.pages q nothing_due)));
  bare_locked = λ q e n. absurd (true≢false (sym e ∙ ap (λ (x : PageCopy). is_some x.held) (default_everywhere limits.pages q no_copy)));
  room = λ q e other. absurd cc;
  reached = record {
    operations = [];
    arises = subst (λ (k : Client). Arises (limits_of limits) (InputFits (limits_of limits)) k) (sym (starts number incarnation limits)) StartsNew;
  };
}

-- what is reached once the limits are known to be the same
same_limits : (v w : ClientState) (operations : List Operation) → w.copies.limits ≡ v.copies.limits
    → Arises (limits_at v) (InputFits (limits_at v)) (client_of w operations) → IsReached w
same_limits v w operations e a = record {
  operations = operations;
  arises = subst (λ (b : Bounds). Arises (limits_of b) (InputFits (limits_of b)) (client_of w operations)) (sym e) a;
}

-- by a call
pub calls_reach : (v w : ClientState) (call : Call) {word : _} {said : _} {history : _} → Calls v call word said history w → IsReached v → IsReached w
calls_reach v w call {word} {said} {history} c r =
    same_limits v w (history r.operations) c.makes.limits
    (subst (λ (k : Client). Arises (limits_at v) (InputFits (limits_at v)) k) (c.makes.after r.operations)
    (Continues (client_of v r.operations) (ReceivesCall call) r.arises tt tt))

-- by a message that fits
pub takes_reach : (v w : ClientState) (message : Body) {said : _} → Takes v message said w → BodyFits (limits_at v) message → IsReached v → IsReached w
takes_reach v w message t fits r =
    same_limits v w (t.history r.operations) t.makes.limits
    (subst (λ (k : Client). Arises (limits_at v) (InputFits (limits_at v)) k) (t.makes.after r.operations)
    (Continues (client_of v r.operations) (ReceivesMessage message t.let_go) r.arises (t.allowed r.operations) fits))
