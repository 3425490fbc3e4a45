-- A page changes, and no ask leaves.
use Rattle.std.proofs.Common.{◌≡◌, ◌≢◌, ℕ, ◌<◌, ◌≤◌, Bool, true, false, ◌==◌, if◌then◌else◌, List, [], ◌∷◌, ◌++◌, Option, Some, None, refl, sym, ap, ◌∙◌, subst, arith, inl, inr}
use Rattle.std.proofs.lemmas.Bool.{cases_eq}
use Rattle.std.proofs.lemmas.Bool.Decides.{nat_tests}
use Rattle.cb_asks.specs.Asks.{AsksState, Has, queue_at}
use Rattle.cb_asks.specs.Marks.{HasMarks, MarksState, is_in_use}
use Rattle.cb_callbacks.specs.Callbacks.{AreCallbacks}
use Rattle.cb_callbacks.specs.Following.{FollowsPage}
use Rattle.cb_server_state.specs.Granting.{grant_copy}
use Rattle.cb_server_state.specs.States.{Does, PartsAgree, server_of}
use Rattle.cb_server_state.specs.Waits.{HasBegun, IsGreeted, Waits}
use Rattle.cb_server_state.specs.declared.server_state.ServerState.{ServerState}
use Rattle.cb_server_state.proofs.Changes.{agree_asks, marked, queued}
use Rattle.cb_callbacks.proofs.Left.{Elsewhere, edges_same, field_same}
use Rattle.cb_callbacks.proofs.Queues.{Placed, each_place, placed}
use Rattle.cb_protocol.proofs.SettlingClears.{put_other, put_there}
use Rattle.cb_protocol.specs.Basics.{is_none, update}
use Rattle.cb_protocol.specs.Server.{ChangeSession, MarkInUse, Server, ServerStep, UnmarkInUse, WaitingAsk, has_ask, server_after, set_in_use}
use Rattle.cb_protocol.specs.Session.{EndPermission, RemoveRow, Session, has_live_txn, without_holder, without_holder_at}
use Rattle.cb_protocol.specs.Settling.{give_permission}
use Rattle.cb_protocol.specs.WaitsFor.{waits_for}
use Rattle.cb_waits.proofs.Rows.{edges_of_ask}
use Rattle.cb_waits.specs.Follows.{Follows}
use Rattle.cb_waits.specs.Graph.{Edges, waits}

-- Only the page changed, and nobody has left its queue.
pub record AtPage (page : ℕ) (s t : Server) : Type 0 where
  pub same : Elsewhere page s t
  pub waits : Waits t
  pub kept : (other : ℕ) → has_ask other (t.queue page) ≡ false → has_ask other (s.queue page) ≡ false

pub follows_page : (page : ℕ) (s t : Server) (v w : Edges) → page < t.pages → AtPage page s t → Follows v s → FollowsPage v t page w → Follows w t
follows_page page s t v w lt a old f waiting other = go (has_ask waiting (t.queue page)) refl
  where
    here : Placed waiting (t.queue page) → waits w waiting other ≡ waits_for t waiting other
    here p = subst (λ (n : ℕ). waits w n other ≡ waits_for t n other) p.own
        (f.asks p.front p.back p.ask p.is p.last other ∙ sym (edges_of_ask t a.waits.one_ask page lt p.front p.back p.ask p.is other))

    go : (b : Bool) → has_ask waiting (t.queue page) ≡ b → waits w waiting other ≡ waits_for t waiting other
    go true is = here (placed waiting (t.queue page) is)
    go false is = f.rest waiting other is ∙ old waiting other ∙ sym (edges_same page s t a.same waiting other (a.kept waiting is) is)

-- the invariant is kept
pub kept_page : (before : ServerState) (view : Edges) (after : ServerState) (follows : Edges) (page : ℕ) (steps : List ServerStep)
    → AreCallbacks (record { state = before; view = view }) → page < (server_of before).pages → PartsAgree after
    → server_of after ≡ server_after (server_of before) steps → AtPage page (server_of before) (server_after (server_of before) steps)
    → FollowsPage view (server_of after) page follows → AreCallbacks (record { state = after; view = follows })
kept_page before view after follows page steps kept lt agree becomes changes followed =
    let at : AtPage page (server_of before) (server_of after) = subst (λ (s : Server). AtPage page (server_of before) s) (sym becomes) changes in
    record {
      agree = agree;
      waits = at.waits;
      follows = follows_page page (server_of before) (server_of after) view follows (subst (λ (n : ℕ). page < n) (sym at.same.pages) lt) at kept.follows followed;
      few = subst (λ (n : ℕ). n ≤ 32) (sym at.same.clients) kept.few;
    }

-- a mark is set or taken off
mark_other : (marks : ℕ → ℕ → Bool) (client page : ℕ) (marked : Bool) (other at : ℕ) → at ≢ page → set_in_use marks client page marked other at ≡ marks other at
mark_other marks client page marked other at ne = grind (arith, nat_tests)

pub marks_at : (client page : ℕ) (s : Server) → Waits s → AtPage page s (server_after s (MarkInUse client page ∷ []))
marks_at client page s w = record {
  same = record {
    queues = λ at ne. refl;
    writers = λ at ne. refl;
    tags = λ at ne. refl;
    marks = λ other at ne. mark_other s.in_use client page true other at ne;
    txns = λ other. refl;
    ends = λ other. refl;
    clients = refl;
    pages = refl;
  };
  waits = record { one_ask = w.one_ask; in_range = w.in_range; live = w.live; greeted = w.greeted; rows = w.rows; doomed = w.doomed; tagged = w.tagged };
  kept = λ other e. e;
}

-- a client that is no write holder any more
pub none_left : (holder : ℕ → Option ℕ) (client page : ℕ) → is_none (without_holder holder client page) ≡ false → is_none (holder page) ≡ false
none_left holder client page e = go (holder page) e
  where
    go : (h : Option ℕ) → is_none (elim h as (λ _. Option ℕ) [ None ↦ None | Some other ↦ if other == client then None else Some other ]) ≡ false → is_none h ≡ false
    go None f = f
    go (Some other) f = refl

none_left_at : (holder : ℕ → Option ℕ) (client page at : ℕ) → is_none (without_holder_at holder client page at) ≡ false → is_none (holder at) ≡ false
none_left_at holder client page at e = go (at == page) e
  where
    go : (b : Bool) → is_none (if b then without_holder holder client at else holder at) ≡ false → is_none (holder at) ≡ false
    go true f = none_left holder client at f
    go false f = f

left_other : (holder : ℕ → Option ℕ) (client page at : ℕ) → at ≢ page → without_holder_at holder client page at ≡ holder at
left_other holder client page at ne = grind (arith, nat_tests)

pub ends_at : (client page grant tag : ℕ) (s : Server) → Waits s → AtPage page s (server_after s (ChangeSession client (EndPermission page grant tag) ∷ []))
ends_at client page grant tag s w = let whole = field_same (λ (x : Session). x) s.session client (s.session client) refl in record {
  same = record {
    queues = λ at ne. refl;
    writers = λ at ne. left_other s.store.holder client page at ne;
    tags = λ at ne. refl;
    marks = λ other at ne. refl;
    txns = λ other. ap (λ (x : Session). x.txn) (whole other);
    ends = λ other. ap (λ (x : Session). x.ended) (whole other);
    clients = refl;
    pages = refl;
  };
  waits = record {
    one_ask = w.one_ask;
    in_range = w.in_range;
    live = λ other at is. rw (whole other) (w.live other at is);
    greeted = λ other at is. rw (whole other) (w.greeted other at is);
    rows = λ other at some. rw (whole other) (w.rows other at (rw (← whole other) some));
    doomed = λ other is. rw (whole other) (w.doomed other is);
    tagged = λ at some. w.tagged at (none_left_at s.store.holder client page at some);
  };
  kept = λ other e. e;
}

-- a copy given back
pub removes_at : (client page grant : ℕ) (s : Server) → Waits s
    → AtPage page s (server_after s (UnmarkInUse client page ∷ ChangeSession client (RemoveRow page grant) ∷ []))
removes_at client page grant s w = let removed : Session = record (s.session client) { row = update (s.session client).row page None } in record {
  same = record {
    queues = λ at ne. refl;
    writers = λ at ne. kept_other s.store.keep_write at ne;
    tags = λ at ne. refl;
    marks = λ other at ne. mark_other s.in_use client page false other at ne;
    txns = λ other. field_same (λ (x : Session). x.txn) s.session client removed refl other;
    ends = λ other. field_same (λ (x : Session). x.ended) s.session client removed refl other;
    clients = refl;
    pages = refl;
  };
  waits = record {
    one_ask = w.one_ask;
    in_range = w.in_range;
    live = λ other at is. field_same has_live_txn s.session client removed refl other ∙ w.live other at is;
    greeted = λ other at is. greets other (w.greeted other at is);
    rows = λ other at some. let was = w.rows other at (row_left other at some) in (was.0, greets other was.1);
    doomed = λ other is. greets other (w.doomed other is);
    tagged = λ at some. w.tagged at (kept_some s.store.keep_write at some);
  };
  kept = λ other e. e;
}
  where
    greets : (other : ℕ) → IsGreeted s other → 1 ≤ (update s.session client (record (s.session client) { row = update (s.session client).row page None }) other).current
    greets other g = subst (λ (n : ℕ). 1 ≤ n) (sym (field_same (λ (x : Session). x.current) s.session client (record (s.session client) { row = update (s.session client).row page None }) refl other)) g

    own : (at : ℕ) (b : Bool) → is_none (if b then None else (s.session client).row at) ≡ false → is_none ((s.session client).row at) ≡ false
    own at true e = absurd cc
    own at false e = e

    row_left : (other at : ℕ) → is_none ((update s.session client (record (s.session client) { row = update (s.session client).row page None }) other).row at) ≡ false
        → is_none ((s.session other).row at) ≡ false
    row_left other at = each_place (λ n (x : Session). is_none (x.row at) ≡ false → is_none ((s.session n).row at) ≡ false) s.session client
        (record (s.session client) { row = update (s.session client).row page None }) (own at (at == page)) (λ n ne e. e) other

    kept_other : (keep : Bool) (at : ℕ) → at ≢ page → (if keep then without_holder_at s.store.holder client page at else s.store.holder at) ≡ s.store.holder at
    kept_other true at ne = left_other s.store.holder client page at ne
    kept_other false at ne = refl

    kept_some : (keep : Bool) (at : ℕ) → is_none (if keep then without_holder_at s.store.holder client page at else s.store.holder at) ≡ false → is_none (s.store.holder at) ≡ false
    kept_some true at e = none_left_at s.store.holder client page at e
    kept_some false at e = e

-- the client doesn't use the page, and then its copy was given back
pub removes_becomes : (v u : ServerState) (marks : MarksState) (client page grant : ℕ)
    → HasMarks v.marks marks (set_in_use (is_in_use v.marks) client page false)
    → Does (record v { marks = marks }) (ChangeSession client (RemoveRow page grant) ∷ []) u
    → server_of u ≡ server_after (server_of v) (UnmarkInUse client page ∷ ChangeSession client (RemoveRow page grant) ∷ [])
removes_becomes v u marks client page grant unmarks does =
    does.becomes ∙ ap (λ (s : Server). server_after s (ChangeSession client (RemoveRow page grant) ∷ [])) (marked v marks _ unmarks.marks)

-- a permission given
pub permits_at : (client page grant : ℕ) (s : Server) → Waits s → HasBegun s client → AtPage page s (server_after s (give_permission s client page grant))
permits_at client page grant s w begun = let whole = field_same (λ (x : Session). x) s.session client (s.session client) refl in record {
  same = record {
    queues = λ at ne. refl;
    writers = λ at ne. put_other s.store.holder page at (Some client) ne;
    tags = λ at ne. put_other s.store.tag page at (s.session client).txn ne;
    marks = λ other at ne. refl;
    txns = λ other. ap (λ (x : Session). x.txn) (whole other);
    ends = λ other. ap (λ (x : Session). x.ended) (whole other);
    clients = refl;
    pages = refl;
  };
  waits = record {
    one_ask = w.one_ask;
    in_range = w.in_range;
    live = λ other at is. rw (whole other) (w.live other at is);
    greeted = λ other at is. rw (whole other) (w.greeted other at is);
    rows = λ other at some. rw (whole other) (w.rows other at (rw (← whole other) some));
    doomed = λ other is. rw (whole other) (w.doomed other is);
    tagged = λ at some. elim (cases_eq at page) [
      | inl here ↦ subst (λ (n : ℕ). 1 ≤ update s.store.tag page (s.session client).txn n) (sym here)
          (subst (λ (n : ℕ). 1 ≤ n) (sym (put_there s.store.tag page (s.session client).txn)) begun)
      | inr ne ↦ subst (λ (n : ℕ). 1 ≤ n) (sym (put_other s.store.tag page at (s.session client).txn ne))
          (w.tagged at (sym (ap is_none (put_other s.store.holder page at (Some client) ne)) ∙ some))
    ];
  };
  kept = λ other e. e;
}

-- more room for asks
pub kept_reserved : (before : ServerState) (view : Edges) (asks : AsksState) → AreCallbacks (record { state = before; view = view })
    → Has before.asks asks (queue_at before.asks) → AreCallbacks (record { state = record before { asks = asks }; view = view })
kept_reserved before view asks kept has = record {
  agree = agree_asks before asks kept.agree has.pages;
  waits = subst Waits (sym same) kept.waits;
  follows = subst (Follows view) (sym same) kept.follows;
  few = kept.few;
}
  where
    same : server_of (record before { asks = asks }) ≡ server_of before
    same = queued before asks (queue_at before.asks) has.queues

-- a copy granted, with no ask that leaves
pub grants_at : (client page : ℕ) (s : Server) → Waits s → client < s.clients → IsGreeted s client → AtPage page s (server_after s (grant_copy s page client))
grants_at client page s w known greeted = record {
  same = record {
    queues = λ at ne. refl;
    writers = λ at ne. refl;
    tags = λ at ne. refl;
    marks = λ other at ne. refl;
    txns = λ other. field_same (λ (x : Session). x.txn) s.session client granted refl other;
    ends = λ other. field_same (λ (x : Session). x.ended) s.session client granted refl other;
    clients = refl;
    pages = refl;
  };
  waits = record {
    one_ask = w.one_ask;
    in_range = w.in_range;
    live = λ other at is. field_same has_live_txn s.session client granted refl other ∙ w.live other at is;
    greeted = λ other at is. greets other (w.greeted other at is);
    rows = λ other at some. elim (cases_eq other client) [
      | inl same ↦ (
        subst (λ (n : ℕ). n < s.clients) (sym same) known,
        greets other (subst (λ (n : ℕ). IsGreeted s n) (sym same) greeted),
      )
      | inr ne ↦ let was = w.rows other at (sym (ap (λ (x : Session). is_none (x.row at)) (put_other s.session client other granted ne)) ∙ some) in (was.0, greets other was.1)
    ];
    doomed = λ other is. greets other (w.doomed other is);
    tagged = w.tagged;
  };
  kept = λ other e. e;
}
  where
    granted : Session
    granted = record (s.session client) { row = update (s.session client).row page (Some s.next_grant) }

    greets : (other : ℕ) → IsGreeted s other → 1 ≤ (update s.session client granted other).current
    greets other g = subst (λ (n : ℕ). 1 ≤ n) (sym (field_same (λ (x : Session). x.current) s.session client granted refl other)) g

-- where nobody waits for the page, the view has nothing to follow
pub follows_nobody : (s : Server) (page : ℕ) (view : Edges) → s.queue page ≡ [] → FollowsPage view s page view
follows_nobody s page view nobody = record {
  asks = λ front back ask is last other. absurd (nowhere front back ask (sym nobody ∙ is));
  rest = λ waiting other none. refl;
}
  where
    nowhere : (front back : List WaitingAsk) (ask : WaitingAsk) → [] ≡ front ++ ask ∷ back → ⊥
    nowhere [] back ask e = absurd cc
    nowhere (first ∷ front) back ask e = absurd cc
