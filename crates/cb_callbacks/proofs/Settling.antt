-- A page is settled decision by decision, and all pages one after another.
use Rattle.std.proofs.Common.{◌≡◌, ℕ, ◌+◌, ◌<◌, ◌≤◌, Bool, true, if◌then◌else◌, List, [], ◌++◌, length, zero, suc, refl, sym, ap, ◌∙◌, subst, arith, add-one, inl, inr}
use Rattle.std.proofs.lemmas.Bool.{cases_lt}
use Rattle.std.proofs.lemmas.List.{append-nil, append_assoc}
use Rattle.cb_server_state.proofs.Rooms.{room_by, room_next}
use Rattle.cb_server_state.specs.Waits.{Waits}
use Rattle.cb_outbox.specs.Saying.{Decides, HasRoomFor, OutboxState, Says, goes_on}
use Rattle.cb_outbox.proofs.Saying.{room_after, room_first, says_as, says_nothing, says_then, settle_more}
use Rattle.cb_protocol.proofs.CycleTest.{test_is_exact}
use Rattle.cb_protocol.proofs.GrantNumbers.{settling_takes_kept_grants}
use Rattle.cb_protocol.proofs.SettlingAgain.{empty_page}
use Rattle.cb_protocol.proofs.SettlingClears.{right_settles}
use Rattle.cb_protocol.specs.Basics.{max_number}
use Rattle.cb_protocol.specs.Numbers.{first_free_grant}
use Rattle.cb_protocol.specs.Server.{DeadlockTest, Server, ServerStep, server_after}
use Rattle.cb_protocol.specs.Settling.{Decided, Decision, Settled, decide, decision_steps, settle_page, settle_pages}
use Rattle.cb_protocol.specs.WaitsFor.{on_cycle}

-- the decisions after the first
abbrev others : DeadlockTest → (most : ℕ) → Server → (page : ℕ) → Decision → List ServerStep
others cycle most s page decision =
    if goes_on decision then settle_page cycle most (server_after s (decision_steps decision)) page else []

settle_split : (cycle : DeadlockTest) (most : ℕ) (s : Server) (page : ℕ)
    → settle_page cycle (suc most) s page
    ≡ decision_steps (decide cycle s page (s.queue page)) ++ others cycle most s page (decide cycle s page (s.queue page))
settle_split cycle most s page = by_decision (decide cycle s page (s.queue page))
  where
    by_decision : (d : Decision)
        → (elim d as (λ _. List ServerStep) [ Settled steps ↦ steps | Decided steps ↦ steps ++ settle_page cycle most (server_after s steps) page ])
        ≡ decision_steps d ++ others cycle most s page d
    by_decision (Settled steps) = sym (append-nil steps)
    by_decision (Decided steps) = refl

split_at : (cycle : DeadlockTest) (most : ℕ) (s : Server) (page : ℕ)
    → settle_page cycle (most + 1) s page
    ≡ decision_steps (decide cycle s page (s.queue page)) ++ others cycle most s page (decide cycle s page (s.queue page))
split_at cycle most s page = ap (λ (n : ℕ). settle_page cycle n s page) (add-one most) ∙ settle_split cycle most s page

-- the room for the first decision, and for the others
pub room_decided : (cycle : DeadlockTest) (most : ℕ) (s : Server) (page : ℕ) (a : OutboxState)
    → HasRoomFor (settle_page cycle (most + 1) s page) a → HasRoomFor (decision_steps (decide cycle s page (s.queue page))) a
room_decided cycle most s page a r = room_first _ _ a (room_by _ _ a (split_at cycle most s page) r)

pub room_others : (cycle : DeadlockTest) (most : ℕ) (s t : Server) (page : ℕ) (a b : OutboxState)
    → HasRoomFor (settle_page cycle (most + 1) s page) a → Decides s (λ server. decide cycle server page (server.queue page)) t true a b
    → HasRoomFor (settle_page cycle most t page) b
room_others cycle most s t page a b r d =
    subst (λ (x : Server). HasRoomFor (settle_page cycle most x page) b) (sym d.says.becomes)
    (room_by _ _ b (ap (λ (g : Bool). if g then settle_page cycle most (server_after s (decision_steps (decide cycle s page (s.queue page)))) page else []) d.goes)
    (room_after s t (λ server. decision_steps (decide cycle server page (server.queue page))) _ a b (room_by _ _ a (split_at cycle most s page) r) d.says))

-- the grant numbers that are kept
pub left_decided : (cycle : DeadlockTest) (s t : Server) (page : ℕ) (more : Bool) (a b : OutboxState) → page < s.pages
    → Decides s (λ server. decide cycle server page (server.queue page)) t more a b → first_free_grant s ≤ max_number + 1 → first_free_grant t ≤ max_number + 1
left_decided cycle s t page more a b lt d left =
    let kept = subst (λ (x : Server). first_free_grant x ≤ first_free_grant s) (sym d.says.becomes) ((settling_takes_kept_grants cycle s).decision page lt) in
    omega (arith, kept, left)

pub left_settled : (cycle : DeadlockTest) (s t : Server) (page most : ℕ) (a b : OutboxState) → page < s.pages
    → Says s (λ server. settle_page cycle most server page) t a b → first_free_grant s ≤ max_number + 1 → first_free_grant t ≤ max_number + 1
left_settled cycle s t page most a b lt says left =
    let kept = subst (λ (x : Server). first_free_grant x ≤ first_free_grant s) (sym says.becomes) ((settling_takes_kept_grants cycle s).one_page most page lt) in
    omega (arith, kept, left)

-- pages with no asks when their turn comes
pages_none : (cycle : DeadlockTest) (s : Server) (from end : ℕ) → from ≤ end
    → ((page : ℕ) → from ≤ page → page < end → (server_after s (settle_pages cycle s from)).queue page ≡ [])
    → settle_pages cycle s end ≡ settle_pages cycle s from
pages_none cycle s from zero le none = ap (settle_pages cycle s) (let e : zero ≡ from = omega (arith, le) in e)
pages_none cycle s from (suc page) le none = elim (cases_lt page from) [
  | inl below ↦ ap (settle_pages cycle s) (let e : suc page ≡ from = omega (arith, le, below) in e)
  | inr past ↦
      ap (λ (l : List ServerStep). l ++ settle_page cycle (length (s.queue page) + 1) (server_after s l) page)
      (pages_none cycle s from page past (λ at above lt. none at above (omega (arith, lt))))
      ∙ ap (λ (l : List ServerStep). settle_pages cycle s from ++ l)
      (empty_page cycle (server_after s (settle_pages cycle s from)) page (length (s.queue page) + 1) (none page past (omega arith)))
      ∙ append-nil (settle_pages cycle s from)
]

-- the pages after those
record PagesRest (cycle : DeadlockTest) (s : Server) (from end : ℕ) : Type 0 where
  rest : List ServerStep
  is : settle_pages cycle s end ≡ settle_pages cycle s from ++ rest

pages_rest : (cycle : DeadlockTest) (s : Server) (from end : ℕ) → from ≤ end → PagesRest cycle s from end
pages_rest cycle s from zero le = record {
  rest = [];
  is = ap (settle_pages cycle s) (let e : zero ≡ from = omega (arith, le) in e) ∙ sym (append-nil (settle_pages cycle s from));
}
pages_rest cycle s from (suc page) le = elim (cases_lt page from) [
  | inl below ↦ record {
    rest = [];
    is = ap (settle_pages cycle s) (let e : suc page ≡ from = omega (arith, le, below) in e) ∙ sym (append-nil (settle_pages cycle s from));
  }
  | inr past ↦ let r = pages_rest cycle s from page past in record {
    rest = r.rest ++ settle_page cycle (length (s.queue page) + 1) (server_after s (settle_pages cycle s page)) page;
    is = ap (λ (l : List ServerStep). l ++ settle_page cycle (length (s.queue page) + 1) (server_after s (settle_pages cycle s page)) page) r.is
        ∙ append_assoc (settle_pages cycle s from) r.rest _;
  }
]

-- the next page with asks
page_next : (s t : Server) (from page : ℕ) → Waits s → t ≡ server_after s (settle_pages on_cycle s from) → from ≤ page
    → ((at : ℕ) → from ≤ at → at < page → t.queue at ≡ [])
    → settle_pages on_cycle s (page + 1)
    ≡ settle_pages on_cycle s from ++ settle_page on_cycle (length (t.queue page) + 1) (server_after s (settle_pages on_cycle s from)) page
page_next s t from page w is le none =
    ap (settle_pages on_cycle s) (add-one page)
    ∙ ap (λ (l : List ServerStep). l ++ settle_page on_cycle (length (s.queue page) + 1) (server_after s l) page)
    (pages_none on_cycle s from page le (λ at above lt. ap (λ (x : Server). x.queue at) (sym is) ∙ none at above lt))
    ∙ ap (λ (n : ℕ). settle_pages on_cycle s from ++ settle_page on_cycle (n + 1) (server_after s (settle_pages on_cycle s from)) page) as_long
  where
    as_long : length (s.queue page) ≡ length (t.queue page)
    as_long = ap length (sym ((right_settles on_cycle test_is_exact s from (record { one = w.one_ask; known = w.in_range })).0.later page le)
        ∙ ap (λ (x : Server). x.queue page) (sym is))

pub pages_more : (s t u : Server) (from page most : ℕ) (a b d : OutboxState) → Waits s → from ≤ page
    → ((at : ℕ) → from ≤ at → at < page → t.queue at ≡ []) → most ≡ length (t.queue page) + 1
    → Says s (λ server. settle_pages on_cycle server from) t a b → Says t (λ server. settle_page on_cycle most server page) u b d
    → Says s (λ server. settle_pages on_cycle server (page + 1)) u a d
pages_more s t u from page most a b d w le none is x y =
    says_as s u (λ server. settle_pages on_cycle server (page + 1)) _ a d
    (page_next s t from page w x.becomes le none
    ∙ ap (λ (n : ℕ). settle_pages on_cycle s from ++ settle_page on_cycle n (server_after s (settle_pages on_cycle s from)) page) (sym is))
    (says_then s t u (λ server. settle_pages on_cycle server from) (λ server. settle_page on_cycle most server page) a b d x y)

-- its room
pub page_room : (s t : Server) (from page most : ℕ) (a b : OutboxState) → Waits s → from ≤ page → page < s.pages
    → ((at : ℕ) → from ≤ at → at < page → t.queue at ≡ []) → most ≡ length (t.queue page) + 1
    → HasRoomFor (settle_pages on_cycle s s.pages) a → Says s (λ server. settle_pages on_cycle server from) t a b
    → HasRoomFor (settle_page on_cycle most t page) b
page_room s t from page most a b w le lt none is room says = let r = pages_rest on_cycle s (page + 1) s.pages (omega (arith, lt)) in
    subst (λ (x : Server). HasRoomFor (settle_page on_cycle most x page) b) (sym says.becomes)
    (room_next s t (λ server. settle_pages on_cycle server from) _ r.rest (settle_pages on_cycle s s.pages) a b
    (r.is ∙ ap (λ (l : List ServerStep). l ++ r.rest) (page_next s t from page w says.becomes le none
    ∙ ap (λ (n : ℕ). settle_pages on_cycle s from ++ settle_page on_cycle n (server_after s (settle_pages on_cycle s from)) page) (sym is))) room says)

-- none is left
pub pages_all : (s t : Server) (from : ℕ) (a b : OutboxState) → from ≤ s.pages
    → ((page : ℕ) → from ≤ page → t.queue page ≡ []) → Says s (λ server. settle_pages on_cycle server from) t a b
    → Says s (λ server. settle_pages on_cycle server server.pages) t a b
pages_all s t from a b le none x =
    says_as s t (λ server. settle_pages on_cycle server server.pages) (λ server. settle_pages on_cycle server from) a b
    (pages_none on_cycle s from s.pages le (λ page above lt. ap (λ (y : Server). y.queue page) (sym x.becomes) ∙ none page above)) x

-- the last decision that there may be
pub settles_last : (cycle : DeadlockTest) (s t : Server) (page most : ℕ) (a b : OutboxState) → most ≡ 0
    → Decides s (λ server. decide cycle server page (server.queue page)) t true a b → Says s (λ server. settle_page cycle (most + 1) server page) t a b
settles_last cycle s t page most a b none d =
    subst (λ (n : ℕ). Says s (λ server. settle_page cycle (n + 1) server page) t a b) (sym none)
    (settle_more cycle s t t 0 page a b b d (says_nothing t b))
