-- What the answer to a message costs: of messages, its own and those that settling may send, and of copies.
use Rattle.std.proofs.Common.{◌≡◌, ◌≢◌, ℕ, ◌+◌, ◌<◌, ◌≤◌, nat_le, nat_lt, zero, suc, Bool, true, false, not, ◌&&◌, ◌==◌, if◌then◌else◌, List, [], ◌∷◌, ◌++◌, length, Option, Some, None, refl, sym, ap, ◌∙◌, subst, inl, inr, arith}
use Rattle.std.proofs.lemmas.Bool.{cases_eq}
use Rattle.std.proofs.lemmas.Bool.Decides.{nat_tests}
use Rattle.cb_asks.proofs.Sums.{sum_changed, sum_same}
use Rattle.cb_asks.specs.Sums.{sum_below}
use Rattle.cb_protocol.proofs.CyclePaths.{below_or_not}
use Rattle.cb_protocol.proofs.ReadAsksWaiting.{count_push, count_without, reads_change, reads_fewer, reads_same}
use Rattle.cb_protocol.specs.Basics.{is_exactly, is_none}
use Rattle.cb_protocol.specs.Messages.{AbortNow, AskRead, AskWrite, Body, Commit, Done, Downgraded, Drop, GiveBack, InUse, MayWrite, Welcome}
use Rattle.cb_protocol.specs.Numbers.{copies_sent, messages_for, messages_for_pages, messages_for_queue}
use Rattle.cb_protocol.specs.Server.{DeadlockTest, ChangeSession, EnterQueue, ForgetTransaction, MarkInUse, Send, Server, ServerStep, UnmarkInUse, WaitingAsk, after_server_step, server_after, without_client}
use Rattle.cb_protocol.specs.ServerMessages.{begin_transaction, commit_allowed, direct_answer, enter_queue, has_waiting_ask, is_empty, new_ask, read_asks_below, read_asks_in, repeat_done, take_ask_read, take_ask_write}
use Rattle.cb_protocol.specs.Session.{Admit, ApplyCommit, BeginTransaction, DropTransaction, EndPermission, PermitWrite, RemoveRow}
use Rattle.cb_protocol.specs.Settling.{doom_client, send_to}
use Rattle.cb_protocol.specs.World.{messages_sent}
use Rattle.cb_server.specs.Answering.{copies_for_body, messages_for_body}

-- how many asks to read wait at all pages, and how many messages settling may send
abbrev pub reads : Server → ℕ
reads s = read_asks_below s s.pages

abbrev pub most : Server → ℕ
most s = messages_for_pages s s.pages

-- so many messages more, those of settling counted, and so many copies
pub record Costs (s : Server) (ds : List ServerStep) (m k : ℕ) : Type 0 where
  pub sends : length (messages_sent ds) + most (server_after s ds) ≤ most s + m
  pub copies : copies_sent ds + reads (server_after s ds) ≤ reads s + k

-- the asks of a queue cost no more than before
pub record NoMore (n : ℕ) (before after : List WaitingAsk) : Type 0 where
  pub reads : read_asks_in after ≤ read_asks_in before
  pub most : messages_for_queue n after ≤ messages_for_queue n before

same : (n : ℕ) (q : List WaitingAsk) → NoMore n q q
same n q = record { reads = omega arith; most = omega arith }

both : (x y z : ℕ) → y ≤ z → x + y ≤ x + z
both x y z l = omega (arith, l)

less : (x y z : ℕ) → y ≤ z → y ≤ x + z
less x y z l = omega (arith, l)

cost_without : (n c : ℕ) (q : List WaitingAsk) → messages_for_queue n (without_client c q) ≤ messages_for_queue n q
cost_without n c [] = omega arith
cost_without n c (a ∷ q) = go (cost_without n c q) (a.client == c)
  where
    go : messages_for_queue n (without_client c q) ≤ messages_for_queue n q → (r : Bool)
        → messages_for_queue n (if r then without_client c q else a ∷ without_client c q) ≤ messages_for n a.write_grant + messages_for_queue n q
    go l true = less (messages_for n a.write_grant) _ _ l
    go l false = both (messages_for n a.write_grant) _ _ l

pub without : (n c : ℕ) (q : List WaitingAsk) → NoMore n q (without_client c q)
without n c q = record { reads = count_without c q; most = cost_without n c q }

pub costs_less : (s t : Server) (end : ℕ) → t.clients ≡ s.clients → ((p : ℕ) → NoMore s.clients (s.queue p) (t.queue p)) → messages_for_pages t end ≤ messages_for_pages s end
costs_less s t zero e f = omega arith
costs_less s t (suc p) e f =
    let rest = costs_less s t p e f in
    let here = subst (λ (n : ℕ). messages_for_queue n (t.queue p) ≤ messages_for_queue s.clients (s.queue p)) (sym e) (f p).most in
    omega (arith, rest, here)

-- so many messages and copies at least, and no more asks in any queue
fewer : (s : Server) (ds : List ServerStep) (m k : ℕ) → length (messages_sent ds) ≤ m → copies_sent ds ≤ k → (server_after s ds).pages ≡ s.pages → (server_after s ds).clients ≡ s.clients
    → ((p : ℕ) → NoMore s.clients (s.queue p) ((server_after s ds).queue p)) → Costs s ds m k
fewer s ds m k a b e g f = record {
  sends = rw e (let l = costs_less s (server_after s ds) s.pages g f in omega (arith, l, a));
  copies = rw e (let l = reads_fewer s (server_after s ds) s.pages (λ p. (f p).reads) in omega (arith, l, b));
}

-- an ask enters
entered : (s : Server) (p : ℕ) (a : WaitingAsk) → reads (after_server_step s (EnterQueue p a)) ≤ reads s + (if is_none a.write_grant then 1 else 0)
entered s p a = elim (below_or_not p s.pages) [ inl l ↦ go l (is_none a.write_grant) refl | inr l ↦ past l ]
  where
    t : Server
    t = after_server_step s (EnterQueue p a)

    there : t.queue p ≡ s.queue p ++ a ∷ []
    there = grind arith

    others : (q : ℕ) → q ≢ p → t.queue q ≡ s.queue q
    others q n = grind arith

    count : read_asks_in (t.queue p) ≡ (if is_none a.write_grant then read_asks_in (s.queue p) + 1 else read_asks_in (s.queue p))
    count = ap read_asks_in there ∙ count_push a (s.queue p)

    past : s.pages ≤ p → read_asks_below t s.pages ≤ read_asks_below s s.pages + (if is_none a.write_grant then 1 else 0)
    past l = let e = reads_same s t s.pages (λ q m. ap read_asks_in (others q (λ z. absurd (omega arith)))) in omega (arith, e)

    go : p < s.pages → (u : Bool) → is_none a.write_grant ≡ u → read_asks_below t s.pages ≤ read_asks_below s s.pages + (if u then 1 else 0)
    go l true e = let x = reads_change s t p s.pages l others in let y : read_asks_in (t.queue p) ≡ read_asks_in (s.queue p) + 1 = rw e at count in omega (arith, x, y)
    go l false e = let x = reads_change s t p s.pages l others in let y : read_asks_in (t.queue p) ≡ read_asks_in (s.queue p) = rw e at count in omega (arith, x, y)

shifted : (x y z w : ℕ) → y ≡ z + w → x + y ≡ (x + z) + w
shifted x y z w e = omega (arith, e)

cost_push : (n : ℕ) (a : WaitingAsk) (q : List WaitingAsk) → messages_for_queue n (q ++ a ∷ []) ≡ messages_for_queue n q + messages_for n a.write_grant
cost_push n a [] = omega arith
cost_push n a (b ∷ q) = shifted (messages_for n b.write_grant) _ _ _ (cost_push n a q)

as_sum : (s : Server) (end : ℕ) → messages_for_pages s end ≡ sum_below (λ p. messages_for_queue s.clients (s.queue p)) end
as_sum s zero = refl
as_sum s (suc p) = ap (λ (x : ℕ). x + messages_for_queue s.clients (s.queue p)) (as_sum s p)

costs_of_one : (s : Server) (p : ℕ) (a : WaitingAsk) → most (after_server_step s (EnterQueue p a)) ≤ most s + messages_for s.clients a.write_grant
costs_of_one s p a = elim (below_or_not p s.pages) [ inl l ↦ go l | inr l ↦ past l ]
  where
    t : Server
    t = after_server_step s (EnterQueue p a)

    there : t.queue p ≡ s.queue p ++ a ∷ []
    there = grind arith

    others : (q : ℕ) → q ≢ p → t.queue q ≡ s.queue q
    others q n = grind arith

    cost : List WaitingAsk → ℕ
    cost q = messages_for_queue s.clients q

    before : messages_for_pages s s.pages ≡ sum_below (λ q. cost (s.queue q)) s.pages
    before = as_sum s s.pages

    after : messages_for_pages t s.pages ≡ sum_below (λ q. cost (t.queue q)) s.pages
    after = as_sum t s.pages

    past : s.pages ≤ p → messages_for_pages t s.pages ≤ messages_for_pages s s.pages + messages_for s.clients a.write_grant
    past l =
        let e = sum_same (λ q. cost (s.queue q)) (λ q. cost (t.queue q)) s.pages (λ q m. ap cost (others q (λ z. absurd (omega arith)))) in
        let x = before in let y = after in omega (arith, e, x, y)

    go : p < s.pages → messages_for_pages t s.pages ≤ messages_for_pages s s.pages + messages_for s.clients a.write_grant
    go l =
        let e = sum_changed (λ q. cost (s.queue q)) (λ q. cost (t.queue q)) p s.pages l (λ q n. ap cost (others q n)) in
        let f : cost (t.queue p) ≡ cost (s.queue p) + messages_for s.clients a.write_grant = ap cost there ∙ cost_push s.clients a (s.queue p) in
        let x = before in let y = after in omega (arith, e, f, x, y)

-- and its client may be doomed at once
itself : (n : ℕ) → (n == n) ≡ true
itself n = grind (arith, nat_tests)

pushed : (c : ℕ) (a : WaitingAsk) (q : List WaitingAsk) → (a.client == c) ≡ true → without_client c (q ++ a ∷ []) ≡ without_client c q
pushed c a [] e = rw e refl
pushed c a (b ∷ q) e = ap (λ (x : List WaitingAsk). if b.client == c then x else b ∷ x) (pushed c a q e)

pub at_least_one : (n : ℕ) (w : Option ℕ) → 1 ≤ messages_for n w
at_least_one n None = omega arith
at_least_one n (Some g) = omega arith

enters : (cycle : DeadlockTest) (s : Server) (p : ℕ) (a : WaitingAsk) → Costs s (enter_queue cycle s p a) (messages_for s.clients a.write_grant) (if is_none a.write_grant then 1 else 0)
enters cycle s p a = go (not (is_empty (s.queue p)) && cycle t a.client)
  where
    t : Server
    t = after_server_step s (EnterQueue p a)

    there : t.queue p ≡ s.queue p ++ a ∷ []
    there = grind arith

    others : (q : ℕ) → q ≢ p → t.queue q ≡ s.queue q
    others q n = grind arith

    gone : (q : ℕ) → NoMore s.clients (s.queue q) (without_client a.client (t.queue q))
    gone q = elim (cases_eq q p) [
      | inl here ↦ subst (λ (x : ℕ). NoMore s.clients (s.queue x) (without_client a.client (t.queue x))) (sym here)
          (subst (λ (l : List WaitingAsk). NoMore s.clients (s.queue p) (without_client a.client l)) (sym there)
          (subst (λ (l : List WaitingAsk). NoMore s.clients (s.queue p) l) (sym (pushed a.client a (s.queue p) (itself a.client))) (without s.clients a.client (s.queue p))))
      | inr apart ↦ subst (λ (l : List WaitingAsk). NoMore s.clients (s.queue q) (without_client a.client l)) (sym (others q apart)) (without s.clients a.client (s.queue q))
    ]

    go : (u : Bool) → Costs s (if u then EnterQueue p a ∷ doom_client t a.client else EnterQueue p a ∷ []) (messages_for s.clients a.write_grant) (if is_none a.write_grant then 1 else 0)
    go true = fewer s (EnterQueue p a ∷ doom_client t a.client) (messages_for s.clients a.write_grant) (if is_none a.write_grant then 1 else 0)
        (at_least_one s.clients a.write_grant) (omega arith) refl refl gone
    go false = record { sends = let more = costs_of_one s p a in omega (arith, more); copies = let more = entered s p a in omega (arith, more) }

-- Nothing; one message; a change of a client.
nothing : (s : Server) (m k : ℕ) → Costs s [] m k
nothing s m k = fewer s [] m k (omega arith) (omega arith) refl refl (λ p. same _ _)

says : (s : Server) (c : ℕ) (b : Body) (m k : ℕ) → 1 ≤ m → copies_sent (send_to s c b ∷ []) ≤ k → Costs s (send_to s c b ∷ []) m k
says s c b m k l n = fewer s (send_to s c b ∷ []) m k l n refl refl (λ p. same _ _)

if_live : (s : Server) (c t : ℕ) (ds : List ServerStep) (m k : ℕ) (r u : Bool) → 1 ≤ m → Costs s ds m k → Costs s (if r then (if u then send_to s c (AbortNow t) ∷ [] else ds) else []) m k
if_live s c t ds m k true true l x = says s c (AbortNow t) m k l (omega arith)
if_live s c t ds m k true false l x = x
if_live s c t ds m k false u l x = nothing s m k

pub answer_costs : (cycle : DeadlockTest) (s : Server) (c : ℕ) (b : Body) → Costs s (direct_answer cycle s c b) (messages_for_body s.clients b) (copies_for_body b)
answer_costs cycle s c (AskRead t p) = if_live s c t (take_ask_read cycle s c p ((s.session c).row p)) 2 1 (nat_lt (s.session c).ended t) (s.doomed c) (omega arith) (asks ((s.session c).row p))
  where
    waits : (r : Bool) → Costs s (if r then [] else enter_queue cycle s p (new_ask c None)) 2 1
    waits true = nothing s 2 1
    waits false = enters cycle s p (new_ask c None)

    asks : (r : Option ℕ) → Costs s (take_ask_read cycle s c p r) 2 1
    asks (Some g) = says s c _ 2 1 (omega arith) (omega arith)
    asks None = waits (has_waiting_ask s c s.pages)
answer_costs cycle s c (AskWrite t p g) =
    if_live s c t (take_ask_write cycle s c p g) (s.clients + 1) 0 (nat_lt (s.session c).ended t) (s.doomed c) (omega arith)
    (asks (is_exactly ((s.session c).row p) g) (is_exactly (s.store.holder p) c) (has_waiting_ask s c s.pages))
  where
    asks : (r u v : Bool) → Costs s (if not r then [] else if u then ChangeSession c (PermitWrite p g) ∷ send_to s c (MayWrite (s.session c).txn p g) ∷ [] else if v then [] else enter_queue cycle s p (new_ask c (Some g)))
        (s.clients + 1) 0
    asks false u v = nothing s (s.clients + 1) 0
    asks true true v = fewer s _ (s.clients + 1) 0 (omega arith) (omega arith) refl refl (λ q. same _ _)
    asks true false true = nothing s (s.clients + 1) 0
    asks true false false = enters cycle s p (new_ask c (Some g))
answer_costs cycle s c (GiveBack p g) = go (is_exactly ((s.session c).row p) g)
  where
    go : (r : Bool) → Costs s (if r then UnmarkInUse c p ∷ ChangeSession c (RemoveRow p g) ∷ [] else []) 0 0
    go true = fewer s _ 0 0 (omega arith) (omega arith) refl refl (λ q. same _ _)
    go false = nothing s 0 0
answer_costs cycle s c (InUse t p g) = go (nat_lt (s.session c).ended t && is_exactly ((s.session c).row p) g)
  where
    go : (r : Bool) → Costs s (if r then MarkInUse c p ∷ [] else []) 0 0
    go true = fewer s _ 0 0 (omega arith) (omega arith) refl refl (λ q. same _ _)
    go false = nothing s 0 0
answer_costs cycle s c (Commit t ws) = go (nat_lt (s.session c).ended t) (s.doomed c) (commit_allowed s c ws) (t == (s.session c).ended)
  where
    again : (r : Option ℕ) → Costs s (repeat_done s c t r) 1 0
    again None = nothing s 1 0
    again (Some m) = flush (nat_le m s.flushed)
      where
        flush : (r : Bool) → Costs s (if r then send_to s c (Done t m) ∷ [] else []) 1 0
        flush true = says s c (Done t m) 1 0 (omega arith) (omega arith)
        flush false = nothing s 1 0

    go : (r u v y : Bool) → Costs s (if r
        then (if u then send_to s c (AbortNow t) ∷ [] else if v then ForgetTransaction c ∷ ChangeSession c (ApplyCommit t ws) ∷ [] else [])
        else if y then repeat_done s c t (s.outcome c) else []) 1 0
    go true true v y = says s c (AbortNow t) 1 0 (omega arith) (omega arith)
    go true false true y = fewer s _ 1 0 (omega arith) (omega arith) refl refl (λ q. without _ c (s.queue q))
    go true false false y = nothing s 1 0
    go false u v true = again (s.outcome c)
    go false u v false = nothing s 1 0
answer_costs cycle s c (Drop t) = go (nat_lt (s.session c).ended t)
  where
    go : (r : Bool) → Costs s (if r then ForgetTransaction c ∷ ChangeSession c (DropTransaction t) ∷ [] else []) 0 0
    go true = fewer s _ 0 0 (omega arith) (omega arith) refl refl (λ q. without _ c (s.queue q))
    go false = nothing s 0 0
answer_costs cycle s c (Downgraded p g t) = go (s.store.keep_write && is_exactly ((s.session c).row p) g && is_exactly (s.store.holder p) c && (s.store.tag p == t))
  where
    go : (r : Bool) → Costs s (if r then ChangeSession c (EndPermission p g t) ∷ [] else []) 0 0
    go true = fewer s _ 0 0 (omega arith) (omega arith) refl refl (λ q. same _ _)
    go false = nothing s 0 0
answer_costs cycle s c _ = nothing s _ _

-- a greater incarnation
abbrev pub admission : ℕ → ℕ → List ServerStep
admission c i = ForgetTransaction c ∷ ChangeSession c (Admit i) ∷ Send c i Welcome ∷ []

pub admission_costs : (s : Server) (c i : ℕ) → Costs s (admission c i) 1 0
admission_costs s c i = fewer s (admission c i) 1 0 (omega arith) (omega arith) refl refl (λ q. without _ c (s.queue q))

-- a transaction that begins sends nothing, and settling costs no more
pub begins_quietly : (s : Server) (c t : ℕ) → messages_sent (begin_transaction s c t) ≡ []
begins_quietly s c t = go (nat_lt (s.session c).txn t)
  where
    go : (r : Bool) → messages_sent (if r then ForgetTransaction c ∷ ChangeSession c (BeginTransaction t) ∷ [] else []) ≡ []
    go true = refl
    go false = refl

pub begins_with_no_copy : (s : Server) (c t : ℕ) → copies_sent (begin_transaction s c t) ≡ 0
begins_with_no_copy s c t = go (nat_lt (s.session c).txn t)
  where
    go : (r : Bool) → copies_sent (if r then ForgetTransaction c ∷ ChangeSession c (BeginTransaction t) ∷ [] else []) ≡ 0
    go true = refl
    go false = refl

pub begins_with_fewer : (s : Server) (c t : ℕ) → reads (server_after s (begin_transaction s c t)) ≤ reads s
begins_with_fewer s c t = go (nat_lt (s.session c).txn t)
  where
    go : (r : Bool) → reads (server_after s (if r then ForgetTransaction c ∷ ChangeSession c (BeginTransaction t) ∷ [] else [])) ≤ reads s
    go true = reads_fewer s (server_after s (ForgetTransaction c ∷ ChangeSession c (BeginTransaction t) ∷ [])) s.pages (λ q. count_without c (s.queue q))
    go false = omega arith

pub begins_with_less : (s : Server) (c t : ℕ) → most (server_after s (begin_transaction s c t)) ≤ most s
begins_with_less s c t = go (nat_lt (s.session c).txn t)
  where
    go : (r : Bool) → most (server_after s (if r then ForgetTransaction c ∷ ChangeSession c (BeginTransaction t) ∷ [] else [])) ≤ most s
    go true = costs_less s (server_after s (ForgetTransaction c ∷ ChangeSession c (BeginTransaction t) ∷ [])) s.pages refl (λ q. without _ c (s.queue q))
    go false = omega arith

pub begins_as_many : (s : Server) (c t : ℕ) → (server_after s (begin_transaction s c t)).clients ≡ s.clients
begins_as_many s c t = go (nat_lt (s.session c).txn t)
  where
    go : (r : Bool) → (server_after s (if r then ForgetTransaction c ∷ ChangeSession c (BeginTransaction t) ∷ [] else [])).clients ≡ s.clients
    go true = refl
    go false = refl
