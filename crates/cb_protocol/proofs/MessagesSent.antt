-- How many messages a step sends, at most.
use Rattle.std.proofs.Common.{◌≡◌, ◌∙◌, ℕ, zero, suc, ◌+◌, ◌*◌, ◌<◌, ◌≤◌, Bool, true, false, not, ◌==◌, ◌&&◌, ◌||◌, nat_lt, nat_le, if◌then◌else◌, ◌≢◌, List, [], ◌∷◌, ◌++◌, length, Option, Some, None, ap, arith, refl, sym, subst, inl, inr, append_assoc, length-append}
use Rattle.std.proofs.Math.Nat.{mul-le-mul_right}
use Rattle.cb_protocol.specs.AnyMessages.{Input, MessageComes, ReachesDisk, SendsAgain, input_steps}
use Rattle.cb_protocol.specs.Basics.{is_exactly, is_none, update}
use Rattle.cb_protocol.specs.Deadlock.{InputInRange, OneAsk, ReachedServer, ask_count}
use Rattle.cb_protocol.specs.Messages.{AbortNow, AskRead, AskWrite, Body, Commit, Done, Downgraded, Drop, GiveBack, Granted, Hello, InUse, MayWrite, Welcome}
use Rattle.cb_protocol.specs.Numbers.{SettlingSendsAtMost, StepSendsAtMost, copies_sent, messages_for, messages_for_pages, messages_for_queue}
use Rattle.cb_protocol.specs.Resend.{again_doomed, again_downgrade, again_page, again_pages, server_again, uses_page}
use Rattle.cb_protocol.specs.Server.{DeadlockTest, ChangeSession, Doom, EnterQueue, ForgetTransaction, LeaveQueue, MarkCalledBack, MarkInUse, MarkDowngradeSent, RemoveAsk, Send, Server, ServerStep, SetFlushed, UnmarkInUse, WaitingAsk, after_first, after_server_step, server_after, without_client}
use Rattle.cb_protocol.specs.ServerMessages.{begin_transaction, commit_allowed, direct_answer, enter_queue, has_waiting_ask, is_empty, named_txn, new_ask, read_asks_below, read_asks_in, repeat_done, server_take, take_ask_read, take_ask_write, take_current}
use Rattle.cb_protocol.specs.Session.{Admit, ApplyCommit, BeginTransaction, DropTransaction, EndPermission, PermitWrite, RemoveRow}
use Rattle.cb_protocol.specs.Settling.{Decided, Decision, Settled, call_back_once, decide, decide_read, decide_write, decision_steps, doom_client, downgrade_once, grant_row, keeps_permission, no_other_holder, nobody, permit_write, send_callback, send_callbacks, send_downgrade, send_downgrades, settle_page, settle_pages, send_to, sole_row, wait_or_doom}
use Rattle.cb_protocol.specs.WaitsFor.{AsksInRange, HasAsk, on_cycle}
use Rattle.cb_protocol.specs.World.{messages_sent}
use Rattle.cb_protocol.proofs.CyclePaths.{below_or_not}
use Rattle.cb_protocol.proofs.Cases.{sent_append, serves_current, serves_hello_again, serves_new_hello, serves_no_old_hello, serves_no_other_incarnation}
use Rattle.cb_protocol.proofs.DoomedAsks.{one_ask}
use Rattle.cb_protocol.proofs.ServerOrder.{after_append}
use Rattle.cb_protocol.proofs.SettlingClears.{OnlySends, after_noted, put_other, put_there, sends_callbacks, sends_downgrades}

-- what the asks of a queue weigh, each by what it asks for
abbrev weight : (Option ℕ → ℕ) → List WaitingAsk → ℕ
weight w [] = 0
weight w (a ∷ q) = w a.write_grant + weight w q

abbrev weight_below : (Option ℕ → ℕ) → Server → ℕ → ℕ
weight_below w s zero = 0
weight_below w s (suc n) = weight_below w s n + weight w (s.queue n)

without_lighter : (w : Option ℕ → ℕ) (c : ℕ) (q : List WaitingAsk) → weight w (without_client c q) ≤ weight w q
without_lighter w c [] = omega arith
without_lighter w c (a ∷ q) = go (without_lighter w c q) (a.client == c)
  where
    go : weight w (without_client c q) ≤ weight w q → (r : Bool) → weight w (if r then without_client c q else a ∷ without_client c q) ≤ w a.write_grant + weight w q
    go l true = omega arith
    go l false = omega arith

-- What is counted of steps: at most so much for each ask, by what it asks for.
record Counts (clients : ℕ) (w : Option ℕ → ℕ) (count : List ServerStep → ℕ) : Type 0 where
  empty : count [] ≡ 0
  append : (xs ys : List ServerStep) → count (xs ++ ys) ≡ count xs + count ys
  grants : (s : Server) (p c : ℕ) → count (grant_row s p c) ≤ w None
  permits : (s : Server) (p c g : ℕ) → count (permit_write s p c g) ≤ w (Some g)
  calls : (s k : Server) (p c g : ℕ) (a : WaitingAsk) → s.clients ≡ clients → count (call_back_once s p a) + count (doom_client k c) ≤ w (Some g)
  downs : (s k : Server) (p c : ℕ) (a : WaitingAsk) → count (downgrade_once s p a) + count (doom_client k c) ≤ w None

-- n was counted from s to k, for asks of page p that have left; no queue weighs more
record Spends (w : Option ℕ → ℕ) (p : ℕ) (s k : Server) (n : ℕ) : Type 0 where
  here : n + weight w (k.queue p) ≤ weight w (s.queue p)
  apart : (q : ℕ) → weight w (k.queue q) ≤ weight w (s.queue q)
  clients : k.clients ≡ s.clients

record Waits (w : Option ℕ → ℕ) (p : ℕ) (s k : Server) (n : ℕ) : Type 0 where
  here : n ≤ weight w (s.queue p)
  apart : (q : ℕ) → weight w (k.queue q) ≤ weight w (s.queue q)
  clients : k.clients ≡ s.clients

abbrev DecisionSpends : (Option ℕ → ℕ) → (List ServerStep → ℕ) → ℕ → Server → Decision → Type 0
DecisionSpends w count p s (Settled ds) = Waits w p s (server_after s ds) (count ds)
DecisionSpends w count p s (Decided ds) = Spends w p s (server_after s ds) (count ds)

-- the first ask leaves
put_lighter : (w : Option ℕ → ℕ) (f : ℕ → List WaitingAsk) (p : ℕ) (x : List WaitingAsk) → weight w x ≤ weight w (f p) → (q : ℕ) → weight w (update f p x q) ≤ weight w (f q)
put_lighter w f p x l q = go (q == p) refl
  where
    same : (q == p) ≡ true → p ≡ q
    same e = grind arith

    go : (r : Bool) → (q == p) ≡ r → weight w (if r then x else f q) ≤ weight w (f q)
    go true e = subst (λ (y : ℕ). weight w x ≤ weight w (f y)) (same e) l
    go false e = omega arith

spends_leave : (w : Option ℕ → ℕ) (s k : Server) (p : ℕ) (a : WaitingAsk) (q : List WaitingAsk) (n : ℕ) → s.queue p ≡ a ∷ q → k.queue ≡ update s.queue p (after_first (s.queue p)) → k.clients ≡ s.clients → n ≤ w a.write_grant → Spends w p s k n
spends_leave w s k p a q n e f c l = record {
  here = rw (f, put_there s.queue p (after_first (s.queue p)), e) (omega arith);
  apart = rw f (put_lighter w s.queue p (after_first (s.queue p)) (rw e (omega arith)));
  clients = c;
}

-- the first ask stays, whatever was noted of it
record Stays (p : ℕ) (s k : Server) (a : WaitingAsk) (q : List WaitingAsk) : Type 0 where
  first : WaitingAsk
  queue : k.queue p ≡ first ∷ q
  client : first.client ≡ a.client
  asks : first.write_grant ≡ a.write_grant
  others : (r : ℕ) → r ≢ p → k.queue r ≡ s.queue r
  clients : k.clients ≡ s.clients

-- it waits, or its client is doomed
spends_refuses : (w : Option ℕ → ℕ) (count : List ServerStep → ℕ) (cycle : DeadlockTest) (s : Server) (p : ℕ) (a : WaitingAsk) (q : List WaitingAsk) (ds : List ServerStep)
    → ((xs ys : List ServerStep) → count (xs ++ ys) ≡ count xs + count ys) → s.queue p ≡ a ∷ q → Stays p s (server_after s ds) a q
    → count ds + count (doom_client (server_after s ds) a.client) ≤ w a.write_grant → DecisionSpends w count p s (wait_or_doom cycle s a.client ds)
spends_refuses w count cycle s p a q ds append e t l = go (cycle (server_after s ds) a.client)
  where
    k : Server
    k = server_after s ds

    z : Server
    z = server_after k (doom_client k a.client)

    whole : weight w (s.queue p) ≡ w a.write_grant + weight w q
    whole = rw e refl

    same : (r : ℕ) → weight w (k.queue r) ≤ weight w (s.queue r)
    same r = side (r == p) refl
      where
        there : (r == p) ≡ true → p ≡ r
        there f = grind arith

        apart : (r == p) ≡ false → r ≢ p
        apart f = grind arith

        at : weight w (k.queue p) ≤ weight w (s.queue p)
        at = rw (t.queue, t.asks, e) (omega arith)

        side : (u : Bool) → (r == p) ≡ u → weight w (k.queue r) ≤ weight w (s.queue r)
        side true f = subst (λ (y : ℕ). weight w (k.queue y) ≤ weight w (s.queue y)) (there f) at
        side false f = rw (t.others r (apart f)) (omega arith)

    gone : (b : WaitingAsk) → b.client ≡ a.client → without_client a.client (b ∷ q) ≡ without_client a.client q
    gone b f = grind arith

    left : weight w (z.queue p) ≤ weight w q
    left = rw (t.queue, gone t.first t.client) (without_lighter w a.client q)

    doomed : Spends w p s z (count (ds ++ doom_client k a.client))
    doomed = record {
      here = rw (append ds (doom_client k a.client)) (let u = whole in let v = left in omega arith);
      apart = λ r. let u = without_lighter w a.client (k.queue r) in let v = same r in omega arith;
      clients = t.clients;
    }

    go : (r : Bool) → DecisionSpends w count p s (if r then Decided (ds ++ doom_client k a.client) else Settled ds)
    go true = subst (λ (y : Server). Spends w p s y (count (ds ++ doom_client k a.client))) (sym (after_append s ds (doom_client k a.client))) doomed
    go false = record { here = let u = whole in omega arith; apart = same; clients = t.clients }

stays_noted : (s : Server) (p : ℕ) (a b : WaitingAsk) (q : List WaitingAsk) (ds : List ServerStep) (x : ServerStep) → OnlySends ds → after_server_step s x ≡ record s { queue = update s.queue p (b ∷ q) }
    → b.client ≡ a.client → b.write_grant ≡ a.write_grant → Stays p s (server_after s (ds ++ x ∷ [])) a q
stays_noted s p a b q ds x sends e f g = subst (λ (k : Server). Stays p s k a q) (sym (after_noted s ds x sends ∙ e)) (record {
  first = b;
  queue = put_there s.queue p (b ∷ q);
  client = f;
  asks = g;
  others = λ r n. put_other s.queue p r (b ∷ q) n;
  clients = refl;
})

spends_decide : (w : Option ℕ → ℕ) (count : List ServerStep → ℕ) (cycle : DeadlockTest) (s : Server) (p : ℕ) (q : List WaitingAsk) → Counts s.clients w count → s.queue p ≡ q → DecisionSpends w count p s (decide cycle s p q)
spends_decide w count cycle s p [] f e = record { here = rw f.empty (omega arith); apart = λ r. omega arith; clients = refl }
spends_decide w count cycle s p (a ∷ q) f e = kind_of a.write_grant refl
  where
    stays : Stays p s s a q
    stays = record { first = a; queue = e; client = refl; asks = refl; others = λ r n. refl; clients = refl }

    down : List ServerStep
    down = send_downgrades s nobody p a.client (s.store.holder p)

    back : List ServerStep
    back = send_callbacks s nobody p a.client s.clients

    told : Stays p s (server_after s (down ++ MarkDowngradeSent p (s.store.tag p) ∷ [])) a q
    told = stays_noted s p a (record a { downgrade_sent = Some (s.store.tag p) }) q down (MarkDowngradeSent p (s.store.tag p)) (sends_downgrades s nobody p a.client (s.store.holder p)) (rw e refl) refl refl

    called : Stays p s (server_after s (back ++ MarkCalledBack p ∷ [])) a q
    called = stays_noted s p a (record a { called_back = true }) q back (MarkCalledBack p) (sends_callbacks s nobody p a.client s.clients) (rw e refl) refl refl

    brought : (r : Bool) → Stays p s (server_after s (if r then down ++ MarkDowngradeSent p (s.store.tag p) ∷ [] else [])) a q
    brought true = told
    brought false = stays

    back_once : (r : Bool) → Stays p s (server_after s (if r then [] else back ++ MarkCalledBack p ∷ [])) a q
    back_once true = stays
    back_once false = called

    reads : a.write_grant ≡ None → (u : Bool) → DecisionSpends w count p s (if u then Decided (grant_row s p a.client) else wait_or_doom cycle s a.client (downgrade_once s p a))
    reads g true = spends_leave w s (server_after s (grant_row s p a.client)) p a q (count (grant_row s p a.client)) e refl refl (rw g (f.grants s p a.client))
    reads g false = let ds = downgrade_once s p a in spends_refuses w count cycle s p a q ds f.append e (brought (s.store.keep_write && keeps_permission s p a.client (s.store.holder p) && not (is_exactly a.downgrade_sent (s.store.tag p)))) (rw g (f.downs s (server_after s ds) p a.client a))

    writes : (g : ℕ) → a.write_grant ≡ Some g → (u : Bool) → DecisionSpends w count p s (if u then Decided (permit_write s p a.client g) else wait_or_doom cycle s a.client (call_back_once s p a))
    writes g h true = spends_leave w s (server_after s (permit_write s p a.client g)) p a q (count (permit_write s p a.client g)) e refl refl (rw h (f.permits s p a.client g))
    writes g h false = let ds = call_back_once s p a in spends_refuses w count cycle s p a q ds f.append e (back_once a.called_back) (rw h (f.calls s (server_after s ds) p a.client g a refl))

    kind_of : (r : Option ℕ) → a.write_grant ≡ r → DecisionSpends w count p s (elim r [ None ↦ decide_read cycle s p a | Some g ↦ decide_write cycle s p a g ])
    kind_of None g = reads g (no_other_holder (s.store.holder p) a.client && is_none ((s.session a.client).row p))
    kind_of (Some g) h = writes g h (no_other_holder (s.store.holder p) a.client && is_exactly ((s.session a.client).row p) g && sole_row s p a.client s.clients)

spends_settle : (w : Option ℕ → ℕ) (count : List ServerStep → ℕ) (cycle : DeadlockTest) (n : ℕ) (s : Server) (p : ℕ) → Counts s.clients w count → Waits w p s (server_after s (settle_page cycle n s p)) (count (settle_page cycle n s p))
spends_settle w count cycle zero s p f = record { here = rw f.empty (omega arith); apart = λ r. omega arith; clients = refl }
spends_settle w count cycle (suc n) s p f = go (λ k g. spends_settle w count cycle n k p g) (decide cycle s p (s.queue p)) (spends_decide w count cycle s p (s.queue p) f refl)
  where
    go : ((k : Server) → Counts k.clients w count → Waits w p k (server_after k (settle_page cycle n k p)) (count (settle_page cycle n k p))) → (v : Decision) → DecisionSpends w count p s v
        → Waits w p s (server_after s (elim v [ Settled ds ↦ ds | Decided ds ↦ ds ++ settle_page cycle n (server_after s ds) p ])) (count (elim v [ Settled ds ↦ ds | Decided ds ↦ ds ++ settle_page cycle n (server_after s ds) p ]))
    go g (Settled ds) a = a
    go g (Decided ds) a = let b = g (server_after s ds) (rw a.clients f) in subst (λ (k : Server). Waits w p s k (count (ds ++ settle_page cycle n (server_after s ds) p))) (sym (after_append s ds (settle_page cycle n (server_after s ds) p))) (record {
      here = rw (f.append ds (settle_page cycle n (server_after s ds) p)) (let u = a.here in let v = b.here in omega arith);
      apart = λ r. let u = a.apart r in let v = b.apart r in omega arith;
      clients = b.clients ∙ a.clients;
    })

record AllWait (w : Option ℕ → ℕ) (n : ℕ) (s k : Server) (m : ℕ) : Type 0 where
  here : m ≤ weight_below w s n
  apart : (q : ℕ) → weight w (k.queue q) ≤ weight w (s.queue q)
  clients : k.clients ≡ s.clients

spends_settles : (w : Option ℕ → ℕ) (count : List ServerStep → ℕ) (cycle : DeadlockTest) (s : Server) (n : ℕ) → Counts s.clients w count → AllWait w n s (server_after s (settle_pages cycle s n)) (count (settle_pages cycle s n))
spends_settles w count cycle s zero f = record { here = rw f.empty (omega arith); apart = λ r. omega arith; clients = refl }
spends_settles w count cycle s (suc n) f = let a = spends_settles w count cycle s n f in let k = server_after s (settle_pages cycle s n) in
    let ds = settle_page cycle (length (s.queue n) + 1) k n in let b = spends_settle w count cycle (length (s.queue n) + 1) k n (rw a.clients f) in
    subst (λ (z : Server). AllWait w (suc n) s z (count (settle_pages cycle s n ++ ds))) (sym (after_append s (settle_pages cycle s n) ds)) (record {
      here = rw (f.append (settle_pages cycle s n) ds) (let u = a.here in let v = b.here in let x = a.apart n in omega arith);
      apart = λ r. let u = a.apart r in let v = b.apart r in omega arith;
      clients = b.clients ∙ a.clients;
    })

-- messages are counted so
abbrev pub sends : List ServerStep → ℕ
sends ds = length (messages_sent ds)

pub sends_more : (xs ys : List ServerStep) → sends (xs ++ ys) ≡ sends xs + sends ys
sends_more xs ys = ap length (sent_append xs ys) ∙ length-append (messages_sent xs) (messages_sent ys)

sends_calls : (s : Server) (skip : ℕ → Bool) (p c n : ℕ) → sends (send_callbacks s skip p c n) ≤ n
sends_calls s skip p c zero = omega arith
sends_calls s skip p c (suc n) = rw (sends_more (send_callbacks s skip p c n) (if (n == c) || skip n then [] else send_callback s n p ((s.session n).row p))) (let a = sends_calls s skip p c n in let b = go ((n == c) || skip n) in omega arith)
  where
    one : (r : Option ℕ) → sends (send_callback s n p r) ≤ 1
    one None = omega arith
    one (Some g) = omega arith

    go : (r : Bool) → sends (if r then [] else send_callback s n p ((s.session n).row p)) ≤ 1
    go true = omega arith
    go false = one ((s.session n).row p)

sends_downs : (s : Server) (skip : ℕ → Bool) (p c : ℕ) (h : Option ℕ) → sends (send_downgrades s skip p c h) ≤ 1
sends_downs s skip p c None = omega arith
sends_downs s skip p c (Some d) = go (keeps_permission s p c (Some d) && not (skip d))
  where
    one : (r : Option ℕ) → sends (send_downgrade s d p r) ≤ 1
    one None = omega arith
    one (Some g) = omega arith

    go : (r : Bool) → sends (if r then send_downgrade s d p ((s.session d).row p) else []) ≤ 1
    go true = one ((s.session d).row p)
    go false = omega arith

messages_counted : (clients : ℕ) → Counts clients (messages_for clients) sends
messages_counted clients = record {
  empty = refl;
  append = sends_more;
  grants = λ s p c. omega arith;
  permits = λ s p c g. omega arith;
  calls = λ s k p c g a e. calls s p a e a.called_back;
  downs = λ s k p c a. downs s p a (s.store.keep_write && keeps_permission s p a.client (s.store.holder p) && not (is_exactly a.downgrade_sent (s.store.tag p)));
}
  where
    calls : (s : Server) (p : ℕ) (a : WaitingAsk) → s.clients ≡ clients → (r : Bool) → sends (if r then [] else send_callbacks s nobody p a.client s.clients ++ MarkCalledBack p ∷ []) + 1 ≤ clients + 1
    calls s p a e true = omega arith
    calls s p a e false = rw (sends_more (send_callbacks s nobody p a.client s.clients) (MarkCalledBack p ∷ [])) (let l = sends_calls s nobody p a.client s.clients in omega arith)

    downs : (s : Server) (p : ℕ) (a : WaitingAsk) → (r : Bool) → sends (if r then send_downgrades s nobody p a.client (s.store.holder p) ++ MarkDowngradeSent p (s.store.tag p) ∷ [] else []) + 1 ≤ 2
    downs s p a true = rw (sends_more (send_downgrades s nobody p a.client (s.store.holder p)) (MarkDowngradeSent p (s.store.tag p) ∷ [])) (let l = sends_downs s nobody p a.client (s.store.holder p) in omega arith)
    downs s p a false = omega arith

-- so are copies of pages
abbrev copy_for : Option ℕ → ℕ
copy_for g = if is_none g then 1 else 0

copies_more : (xs ys : List ServerStep) → copies_sent (xs ++ ys) ≡ copies_sent xs + copies_sent ys
copies_more [] ys = omega arith
copies_more (Send c i (Granted p g v b) ∷ xs) ys = let e = copies_more xs ys in omega arith
copies_more (_ ∷ xs) ys = copies_more xs ys

no_copy_calls : (s : Server) (skip : ℕ → Bool) (p c n : ℕ) → copies_sent (send_callbacks s skip p c n) ≡ 0
no_copy_calls s skip p c zero = refl
no_copy_calls s skip p c (suc n) = rw (copies_more (send_callbacks s skip p c n) (if (n == c) || skip n then [] else send_callback s n p ((s.session n).row p)), no_copy_calls s skip p c n) (let e = go ((n == c) || skip n) in omega arith)
  where
    one : (r : Option ℕ) → copies_sent (send_callback s n p r) ≡ 0
    one None = refl
    one (Some g) = refl

    go : (r : Bool) → copies_sent (if r then [] else send_callback s n p ((s.session n).row p)) ≡ 0
    go true = refl
    go false = one ((s.session n).row p)

no_copy_downs : (s : Server) (skip : ℕ → Bool) (p c : ℕ) (h : Option ℕ) → copies_sent (send_downgrades s skip p c h) ≡ 0
no_copy_downs s skip p c None = refl
no_copy_downs s skip p c (Some d) = go (keeps_permission s p c (Some d) && not (skip d))
  where
    one : (r : Option ℕ) → copies_sent (send_downgrade s d p r) ≡ 0
    one None = refl
    one (Some g) = refl

    go : (r : Bool) → copies_sent (if r then send_downgrade s d p ((s.session d).row p) else []) ≡ 0
    go true = one ((s.session d).row p)
    go false = refl

copies_counted : (clients : ℕ) → Counts clients copy_for copies_sent
copies_counted clients = record {
  empty = refl;
  append = copies_more;
  grants = λ s p c. omega arith;
  permits = λ s p c g. omega arith;
  calls = λ s k p c g a e. calls s p a a.called_back;
  downs = λ s k p c a. downs s p a (s.store.keep_write && keeps_permission s p a.client (s.store.holder p) && not (is_exactly a.downgrade_sent (s.store.tag p)));
}
  where
    calls : (s : Server) (p : ℕ) (a : WaitingAsk) → (r : Bool) → copies_sent (if r then [] else send_callbacks s nobody p a.client s.clients ++ MarkCalledBack p ∷ []) + 0 ≤ 0
    calls s p a true = omega arith
    calls s p a false = rw (copies_more (send_callbacks s nobody p a.client s.clients) (MarkCalledBack p ∷ []), no_copy_calls s nobody p a.client s.clients) (omega arith)

    downs : (s : Server) (p : ℕ) (a : WaitingAsk) → (r : Bool) → copies_sent (if r then send_downgrades s nobody p a.client (s.store.holder p) ++ MarkDowngradeSent p (s.store.tag p) ∷ [] else []) + 0 ≤ 1
    downs s p a true = rw (copies_more (send_downgrades s nobody p a.client (s.store.holder p)) (MarkDowngradeSent p (s.store.tag p) ∷ []), no_copy_downs s nobody p a.client (s.store.holder p)) (omega arith)
    downs s p a false = omega arith

messages_weigh : (clients : ℕ) (q : List WaitingAsk) → weight (messages_for clients) q ≡ messages_for_queue clients q
messages_weigh clients [] = refl
messages_weigh clients (a ∷ q) = ap (λ (n : ℕ). messages_for clients a.write_grant + n) (messages_weigh clients q)

messages_weigh_below : (s : Server) (n : ℕ) → weight_below (messages_for s.clients) s n ≡ messages_for_pages s n
messages_weigh_below s zero = refl
messages_weigh_below s (suc n) = rw (messages_weigh_below s n, messages_weigh s.clients (s.queue n)) refl

copies_weigh : (q : List WaitingAsk) → weight copy_for q ≡ read_asks_in q
copies_weigh [] = refl
copies_weigh (a ∷ q) = go (copies_weigh q) (is_none a.write_grant)
  where
    go : weight copy_for q ≡ read_asks_in q → (r : Bool) → (if r then 1 else 0) + weight copy_for q ≡ (if r then read_asks_in q + 1 else read_asks_in q)
    go e true = omega arith
    go e false = omega arith

copies_weigh_below : (s : Server) (n : ℕ) → weight_below copy_for s n ≡ read_asks_below s n
copies_weigh_below s zero = refl
copies_weigh_below s (suc n) = rw (copies_weigh_below s n, copies_weigh (s.queue n)) refl

-- one decision sends no more than its ask weighs
decision_sends : (cycle : DeadlockTest) (s : Server) (p : ℕ) (a : WaitingAsk) (q : List WaitingAsk) → s.queue p ≡ a ∷ q → sends (decision_steps (decide cycle s p (a ∷ q))) ≤ messages_for s.clients a.write_grant
decision_sends cycle s p a q e = kind_of a.write_grant
  where
    n : Counts s.clients (messages_for s.clients) sends
    n = messages_counted s.clients

    refuses : (ds : List ServerStep) (m : ℕ) → sends ds + 1 ≤ m → sends (decision_steps (wait_or_doom cycle s a.client ds)) ≤ m
    refuses ds m l = go (cycle (server_after s ds) a.client)
      where
        go : (r : Bool) → sends (decision_steps (if r then Decided (ds ++ doom_client (server_after s ds) a.client) else Settled ds)) ≤ m
        go true = rw (sends_more ds (doom_client (server_after s ds) a.client)) l
        go false = omega arith

    reads : (u : Bool) → sends (decision_steps (if u then Decided (grant_row s p a.client) else wait_or_doom cycle s a.client (downgrade_once s p a))) ≤ 2
    reads true = n.grants s p a.client
    reads false = refuses (downgrade_once s p a) 2 (n.downs s s p a.client a)

    writes : (g : ℕ) (u : Bool) → sends (decision_steps (if u then Decided (permit_write s p a.client g) else wait_or_doom cycle s a.client (call_back_once s p a))) ≤ s.clients + 1
    writes g true = n.permits s p a.client g
    writes g false = refuses (call_back_once s p a) (s.clients + 1) (n.calls s s p a.client g a refl)

    kind_of : (r : Option ℕ) → sends (decision_steps (elim r [ None ↦ decide_read cycle s p a | Some g ↦ decide_write cycle s p a g ])) ≤ messages_for s.clients r
    kind_of None = reads (no_other_holder (s.store.holder p) a.client && is_none ((s.session a.client).row p))
    kind_of (Some g) = writes g (no_other_holder (s.store.holder p) a.client && is_exactly ((s.session a.client).row p) g && sole_row s p a.client s.clients)

pub settling_sends_at_most : (cycle : DeadlockTest) (s : Server) → SettlingSendsAtMost cycle s
settling_sends_at_most cycle s = record {
  decision = λ p a q e. rw e (decision_sends cycle s p a q e);
  one_page = λ n p. let l = (spends_settle (messages_for s.clients) sends cycle n s p (messages_counted s.clients)).here in rw (messages_weigh s.clients (s.queue p)) at l;
  all_pages = λ n. let l = (spends_settles (messages_for s.clients) sends cycle s n (messages_counted s.clients)).here in rw (messages_weigh_below s n) at l;
  page_copies = λ n p. let l = (spends_settle copy_for copies_sent cycle n s p (copies_counted s.clients)).here in rw (copies_weigh (s.queue p)) at l;
  all_copies = λ n. let l = (spends_settles copy_for copies_sent cycle s n (copies_counted s.clients)).here in rw (copies_weigh_below s n) at l;
}

-- sums over the numbers below n
abbrev sum_below : (ℕ → ℕ) → ℕ → ℕ
sum_below f zero = 0
sum_below f (suc n) = sum_below f n + f n

sum_add : (f g : ℕ → ℕ) (n : ℕ) → sum_below (λ i. f i + g i) n ≡ sum_below f n + sum_below g n
sum_add f g zero = refl
sum_add f g (suc n) = let e = sum_add f g n in omega arith

sum_ones : (f : ℕ → ℕ) (n : ℕ) → ((i : ℕ) → f i ≤ 1) → sum_below f n ≤ n
sum_ones f zero l = omega arith
sum_ones f (suc n) l = let a = sum_ones f n l in let b = l n in omega arith

sum_one : (c n : ℕ) → c < n → 1 ≤ sum_below (λ d. if c == d then 1 else 0) n
sum_one c zero l = absurd (omega arith)
sum_one c (suc n) l = go (λ m. sum_one c n m) (c == n) refl
  where
    before : (c == n) ≡ false → c < n
    before e = grind arith

    go : (c < n → 1 ≤ sum_below (λ d. if c == d then 1 else 0) n) → (r : Bool) → (c == n) ≡ r → 1 ≤ sum_below (λ d. if c == d then 1 else 0) n + (if r then 1 else 0)
    go f true e = omega arith
    go f false e = let l = f (before e) in omega arith

-- the asks of a queue, client by client
counted_all : (m : ℕ) (q : List WaitingAsk) → ((c : ℕ) → HasAsk c q → c < m) → length q ≤ sum_below (λ c. ask_count c q) m
counted_all m [] f = omega arith
counted_all m (a ∷ q) f = let one = sum_one a.client m (f a.client (inl refl)) in let rest = counted_all m q (λ c h. f c (inr h)) in
    let e = sum_add (λ c. if a.client == c then 1 else 0) (λ c. ask_count c q) m in omega arith

-- all asks at the pages below n, and those of client c
abbrev asks_below : Server → ℕ → ℕ
asks_below s n = sum_below (λ p. length (s.queue p)) n

abbrev asks_of : Server → ℕ → ℕ → ℕ
asks_of s n c = sum_below (λ p. ask_count c (s.queue p)) n

none_of : (s : Server) (c p n : ℕ) → OneAsk s.queue → 1 ≤ ask_count c (s.queue p) → n ≤ p → asks_of s n c ≡ 0
none_of s c p zero o l m = refl
none_of s c p (suc n) o l m = let a = none_of s c p n o l (omega arith) in let b = o.apart n p c (λ e. absurd (omega arith)) in omega arith

one_of : (s : Server) (c n : ℕ) → OneAsk s.queue → asks_of s n c ≤ 1
one_of s c zero o = omega arith
one_of s c (suc n) o = elim (below_or_not 0 (ask_count c (s.queue n))) [
  | inl l ↦ (let a = none_of s c n n o (omega arith) (omega arith) in let b = o.here n c in omega arith)
  | inr l ↦ (let a = one_of s c n o in omega arith)
]

asks_counted : (s : Server) (n : ℕ) → AsksInRange s → asks_below s n ≤ sum_below (asks_of s n) s.clients
asks_counted s zero k = omega arith
asks_counted s (suc n) k = let a = asks_counted s n k in let b = counted_all s.clients (s.queue n) (λ c h. (k n c h).0) in
    let e = sum_add (asks_of s n) (λ c. ask_count c (s.queue n)) s.clients in omega arith

-- no more asks wait than there are clients
few_asks : (s : Server) (n : ℕ) → OneAsk s.queue → AsksInRange s → asks_below s n ≤ s.clients
few_asks s n o k = let a = asks_counted s n k in let b = sum_ones (asks_of s n) s.clients (λ c. one_of s c n o) in omega arith

queue_costs : (m : ℕ) (q : List WaitingAsk) → 1 ≤ m → messages_for_queue m q ≤ length q * (m + 1)
queue_costs m [] l = omega arith
queue_costs m (a ∷ q) l = let r = queue_costs m q l in go r (is_none a.write_grant)
  where
    go : messages_for_queue m q ≤ length q * (m + 1) → (r : Bool) → (if r then 2 else m + 1) + messages_for_queue m q ≤ suc (length q) * (m + 1)
    go r true = grind arith
    go r false = grind arith

pages_cost : (s : Server) (n : ℕ) → 1 ≤ s.clients → messages_for_pages s n ≤ asks_below s n * (s.clients + 1)
pages_cost s zero l = omega arith
pages_cost s (suc n) l = more (asks_below s n) (length (s.queue n)) (s.clients + 1) _ _ (pages_cost s n l) (queue_costs s.clients (s.queue n) l)
  where
    more : (a b m x y : ℕ) → x ≤ a * m → y ≤ b * m → x + y ≤ (a + b) * m
    more a b m x y k l = grind arith

nobody_asks : (s : Server) (n : ℕ) → s.clients ≤ 0 → AsksInRange s → messages_for_pages s n ≡ 0
nobody_asks s zero l k = refl
nobody_asks s (suc n) l k = rw (nobody_asks s n l k) (go (s.queue n) (λ c h. (k n c h).0))
  where
    go : (q : List WaitingAsk) → ((c : ℕ) → HasAsk c q → c < s.clients) → 0 + messages_for_queue s.clients q ≡ 0
    go [] f = refl
    go (a ∷ q) f = absurd (let u = f a.client (inl refl) in omega arith)

pub settling_by_clients : (cycle : DeadlockTest) (s : Server) (n : ℕ) → OneAsk s.queue → AsksInRange s → sends (settle_pages cycle s n) ≤ s.clients * (s.clients + 1)
settling_by_clients cycle s n o k = elim (below_or_not 0 s.clients) [
  | inl l ↦ bound (asks_below s n) s.clients (s.clients + 1) (messages_for_pages s n) _ (few_asks s n o k) (pages_cost s n (omega arith)) ((settling_sends_at_most cycle s).all_pages n)
  | inr l ↦ (let a = (settling_sends_at_most cycle s).all_pages n in let e = nobody_asks s n l k in bound 0 s.clients (s.clients + 1) (messages_for_pages s n) _ (omega arith) (omega arith) a)
]
  where
    bound : (a b m x y : ℕ) → a ≤ b → x ≤ a * m → y ≤ x → y ≤ b * m
    bound a b m x y i j l = let k = mul-le-mul_right m i in omega arith

-- a direct answer sends one message at most
answer_sends : (cycle : DeadlockTest) (s : Server) (c : ℕ) (b : Body) → sends (direct_answer cycle s c b) ≤ 1
answer_sends cycle s c (AskRead t p) = live (nat_lt (s.session c).ended t) (s.doomed c) (asks ((s.session c).row p))
  where
    enters : (r : Bool) → sends (if r then EnterQueue p (new_ask c None) ∷ doom_client (after_server_step s (EnterQueue p (new_ask c None))) c else EnterQueue p (new_ask c None) ∷ []) ≤ 1
    enters true = omega arith
    enters false = omega arith

    waits : (r : Bool) → sends (if r then [] else enter_queue cycle s p (new_ask c None)) ≤ 1
    waits true = omega arith
    waits false = enters (not (is_empty (s.queue p)) && cycle (after_server_step s (EnterQueue p (new_ask c None))) c)

    asks : (r : Option ℕ) → sends (take_ask_read cycle s c p r) ≤ 1
    asks (Some g) = omega arith
    asks None = waits (has_waiting_ask s c s.pages)

    live : (r u : Bool) → sends (take_ask_read cycle s c p ((s.session c).row p)) ≤ 1 → sends (if r then (if u then send_to s c (AbortNow t) ∷ [] else take_ask_read cycle s c p ((s.session c).row p)) else []) ≤ 1
    live true true l = omega arith
    live true false l = l
    live false u l = omega arith
answer_sends cycle s c (AskWrite t p g) = live (nat_lt (s.session c).ended t) (s.doomed c) (asks (is_exactly ((s.session c).row p) g) (is_exactly (s.store.holder p) c) (has_waiting_ask s c s.pages))
  where
    enters : (r : Bool) → sends (if r then EnterQueue p (new_ask c (Some g)) ∷ doom_client (after_server_step s (EnterQueue p (new_ask c (Some g)))) c else EnterQueue p (new_ask c (Some g)) ∷ []) ≤ 1
    enters true = omega arith
    enters false = omega arith

    asks : (r u v : Bool) → sends (if not r then [] else if u then ChangeSession c (PermitWrite p g) ∷ send_to s c (MayWrite (s.session c).txn p g) ∷ [] else if v then [] else enter_queue cycle s p (new_ask c (Some g))) ≤ 1
    asks false u v = omega arith
    asks true true v = omega arith
    asks true false true = omega arith
    asks true false false = enters (not (is_empty (s.queue p)) && cycle (after_server_step s (EnterQueue p (new_ask c (Some g)))) c)

    live : (r u : Bool) → sends (take_ask_write cycle s c p g) ≤ 1 → sends (if r then (if u then send_to s c (AbortNow t) ∷ [] else take_ask_write cycle s c p g) else []) ≤ 1
    live true true l = omega arith
    live true false l = l
    live false u l = omega arith
answer_sends cycle s c (GiveBack p g) = go (is_exactly ((s.session c).row p) g)
  where
    go : (r : Bool) → sends (if r then UnmarkInUse c p ∷ ChangeSession c (RemoveRow p g) ∷ [] else []) ≤ 1
    go true = omega arith
    go false = omega arith
answer_sends cycle s c (InUse t p g) = go (nat_lt (s.session c).ended t && is_exactly ((s.session c).row p) g)
  where
    go : (r : Bool) → sends (if r then MarkInUse c p ∷ [] else []) ≤ 1
    go true = omega arith
    go false = omega arith
answer_sends cycle s c (Commit t ws) = go (nat_lt (s.session c).ended t) (s.doomed c) (commit_allowed s c ws) (t == (s.session c).ended)
  where
    again : (r : Option ℕ) → sends (repeat_done s c t r) ≤ 1
    again None = omega arith
    again (Some m) = flush (nat_le m s.flushed)
      where
        flush : (r : Bool) → sends (if r then send_to s c (Done t m) ∷ [] else []) ≤ 1
        flush true = omega arith
        flush false = omega arith

    go : (r u v y : Bool) → sends (if r
        then (if u then send_to s c (AbortNow t) ∷ [] else if v then ForgetTransaction c ∷ ChangeSession c (ApplyCommit t ws) ∷ [] else [])
        else if y then repeat_done s c t (s.outcome c) else []) ≤ 1
    go true true v y = omega arith
    go true false true y = omega arith
    go true false false y = omega arith
    go false u v true = again (s.outcome c)
    go false u v false = omega arith
answer_sends cycle s c (Drop t) = go (nat_lt (s.session c).ended t)
  where
    go : (r : Bool) → sends (if r then ForgetTransaction c ∷ ChangeSession c (DropTransaction t) ∷ [] else []) ≤ 1
    go true = omega arith
    go false = omega arith
answer_sends cycle s c (Downgraded p g t) = go (s.store.keep_write && is_exactly ((s.session c).row p) g && is_exactly (s.store.holder p) c && (s.store.tag p == t))
  where
    go : (r : Bool) → sends (if r then ChangeSession c (EndPermission p g t) ∷ [] else []) ≤ 1
    go true = omega arith
    go false = omega arith
answer_sends cycle s c _ = omega arith

begin_sends : (s : Server) (c t : ℕ) → sends (begin_transaction s c t) ≡ 0
begin_sends s c t = go (nat_lt (s.session c).txn t)
  where
    go : (r : Bool) → sends (if r then ForgetTransaction c ∷ ChangeSession c (BeginTransaction t) ∷ [] else []) ≡ 0
    go true = refl
    go false = refl

same_clients : (s : Server) (ds : List ServerStep) → (server_after s ds).clients ≡ s.clients
same_clients s [] = refl
same_clients s (x ∷ ds) = same_clients (after_server_step s x) ds ∙ one x
  where
    one : (x : ServerStep) → (after_server_step s x).clients ≡ s.clients
    one (ChangeSession c m) = refl
    one (Send c i b) = refl
    one (EnterQueue p a) = refl
    one (LeaveQueue p) = refl
    one (MarkCalledBack p) = refl
    one (MarkDowngradeSent p t) = refl
    one (MarkInUse c p) = refl
    one (UnmarkInUse c p) = refl
    one (RemoveAsk c) = refl
    one (Doom c) = refl
    one (ForgetTransaction c) = refl
    one (SetFlushed n) = refl

abbrev FewFor : Server → List ServerStep → Type 0
FewFor s ds = sends ds ≤ s.clients * (s.clients + 1) + 1

-- one message at most, then settling
few_then : (s : Server) → ReachedServer s → (i : Input) → InputInRange s i → (ds : List ServerStep) → sends ds ≤ 1 → input_steps on_cycle s i ≡ ds ++ settle_pages on_cycle (server_after s ds) (server_after s ds).pages → FewFor s (input_steps on_cycle s i)
few_then s r i f ds l e = rw e (rw (sends_more ds (settle_pages on_cycle a a.pages)) (let u = few in omega arith))
  where
    a : Server
    a = server_after s ds

    asks : OneAsk a.queue × AsksInRange a
    asks = one_ask s r i f ds (settle_pages on_cycle a a.pages) e

    few : sends (settle_pages on_cycle a a.pages) ≤ s.clients * (s.clients + 1)
    few = subst (λ (m : ℕ). sends (settle_pages on_cycle a a.pages) ≤ m * (m + 1)) (same_clients s ds) (settling_by_clients on_cycle a a.pages asks.0 asks.1)

few_none : (s : Server) (ds : List ServerStep) → sends ds ≤ 1 → FewFor s ds
few_none s ds l = omega arith

few_current : (s : Server) → ReachedServer s → (c i : ℕ) (b : Body) → InputInRange s (MessageComes c i b) → server_take on_cycle s c i b ≡ take_current on_cycle s c b → FewFor s (server_take on_cycle s c i b)
few_current s r c i b f e = few_then s r (MessageComes c i b) f (xs ++ ys) few (e ∙ whole)
  where
    xs : List ServerStep
    xs = begin_transaction s c (named_txn b)

    k : Server
    k = server_after s xs

    ys : List ServerStep
    ys = direct_answer on_cycle k c b

    few : sends (xs ++ ys) ≤ 1
    few = rw (sends_more xs ys) (let u = begin_sends s c (named_txn b) in let v = answer_sends on_cycle k c b in omega arith)

    whole : take_current on_cycle s c b ≡ (xs ++ ys) ++ settle_pages on_cycle (server_after s (xs ++ ys)) (server_after s (xs ++ ys)).pages
    whole = rw (after_append s xs ys) (sym (append_assoc xs ys (settle_pages on_cycle (server_after k ys) (server_after k ys).pages)))

few_message : (s : Server) → ReachedServer s → (c i : ℕ) (b : Body) → InputInRange s (MessageComes c i b) → b ≢ Hello → FewFor s (server_take on_cycle s c i b)
few_message s r c i b f n = go (i == (s.session c).current) refl
  where
    here : (i == (s.session c).current) ≡ true → i ≡ (s.session c).current
    here e = grind arith

    apart : (i == (s.session c).current) ≡ false → i ≢ (s.session c).current
    apart e = grind arith

    go : (r : Bool) → (i == (s.session c).current) ≡ r → FewFor s (server_take on_cycle s c i b)
    go true e = few_current s r c i b f (serves_current on_cycle s c i b n (here e))
    go false e = rw (serves_no_other_incarnation on_cycle s c i b n (apart e)) (omega arith)

few_hello : (s : Server) → ReachedServer s → (c i : ℕ) → InputInRange s (MessageComes c i Hello) → FewFor s (server_take on_cycle s c i Hello)
few_hello s r c i f = go (nat_lt (s.session c).current i) refl (i == (s.session c).current) refl
  where
    ahead : nat_lt (s.session c).current i ≡ true → (s.session c).current < i
    ahead e = grind arith

    here : (i == (s.session c).current) ≡ true → i ≡ (s.session c).current
    here e = grind arith

    behind : nat_lt (s.session c).current i ≡ false → (i == (s.session c).current) ≡ false → i < (s.session c).current
    behind e f = grind arith

    go : (r : Bool) → nat_lt (s.session c).current i ≡ r → (u : Bool) → (i == (s.session c).current) ≡ u → FewFor s (server_take on_cycle s c i Hello)
    go true e u g = few_then s r (MessageComes c i Hello) f (ForgetTransaction c ∷ ChangeSession c (Admit i) ∷ Send c i Welcome ∷ []) (omega arith) (serves_new_hello on_cycle s c i (ahead e))
    go false e true g = rw (serves_hello_again on_cycle s c i (here g)) (omega arith)
    go false e false g = rw (serves_no_old_hello on_cycle s c i (behind e g)) (omega arith)

pub step_sends_at_most : StepSendsAtMost
step_sends_at_most s r (MessageComes c i b) f m = is_hello b refl
  where
    is_hello : (y : Body) → b ≡ y → FewFor s (server_take on_cycle s c i b)
    is_hello Hello e = rw e (few_hello s r c i (rw e at f))
    is_hello _ e = few_message s r c i b f (λ z. absurd cc)
step_sends_at_most s r SendsAgain f m = absurd m
step_sends_at_most s r (ReachesDisk n) f m = absurd m

-- what is sent again: Callbacks or a Downgrade for each page with asks, and AbortNow to each client at most
pub again_page_sends : (s : Server) (p : ℕ) (q : List WaitingAsk) → sends (again_page s p q) ≤ length q * (s.clients + 1)
again_page_sends s p [] = omega arith
again_page_sends s p (a ∷ q) = go (is_none a.write_grant)
  where
    least : (x : ℕ) → x ≤ s.clients + 1 → x ≤ suc (length q) * (s.clients + 1)
    least x l = let one : 1 ≤ suc (length q) = omega arith in let m = mul-le-mul_right (s.clients + 1) one in omega (arith, l, m)

    down : (k : Bool) → sends (if k then send_downgrades s (uses_page s p) p a.client (s.store.holder p) else []) ≤ s.clients + 1
    down true = let l = sends_downs s (uses_page s p) p a.client (s.store.holder p) in omega (arith, l)
    down false = omega arith

    go : (r : Bool) → sends (if r then again_downgrade s p a else send_callbacks s (uses_page s p) p a.client s.clients) ≤ suc (length q) * (s.clients + 1)
    go true = least _ (down s.store.keep_write)
    go false = least _ (let l = sends_calls s (uses_page s p) p a.client s.clients in omega (arith, l))

again_pages_send : (s : Server) (n : ℕ) → sends (again_pages s n) ≤ asks_below s n * (s.clients + 1)
again_pages_send s zero = omega arith
again_pages_send s (suc n) = rw (sends_more (again_pages s n) (again_page s n (s.queue n)))
    (more (asks_below s n) (length (s.queue n)) (s.clients + 1) _ _ (again_pages_send s n) (again_page_sends s n (s.queue n)))
  where
    more : (a b m x y : ℕ) → x ≤ a * m → y ≤ b * m → x + y ≤ (a + b) * m
    more a b m x y k l = grind arith

pub again_doomed_send : (s : Server) (n : ℕ) → sends (again_doomed s n) ≤ n
again_doomed_send s zero = omega arith
again_doomed_send s (suc n) = rw (sends_more (again_doomed s n) (if s.doomed n then send_to s n (AbortNow (s.session n).txn) ∷ [] else []))
    (let l = again_doomed_send s n in let k = go (s.doomed n) in omega (arith, l, k))
  where
    go : (r : Bool) → sends (if r then send_to s n (AbortNow (s.session n).txn) ∷ [] else []) ≤ 1
    go true = omega arith
    go false = omega arith

pub resending_by_clients : (s : Server) → OneAsk s.queue → AsksInRange s → sends (server_again s) ≤ s.clients * (s.clients + 1) + s.clients
resending_by_clients s o k = rw (sends_more (again_pages s s.pages) (again_doomed s s.clients))
    (let a = again_pages_send s s.pages in let b = mul-le-mul_right (s.clients + 1) (few_asks s s.pages o k) in let d = again_doomed_send s s.clients in omega (arith, a, b, d))

no_copy_page : (s : Server) (p : ℕ) (q : List WaitingAsk) → copies_sent (again_page s p q) ≡ 0
no_copy_page s p [] = refl
no_copy_page s p (a ∷ q) = go (is_none a.write_grant)
  where
    down : (k : Bool) → copies_sent (if k then send_downgrades s (uses_page s p) p a.client (s.store.holder p) else []) ≡ 0
    down true = no_copy_downs s (uses_page s p) p a.client (s.store.holder p)
    down false = refl

    go : (r : Bool) → copies_sent (if r then again_downgrade s p a else send_callbacks s (uses_page s p) p a.client s.clients) ≡ 0
    go true = down s.store.keep_write
    go false = no_copy_calls s (uses_page s p) p a.client s.clients

no_copy_pages : (s : Server) (n : ℕ) → copies_sent (again_pages s n) ≡ 0
no_copy_pages s zero = refl
no_copy_pages s (suc n) = let e = copies_more (again_pages s n) (again_page s n (s.queue n)) in let a = no_copy_pages s n in let b = no_copy_page s n (s.queue n) in omega (arith, e, a, b)

no_copy_doomed : (s : Server) (n : ℕ) → copies_sent (again_doomed s n) ≡ 0
no_copy_doomed s zero = refl
no_copy_doomed s (suc n) =
    let e = copies_more (again_doomed s n) (if s.doomed n then send_to s n (AbortNow (s.session n).txn) ∷ [] else []) in
    let a = no_copy_doomed s n in let b = go (s.doomed n) in omega (arith, e, a, b)
  where
    go : (r : Bool) → copies_sent (if r then send_to s n (AbortNow (s.session n).txn) ∷ [] else []) ≡ 0
    go true = refl
    go false = refl

pub resending_copies : (s : Server) → copies_sent (server_again s) ≡ 0
resending_copies s =
    let e = copies_more (again_pages s s.pages) (again_doomed s s.clients) in
    let a = no_copy_pages s s.pages in let b = no_copy_doomed s s.clients in omega (arith, e, a, b)
