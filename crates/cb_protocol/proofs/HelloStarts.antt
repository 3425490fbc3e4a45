-- A greater Hello leaves nothing of the older incarnation.
use Rattle.std.proofs.Common.{Bool, List, None, Option, Some, [], arith, false, if◌then◌else◌, inl, inr, nat_lt, not, refl, true, ℕ, ◌&&◌, ◌++◌, ◌==◌, ◌∷◌, ◌≡◌, ◌≢◌}
use Rattle.std.specs.Prelude.{⊤}
use Rattle.cb_protocol.proofs.InvariantKept.{put_each}
use Rattle.cb_protocol.proofs.ServerWalks.{EachStep, KeptUnder, Lasting, StepRule, each_after_sends, each_append, each_callbacks, each_downgrades, each_settles, kept_by_each}
use Rattle.cb_protocol.proofs.SettlingClears.{after_sends, sends_callbacks, sends_downgrades}
use Rattle.cb_protocol.specs.Basics.{is_exactly, is_none, update}
use Rattle.cb_protocol.specs.HelloLaws.{GreaterHelloStartsAnew, OnlyGreeted}
use Rattle.cb_protocol.specs.Messages.{Welcome}
use Rattle.cb_protocol.specs.Server.{ChangeSession, DeadlockTest, Doom, EnterQueue, ForgetTransaction, LeaveQueue, MarkCalledBack, MarkInUse, MarkDowngradeSent, RemoveAsk, Send, Server, ServerStep, SetFlushed, UnmarkInUse, WaitingAsk, set_downgrade_sent, after_first, after_server_step, server_after, set_called_back, without_client}
use Rattle.cb_protocol.specs.ServerMessages.{admit_incarnation, server_take}
use Rattle.cb_protocol.specs.Session.{Admit, GrantRow, PermitWrite}
use Rattle.cb_protocol.specs.Settling.{Decided, Settled, call_back_once, decide, decide_read, decide_write, decision_steps, doom_client, downgrade_once, grant_row, keeps_permission, no_other_holder, nobody, permit_write, send_callbacks, send_downgrades, settle_pages, sole_row, wait_or_doom}
use Rattle.cb_protocol.specs.WaitsFor.{HasAsk}

-- the step gives client c nothing
abbrev pub Spares : ℕ → StepRule
Spares c s (ChangeSession d (GrantRow p g)) ds = d ≢ c
Spares c s (ChangeSession d (PermitWrite p g)) ds = d ≢ c
Spares c s (ChangeSession d m) ds = ⊥
Spares c s (Doom d) ds = d ≢ c
Spares c s (MarkInUse d p) ds = ⊥
Spares c s (EnterQueue p a) ds = ⊥
Spares c s _ ds = ⊤

spares_lasting : (c : ℕ) → Lasting (Spares c)
spares_lasting c s (ChangeSession d (GrantRow p g)) xs ys a = a
spares_lasting c s (ChangeSession d (PermitWrite p g)) xs ys a = a
spares_lasting c s (ChangeSession d _) xs ys a = absurd a
spares_lasting c s _ xs ys a = a

-- queues in which no ask is new
rest_has : (c : ℕ) (q : List WaitingAsk) → HasAsk c (after_first q) → HasAsk c q
rest_has c [] h = h
rest_has c (a ∷ q) h = inr h

called_has : (c : ℕ) (q : List WaitingAsk) → HasAsk c (set_called_back q) → HasAsk c q
called_has c [] h = h
called_has c (a ∷ q) h = h

told_has : (t c : ℕ) (q : List WaitingAsk) → HasAsk c (set_downgrade_sent t q) → HasAsk c q
told_has t c [] h = h
told_has t c (a ∷ q) h = h

without_has : (d c : ℕ) (q : List WaitingAsk) → HasAsk c (without_client d q) → HasAsk c q
without_has d c [] h = h
without_has d c (a ∷ q) h = go (without_has d c q) (a.client == d) h
  where
    go : (HasAsk c (without_client d q) → HasAsk c q) → (r : Bool) → HasAsk c (if r then without_client d q else a ∷ without_client d q) → HasAsk c (a ∷ q)
    go f true x = inr (f x)
    go f false x = elim x [ inl e ↦ inl e | inr y ↦ inr (f y) ]

own_gone : (c : ℕ) (q : List WaitingAsk) → HasAsk c (without_client c q) → ⊥
own_gone c [] h = h
own_gone c (a ∷ q) h = go (own_gone c q) (a.client == c) refl h
  where
    apart : (a.client == c) ≡ false → a.client ≢ c
    apart e = grind arith

    go : (HasAsk c (without_client c q) → ⊥) → (r : Bool) → (a.client == c) ≡ r → HasAsk c (if r then without_client c q else a ∷ without_client c q) → ⊥
    go f true e x = f x
    go f false e x = elim x [ inl h ↦ apart e h | inr y ↦ f y ]

-- one queue changes, and gets no ask of c
pub greeted_queue : (s : Server) (c i p : ℕ) (q : List WaitingAsk) → (HasAsk c q → HasAsk c (s.queue p)) → OnlyGreeted s c i
    → OnlyGreeted (record s { queue = update s.queue p q }) c i
greeted_queue s c i p q f o = record {
  current = o.current;
  no_row = o.no_row;
  no_permission = o.no_permission;
  no_mark = o.no_mark;
  no_ask = put_each (λ r x. HasAsk c x → ⊥) s.queue p q (λ h. o.no_ask p (f h)) (λ r n. o.no_ask r);
  not_doomed = o.not_doomed;
  none_begun = o.none_begun;
  none_ended = o.none_ended;
  no_outcome = o.no_outcome;
}

greeted_grant : (s : Server) (c i d p g : ℕ) → d ≢ c → OnlyGreeted s c i → OnlyGreeted (after_server_step s (ChangeSession d (GrantRow p g))) c i
greeted_grant s c i d p g n o = record {
  current = grind (arith, o.current);
  no_row = grind (arith, o.no_row);
  no_permission = o.no_permission;
  no_mark = o.no_mark;
  no_ask = o.no_ask;
  not_doomed = o.not_doomed;
  none_begun = grind (arith, o.none_begun);
  none_ended = grind (arith, o.none_ended);
  no_outcome = grind (arith, o.no_outcome);
}

greeted_permit : (s : Server) (c i d p g : ℕ) → d ≢ c → OnlyGreeted s c i → OnlyGreeted (after_server_step s (ChangeSession d (PermitWrite p g))) c i
greeted_permit s c i d p g n o = record {
  current = grind (arith, o.current);
  no_row = grind (arith, o.no_row);
  no_permission = λ q. grind (arith, o.no_permission q);
  no_mark = o.no_mark;
  no_ask = o.no_ask;
  not_doomed = o.not_doomed;
  none_begun = grind (arith, o.none_begun);
  none_ended = grind (arith, o.none_ended);
  no_outcome = grind (arith, o.no_outcome);
}

pub greeted_kept : (c i : ℕ) → KeptUnder (Spares c) (λ k. OnlyGreeted k c i)
greeted_kept c i s (ChangeSession d (GrantRow p g)) ds a o = greeted_grant s c i d p g a o
greeted_kept c i s (ChangeSession d (PermitWrite p g)) ds a o = greeted_permit s c i d p g a o
greeted_kept c i s (ChangeSession d _) ds a o = absurd a
greeted_kept c i s (Send d j b) ds a o = o
greeted_kept c i s (EnterQueue p x) ds a o = absurd a
greeted_kept c i s (LeaveQueue p) ds a o = greeted_queue s c i p (after_first (s.queue p)) (rest_has c (s.queue p)) o
greeted_kept c i s (MarkCalledBack p) ds a o = greeted_queue s c i p (set_called_back (s.queue p)) (called_has c (s.queue p)) o
greeted_kept c i s (MarkDowngradeSent p t) ds a o = greeted_queue s c i p (set_downgrade_sent t (s.queue p)) (told_has t c (s.queue p)) o
greeted_kept c i s (MarkInUse d p) ds a o = absurd a
greeted_kept c i s (UnmarkInUse d p) ds a o = record {
  current = o.current;
  no_row = o.no_row;
  no_permission = o.no_permission;
  no_mark = λ q. grind (arith, o.no_mark q);
  no_ask = o.no_ask;
  not_doomed = o.not_doomed;
  none_begun = o.none_begun;
  none_ended = o.none_ended;
  no_outcome = o.no_outcome;
}
greeted_kept c i s (RemoveAsk d) ds a o = record {
  current = o.current;
  no_row = o.no_row;
  no_permission = o.no_permission;
  no_mark = o.no_mark;
  no_ask = λ p h. o.no_ask p (without_has d c (s.queue p) h);
  not_doomed = o.not_doomed;
  none_begun = o.none_begun;
  none_ended = o.none_ended;
  no_outcome = o.no_outcome;
}
greeted_kept c i s (Doom d) ds a o = record {
  current = o.current;
  no_row = o.no_row;
  no_permission = o.no_permission;
  no_mark = o.no_mark;
  no_ask = o.no_ask;
  not_doomed = grind (arith, o.not_doomed);
  none_begun = o.none_begun;
  none_ended = o.none_ended;
  no_outcome = o.no_outcome;
}
greeted_kept c i s (ForgetTransaction d) ds a o = record {
  current = o.current;
  no_row = o.no_row;
  no_permission = o.no_permission;
  no_mark = λ q. grind (arith, o.no_mark q);
  no_ask = λ p h. o.no_ask p (without_has d c (s.queue p) h);
  not_doomed = grind (arith, o.not_doomed);
  none_begun = o.none_begun;
  none_ended = o.none_ended;
  no_outcome = o.no_outcome;
}
greeted_kept c i s (SetFlushed n) ds a o = record {
  current = o.current;
  no_row = o.no_row;
  no_permission = o.no_permission;
  no_mark = o.no_mark;
  no_ask = o.no_ask;
  not_doomed = o.not_doomed;
  none_begun = o.none_begun;
  none_ended = o.none_ended;
  no_outcome = o.no_outcome;
}

-- settling gives nothing to a client without an ask
spares_refuse : (c : ℕ) (cycle : DeadlockTest) (s : Server) (d : ℕ) (ds : List ServerStep) → d ≢ c → EachStep (Spares c) s ds
    → EachStep (Spares c) s (decision_steps (wait_or_doom cycle s d ds))
spares_refuse c cycle s d ds n a = go (cycle (server_after s ds) d)
  where
    go : (r : Bool) → EachStep (Spares c) s (decision_steps (if r then Decided (ds ++ doom_client (server_after s ds) d) else Settled ds))
    go true = each_append (Spares c) (spares_lasting c) s ds (doom_client (server_after s ds) d) a (tt, (n, (tt, tt)))
    go false = a

spares_calls_back : (c : ℕ) (s : Server) (p : ℕ) (a : WaitingAsk) → EachStep (Spares c) s (call_back_once s p a)
spares_calls_back c s p a = go a.called_back
  where
    go : (r : Bool) → EachStep (Spares c) s (if r then [] else send_callbacks s nobody p a.client s.clients ++ MarkCalledBack p ∷ [])
    go true = tt
    go false = each_after_sends (Spares c) (spares_lasting c) s (send_callbacks s nobody p a.client s.clients) (MarkCalledBack p ∷ [])
        (after_sends s (send_callbacks s nobody p a.client s.clients) (sends_callbacks s nobody p a.client s.clients))
        (each_callbacks (Spares c) (spares_lasting c) s nobody p a.client s.clients (λ d i g. tt)) (tt, tt)

spares_brings_down : (c : ℕ) (s : Server) (p : ℕ) (a : WaitingAsk) → EachStep (Spares c) s (downgrade_once s p a)
spares_brings_down c s p a = go (s.store.keep_write && keeps_permission s p a.client (s.store.holder p) && not (is_exactly a.downgrade_sent (s.store.tag p)))
  where
    go : (r : Bool) → EachStep (Spares c) s (if r then send_downgrades s nobody p a.client (s.store.holder p) ++ MarkDowngradeSent p (s.store.tag p) ∷ [] else [])
    go true = each_after_sends (Spares c) (spares_lasting c) s (send_downgrades s nobody p a.client (s.store.holder p)) (MarkDowngradeSent p (s.store.tag p) ∷ [])
        (after_sends s (send_downgrades s nobody p a.client (s.store.holder p)) (sends_downgrades s nobody p a.client (s.store.holder p)))
        (each_downgrades (Spares c) s nobody p a.client (s.store.holder p) (λ d i g t. tt)) (tt, tt)
    go false = tt

spares_decide : (c : ℕ) (cycle : DeadlockTest) (s : Server) (p : ℕ) (q : List WaitingAsk) → (HasAsk c q → ⊥)
    → EachStep (Spares c) s (decision_steps (decide cycle s p q))
spares_decide c cycle s p [] f = tt
spares_decide c cycle s p (a ∷ q) f = kind_of a.write_grant
  where
    other : a.client ≢ c
    other e = f (inl e)

    reads : (u : Bool) → EachStep (Spares c) s (decision_steps (if u then Decided (grant_row s p a.client) else wait_or_doom cycle s a.client (downgrade_once s p a)))
    reads true = (other, (tt, (tt, tt)))
    reads false = spares_refuse c cycle s a.client (downgrade_once s p a) other (spares_brings_down c s p a)

    writes : (g : ℕ) (u : Bool) → EachStep (Spares c) s (decision_steps (if u then Decided (permit_write s p a.client g) else wait_or_doom cycle s a.client (call_back_once s p a)))
    writes g true = (other, (tt, (tt, tt)))
    writes g false = spares_refuse c cycle s a.client (call_back_once s p a) other (spares_calls_back c s p a)

    kind_of : (r : Option ℕ) → EachStep (Spares c) s (decision_steps (elim r [ None ↦ decide_read cycle s p a | Some g ↦ decide_write cycle s p a g ]))
    kind_of None = reads (no_other_holder (s.store.holder p) a.client && is_none ((s.session a.client).row p))
    kind_of (Some g) = writes g (no_other_holder (s.store.holder p) a.client && is_exactly ((s.session a.client).row p) g && sole_row s p a.client s.clients)

settled_greeted : (cycle : DeadlockTest) (s : Server) (c i : ℕ) → OnlyGreeted s c i → OnlyGreeted (server_after s (settle_pages cycle s s.pages)) c i
settled_greeted cycle s c i o = kept_by_each (Spares c) (λ k. OnlyGreeted k c i) (greeted_kept c i) s (settle_pages cycle s s.pages)
    (each_settles cycle (Spares c) (spares_lasting c) (λ k. OnlyGreeted k c i) (greeted_kept c i) (λ k p j. spares_decide c cycle k p (k.queue p) (j.no_ask p)) s s.pages o) o

greeted_first : (s : Server) (c i : ℕ) → OnlyGreeted (server_after s (ForgetTransaction c ∷ ChangeSession c (Admit i) ∷ Send c i Welcome ∷ [])) c i
greeted_first s c i = record {
  current = grind arith;
  no_row = λ p. grind arith;
  no_permission = λ p. gone (s.store.holder p);
  no_mark = λ p. grind arith;
  no_ask = λ p. own_gone c (s.queue p);
  not_doomed = grind arith;
  none_begun = grind arith;
  none_ended = grind arith;
  no_outcome = grind arith;
}
  where
    gone : (r : Option ℕ) → (elim r as (λ _. Option ℕ) [ None ↦ None | Some d ↦ if d == c then None else Some d ]) ≢ Some c
    gone None e = absurd cc
    gone (Some d) e = grind arith

pub greater_hello : GreaterHelloStartsAnew
unfolding server_take
greater_hello cycle s c i l = rw ahead (settled, inl refl)
  where
    ahead : nat_lt (s.session c).current i ≡ true
    ahead = grind arith

    a : Server
    a = server_after s (ForgetTransaction c ∷ ChangeSession c (Admit i) ∷ Send c i Welcome ∷ [])

    settled : OnlyGreeted (server_after s (admit_incarnation cycle s c i)) c i
    settled = settled_greeted cycle a c i (greeted_first s c i)
