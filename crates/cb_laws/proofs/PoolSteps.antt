-- What a client does at calls and messages leaves its pool room for the page for which it asks; so in each world that is reached.
use Rattle.std.proofs.Common.{Bool, List, None, Option, Some, [], arith, false, if◌then◌else◌, length, nat_le, nat_lt, not, refl, subst, sym, true, ℕ, ◌&&◌, ◌++◌, ◌+◌, ◌<◌, ◌==◌, ◌∙◌, ◌∷◌, ◌≡◌, ◌≢◌, ◌≤◌}
use Rattle.cb_protocol.proofs.ClientCalls.{Free, first_append, free, has_read, plain_append_ask}
use Rattle.cb_protocol.proofs.ClientReady.{Plain, PlainChange, plain_lets_go, plain_pages}
use Rattle.cb_protocol.proofs.InvariantKept.{put_each}
use Rattle.cb_protocol.proofs.PoolRoom.{AllRoom, Roomy, Rooms, cut_none, cut_there, fewer, one_less, roomy_all, roomy_new, same_page}
use Rattle.cb_protocol.specs.Answers.{AnsweredOk, AnswerWord, Asked, ClientFault, Exhausted, Flushed, NoClient, NotWritable, Nothing, Permitted, PoolFull, Refused, ServerExhausted, Taken, WrongLength}
use Rattle.cb_protocol.specs.Basics.{Bytes, Limits, is_exactly, is_none, max_number, update}
use Rattle.cb_protocol.specs.Cache.{CacheChange, Fill, Install, LetGo, Lock, MakeBare, RefuseGrant, TakeDone, TakePermission, YieldPermission, cache_after}
use Rattle.cb_protocol.specs.Client.{Aborted, ChangeCache, Client, ClientStep, Committed, Dropped, EndTransaction, LastOutcome, MarkDue, MarkDueDowngrade, MarkWanted, NoAsk, Say, SetAsk, WriteAsk, after_client_step, asks_to_read, asks_to_write, client_after, has_room, is_fixed, new_client, pages_in_pool}
use Rattle.cb_protocol.specs.ClientCalls.{Call, CallAgain, CallBegin, CallDrop, CallFinish, CallHello, CallPeek, CallRead, CallWant, CallWrite, accept_call, accept_or_refuse, call_fault, cause_of, causes, client_again, client_call, first_refusal, page_causes, read_causes, read_page, reply_with, say_ask_write}
use Rattle.cb_protocol.specs.ClientEnd.{drop_transaction, end_pages, give_back, refuse_grant}
use Rattle.cb_protocol.specs.ClientMessages.{ChoiceAllowed, MayLetGo, brings_page, client_take, let_page_go, of_committing_txn, of_open_txn, take_downgrade, take_granted, take_granted_held, take_welcomed}
use Rattle.cb_protocol.specs.Flush.{can_flush, server_flush}
use Rattle.cb_protocol.specs.LivesWorld.{LeadsTo, Lives, LivesEvent, LivesEventAllowed, ServerRestarts, WithinLife, lives_step}
use Rattle.cb_protocol.specs.Messages.{AbortNow, Body, Callback, Done, Downgrade, Downgraded, Granted, InUse, MayWrite, Message, Welcome, to_server}
use Rattle.cb_protocol.specs.Server.{DeadlockTest}
use Rattle.cb_protocol.specs.ServerMessages.{is_exhausted, server_take}
use Rattle.cb_protocol.specs.World.{ClientCalls, Event, EventChoiceAllowed, FlushAll, FlushTo, MessageChoiceAllowed, Restart, ServerAgain, TakePacket, World, answer_only, answer_with, client_does, deliver, flush_up_to, packet_at, server_does, step, take_packet}

-- steps that only give up pages
plain_room : (L : Limits) (k : Client) (m : CacheChange) → PlainChange m → Rooms L k (ChangeCache m)
plain_room L k (LetGo p) a = tt
plain_room L k (MakeBare p) a = tt
plain_room L k (YieldPermission p) a = tt
plain_room L k (RefuseGrant p g) a = tt
plain_room L k _ a = absurd a

plain_rooms : (L : Limits) (k : Client) (steps : List ClientStep) → Plain steps → AllRoom L k steps
plain_rooms L k [] a = tt
plain_rooms L k (ChangeCache m ∷ steps) a = (plain_room L k m a.0, plain_rooms L (after_client_step L.keep_write k (ChangeCache m)) steps a.1)
plain_rooms L k (Say b ∷ steps) a = (tt, plain_rooms L k steps a)
plain_rooms L k (SetAsk x ∷ steps) a = absurd a
plain_rooms L k (MarkWanted p ∷ steps) a = absurd a
plain_rooms L k (MarkDue p ∷ steps) a = absurd a
plain_rooms L k (MarkDueDowngrade p y ∷ steps) a = absurd a
plain_rooms L k (EndTransaction l ∷ steps) a = absurd a

room_append : (L : Limits) (k : Client) (xs ys : List ClientStep) → AllRoom L k xs → AllRoom L (client_after L.keep_write k xs) ys → AllRoom L k (xs ++ ys)
room_append L k [] ys a b = b
room_append L k (x ∷ xs) ys a b = (a.0, room_append L (after_client_step L.keep_write k x) xs ys a.1 b)

drops_room : (L : Limits) (k : Client) (x : LastOutcome) → AllRoom L k (drop_transaction L k x)
drops_room L k x = (tt, (tt, (tt, plain_rooms L _ (end_pages k true L.pages) (plain_pages k true L.pages))))

-- the calls
room_of : (r u : Bool) → first_refusal (cause_of (r && not u) PoolFull ∷ []) ≡ None → r ≡ true → u ≡ true
room_of true true e a = refl
room_of true false e a = absurd cc
room_of false u e a = absurd cc

is_there : (o : Option Bytes) → o ≢ None → is_none o ≡ false
is_there None ne = absurd (ne refl)
is_there (Some b) ne = refl

accepts_room : (L : Limits) (k : Client) (x : Call) → first_refusal (causes L k x) ≡ None → AllRoom L k (accept_call L k x).steps
accepts_room L k CallHello e = (tt, tt)
accepts_room L k CallBegin e = (tt, tt)
accepts_room L k (CallRead p) e = go (k.cache.content p) (λ a. a)
  where
    both : (first_refusal (page_causes L k p) ≡ None) × (first_refusal (cause_of (is_none (k.cache.content p) && not (has_room L k)) PoolFull ∷ []) ≡ None)
    both = first_append (page_causes L k p) (cause_of (is_none (k.cache.content p) && not (has_room L k)) PoolFull ∷ []) e

    go : (o : Option Bytes) → (is_none o ≡ true → is_none (k.cache.content p) ≡ true) → AllRoom L k (read_page k p o).steps
    go (Some b) f = (tt, tt)
    go None f = (((free L k p both.0).within, f refl, room_of (is_none (k.cache.content p)) (has_room L k) both.1 (f refl)), (tt, tt))
accepts_room L k (CallWant p) e = go (k.cache.may_write p)
  where
    f : Free L k p
    f = free L k p (first_append (page_causes L k p) (read_causes k p) e).0

    said : (l : Client) (r : Option ℕ) → AllRoom L l (say_ask_write k p r)
    said l None = tt
    said l (Some g) = (tt, tt)

    go : (q : Bool) → AllRoom L k (if q then reply_with Permitted (MarkWanted p ∷ []) else reply_with Asked (MarkWanted p ∷ SetAsk (WriteAsk p) ∷ say_ask_write k p (k.cache.held p))).steps
    go true = (f.quiet, tt)
    go false = (f.quiet, (tt, said _ (k.cache.held p)))
accepts_room L k (CallWrite p b) e = (((free L k p both.0).quiet, is_there (k.cache.content p) (has_read k p read).here), tt)
  where
    both : (first_refusal (page_causes L k p) ≡ None) × (first_refusal (read_causes k p ++ cause_of (not (k.cache.may_write p)) NotWritable ∷ cause_of (not (length b == L.page_size)) WrongLength ∷ []) ≡ None)
    both = first_append (page_causes L k p) (read_causes k p ++ cause_of (not (k.cache.may_write p)) NotWritable ∷ cause_of (not (length b == L.page_size)) WrongLength ∷ []) e

    read : first_refusal (read_causes k p) ≡ None
    read = (first_append (read_causes k p) (cause_of (not (k.cache.may_write p)) NotWritable ∷ cause_of (not (length b == L.page_size)) WrongLength ∷ []) both.1).0
accepts_room L k CallFinish e = (tt, (tt, tt))
accepts_room L k CallDrop e = drops_room L k Dropped
accepts_room L k CallAgain e = plain_rooms L k (client_again L k) (plain_append_ask L k)
accepts_room L k (CallPeek p) e = tt

calls_room : (L : Limits) (k : Client) (x : Call) → AllRoom L k (client_call L k x).steps
unfolding call_fault client_call
calls_room L k x = go (first_refusal (causes L k x)) refl
  where
    go : (f : Option ClientFault) → first_refusal (causes L k x) ≡ f → AllRoom L k (accept_or_refuse L k x f).steps
    go (Some y) e = tt
    go None e = accepts_room L k x e

-- a page is let go: there is room, and another page is held as before
record Lets (L : Limits) (k k' : Client) (p : ℕ) : Type 0 where
  room : pages_in_pool k' L.pages < L.slots
  held : is_none (k.cache.held p) ≡ false → is_none (k'.cache.held p) ≡ false

lets_go : (L : Limits) (k : Client) (p : ℕ) (o : Option ℕ) → Roomy L k → MayLetGo L k p o → Lets L k (client_after L.keep_write k (let_page_go k o)) p
lets_go L k p None h m = record { room = m; held = λ e. e }
lets_go L k p (Some q) h m = go (k.cache.locked q) (k.cache.held q) (λ e. h.held q e)
  where
    near : q < L.pages
    near = by (nat_lt q L.pages) refl
      where
        by : (r : Bool) → nat_lt q L.pages ≡ r → q < L.pages
        by true e = grind (arith, e)
        by false e = absurd (let l : L.pages ≤ q = grind (arith, e) in let a : is_none (k.cache.content q) ≡ true = h.within q l in let b : true ≡ false = sym a ∙ m.1 in cc)

    less : (k' : Client) → ((r : ℕ) → is_none (k.cache.content r) ≡ true → is_none (k'.cache.content r) ≡ true) → is_none (k'.cache.content q) ≡ true → pages_in_pool k' L.pages < L.slots
    less k' f e = let a = one_less k k' q f m.1 e L.pages near in let b = h.bounded in omega (arith, a, b)

    kept : (r : Bool) → (p == q) ≡ r → is_none (k.cache.held p) ≡ false → is_none (if r then None else k.cache.held p) ≡ false
    kept true e f = absurd (m.0 (sym (same_page p q e)))
    kept false e f = f

    go : (r : Bool) (g : Option ℕ) → (is_none g ≡ true → is_none (k.cache.content q) ≡ true) → Lets L k (client_after L.keep_write k (if r then ChangeCache (MakeBare q) ∷ [] else give_back q g)) p
    go true g f = record { room = less (record k { cache = cache_after L.keep_write k.cache (MakeBare q) }) (λ r e. cut_none k.cache.content q r e) (cut_there k.cache.content q); held = λ e. e }
    go false None f = absurd (let a : is_none (k.cache.content q) ≡ true = f refl in let b : true ≡ false = sym a ∙ m.1 in cc)
    go false (Some g) f = record { room = less (record k { cache = cache_after L.keep_write k.cache (LetGo q) }) (λ r e. cut_none k.cache.content q r e) (cut_there k.cache.content q); held = kept (p == q) refl }

brings_after : (k : Client) (o : Option ℕ) (steps : List ClientStep) → brings_page steps ≡ true → brings_page (let_page_go k o ++ steps) ≡ true
brings_after k None steps e = e
brings_after k (Some q) steps e = go (k.cache.locked q) (k.cache.held q)
  where
    go : (r : Bool) (g : Option ℕ) → brings_page ((if r then ChangeCache (MakeBare q) ∷ [] else give_back q g) ++ steps) ≡ true
    go true g = e
    go false None = e
    go false (Some g) = e

-- a page comes
granted_room : (L : Limits) (k : Client) (p g v : ℕ) (b : Bytes) (o : Option ℕ) → Roomy L k → (brings_page (take_granted k p g v b o (k.cache.held p)) ≡ true → MayLetGo L k p o) → AllRoom L k (take_granted k p g v b o (k.cache.held p))
granted_room L k p g v b o h c = go (k.cache.held p) (λ e. e) c
  where
    lets : MayLetGo L k p o → Lets L k (client_after L.keep_write k (let_page_go k o)) p
    lets m = lets_go L k p o h m

    room : MayLetGo L k p o → pages_in_pool (record (client_after L.keep_write k (let_page_go k o)) { ask = NoAsk }) L.pages < L.slots
    room m = let a = fewer (client_after L.keep_write k (let_page_go k o)) (record (client_after L.keep_write k (let_page_go k o)) { ask = NoAsk }) (λ q e. e) L.pages in let l = (lets m).room in omega (arith, a, l)

    news : (r u : Bool) → asks_to_read k.ask p ≡ u → (brings_page (if r && u then let_page_go k o ++ SetAsk NoAsk ∷ ChangeCache (Install p g v b) ∷ ChangeCache (Lock p) ∷ [] else refuse_grant p g) ≡ true → MayLetGo L k p o)
        → AllRoom L k (if r && u then let_page_go k o ++ SetAsk NoAsk ∷ ChangeCache (Install p g v b) ∷ ChangeCache (Lock p) ∷ [] else refuse_grant p g)
    news true true e c = room_append L k (let_page_go k o) _ (plain_rooms L k (let_page_go k o) (plain_lets_go k o)) (tt, (((h.asked p e).0, room (c (brings_after k o _ refl)), refl), (tt, tt)))
    news true false e c = (tt, (tt, tt))
    news false u e c = (tt, (tt, tt))

    fills : (r u : Bool) → asks_to_read k.ask p ≡ u → is_none (k.cache.held p) ≡ false → (brings_page (if r && u then let_page_go k o ++ SetAsk NoAsk ∷ ChangeCache (Fill p g b) ∷ [] else []) ≡ true → MayLetGo L k p o)
        → AllRoom L k (if r && u then let_page_go k o ++ SetAsk NoAsk ∷ ChangeCache (Fill p g b) ∷ [] else [])
    fills true true e i c = let m = c (brings_after k o _ refl) in room_append L k (let_page_go k o) _ (plain_rooms L k (let_page_go k o) (plain_lets_go k o)) (tt, (((h.asked p e).0, room m, refl, (lets m).held i), tt))
    fills true false e i c = tt
    fills false u e i c = tt

    held : (r : Option Bytes) → is_none (k.cache.held p) ≡ false → (brings_page (take_granted_held k p g v b o r) ≡ true → MayLetGo L k p o) → AllRoom L k (take_granted_held k p g v b o r)
    held (Some x) i c = tt
    held None i c = fills (k.cache.version p == v) (asks_to_read k.ask p) refl i c

    match : (q : Bool) → is_none (k.cache.held p) ≡ false → (brings_page (if q then take_granted_held k p g v b o (k.cache.content p) else refuse_grant p g) ≡ true → MayLetGo L k p o)
        → AllRoom L k (if q then take_granted_held k p g v b o (k.cache.content p) else refuse_grant p g)
    match true i c = held (k.cache.content p) i c
    match false i c = (tt, (tt, tt))

    go : (r : Option ℕ) → (is_none r ≡ false → is_none (k.cache.held p) ≡ false) → (brings_page (take_granted k p g v b o r) ≡ true → MayLetGo L k p o) → AllRoom L k (take_granted k p g v b o r)
    go None f c = news (nat_lt (k.cache.seen p) g) (asks_to_read k.ask p) refl c
    go (Some y) f c = match (y == g) (f refl) c

-- the other messages
hears_room : (L : Limits) (k : Client) (y : Body) (o : Option ℕ) → Roomy L k → ((p g v : ℕ) (b : Bytes) → y ≢ Granted p g v b) → AllRoom L k (take_welcomed L k y o)
hears_room L k (Granted p g v b) o h n = absurd (n p g v b refl)
hears_room L k (MayWrite t p g) o h n = go (of_open_txn k t && asks_to_write k.ask p && is_exactly (k.cache.held p) g)
  where
    go : (r : Bool) → AllRoom L k (if r then SetAsk NoAsk ∷ ChangeCache (TakePermission p) ∷ [] else [])
    go true = (tt, (tt, tt))
    go false = tt
hears_room L k (Callback p g) o h n = go (is_exactly (k.cache.held p) g) (k.cache.locked p)
  where
    go : (r u : Bool) → AllRoom L k (if r then (if u then MarkDue p ∷ Say (InUse k.cache.number p g) ∷ [] else give_back p (Some g)) else refuse_grant p g)
    go true true = (tt, (tt, tt))
    go true false = (tt, (tt, tt))
    go false u = (tt, (tt, tt))
hears_room L k (Done t m) o h n = go (of_committing_txn k t)
  where
    go : (q : Bool) → AllRoom L k (if q then EndTransaction (Committed m) ∷ ChangeCache (TakeDone m) ∷ end_pages k false L.pages else [])
    go true = (tt, (tt, plain_rooms L _ (end_pages k false L.pages) (plain_pages k false L.pages)))
    go false = tt
hears_room L k (AbortNow t) o h n = go (of_open_txn k t)
  where
    go : (q : Bool) → AllRoom L k (if q then drop_transaction L k Aborted else [])
    go true = drops_room L k Aborted
    go false = tt
hears_room L k (Downgrade p g t) o h n = go L.keep_write
  where
    down : (r u v : Bool) → AllRoom L k (if not r then refuse_grant p g else if not u then Say (Downgraded p g t) ∷ [] else if v then MarkDueDowngrade p (record { grant = g; tag = t }) ∷ Say (InUse k.cache.number p g) ∷ [] else ChangeCache (YieldPermission p) ∷ Say (Downgraded p g t) ∷ [])
    down false u v = (tt, (tt, tt))
    down true false v = (tt, tt)
    down true true true = (tt, (tt, tt))
    down true true false = (tt, (tt, tt))

    go : (q : Bool) → AllRoom L k (if q then take_downgrade k p g t else [])
    go true = down (is_exactly (k.cache.held p) g) (k.cache.may_write p && (k.cache.tag p == t)) (is_fixed k p)
    go false = tt
hears_room L k _ o h n = tt

takes_room : (L : Limits) (k : Client) (y : Body) (o : Option ℕ) → Roomy L k → ChoiceAllowed L k y o → AllRoom L k (client_take L k y o)
unfolding client_take
takes_room L k Welcome o h c = (tt, tt)
takes_room L k (Granted p g v b) o h c = go k.cache.welcomed c
  where
    go : (q : Bool) → (brings_page (if q then take_granted k p g v b o (k.cache.held p) else []) ≡ true → MayLetGo L k p o) → AllRoom L k (if q then take_granted k p g v b o (k.cache.held p) else [])
    go true c = granted_room L k p g v b o h c
    go false c = tt
takes_room L k y o h c = go k.cache.welcomed
  where
    go : (q : Bool) → AllRoom L k (if q then take_welcomed L k y o else [])
    go true = hears_room L k y o h (λ p g v b e. absurd cc)
    go false = tt

-- each event
does_roomy : (L : Limits) (v : World) (e : Event) (c : ℕ) (word : AnswerWord) (steps : List ClientStep) → ((d : ℕ) → Roomy L (v.client d)) → AllRoom L (v.client c) steps → (d : ℕ) → Roomy L ((client_does L v e c word steps).world.client d)
does_roomy L v e c word steps h a = put_each (λ d x. Roomy L x) v.client c (client_after L.keep_write (v.client c) steps) (roomy_all L (v.client c) steps (h c) a) (λ d ne. h d)

deliver_roomy : (L : Limits) (cycle : DeadlockTest) (v : World) (e : Event) (f : Message) (o : Option ℕ) → ((d : ℕ) → Roomy L (v.client d)) → (f.incarnation ≡ v.incarnation f.client → ChoiceAllowed L (v.client f.client) f.body o) → (d : ℕ) → Roomy L ((deliver L cycle v e f o).world.client d)
deliver_roomy L cycle v e f o h u = go (to_server f.body) (is_exhausted v.server f.client f.incarnation f.body) (f.incarnation == v.incarnation f.client) refl
  where
    go : (r x q : Bool) → (f.incarnation == v.incarnation f.client) ≡ q → (d : ℕ) → Roomy L ((if r
        then (if x then answer_only v e ServerExhausted else server_does v e Taken (server_take cycle v.server f.client f.incarnation f.body))
        else if q then client_does L v e f.client Taken (client_take L (v.client f.client) f.body o) else answer_only v e Taken).world.client d)
    go true true q z = h
    go true false q z = h
    go false x true z = does_roomy L v e f.client Taken (client_take L (v.client f.client) f.body o) h (takes_room L (v.client f.client) f.body o (h f.client) (u (same_page f.incarnation (v.incarnation f.client) z)))
    go false x false z = h

take_roomy : (L : Limits) (cycle : DeadlockTest) (v : World) (e : Event) (r : Option Message) (o : Option ℕ) → ((d : ℕ) → Roomy L (v.client d)) → MessageChoiceAllowed L v r o → (d : ℕ) → Roomy L ((take_packet L cycle v e r o).world.client d)
take_roomy L cycle v e None o h u = h
take_roomy L cycle v e (Some f) o h u = deliver_roomy L cycle v e f o h u

flush_roomy : (L : Limits) (v : World) (e : Event) (n : ℕ) → ((d : ℕ) → Roomy L (v.client d)) → (d : ℕ) → Roomy L ((flush_up_to v e n).world.client d)
flush_roomy L v e n h = go (can_flush v.server n)
  where
    go : (r : Bool) → (d : ℕ) → Roomy L ((if r then server_does v e (Flushed n) (server_flush v.server n) else answer_only v e Nothing).world.client d)
    go true = h
    go false = h

event_roomy : (L : Limits) (cycle : DeadlockTest) (v : World) (e : Event) (o : Option ℕ) → EventChoiceAllowed L v e o → ((d : ℕ) → Roomy L (v.client d)) → (d : ℕ) → Roomy L ((step L cycle v e o).world.client d)
unfolding step
event_roomy L cycle v (ClientCalls c x) o u h = go (nat_lt c L.clients)
  where
    go : (r : Bool) → (d : ℕ) → Roomy L ((if r then client_does L v (ClientCalls c x) c (client_call L (v.client c) x).word (client_call L (v.client c) x).steps else answer_only v (ClientCalls c x) NoClient).world.client d)
    go true = does_roomy L v (ClientCalls c x) c (client_call L (v.client c) x).word (client_call L (v.client c) x).steps h (calls_room L (v.client c) x)
    go false = h
event_roomy L cycle v (TakePacket n) o u h = take_roomy L cycle v (TakePacket n) (packet_at v.packets n) o h u
event_roomy L cycle v (Restart c) o u h = go (nat_lt c L.clients) (nat_le max_number (v.incarnation c))
  where
    go : (r x : Bool) → (d : ℕ) → Roomy L ((if r then (if x then answer_only v (Restart c) (Refused Exhausted)
        else answer_with v (Restart c) AnsweredOk [] (record v { client = update v.client c new_client; incarnation = update v.incarnation c (v.incarnation c + 1) })) else answer_only v (Restart c) NoClient).world.client d)
    go true true = h
    go true false = put_each (λ d x. Roomy L x) v.client c new_client (roomy_new L) (λ d ne. h d)
    go false x = h
event_roomy L cycle v ServerAgain o u h = h
event_roomy L cycle v FlushAll o u h = flush_roomy L v FlushAll v.server.store.last_commit h
event_roomy L cycle v (FlushTo n) o u h = flush_roomy L v (FlushTo n) n h

-- and a restart of the server changes no client
pub roomy_step : (L : Limits) (cycle : DeadlockTest) (lives : Lives) (e : LivesEvent) (o : Option ℕ) → LivesEventAllowed L lives e o → ((d : ℕ) → Roomy L (lives.world.client d)) → (d : ℕ) → Roomy L ((lives_step L cycle lives e o).world.client d)
roomy_step L cycle lives (WithinLife e) o u h = event_roomy L cycle lives.world e o u h
roomy_step L cycle lives (ServerRestarts floor n) o u h = h

pub roomy_along : (L : Limits) (cycle : DeadlockTest) (es : List LivesEvent) (lives after : Lives) → LeadsTo L cycle lives es after → ((d : ℕ) → Roomy L (lives.world.client d)) → (d : ℕ) → Roomy L (after.world.client d)
roomy_along L cycle [] lives after p h = subst (λ (x : Lives). (d : ℕ) → Roomy L (x.world.client d)) p h
roomy_along L cycle (e ∷ es) lives after p h = roomy_along L cycle es (lives_step L cycle lives e p.0) after p.2 (roomy_step L cycle lives e p.0 p.1 h)
