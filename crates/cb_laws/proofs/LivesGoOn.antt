-- What can happen next in the world over all lives, and that it goes on so.
use Rattle.std.proofs.Common.{Bool, List, None, Option, Some, [], ap, arith, false, if◌then◌else◌, inl, inr, nat_lt, refl, suc, sym, subst, true, zero, ℕ, ◌&&◌, ◌++◌, ◌+◌, ◌<◌, ◌==◌, ◌∙◌, ◌∷◌, ◌≡◌, ◌≢◌, ◌≤◌}
use Rattle.cb_protocol.proofs.LifeEvents.{near_or_far}
use Rattle.cb_protocol.proofs.LivesProof.{Stands, promised, stands_along, stands_first}
use Rattle.cb_protocol.proofs.PoolRoom.{Roomy, may_choose, roomy_new}
use Rattle.cb_laws.proofs.PoolSteps.{roomy_along}
use Rattle.cb_protocol.specs.Basics.{Bytes, Limits}
use Rattle.cb_protocol.specs.Cache.{Fill, Install, Lock}
use Rattle.cb_protocol.specs.Client.{ChangeCache, Client, NoAsk, SetAsk, asks_to_read}
use Rattle.cb_protocol.specs.ClientEnd.{refuse_grant}
use Rattle.cb_protocol.specs.ClientMessages.{ChoiceAllowed, brings_page, client_take, let_page_go, take_granted, take_granted_held, take_new_grant}
use Rattle.cb_laws.specs.LivesEvents.{CanGoOn, LivesGoOn}
use Rattle.cb_protocol.specs.LivesWorld.{LeadsTo, Lives, LivesEvent, LivesEventAllowed, first_life, lives_step}
use Rattle.cb_protocol.specs.Messages.{Body, Granted, Message}
use Rattle.cb_protocol.specs.Server.{DeadlockTest}
use Rattle.cb_protocol.specs.Session.{Session}
use Rattle.cb_protocol.specs.World.{Event, EventChoiceAllowed, MessageChoiceAllowed, Opening, TakePacket, World, packet_at}

-- a page comes in only where it was asked for
new_asked : (k : Client) (p g v : ℕ) (b : Bytes) (o : Option ℕ) → brings_page (take_new_grant k p g v b o) ≡ true → asks_to_read k.ask p ≡ true
new_asked k p g v b o e = go (nat_lt (k.cache.seen p) g) (asks_to_read k.ask p) refl e
  where
    go : (r u : Bool) → asks_to_read k.ask p ≡ u → brings_page (if r && u then let_page_go k o ++ SetAsk NoAsk ∷ ChangeCache (Install p g v b) ∷ ChangeCache (Lock p) ∷ [] else refuse_grant p g) ≡ true → asks_to_read k.ask p ≡ true
    go r true q e = q
    go true false q e = absurd cc
    go false false q e = absurd cc

held_asked : (k : Client) (p g v : ℕ) (b : Bytes) (o : Option ℕ) (r : Option Bytes) → brings_page (take_granted_held k p g v b o r) ≡ true → asks_to_read k.ask p ≡ true
held_asked k p g v b o (Some x) e = absurd cc
held_asked k p g v b o None e = go (k.cache.version p == v) (asks_to_read k.ask p) refl e
  where
    go : (r u : Bool) → asks_to_read k.ask p ≡ u → brings_page (if r && u then let_page_go k o ++ SetAsk NoAsk ∷ ChangeCache (Fill p g b) ∷ [] else []) ≡ true → asks_to_read k.ask p ≡ true
    go r true q e = q
    go true false q e = absurd cc
    go false false q e = absurd cc

brought_asked : (L : Limits) (k : Client) (p g v : ℕ) (b : Bytes) (o : Option ℕ) → brings_page (client_take L k (Granted p g v b) o) ≡ true → asks_to_read k.ask p ≡ true
unfolding client_take
brought_asked L k p g v b o e = go k.cache.welcomed (k.cache.held p) e
  where
    granted : (h : ℕ) (r : Bool) → brings_page (if r then take_granted_held k p g v b o (k.cache.content p) else refuse_grant p g) ≡ true → asks_to_read k.ask p ≡ true
    granted h true e = held_asked k p g v b o (k.cache.content p) e
    granted h false e = absurd cc

    go : (r : Bool) (h : Option ℕ) → brings_page (if r then take_granted k p g v b o h else []) ≡ true → asks_to_read k.ask p ≡ true
    go true None e = new_asked k p g v b o e
    go true (Some h) e = granted h (h == g) e
    go false h e = absurd cc

-- a pool can take what its client asks for, so there is a choice
granted_chosen : (L : Limits) (k : Client) (p g v : ℕ) (b : Bytes) → Roomy L k → (r : Bool) → asks_to_read k.ask p ≡ r → (o : Option ℕ) × ChoiceAllowed L k (Granted p g v b) o
granted_chosen L k p g v b h true e = let m = may_choose L k p h e in (m.0, λ z. m.1)
granted_chosen L k p g v b h false e = (None, λ z. absurd (let q : false ≡ true = sym e ∙ brought_asked L k p g v b None z in cc))

body_chosen : (L : Limits) (k : Client) (b : Body) → Roomy L k → (o : Option ℕ) × ChoiceAllowed L k b o
body_chosen L k (Granted p g v b) f = granted_chosen L k p g v b f (asks_to_read k.ask p) refl
body_chosen L k _ f = (None, tt)

message_chosen : (L : Limits) (v : World) (r : Option Message) → ((c : ℕ) → Roomy L (v.client c)) → (o : Option ℕ) × MessageChoiceAllowed L v r o
message_chosen L v None f = (None, tt)
message_chosen L v (Some m) f = let r = body_chosen L (v.client m.client) m.body (f m.client) in (r.0, λ e. r.1)

event_chosen : (L : Limits) (v : World) (e : Event) → ((c : ℕ) → Roomy L (v.client c)) → (o : Option ℕ) × EventChoiceAllowed L v e o
event_chosen L v (TakePacket n) f = message_chosen L v (packet_at v.packets n) f
event_chosen L v _ f = (None, tt)

-- a number above those of the clients below n
above_all : (f : ℕ → ℕ) (n : ℕ) → (most : ℕ) × ((c : ℕ) → c < n → f c < most)
above_all f zero = (0, λ c l. absurd (omega (arith, l)))
above_all f (suc n) = let r = above_all f n in (r.0 + f n + 1, λ c l. go r.0 r.1 c l (c == n) refl)
  where
    go : (most : ℕ) → ((c : ℕ) → c < n → f c < most) → (c : ℕ) → c < suc n → (u : Bool) → (c == n) ≡ u → f c < most + f n + 1
    go most h c l true e = let q : c ≡ n = grind arith in let k = ap f q in omega (arith, k)
    go most h c l false e = let q : c ≢ n = grind arith in let k = h c (omega (arith, l, q)) in omega (arith, k)

-- a client's incarnation that was admitted is one that it has had, or the floor
admitted_had : (L : Limits) (o : Opening) (lives : Lives) (floor : ℕ) → Stands L o lives → lives.floor < floor → ((c : ℕ) → lives.world.incarnation c < floor) → (c : ℕ) → (lives.world.server.session c).current < floor
admitted_had L o lives floor h l f c = let a = h.image.safe.behind c in let s = ap (λ (t : ℕ → Session). (t c).current) h.image.session in elim (near_or_far lives.floor (lives.world.incarnation c)) [
  | inl n ↦ (let e = h.image.incarnation c n in let k = f c in omega (arith, a, s, e, k))
  | inr n ↦ (let e = (h.image.waits c n).0 in omega (arith, a, s, e, l))
]

-- what can happen next
next_can : (L : Limits) (cycle : DeadlockTest) (o : Opening) (lives : Lives) → Stands L o lives → ((c : ℕ) → Roomy L (lives.world.client c)) → CanGoOn L lives
next_can L cycle o lives h f = record {
  allowed = λ e let_go a. a;
  events = λ e. event_chosen L lives.world e f;
  restarts = λ floor n rises admitted reported made. (record { rises = rises; admitted = admitted }, record { reported = reported; made = made });
  floors = (let r = above_all (λ c. (lives.world.server.session c).current) lives.world.server.clients in (lives.floor + r.0 + 1, λ floor l. record { rises = omega (arith, l); admitted = λ c near. (let k = r.1 c near in omega (arith, l, k)) }));
  unused = λ floor l k. record { rises = l; admitted = λ c near. admitted_had L o lives floor h l k c };
  reported = record { reported = omega arith; made = disk };
  all = record { reported = disk; made = omega arith };
}
  where
    disk : lives.world.server.flushed ≤ lives.world.server.store.last_commit
    disk = (promised L o lives h).dones.disk

-- one event more
leads_on : (L : Limits) (cycle : DeadlockTest) (es : List LivesEvent) (lives after : Lives) (e : LivesEvent) (let_go : Option ℕ) → LeadsTo L cycle lives es after → LivesEventAllowed L after e let_go → LeadsTo L cycle lives (es ++ e ∷ []) (lives_step L cycle after e let_go)
leads_on L cycle [] lives after e let_go p a = subst (λ (x : Lives). LeadsTo L cycle x (e ∷ []) (lives_step L cycle after e let_go)) (sym p) (let_go, a, refl)
leads_on L cycle (x ∷ es) lives after e let_go p a = (p.0, p.1, leads_on L cycle es (lives_step L cycle lives x p.0) after e let_go p.2 a)

pub lives_go_on : (L : Limits) (cycle : DeadlockTest) → LivesGoOn L cycle
lives_go_on L cycle = record {
  next = λ o es lives s p. next_can L cycle o lives (stands_along L cycle o es (first_life L o) lives p (stands_first L o s))
      (roomy_along L cycle es (first_life L o) lives p (λ c. roomy_new L));
  goes_on = λ o es lives e let_go p a. leads_on L cycle es (first_life L o) lives e let_go p a;
}
