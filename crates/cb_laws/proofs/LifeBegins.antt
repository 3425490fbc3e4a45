-- A server of a new life is one that a new server becomes, by a Hello of the floor from each client.
use Rattle.std.proofs.Common.{Bool, List, None, Option, [], ap, arith, false, if◌then◌else◌, nat_lt, refl, subst, suc, sym, true, zero, ℕ, ◌+◌, ◌<◌, ◌==◌, ◌∙◌, ◌∷◌, ◌≡◌, ◌≤◌}
use Rattle.cb_protocol.proofs.Cases.{serves_new_hello}
use Rattle.cb_protocol.proofs.ServerOrder.{after_append}
use Rattle.cb_protocol.proofs.SettlingAgain.{passed_over}
use Rattle.cb_protocol.specs.AnyMessages.{AfterInput, ComesFromClient, Input, MessageComes, Opened, ReachedBy}
use Rattle.cb_protocol.specs.Basics.{Limits}
use Rattle.cb_protocol.specs.Deadlock.{InputInRange}
use Rattle.cb_laws.proofs.HellosAnswered.{hello_taken}
use Rattle.cb_laws.specs.LifeLaws.{LivesAreReached, RangesGiveFloors}
use Rattle.cb_protocol.specs.LivesWorld.{session_at}
use Rattle.cb_protocol.specs.Messages.{Hello, Welcome}
use Rattle.cb_protocol.specs.Ranges.{InputTaken}
use Rattle.cb_protocol.specs.Server.{ChangeSession, DeadlockTest, ForgetTransaction, Send, Server, ServerStep, new_server, server_after}
use Rattle.cb_protocol.specs.ServerMessages.{server_take}
use Rattle.cb_protocol.specs.Session.{Admit}
use Rattle.cb_protocol.specs.Settling.{settle_pages}
use Rattle.cb_protocol.specs.World.{Opening, opening_store}

abbrev nothing : Option ℕ
nothing = None

-- a new server, which knows the clients below n at the floor
abbrev pub greeted : Limits → Opening → ℕ → ℕ → Server
greeted L o floor n = record (new_server L.clients L.pages (opening_store L o)) { session = λ c. session_at (if nat_lt c n then floor else 0) }

pub none_greeted : (L : Limits) (o : Opening) (floor : ℕ) → greeted L o floor 0 ≡ new_server L.clients L.pages (opening_store L o)
none_greeted L o floor = λ i. record (new_server L.clients L.pages (opening_store L o)) { session = λ c. session_at (nobody c i) }
  where
    nobody : (c : ℕ) → (if nat_lt c 0 then floor else 0) ≡ 0
    nobody c = grind arith

-- the steps of a Hello, before settling
abbrev greets : ℕ → ℕ → List ServerStep
greets c floor = ForgetTransaction c ∷ ChangeSession c (Admit floor) ∷ Send c floor Welcome ∷ []

-- one more client
one_greeted : (L : Limits) (o : Opening) (floor n : ℕ) → server_after (greeted L o floor n) (greets n floor) ≡ greeted L o floor (n + 1)
one_greeted L o floor n = λ i. record (new_server L.clients L.pages (opening_store L o)) {
  session = λ c. known c i;
  in_use = λ c p. unmarked c i;
  doomed = λ c. undoomed c i;
  outcome = λ c. without c i;
}
  where
    known : (c : ℕ) → (if c == n then session_at floor else session_at (if nat_lt c n then floor else 0)) ≡ session_at (if nat_lt c (n + 1) then floor else 0)
    known c = go (c == n) (nat_lt c n) (nat_lt c (n + 1)) refl refl refl
      where
        go : (r u v : Bool) → (c == n) ≡ r → nat_lt c n ≡ u → nat_lt c (n + 1) ≡ v → (if r then session_at floor else session_at (if u then floor else 0)) ≡ session_at (if v then floor else 0)
        go true u true e f g = refl
        go true u false e f g = absurd (grind arith)
        go false true true e f g = refl
        go false true false e f g = absurd (grind arith)
        go false false true e f g = absurd (grind arith)
        go false false false e f g = refl

    unmarked : (c : ℕ) → (if c == n then false else false) ≡ false
    unmarked c = go (c == n)
      where
        go : (r : Bool) → (if r then false else false) ≡ false
        go true = refl
        go false = refl

    undoomed : (c : ℕ) → (if c == n then false else false) ≡ false
    undoomed c = unmarked c

    without : (c : ℕ) → (if c == n then nothing else None) ≡ None
    without c = go (c == n)
      where
        go : (r : Bool) → (if r then nothing else None) ≡ None
        go true = refl
        go false = refl

-- nothing waits, so nothing is settled
pub greets_alone : (L : Limits) (cycle : DeadlockTest) (o : Opening) (floor n : ℕ) → 1 ≤ floor → server_after (greeted L o floor n) (server_take cycle (greeted L o floor n) n floor Hello) ≡ greeted L o floor (n + 1)
greets_alone L cycle o floor n l = ap (server_after s) (serves_new_hello cycle s n floor below) ∙ (after_append s (greets n floor) (settle_pages cycle admitted admitted.pages) ∙ (ap (server_after admitted) settled ∙ one_greeted L o floor n))
  where
    s : Server
    s = greeted L o floor n

    admitted : Server
    admitted = server_after (greeted L o floor n) (greets n floor)

    below : (s.session n).current < floor
    below = grind (arith, l)

    settled : settle_pages cycle admitted admitted.pages ≡ []
    settled = passed_over cycle admitted 0 admitted.pages (omega arith) (λ p a b. refl)

next : (n : ℕ) → n + 1 ≡ suc n
next n = omega arith

-- so they are reached, one after another
reached_greeted : (L : Limits) (cycle : DeadlockTest) (o : Opening) (floor : ℕ) (Allowed : Server → Input → Type 0) → 1 ≤ floor → ((c : ℕ) → c < L.clients → Allowed (greeted L o floor c) (MessageComes c floor Hello)) → (n : ℕ) → n ≤ L.clients → ReachedBy L cycle o Allowed (greeted L o floor n)
reached_greeted L cycle o floor Allowed l a zero h = subst (λ (s : Server). ReachedBy L cycle o Allowed s) (sym (none_greeted L o floor)) Opened
reached_greeted L cycle o floor Allowed l a (suc n) h = subst (λ (s : Server). ReachedBy L cycle o Allowed s) (greets_alone L cycle o floor n l ∙ ap (greeted L o floor) (next n))
    (AfterInput (reached_greeted L cycle o floor Allowed l a n (omega (arith, h))) (MessageComes n floor Hello) (a n (omega (arith, h))))

pub lives_are_reached : LivesAreReached
lives_are_reached L cycle o floor l = record {
  any = reached_greeted L cycle o floor (ComesFromClient L) l (λ c k. k) L.clients (omega arith);
  in_range = reached_greeted L cycle o floor InputInRange l (λ c k. (k, tt)) L.clients (omega arith);
  taken = λ n. reached_greeted L cycle o floor (InputTaken L) l (λ c k. ((k, n, tt), hello_taken (greeted L o floor c) c floor)) L.clients (omega arith);
}

pub ranges_give_floors : RangesGiveFloors
ranges_give_floors lives life later e l f = record { rises = omega (arith, e, l); admitted = λ c near. (let k = f c near in omega (arith, l, k)) }
