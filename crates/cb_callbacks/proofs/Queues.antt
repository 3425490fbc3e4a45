-- Asks in queues as they change.
use Rattle.std.proofs.Common.{◌≡◌, ◌≢◌, ℕ, ◌+◌, ◌<◌, ◌≤◌, Bool, true, false, ◌||◌, ◌==◌, if◌then◌else◌, List, [], ◌∷◌, ◌++◌, Option, None, refl, sym, ap, ◌∙◌, subst, arith, inl, inr}
use Rattle.std.proofs.lemmas.Bool.Decides.{nat_tests}
use Rattle.cb_protocol.proofs.ReadAsksWaiting.{reads_least}
use Rattle.cb_protocol.specs.Basics.{is_none, max_number, update}
use Rattle.cb_protocol.specs.Numbers.{first_free_grant}
use Rattle.cb_protocol.specs.ServerMessages.{read_asks_in}
use Rattle.cb_protocol.specs.Deadlock.{ask_count}
use Rattle.cb_protocol.specs.Server.{Server, WaitingAsk, after_first, has_ask, without_client}
use Rattle.cb_protocol.specs.WaitsFor.{HasAsk}
use Rattle.cb_callbacks.specs.Deciding.{StartsWith}

-- one place of a map is another, and what is asked of it is as before
pub by_place : {A B : Type 0} (asked : ℕ → A → B) (entries : ℕ → A) (place : ℕ) (value : A) → asked place value ≡ asked place (entries place)
    → (at : ℕ) → asked at (update entries place value at) ≡ asked at (entries at)
by_place {A} {B} asked entries place value e at = go (at == place) refl
  where
    same : (at == place) ≡ true → place ≡ at
    same e = grind (arith, nat_tests)

    go : (b : Bool) → (at == place) ≡ b → asked at (if b then value else entries at) ≡ asked at (entries at)
    go true is = subst (λ (p : ℕ). asked p value ≡ asked p (entries p)) (same is) e
    go false is = refl

-- and what holds of both holds of all
pub each_place : {A : Type 0} (P : ℕ → A → Type 0) (entries : ℕ → A) (place : ℕ) (value : A) → P place value → ((at : ℕ) → at ≢ place → P at (entries at))
    → (at : ℕ) → P at (update entries place value at)
each_place {A} P entries place value own others at = go (at == place) refl
  where
    same : (at == place) ≡ true → place ≡ at
    same e = grind (arith, nat_tests)

    go : (b : Bool) → (at == place) ≡ b → P at (if b then value else entries at)
    go true is = subst (λ (p : ℕ). P p value) (same is) own
    go false is = others at (grind (arith, nat_tests))

-- asks counted and asks found
pub none_counted : (client : ℕ) (queue : List WaitingAsk) → ask_count client queue ≡ 0 → has_ask client queue ≡ false
none_counted client [] e = refl
none_counted client (ask ∷ queue) e = go (none_counted client queue) (ask.client == client) refl
  where
    go : (ask_count client queue ≡ 0 → has_ask client queue ≡ false) → (b : Bool) → (ask.client == client) ≡ b → (b || has_ask client queue) ≡ false
    go rest true is = absurd (grind arith)
    go rest false is = rest (grind arith)

pub some_counted : (client : ℕ) (queue : List WaitingAsk) → has_ask client queue ≡ true → 1 ≤ ask_count client queue
some_counted client [] e = absurd cc
some_counted client (ask ∷ queue) e = go (some_counted client queue) (ask.client == client) refl
  where
    go : (has_ask client queue ≡ true → 1 ≤ ask_count client queue) → (b : Bool) → (ask.client == client) ≡ b → 1 ≤ (if b then 1 else 0) + ask_count client queue
    go rest true is = omega arith
    go rest false is = let more = rest (grind arith) in omega (arith, more)

pub found : (client : ℕ) (queue : List WaitingAsk) → HasAsk client queue → has_ask client queue ≡ true
found client [] h = absurd h
found client (ask ∷ queue) (inl e) = grind (arith, nat_tests)
found client (ask ∷ queue) (inr h) = let rest = found client queue h in grind (arith, rest)

pub finds : (client : ℕ) (queue : List WaitingAsk) → has_ask client queue ≡ true → HasAsk client queue
finds client [] e = absurd cc
finds client (ask ∷ queue) e = go (finds client queue) (ask.client == client) refl
  where
    go : (has_ask client queue ≡ true → HasAsk client queue) → (b : Bool) → (ask.client == client) ≡ b → HasAsk client (ask ∷ queue)
    go rest true is = inl (grind (arith, nat_tests))
    go rest false is = inr (rest (grind arith))

-- the first is there
pub first_has : (client : ℕ) (queue : List WaitingAsk) → StartsWith client queue → has_ask client queue ≡ true
first_has client [] s = absurd s
first_has client (ask ∷ queue) s = grind (arith, nat_tests)

-- what leaves is gone, and the others stay
pub first_gone : (client : ℕ) (queue : List WaitingAsk) → StartsWith client queue → ask_count client queue ≤ 1 → has_ask client (after_first queue) ≡ false
first_gone client [] s few = refl
first_gone client (ask ∷ queue) s few = none_counted client queue (grind (arith, nat_tests))

pub rest_has : (client : ℕ) (queue : List WaitingAsk) → has_ask client (after_first queue) ≡ true → has_ask client queue ≡ true
rest_has client [] e = e
rest_has client (ask ∷ queue) e = go (ask.client == client)
  where
    go : (b : Bool) → (b || has_ask client queue) ≡ true
    go true = refl
    go false = e

pub rest_none : (client other : ℕ) (queue : List WaitingAsk) → StartsWith client queue → other ≢ client → has_ask other (after_first queue) ≡ false → has_ask other queue ≡ false
rest_none client other [] s ne e = refl
rest_none client other (ask ∷ queue) s ne e = grind (arith, nat_tests)

pub without_gone : (client : ℕ) (queue : List WaitingAsk) → has_ask client (without_client client queue) ≡ false
without_gone client [] = refl
without_gone client (ask ∷ queue) = go (without_gone client queue) (ask.client == client) refl
  where
    go : has_ask client (without_client client queue) ≡ false → (b : Bool) → (ask.client == client) ≡ b
        → has_ask client (if b then without_client client queue else ask ∷ without_client client queue) ≡ false
    go rest true is = rest
    go rest false is = ap (λ b. b || has_ask client (without_client client queue)) is ∙ rest

pub without_other : (client other : ℕ) (queue : List WaitingAsk) → other ≢ client → has_ask other (without_client client queue) ≡ has_ask other queue
without_other client other [] ne = refl
without_other client other (ask ∷ queue) ne = go (without_other client other queue ne) (ask.client == client) refl
  where
    apart : (ask.client == client) ≡ true → (ask.client == other) ≡ false
    apart e = grind (arith, nat_tests)

    go : has_ask other (without_client client queue) ≡ has_ask other queue → (b : Bool) → (ask.client == client) ≡ b
        → has_ask other (if b then without_client client queue else ask ∷ without_client client queue) ≡ ((ask.client == other) || has_ask other queue)
    go rest true is = rest ∙ sym (ap (λ b. b || has_ask other queue) (apart is))
    go rest false is = ap (λ b. (ask.client == other) || b) rest

pub without_has : (client other : ℕ) (queue : List WaitingAsk) → has_ask other (without_client client queue) ≡ true → has_ask other queue ≡ true
without_has client other [] e = e
without_has client other (ask ∷ queue) e = go (without_has client other queue) (ask.client == client) (ask.client == other) refl refl
  where
    go : (has_ask other (without_client client queue) ≡ true → has_ask other queue ≡ true) → (b d : Bool) → (ask.client == client) ≡ b → (ask.client == other) ≡ d
        → (d || has_ask other queue) ≡ true
    go rest b true is at = refl
    go rest true false is at = rest (grind arith)
    go rest false false is at = rest (grind arith)

-- an ask in a queue, with none of its client behind it
pub record Placed (client : ℕ) (queue : List WaitingAsk) : Type 0 where
  pub front : List WaitingAsk
  pub back : List WaitingAsk
  pub ask : WaitingAsk
  pub is : queue ≡ front ++ ask ∷ back
  pub own : ask.client ≡ client
  pub last : has_ask ask.client back ≡ false

pub placed : (client : ℕ) (queue : List WaitingAsk) → has_ask client queue ≡ true → Placed client queue
placed client [] e = absurd cc
placed client (ask ∷ queue) e = go (placed client queue) (has_ask client queue) refl
  where
    go : (has_ask client queue ≡ true → Placed client queue) → (b : Bool) → has_ask client queue ≡ b → Placed client (ask ∷ queue)
    go rest true more = let later = rest more in record {
      front = ask ∷ later.front;
      back = later.back;
      ask = later.ask;
      is = ap (λ (l : List WaitingAsk). ask ∷ l) later.is;
      own = later.own;
      last = later.last;
    }
    go rest false none = let own : ask.client ≡ client = grind (arith, nat_tests) in record {
      front = [];
      back = queue;
      ask = ask;
      is = refl;
      own = own;
      last = subst (λ (c : ℕ). has_ask c queue ≡ false) (sym own) none;
    }

pub listed_first : (queue : List WaitingAsk) (ask : WaitingAsk) (rest : List WaitingAsk) → queue ≡ ask ∷ rest → has_ask ask.client queue ≡ true
listed_first queue ask rest is = ap (has_ask ask.client) is ∙ same (ask.client == ask.client) refl
  where
    same : (b : Bool) → (ask.client == ask.client) ≡ b → (b || has_ask ask.client rest) ≡ true
    same true e = refl
    same false e = grind (arith, nat_tests)

pub starts_with : (queue : List WaitingAsk) (ask : WaitingAsk) (rest : List WaitingAsk) → queue ≡ ask ∷ rest → StartsWith ask.client queue
starts_with queue ask rest is = subst (StartsWith ask.client) (sym is) refl

-- a grant number is left for a first read ask
pub left_for : (s : Server) (page : ℕ) (ask : WaitingAsk) (rest : List WaitingAsk) → page < s.pages → s.queue page ≡ ask ∷ rest → ask.write_grant ≡ None
    → first_free_grant s ≤ max_number + 1 → s.next_grant ≤ max_number
left_for s page ask rest lt is reads left =
    let one : read_asks_in (s.queue page) ≡ read_asks_in rest + 1 = ap read_asks_in is ∙ ap (λ (g : Option ℕ). if is_none g then read_asks_in rest + 1 else read_asks_in rest) reads in
    let least = reads_least s page s.pages lt in
    omega (arith, one, least, left)
