-- How many read asks wait, as the queues change.
use Rattle.std.proofs.Common.{Bool, List, [], ap, arith, false, if◌then◌else◌, refl, subst, suc, true, zero, ℕ, ◌++◌, ◌+◌, ◌<◌, ◌==◌, ◌∷◌, ◌≡◌, ◌≢◌, ◌≤◌}
use Rattle.cb_protocol.specs.Basics.{is_none}
use Rattle.cb_protocol.specs.Server.{Server, WaitingAsk, set_called_back, set_downgrade_sent, without_client}
use Rattle.cb_protocol.specs.ServerMessages.{read_asks_in, read_asks_below}

pub count_without : (c : ℕ) (q : List WaitingAsk) → read_asks_in (without_client c q) ≤ read_asks_in q
count_without c [] = omega arith
count_without c (a ∷ q) = go (count_without c q) (a.client == c) (is_none a.write_grant)
  where
    one : (r : Bool) (x y : ℕ) → x ≤ y → (if r then x + 1 else x) ≤ (if r then y + 1 else y)
    one true x y l = omega arith
    one false x y l = l

    more : (r : Bool) (x y : ℕ) → x ≤ y → x ≤ (if r then y + 1 else y)
    more true x y l = omega arith
    more false x y l = l

    go : read_asks_in (without_client c q) ≤ read_asks_in q → (r u : Bool) → read_asks_in (if r then without_client c q else a ∷ without_client c q) ≤ (if is_none a.write_grant then read_asks_in q + 1 else read_asks_in q)
    go l true u = more (is_none a.write_grant) _ _ l
    go l false u = one (is_none a.write_grant) _ _ l

pub count_called : (q : List WaitingAsk) → read_asks_in (set_called_back q) ≡ read_asks_in q
count_called [] = refl
count_called (a ∷ q) = refl

pub count_told : (t : ℕ) (q : List WaitingAsk) → read_asks_in (set_downgrade_sent t q) ≡ read_asks_in q
count_told t [] = refl
count_told t (a ∷ q) = refl

pub count_push : (a : WaitingAsk) (q : List WaitingAsk) → read_asks_in (q ++ a ∷ []) ≡ (if is_none a.write_grant then read_asks_in q + 1 else read_asks_in q)
count_push a [] = refl
count_push a (b ∷ q) = go (count_push a q) (is_none a.write_grant) (is_none b.write_grant)
  where
    swap : (r u : Bool) (x y : ℕ) → x ≡ (if r then y + 1 else y) → (if u then x + 1 else x) ≡ (if r then (if u then y + 1 else y) + 1 else (if u then y + 1 else y))
    swap true true x y e = omega arith
    swap true false x y e = e
    swap false true x y e = omega arith
    swap false false x y e = e

    go : read_asks_in (q ++ a ∷ []) ≡ (if is_none a.write_grant then read_asks_in q + 1 else read_asks_in q) → (r u : Bool)
        → (if is_none b.write_grant then read_asks_in (q ++ a ∷ []) + 1 else read_asks_in (q ++ a ∷ [])) ≡ (if is_none a.write_grant then (if is_none b.write_grant then read_asks_in q + 1 else read_asks_in q) + 1 else (if is_none b.write_grant then read_asks_in q + 1 else read_asks_in q))
    go e r u = swap (is_none a.write_grant) (is_none b.write_grant) _ _ e

-- queues that have no more reads
pub reads_fewer : (s t : Server) (n : ℕ) → ((p : ℕ) → read_asks_in (t.queue p) ≤ read_asks_in (s.queue p)) → read_asks_below t n ≤ read_asks_below s n
reads_fewer s t zero f = omega arith
reads_fewer s t (suc n) f = let a = reads_fewer s t n f in let b = f n in omega arith

pub reads_same : (s t : Server) (n : ℕ) → ((p : ℕ) → p < n → read_asks_in (t.queue p) ≡ read_asks_in (s.queue p)) → read_asks_below t n ≡ read_asks_below s n
reads_same s t zero f = refl
reads_same s t (suc n) f = let a = reads_same s t n (λ p l. f p (omega arith)) in let b = f n (omega arith) in omega arith

-- one queue changes
pub reads_change : (s t : Server) (p n : ℕ) → p < n → ((q : ℕ) → q ≢ p → t.queue q ≡ s.queue q) → read_asks_below t n + read_asks_in (s.queue p) ≡ read_asks_below s n + read_asks_in (t.queue p)
reads_change s t p zero l f = absurd (omega arith)
reads_change s t p (suc n) l f = go (λ m. reads_change s t p n m f) (n == p) refl
  where
    here : (n == p) ≡ true → n ≡ p
    here e = grind arith

    past : (n == p) ≡ false → p < n
    past e = grind arith

    other : (n == p) ≡ false → read_asks_in (t.queue n) ≡ read_asks_in (s.queue n)
    other e = ap read_asks_in (f n (λ z. absurd (let a = past e in omega arith)))

    below : (n == p) ≡ true → (q : ℕ) → q < n → read_asks_in (t.queue q) ≡ read_asks_in (s.queue q)
    below e q m = ap read_asks_in (f q (λ z. absurd (let a = here e in omega arith)))

    go : (p < n → read_asks_below t n + read_asks_in (s.queue p) ≡ read_asks_below s n + read_asks_in (t.queue p)) → (r : Bool) → (n == p) ≡ r
        → (read_asks_below t n + read_asks_in (t.queue n)) + read_asks_in (s.queue p) ≡ (read_asks_below s n + read_asks_in (s.queue n)) + read_asks_in (t.queue p)
    go g true e = subst (λ (x : ℕ). (read_asks_below t n + read_asks_in (t.queue n)) + read_asks_in (s.queue x) ≡ (read_asks_below s n + read_asks_in (s.queue n)) + read_asks_in (t.queue x)) (here e) (let a = reads_same s t n (below e) in omega arith)
    go g false e = let a = g (past e) in let b = other e in omega arith

-- at least those of one queue
pub reads_least : (s : Server) (p n : ℕ) → p < n → read_asks_in (s.queue p) ≤ read_asks_below s n
reads_least s p zero l = absurd (omega arith)
reads_least s p (suc n) l = go (λ m. reads_least s p n m) (n == p) refl
  where
    here : (n == p) ≡ true → n ≡ p
    here e = grind arith

    past : (n == p) ≡ false → p < n
    past e = grind arith

    go : (p < n → read_asks_in (s.queue p) ≤ read_asks_below s n) → (r : Bool) → (n == p) ≡ r → read_asks_in (s.queue p) ≤ read_asks_below s n + read_asks_in (s.queue n)
    go g true e = subst (λ (x : ℕ). read_asks_in (s.queue x) ≤ read_asks_below s n + read_asks_in (s.queue n)) (here e) (omega arith)
    go g false e = let a = g (past e) in omega arith
