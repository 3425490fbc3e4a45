-- Whether steps send a message, one list after another and along a walk.
use Rattle.std.proofs.Common.{◌≡◌, ◌≢◌, ℕ, ◌+◌, ◌<◌, ◌≤◌, Bool, true, false, ◌||◌, List, [], ◌∷◌, ◌++◌, refl, sym, ap, ◌∙◌, arith}
use Rattle.cb_server_state.specs.Asking.{sends_any}
use Rattle.cb_server_state.proofs.Walks.{up_to, up_to_next, up_to_none, up_to_rest}
use Rattle.cb_protocol.specs.Resend.{again_doomed}
use Rattle.cb_protocol.specs.Server.{Send, Server, ServerStep}
use Rattle.cb_protocol.specs.World.{messages_sent}

pub any_append : (xs ys : List ServerStep) → sends_any (xs ++ ys) ≡ (sends_any xs || sends_any ys)
any_append [] ys = refl
any_append (Send c i b ∷ xs) ys = refl
any_append (_ ∷ xs) ys = any_append xs ys

-- where a message is sent, there is one; else there is none
pub some_sent : (xs : List ServerStep) → sends_any xs ≡ true → messages_sent xs ≢ []
some_sent [] e = absurd cc
some_sent (Send c i b ∷ xs) e = λ none. cc
some_sent (_ ∷ xs) e = some_sent xs e

pub none_sent : (xs : List ServerStep) → sends_any xs ≡ false → messages_sent xs ≡ []
none_sent [] e = refl
none_sent (Send c i b ∷ xs) e = absurd cc
none_sent (_ ∷ xs) e = none_sent xs e

none_more : (xs ys : List ServerStep) → sends_any xs ≡ false → sends_any ys ≡ false → sends_any (xs ++ ys) ≡ false
none_more xs ys e f = any_append xs ys ∙ (ap (λ (b : Bool). b || sends_any ys) e ∙ f)

some_later : (xs ys : List ServerStep) → sends_any ys ≡ true → sends_any (xs ++ ys) ≡ true
some_later xs ys e = any_append xs ys ∙ (ap (λ (b : Bool). sends_any xs || b) e ∙ go (sends_any xs))
  where
    go : (b : Bool) → (b || true) ≡ true
    go true = refl
    go false = refl

pub some_before : (xs ys : List ServerStep) → sends_any xs ≡ true → sends_any (xs ++ ys) ≡ true
some_before xs ys e = any_append xs ys ∙ ap (λ (b : Bool). b || sends_any ys) e

-- nothing was sent up to there, nor is it for the next
pub none_walked : (each : ℕ → List ServerStep) (from number : ℕ) → from ≤ number → ((other : ℕ) → from ≤ other → other < number → each other ≡ [])
    → sends_any (up_to each from) ≡ false → sends_any (each number) ≡ false → sends_any (up_to each (number + 1)) ≡ false
none_walked each from number le none e f =
    ap sends_any (up_to_next each from number le none) ∙ none_more (up_to each from) (each number) e f

-- nothing is sent for any
pub none_walked_all : (each : ℕ → List ServerStep) (whole : List ServerStep) (from end : ℕ) → from ≤ end → ((other : ℕ) → from ≤ other → other < end → each other ≡ [])
    → whole ≡ up_to each end → sends_any (up_to each from) ≡ false → sends_any whole ≡ false
none_walked_all each whole from end le none is e = ap sends_any (is ∙ up_to_none each from end le none) ∙ e

-- something is sent for one, so for all
pub some_walked : (each : ℕ → List ServerStep) (whole : List ServerStep) (from number end : ℕ) → from ≤ number → number < end
    → ((other : ℕ) → from ≤ other → other < number → each other ≡ []) → whole ≡ up_to each end → sends_any (each number) ≡ true → sends_any whole ≡ true
some_walked each whole from number end le lt none is e = let r = up_to_rest each (number + 1) end (omega (arith, lt)) in
    ap sends_any (is ∙ r.is)
    ∙ some_before (up_to each (number + 1)) r.rest (ap sends_any (up_to_next each from number le none) ∙ some_later (up_to each from) (each number) e)

-- nothing is sent by the first, so it is as with the doomed
pub as_the_second : (xs : List ServerStep) (s : Server) (clients : ℕ) (b : Bool) → clients ≡ s.clients → sends_any xs ≡ false
    → b ≡ sends_any (again_doomed s clients) → b ≡ sends_any (xs ++ again_doomed s s.clients)
as_the_second xs s clients b all none is =
    is ∙ (ap (λ (n : ℕ). sends_any (again_doomed s n)) all
    ∙ sym (any_append xs (again_doomed s s.clients) ∙ ap (λ (x : Bool). x || sends_any (again_doomed s s.clients)) none))
