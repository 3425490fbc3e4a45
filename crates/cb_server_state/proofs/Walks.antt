-- What is sent by a walk that leaves out those to whom nothing is sent.
use Rattle.std.proofs.Common.{◌≡◌, ℕ, ◌+◌, ◌<◌, ◌≤◌, List, [], ◌++◌, zero, suc, sym, ap, ◌∙◌, arith, add-one, inl, inr}
use Rattle.std.proofs.lemmas.Bool.{cases_lt}
use Rattle.std.proofs.lemmas.List.{append-nil, append_assoc}
use Rattle.cb_outbox.specs.Saying.{HasRoomFor, OutboxState, Says}
use Rattle.cb_server_state.proofs.Rooms.{room_next}
use Rattle.cb_outbox.proofs.Saying.{says_as, says_then}
use Rattle.cb_protocol.specs.Server.{Server, ServerStep}

-- what is sent for each number before `end`
abbrev pub up_to : (ℕ → List ServerStep) → (end : ℕ) → List ServerStep
up_to each zero = []
up_to each (suc number) = up_to each number ++ each number

module _ (each : ℕ → List ServerStep) where
  pub up_to_none : (from end : ℕ) → from ≤ end → ((number : ℕ) → from ≤ number → number < end → each number ≡ []) → up_to each end ≡ up_to each from
  up_to_none from zero le none = ap (up_to each) (let e : zero ≡ from = omega (arith, le) in e)
  up_to_none from (suc number) le none = elim (cases_lt number from) [
    | inl below ↦ ap (up_to each) (let e : suc number ≡ from = omega (arith, le, below) in e)
    | inr past ↦
        ap (λ (l : List ServerStep). up_to each number ++ l) (none number past (omega arith))
        ∙ (append-nil (up_to each number)
        ∙ up_to_none from number past (λ other above lt. none other above (omega (arith, lt))))
  ]

  pub up_to_next : (from number : ℕ) → from ≤ number → ((other : ℕ) → from ≤ other → other < number → each other ≡ [])
      → up_to each (number + 1) ≡ up_to each from ++ each number
  up_to_next from number le none = ap (up_to each) (add-one number)
      ∙ ap (λ (l : List ServerStep). l ++ each number) (up_to_none from number le none)

  pub record Rest (from end : ℕ) : Type 0 where
    pub rest : List ServerStep
    pub is : up_to each end ≡ up_to each from ++ rest

  pub up_to_rest : (from end : ℕ) → from ≤ end → Rest from end
  up_to_rest from zero le = record {
    rest = [];
    is = ap (up_to each) (let e : zero ≡ from = omega (arith, le) in e) ∙ sym (append-nil (up_to each from));
  }
  up_to_rest from (suc number) le = elim (cases_lt number from) [
    | inl below ↦ record {
      rest = [];
      is = ap (up_to each) (let e : suc number ≡ from = omega (arith, le, below) in e) ∙ sym (append-nil (up_to each from));
    }
    | inr past ↦ let r = up_to_rest from number past in record {
      rest = r.rest ++ each number;
      is = ap (λ (l : List ServerStep). l ++ each number) r.is ∙ append_assoc (up_to each from) r.rest (each number);
    }
  ]

-- one more is sent
pub walked : (s : Server) (each : ℕ → List ServerStep) (step : Server → List ServerStep) (from number : ℕ) (a b d : OutboxState) → from ≤ number
    → ((other : ℕ) → from ≤ other → other < number → each other ≡ []) → step s ≡ each number
    → Says s (λ server. up_to each from) s a b → Says s step s b d → Says s (λ server. up_to each (number + 1)) s a d
walked s each step from number a b d le none is x y =
    says_as s s (λ server. up_to each (number + 1)) _ a d
    (up_to_next each from number le none ∙ ap (λ (l : List ServerStep). up_to each from ++ l) (sym is ∙ ap step x.becomes))
    (says_then s s s (λ server. up_to each from) step a b d x y)

-- all is sent
pub walked_all : (s : Server) (each : ℕ → List ServerStep) (whole : Server → List ServerStep) (from end : ℕ) (a b : OutboxState) → from ≤ end
    → ((number : ℕ) → from ≤ number → number < end → each number ≡ []) → whole s ≡ up_to each end
    → Says s (λ server. up_to each from) s a b → Says s whole s a b
walked_all s each whole from end a b le none is x =
    says_as s s whole (λ server. up_to each from) a b (is ∙ up_to_none each from end le none) x

-- the room for the next
pub walk_room : (s : Server) (each : ℕ → List ServerStep) (whole step : List ServerStep) (from number end : ℕ) (a b : OutboxState) → from ≤ number → number < end
    → ((other : ℕ) → from ≤ other → other < number → each other ≡ []) → whole ≡ up_to each end → each number ≡ step
    → HasRoomFor whole a → Says s (λ server. up_to each from) s a b → HasRoomFor step b
walk_room s each whole step from number end a b le lt none is same room says = let r = up_to_rest each (number + 1) end (omega (arith, lt)) in
    room_next s s (λ server. up_to each from) step r.rest whole a b
    (is ∙ (r.is ∙ ap (λ (l : List ServerStep). l ++ r.rest) (up_to_next each from number le none ∙ ap (λ (l : List ServerStep). up_to each from ++ l) same))) room says
