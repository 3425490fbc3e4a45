-- The page that a pool lets go for a grant, where the grant brings a page.
use Rattle.std.proofs.Common.{Bool, List, None, Option, Some, false, if◌then◌else◌, true, ℕ, ◌++◌, ◌==◌, ◌∷◌, [], ◌≡◌}
use Rattle.cb_protocol.specs.Basics.{Bytes}
use Rattle.cb_protocol.specs.Cache.{Fill, Install, Lock, MakeBare}
use Rattle.cb_protocol.specs.Client.{ChangeCache, Client, ClientStep, NoAsk, SetAsk}
use Rattle.cb_protocol.specs.ClientEnd.{give_back, refuse_grant}
use Rattle.cb_protocol.specs.ClientMessages.{brings_page, let_page_go, take_granted_held}

-- a page goes before the other comes
pub brings_after : (k : Client) (let_go : Option ℕ) (rest : List ClientStep) → brings_page rest ≡ true
    → brings_page (let_page_go k let_go ++ rest) ≡ true
brings_after k None rest e = e
brings_after k (Some q) rest e = go (k.cache.locked q) (k.cache.held q)
  where
    go : (r : Bool) (h : Option ℕ) → brings_page ((if r then ChangeCache (MakeBare q) ∷ [] else give_back q h) ++ rest) ≡ true
    go true h = e
    go false None = e
    go false (Some g) = e

-- the steps at a Granted, by the tests of the table
abbrev pub steps_held : Client → ℕ → ℕ → Bytes → Option ℕ → Option Bytes → Bool → List ClientStep
steps_held k p g b let_go o q = elim o as (λ _. List ClientStep) [
  | Some y ↦ []
  | None ↦ if q then let_page_go k let_go ++ SetAsk NoAsk ∷ ChangeCache (Fill p g b) ∷ [] else []
]

abbrev pub steps_kept : Client → ℕ → ℕ → ℕ → Bytes → Option ℕ → Bool → List ClientStep
steps_kept k p g v b let_go q = if q then take_granted_held k p g v b let_go (k.cache.content p) else refuse_grant p g

abbrev pub steps_granted : Client → ℕ → ℕ → ℕ → Bytes → Option ℕ → Option ℕ → Bool → List ClientStep
steps_granted k p g v b let_go x q = elim x as (λ _. List ClientStep) [
  | Some y ↦ steps_kept k p g v b let_go (y == g)
  | None ↦ if q then let_page_go k let_go ++ SetAsk NoAsk ∷ ChangeCache (Install p g v b) ∷ ChangeCache (Lock p) ∷ [] else refuse_grant p g
]
