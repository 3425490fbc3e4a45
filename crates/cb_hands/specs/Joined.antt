-- What is stored of the hands of clients.
use Rattle.std.specs.Prelude.{◌≡◌, ℕ, List, slice_index_or, slice_set, Option, Some, None}
use Rattle.cb_hands.specs.Hands.{HandState}

-- what is stored of a client's hand; nothing where it has not joined
abbrev pub stored_at : List (Option HandState) → (client : ℕ) → Option HandState
stored_at hands client = slice_index_or hands client None

-- the hand is what is stored of its client
abbrev pub IsHeld : List (Option HandState) → HandState → Type 0
IsHeld hands hand = stored_at hands hand.client ≡ Some hand

-- A hand became another, and so did what is stored of it; nothing else did.
pub record Follow (old new : List (Option HandState)) (before after : HandState) : Type 0 where
  pub hands : new ≡ slice_set old before.client (Some after)
  pub held : IsHeld new after
