-- What a grant whose row stands makes of the hand.
use Rattle.std.proofs.Common.{◌≡◌, ◌∙◌, ℕ, true, nat_lt, length, refl, sym, ap}
use Rattle.cb_hands.specs.Hands.{HandState, held_at, with_copy}
use Rattle.cb_station.specs.Moves.{received}
use Rattle.cb_protocol.specs.Basics.{is_none}
use Rattle.cb_protocol.specs.Server.{Server, has_row}

pub taken_in : (server : Server) (hand : HandState) (page grant version : ℕ) → has_row server hand.client page grant ≡ true → nat_lt page (length hand.held) ≡ true → is_none (held_at hand.held page) ≡ true
    → version ≡ server.store.version page → with_copy hand page (record { grant = grant; version = version }) ≡ received server hand page grant
taken_in server hand page grant version row inside none is = ap (λ (n : ℕ). with_copy hand page (record { grant = grant; version = n })) is ∙ sym taken
  where
    taken : received server hand page grant ≡ with_copy hand page (record { grant = grant; version = server.store.version page })
    taken = rw (inside, none, row) refl
