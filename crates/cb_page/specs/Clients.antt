-- A set of clients.
use Rattle.std.specs.Prelude.{◌≡◌, ◌<◌, ◌≤◌, ◌-◌, ◌^◌, ℕ, Bool, true, false, ◌==◌, if◌then◌else◌}
use Rattle.std.specs.Int.{bit_at}

-- one bit for each client that there may be
pub record Clients : Type 0 where
  pub bits : ℕ

abbrev pub set_of : ℕ → Clients
set_of bits = record { bits = bits }

-- whether a client is in the set
unfoldable pub has : Clients → ℕ → Bool
has set client = bit_at set.bits client == 1

-- who is in the set once this client is put in; taken out
abbrev pub with : Clients → ℕ → ℕ → Bool
with set client other = if other == client then true else has set other

abbrev pub without : Clients → ℕ → ℕ → Bool
without set client other = if other == client then false else has set other

-- a number that falls as clients are put in: the measure of a walk that follows each client once
abbrev pub left_out : Clients → ℕ
left_out set = 2 ^ 32 - set.bits

-- the client is in the set, and none before it
pub record IsLeast (set : Clients) (client : ℕ) : Type 0 where
  pub here : has set client ≡ true
  pub none_before : (other : ℕ) → other < client → has set other ≡ false

-- the client is in the set, from that number on, and none between
pub record IsNext (set : Clients) (from client : ℕ) : Type 0 where
  pub here : has set client ≡ true
  pub above : from ≤ client
  pub none_between : (other : ℕ) → from ≤ other → other < client → has set other ≡ false
