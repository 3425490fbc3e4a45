-- Callbacks to those with a copy, client by client.
use Rattle.std.proofs.Common.{◌≡◌, ℕ, Bool, true, false, ◌||◌, ◌==◌, if◌then◌else◌, List, [], ◌++◌, Option, Some, None, zero, suc, refl, ap}
use Rattle.std.specs.Option.{is_some}
use Rattle.cb_server_state.specs.Asking.{callback_to}
use Rattle.cb_server_state.proofs.Walks.{up_to}
use Rattle.cb_protocol.specs.Basics.{is_none}
use Rattle.cb_protocol.specs.Server.{Server, ServerStep}
use Rattle.cb_protocol.specs.Settling.{send_callback, send_callbacks}

-- to the clients before a number
pub calls : (s : Server) (left_out : ℕ → Bool) (page asker end : ℕ)
    → send_callbacks s left_out page asker end ≡ up_to (callback_to s left_out page asker) end
calls s left_out page asker zero = refl
calls s left_out page asker (suc client) = ap (λ (l : List ServerStep). l ++ callback_to s left_out page asker client) (calls s left_out page asker client)

none_is : (row : Option ℕ) → is_none row ≡ true → row ≡ None
none_is None e = refl
none_is (Some grant) e = absurd cc

-- to a client without a copy nothing is sent
pub none_to : (s : Server) (left_out : ℕ → Bool) (page asker client : ℕ) → is_none ((s.session client).row page) ≡ true
    → callback_to s left_out page asker client ≡ []
none_to s left_out page asker client e = go ((client == asker) || left_out client)
  where
    go : (b : Bool) → (if b then [] else send_callback s client page ((s.session client).row page)) ≡ []
    go true = refl
    go false = ap (send_callback s client page) (none_is ((s.session client).row page) e)

-- a client that isn't among those with a copy has none
pub no_row : (row : Option ℕ) (there : Bool) → there ≡ is_some row → there ≡ false → is_none row ≡ true
no_row None there e f = refl
no_row (Some grant) there e f = cc

pub some_row : (row : Option ℕ) (there : Bool) → there ≡ is_some row → there ≡ true → is_none row ≡ false
some_row None there e f = cc
some_row (Some grant) there e f = refl
