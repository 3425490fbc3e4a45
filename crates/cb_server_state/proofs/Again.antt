-- What is sent again, page by page and client by client.
use Rattle.std.proofs.Common.{◌≡◌, ℕ, List, [], ◌++◌, zero, suc, refl, ap}
use Rattle.cb_server_state.specs.Asking.{abort_to}
use Rattle.cb_server_state.proofs.Walks.{up_to}
use Rattle.cb_protocol.specs.Resend.{again_doomed, again_page, again_pages}
use Rattle.cb_protocol.specs.Server.{Server, ServerStep}

-- for one page
abbrev pub page_again : Server → (page : ℕ) → List ServerStep
page_again s page = again_page s page (s.queue page)

pub pages_walk : (s : Server) (end : ℕ) → again_pages s end ≡ up_to (page_again s) end
pages_walk s zero = refl
pages_walk s (suc page) = ap (λ (l : List ServerStep). l ++ page_again s page) (pages_walk s page)

pub doomed_walk : (s : Server) (end : ℕ) → again_doomed s end ≡ up_to (abort_to s) end
doomed_walk s zero = refl
doomed_walk s (suc client) = ap (λ (l : List ServerStep). l ++ abort_to s client) (doomed_walk s client)

-- where nobody asks, nothing
pub none_again : (s : Server) (page : ℕ) → s.queue page ≡ [] → page_again s page ≡ []
none_again s page e = ap (again_page s page) e
