-- The asks of other clients than one.
use Rattle.std.proofs.Common.{◌≡◌, ℕ, ◌+◌, List, length, Some, None, zero, suc, refl, sym, ◌∙◌, ap, arith}
use Rattle.cb_protocol.specs.Basics.{is_none}
use Rattle.cb_protocol.specs.Server.{ForgetTransaction, Server, WaitingAsk, after_server_step, without_client}
use Rattle.cb_protocol.specs.ServerMessages.{read_asks_below, read_asks_in}
use Rattle.cb_asks.specs.Asks.{AsksState, HasQueues, IsAsks, queue_at, reads_of_others}
use Rattle.cb_asks.specs.Places.{place_of}
use Rattle.cb_asks.specs.Queues.{ask_by}
use Rattle.cb_asks.specs.Sums.{one_if, sum_below}
use Rattle.cb_asks.proofs.Calls.{elsewhere_none, nowhere_counted}
use Rattle.cb_asks.proofs.Queues.{reads_without, without_none}
use Rattle.cb_asks.proofs.Steps.{counted_there, place_within}
use Rattle.cb_asks.proofs.Sums.{sum_changed, sum_same}

-- the counts are those of the protocol's server
pub others_below : (server : Server) (state : AsksState) (client : ℕ) → HasQueues server state → (end : ℕ)
    → read_asks_below (after_server_step server (ForgetTransaction client)) end
    ≡ sum_below (λ page. read_asks_in (without_client client (queue_at state page))) end
others_below server state client h zero = refl
others_below server state client h (suc end) =
    let e = others_below server state client h end in
    let f = ap (λ (queue : List WaitingAsk). read_asks_in (without_client client queue)) (h.queues end) in
    omega arith

-- where the client's ask waits nowhere, all are of others
pub all_others : (state : AsksState) → IsAsks state → (client : ℕ) → place_of state.places client ≡ None
    → reads_of_others state client ≡ state.places.reads
all_others state is client e =
    sum_same (λ page. read_asks_in (queue_at state page)) (λ page. read_asks_in (without_client client (queue_at state page)))
    (length state.queues) (λ page lt. ap read_asks_in (without_none client (queue_at state page) (nowhere_counted state is client e page)))
    ∙ sym is.reads

-- else all but its own
pub but_own : (state : AsksState) → IsAsks state → (client page : ℕ) (ask : WaitingAsk) → place_of state.places client ≡ Some page
    → ask_by client (queue_at state page) ≡ Some ask
    → reads_of_others state client + one_if (is_none ask.write_grant) ≡ state.places.reads
but_own state is client page ask there found =
    let one = counted_there state is client page there in
    let own = reads_without client (queue_at state page) ask (omega (arith, one)) found in
    let all = is.reads in
    let changed = sum_changed (λ at. read_asks_in (queue_at state at)) (λ at. read_asks_in (without_client client (queue_at state at)))
    page (length state.queues) (place_within state is client page there)
    (λ at ne. ap read_asks_in (without_none client (queue_at state at) (elsewhere_none state is client page there at ne))) in
    omega (arith, own, all, changed)
