-- What a step makes of a queue's counts.
use Rattle.std.proofs.Common.{◌≡◌, ℕ, ◌+◌, ◌≤◌, ◌==◌, if◌then◌else◌, List, [], ◌∷◌, ◌++◌, length, Some, None, refl, arith}
use Rattle.cb_protocol.specs.Basics.{is_none}
use Rattle.cb_protocol.specs.Deadlock.{ask_count}
use Rattle.cb_protocol.specs.Server.{WaitingAsk, has_ask, set_called_back, set_downgrade_sent, without_client}
use Rattle.cb_protocol.specs.ServerMessages.{read_asks_in}
use Rattle.cb_asks.specs.Queues.{ask_by}
use Rattle.cb_asks.specs.Sums.{one_if}

-- no more read asks than asks
pub reads_in_length : (queue : List WaitingAsk) → read_asks_in queue ≤ length queue
reads_in_length [] = omega arith
reads_in_length (ask ∷ queue) = grind (arith, reads_in_length queue)

-- an ask enters
pub reads_push : (ask : WaitingAsk) (queue : List WaitingAsk) → read_asks_in (queue ++ ask ∷ []) ≡ read_asks_in queue + one_if (is_none ask.write_grant)
reads_push ask [] = grind arith
reads_push ask (first ∷ queue) = grind (arith, reads_push ask queue)

pub length_push : (ask : WaitingAsk) (queue : List WaitingAsk) → length (queue ++ ask ∷ []) ≡ length queue + 1
length_push ask [] = refl
length_push ask (first ∷ queue) = let e = length_push ask queue in omega arith

-- a client's ask goes
pub without_none : (client : ℕ) (queue : List WaitingAsk) → ask_count client queue ≡ 0 → without_client client queue ≡ queue
without_none client [] none = refl
without_none client (ask ∷ queue) none = grind (arith, without_none client queue)

pub count_without : (client other : ℕ) (queue : List WaitingAsk) → ask_count other (without_client client queue) ≡ (if client == other then 0 else ask_count other queue)
count_without client other [] = grind arith
count_without client other (ask ∷ queue) = grind (arith, count_without client other queue)

pub length_without : (client : ℕ) (queue : List WaitingAsk) → length queue ≡ length (without_client client queue) + ask_count client queue
length_without client [] = refl
length_without client (ask ∷ queue) = grind (arith, length_without client queue)

pub reads_without : (client : ℕ) (queue : List WaitingAsk) (ask : WaitingAsk) → ask_count client queue ≤ 1 → ask_by client queue ≡ Some ask
    → read_asks_in queue ≡ read_asks_in (without_client client queue) + one_if (is_none ask.write_grant)
reads_without client [] ask one found = grind arith
reads_without client (first ∷ queue) ask one found = grind (arith, reads_without client queue ask, without_none client queue)

-- who is counted is found, and whoever isn't, is not
pub found_counted : (client : ℕ) (queue : List WaitingAsk) → ask_by client queue ≡ None → ask_count client queue ≡ 0
found_counted client [] none = refl
found_counted client (first ∷ queue) none = grind (arith, found_counted client queue)

pub found_client : (client : ℕ) (queue : List WaitingAsk) (ask : WaitingAsk) → ask_by client queue ≡ Some ask → ask.client ≡ client
found_client client [] ask found = grind arith
found_client client (first ∷ queue) ask found = grind (arith, found_client client queue ask)

pub counted_asks : (client : ℕ) (queue : List WaitingAsk) → ask_count client queue ≤ 1 → one_if (has_ask client queue) ≡ ask_count client queue
counted_asks client [] one = refl
counted_asks client (first ∷ queue) one = grind (arith, counted_asks client queue)

-- a note on the first ask changes no count
pub count_called : (client : ℕ) (queue : List WaitingAsk) → ask_count client (set_called_back queue) ≡ ask_count client queue
count_called client [] = refl
count_called client (first ∷ queue) = refl

pub reads_called : (queue : List WaitingAsk) → read_asks_in (set_called_back queue) ≡ read_asks_in queue
reads_called [] = refl
reads_called (first ∷ queue) = refl

pub length_called : (queue : List WaitingAsk) → length (set_called_back queue) ≡ length queue
length_called [] = refl
length_called (first ∷ queue) = refl

pub count_sent : (tag client : ℕ) (queue : List WaitingAsk) → ask_count client (set_downgrade_sent tag queue) ≡ ask_count client queue
count_sent tag client [] = refl
count_sent tag client (first ∷ queue) = refl

pub reads_sent : (tag : ℕ) (queue : List WaitingAsk) → read_asks_in (set_downgrade_sent tag queue) ≡ read_asks_in queue
reads_sent tag [] = refl
reads_sent tag (first ∷ queue) = refl

pub length_sent : (tag : ℕ) (queue : List WaitingAsk) → length (set_downgrade_sent tag queue) ≡ length queue
length_sent tag [] = refl
length_sent tag (first ∷ queue) = refl
