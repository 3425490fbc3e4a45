-- The serial history by the machine's entries, and what the transcript has of it.
use Rattle.std.proofs.Common.{List, None, [], map, reverse, ℕ, ◌<◌, ◌≡◌, ◌≢◌}
use Rattle.cb_protocol.proofs.Machine.{CommittedTransaction, Machine}
use Rattle.cb_protocol.specs.Cache.{Idle}
use Rattle.cb_protocol.specs.Basics.{Bytes, IsIn}
use Rattle.cb_protocol.specs.Serial.{Operation, IsSerial, TransactionName, EachOnce, store_left, transaction_operations}

-- the operations that the entries have
abbrev pub history_operations : List CommittedTransaction → List (List Operation)
history_operations es = reverse (map (λ e. reverse e.operations) es)

pub record Kept (opening : ℕ → Bytes) (w : Machine) : Type 0 where
  pub legal : IsSerial opening (history_operations w.history)
  pub leaves : (p : ℕ) → store_left opening (history_operations w.history) p ≡ w.store.bytes p

abbrev pub history_names : List CommittedTransaction → List TransactionName
history_names es = map (λ e. record { client = e.client; incarnation = e.incarnation; txn = e.txn }) es

-- the transcript has the operations that the clients and the entries have
pub record Recorded (w : Machine) : Type 0 where
  pub now : (c i : ℕ) → (w.client c i).status ≢ Idle → transaction_operations w.performed c i (w.client c i).number ≡ (w.client c i).operations
  pub later : (c i x : ℕ) → (w.client c i).number < x → transaction_operations w.performed c i x ≡ []
  pub entries : (e : CommittedTransaction) → IsIn e w.history → (transaction_operations w.performed e.client e.incarnation e.txn ≡ e.operations) × (w.store.commit_number e.client e.incarnation e.txn ≢ None)
  pub once : EachOnce (history_names w.history)
