-- Serial page stores and serial histories (textbook: serializability). Nothing here knows grants,
-- copies or messages.
use Rattle.std.specs.Prelude.{◌≡◌, ℕ, if◌then◌else◌, List, [], ◌∷◌, map, reverse, ⊤}
use Rattle.cb_protocol.specs.Basics.{Bytes, IsIn, same_transaction, update}

-- an operation of a transaction: a read that was answered with these bytes, or a write of them
-- (textbook)
pub data Operation : Type 0 where
  Saw : (page : ℕ) → (bytes : Bytes) → Operation
  Put : (page : ℕ) → (bytes : Bytes) → Operation

-- each read saw what the store and the writes before it leave (textbook)
abbrev pub Legal : (ℕ → Bytes) → List Operation → Type 0
Legal store [] = ⊤
Legal store (Saw page bytes ∷ operations) = (bytes ≡ store page) × Legal store operations
Legal store (Put page bytes ∷ operations) = Legal (update store page bytes) operations

-- the store after these operations
abbrev pub after_operations : (ℕ → Bytes) → List Operation → ℕ → Bytes
after_operations store [] = store
after_operations store (Saw page bytes ∷ operations) = after_operations store operations
after_operations store (Put page bytes ∷ operations) =
    after_operations (update store page bytes) operations

-- a serial history: each transaction is legal on the store that the earlier ones leave (textbook)
abbrev pub IsSerial : (ℕ → Bytes) → List (List Operation) → Type 0
IsSerial store [] = ⊤
IsSerial store (transaction ∷ transactions) =
    Legal store transaction × IsSerial (after_operations store transaction) transactions

-- the store that these transactions leave
abbrev pub store_left : (ℕ → Bytes) → List (List Operation) → ℕ → Bytes
store_left store [] = store
store_left store (transaction ∷ transactions) =
    store_left (after_operations store transaction) transactions

-- a transaction's name: transactions of one incarnation of a client are numbered from 1
pub record TransactionName : Type 0 where
  pub client : ℕ
  pub incarnation : ℕ
  pub txn : ℕ

-- an operation that was answered, and the transaction that it is of
pub record PerformedOperation : Type 0 where
  pub client : ℕ
  pub incarnation : ℕ
  pub txn : ℕ
  pub operation : Operation

-- the operations of a transaction; here and in the list the newest comes first
abbrev pub transaction_operations : List PerformedOperation → (client incarnation txn : ℕ)
    → List Operation
transaction_operations [] client incarnation txn = []
transaction_operations (last ∷ earlier) client incarnation txn =
    if same_transaction last.client last.incarnation last.txn client incarnation txn
    then last.operation ∷ transaction_operations earlier client incarnation txn
    else transaction_operations earlier client incarnation txn

-- the operations of these transactions, one after another, the oldest first; the names come the
-- newest first
abbrev pub committed_operations : List TransactionName → List PerformedOperation
    → List (List Operation)
committed_operations names performed = reverse (map
    (λ name. reverse (transaction_operations performed name.client name.incarnation name.txn))
    names)

-- no transaction stands in the list twice
abbrev pub EachOnce : List TransactionName → Type 0
EachOnce [] = ⊤
EachOnce (name ∷ names) = (IsIn name names → ⊥) × EachOnce names
