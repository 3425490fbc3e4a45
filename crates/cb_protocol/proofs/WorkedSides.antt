-- Worked lists of messages at a server alone, and of calls and messages at a client alone.
use Rattle.std.proofs.Common.{List, None, Some, [], false, refl, ℕ, ◌∷◌, ◌≡◌}
use Rattle.cb_protocol.specs.AnyMessages.{MessageComes, Input, ReachesDisk, input_steps}
use Rattle.cb_protocol.specs.Client.{Aborted, ClientStep, Client, StatusIdle, client_after, new_client, bodies_said, client_status}
use Rattle.cb_protocol.specs.ClientCalls.{CallAgain, CallBegin, Call, CallDrop, CallHello, CallRead, CallWant, CallWrite, call_fault, client_call}
use Rattle.cb_protocol.specs.ClientMessages.{client_take}
use Rattle.cb_protocol.specs.Basics.{Bytes, Limits}
use Rattle.cb_protocol.specs.Messages.{AbortNow, AskRead, AskWrite, Body, Callback, Commit, Done, Drop, Message, GiveBack, Granted, Hello, InUse, MayWrite, Welcome, PageWrite}
use Rattle.cb_protocol.specs.Server.{Server, new_server, server_after}
use Rattle.cb_protocol.specs.Flush.{next_batch}
use Rattle.cb_protocol.specs.WaitsFor.{on_cycle}
use Rattle.cb_protocol.specs.ServerMessages.{server_take}
use Rattle.cb_protocol.specs.World.{messages_sent, opening_store}

abbrev pub page_of : ℕ → Bytes
page_of b = b ∷ b ∷ b ∷ b ∷ b ∷ b ∷ b ∷ b ∷ b ∷ b ∷ b ∷ b ∷ b ∷ b ∷ b ∷ b ∷ []

abbrev pub message : ℕ → ℕ → Body → Message
message c i b = record { client = c; incarnation = i; body = b }

abbrev pub write_record : ℕ → ℕ → Bytes → PageWrite
write_record p g b = record { page = p; grant = g; bytes = b }

abbrev pub empty_server : ℕ → ℕ → Server
empty_server clients pages = new_server clients pages (opening_store (record { clients = clients; pages = pages; page_size = 16; slots = 4; keep_write = false }) (record { bytes = λ p. page_of 0; version = λ p. 0; number = 0 }))

abbrev pub outputs : Server → List Input → List (List Message)
outputs s [] = []
outputs s (i ∷ is) = messages_sent (input_steps on_cycle s i) ∷ outputs (server_after s (input_steps on_cycle s i)) is

abbrev pub later_server : Server → List Input → Server
later_server s [] = s
later_server s (i ∷ is) = later_server (server_after s (input_steps on_cycle s i)) is

callbacks_at_the_server : outputs (empty_server 2 2) (MessageComes 0 1 Hello
    ∷ MessageComes 1 1 Hello
    ∷ MessageComes 0 1 (AskRead 1 0)
    ∷ MessageComes 1 1 (AskRead 1 0)
    ∷ MessageComes 1 1 (AskWrite 1 0 2)
    ∷ MessageComes 1 1 (AskWrite 1 0 2)
    ∷ MessageComes 0 1 (AskRead 1 0)
    ∷ MessageComes 0 1 (InUse 1 0 1)
    ∷ MessageComes 0 1 (GiveBack 0 1)
    ∷ MessageComes 0 1 (AskRead 1 0)
    ∷ MessageComes 1 1 (AskWrite 1 0 2)
    ∷ MessageComes 1 1 (GiveBack 0 2)
    ∷ MessageComes 1 2 Hello ∷ [])
    ≡ (message 0 1 Welcome ∷ [])
    ∷ (message 1 1 Welcome ∷ [])
    ∷ (message 0 1 (Granted 0 1 0 (page_of 0)) ∷ [])
    ∷ (message 1 1 (Granted 0 2 0 (page_of 0)) ∷ [])
    ∷ (message 0 1 (Callback 0 1) ∷ [])
    ∷ ([])
    ∷ (message 0 1 (Granted 0 1 0 (page_of 0)) ∷ [])
    ∷ ([])
    ∷ (message 1 1 (MayWrite 1 0 2) ∷ [])
    ∷ ([])
    ∷ (message 1 1 (MayWrite 1 0 2) ∷ [])
    ∷ ([])
    ∷ (message 1 2 Welcome ∷ message 0 1 (Granted 0 3 0 (page_of 0)) ∷ []) ∷ []
unfolding client_call call_fault client_take server_take
callbacks_at_the_server = refl

commits_at_the_server : outputs (empty_server 1 1) (MessageComes 0 1 Hello
    ∷ MessageComes 0 1 (AskRead 1 0)
    ∷ MessageComes 0 1 (AskWrite 1 0 1)
    ∷ MessageComes 0 1 (Commit 1 (write_record 0 1 (page_of 7) ∷ []))
    ∷ ReachesDisk 1
    ∷ MessageComes 0 1 (Commit 1 (write_record 0 1 (page_of 7) ∷ []))
    ∷ MessageComes 0 1 (AskRead 2 0)
    ∷ MessageComes 0 1 (Commit 1 (write_record 0 1 (page_of 7) ∷ []))
    ∷ MessageComes 0 1 (Commit 2 (write_record 0 1 (page_of 8) ∷ []))
    ∷ MessageComes 0 1 (Drop 2)
    ∷ MessageComes 0 1 (Commit 2 ([]))
    ∷ MessageComes 0 1 (Commit 3 ([]))
    ∷ ReachesDisk 2 ∷ [])
    ≡ (message 0 1 Welcome ∷ [])
    ∷ (message 0 1 (Granted 0 1 0 (page_of 0)) ∷ [])
    ∷ (message 0 1 (MayWrite 1 0 1) ∷ [])
    ∷ ([])
    ∷ (message 0 1 (Done 1 1) ∷ [])
    ∷ (message 0 1 (Done 1 1) ∷ [])
    ∷ (message 0 1 (Granted 0 1 1 (page_of 7)) ∷ [])
    ∷ ([])
    ∷ ([])
    ∷ ([])
    ∷ ([])
    ∷ ([])
    ∷ (message 0 1 (Done 3 2) ∷ []) ∷ []
unfolding client_call call_fault client_take server_take
commits_at_the_server = refl

cycle_of_three : outputs (empty_server 3 3) (MessageComes 0 1 Hello
    ∷ MessageComes 1 1 Hello
    ∷ MessageComes 2 1 Hello
    ∷ MessageComes 0 1 (AskRead 1 0)
    ∷ MessageComes 0 1 (AskWrite 1 0 1)
    ∷ MessageComes 1 1 (AskRead 1 1)
    ∷ MessageComes 1 1 (AskWrite 1 1 2)
    ∷ MessageComes 2 1 (AskRead 1 2)
    ∷ MessageComes 2 1 (AskWrite 1 2 3)
    ∷ MessageComes 0 1 (AskRead 1 1)
    ∷ MessageComes 1 1 (AskRead 1 2)
    ∷ MessageComes 2 1 (AskRead 1 0)
    ∷ MessageComes 2 1 (AskRead 1 0)
    ∷ MessageComes 2 1 (Drop 1) ∷ [])
    ≡ (message 0 1 Welcome ∷ [])
    ∷ (message 1 1 Welcome ∷ [])
    ∷ (message 2 1 Welcome ∷ [])
    ∷ (message 0 1 (Granted 0 1 0 (page_of 0)) ∷ [])
    ∷ (message 0 1 (MayWrite 1 0 1) ∷ [])
    ∷ (message 1 1 (Granted 1 2 0 (page_of 0)) ∷ [])
    ∷ (message 1 1 (MayWrite 1 1 2) ∷ [])
    ∷ (message 2 1 (Granted 2 3 0 (page_of 0)) ∷ [])
    ∷ (message 2 1 (MayWrite 1 2 3) ∷ [])
    ∷ ([])
    ∷ ([])
    ∷ (message 2 1 (AbortNow 1) ∷ [])
    ∷ (message 2 1 (AbortNow 1) ∷ [])
    ∷ (message 1 1 (Granted 2 4 0 (page_of 0)) ∷ []) ∷ []
unfolding client_call call_fault client_take server_take
cycle_of_three = refl

cycle_in_another_order : outputs (empty_server 3 3) (MessageComes 0 1 Hello
    ∷ MessageComes 1 1 Hello
    ∷ MessageComes 2 1 Hello
    ∷ MessageComes 0 1 (AskRead 1 0)
    ∷ MessageComes 0 1 (AskWrite 1 0 1)
    ∷ MessageComes 1 1 (AskRead 1 1)
    ∷ MessageComes 1 1 (AskWrite 1 1 2)
    ∷ MessageComes 2 1 (AskRead 1 2)
    ∷ MessageComes 2 1 (AskWrite 1 2 3)
    ∷ MessageComes 2 1 (AskRead 1 0)
    ∷ MessageComes 0 1 (AskRead 1 1)
    ∷ MessageComes 1 1 (AskRead 1 2) ∷ [])
    ≡ (message 0 1 Welcome ∷ [])
    ∷ (message 1 1 Welcome ∷ [])
    ∷ (message 2 1 Welcome ∷ [])
    ∷ (message 0 1 (Granted 0 1 0 (page_of 0)) ∷ [])
    ∷ (message 0 1 (MayWrite 1 0 1) ∷ [])
    ∷ (message 1 1 (Granted 1 2 0 (page_of 0)) ∷ [])
    ∷ (message 1 1 (MayWrite 1 1 2) ∷ [])
    ∷ (message 2 1 (Granted 2 3 0 (page_of 0)) ∷ [])
    ∷ (message 2 1 (MayWrite 1 2 3) ∷ [])
    ∷ ([])
    ∷ ([])
    ∷ (message 2 1 (AbortNow 1) ∷ []) ∷ []
unfolding client_call call_fault client_take server_take
cycle_in_another_order = refl

hostile_messages : outputs (empty_server 2 1) (MessageComes 0 1 Hello
    ∷ MessageComes 1 1 Hello
    ∷ MessageComes 0 1 (AskRead 1 0)
    ∷ MessageComes 0 1 (AskWrite 1 0 1)
    ∷ MessageComes 0 1 (Commit 1 (write_record 0 2 (page_of 0) ∷ []))
    ∷ MessageComes 1 1 (GiveBack 0 1)
    ∷ MessageComes 1 1 (InUse 1 0 1)
    ∷ MessageComes 0 1 (GiveBack 0 1)
    ∷ MessageComes 0 1 (Commit 1 (write_record 0 1 (page_of 0) ∷ []))
    ∷ MessageComes 1 1 (AskRead 1 0)
    ∷ MessageComes 0 1 Welcome
    ∷ MessageComes 0 1 (Drop 1) ∷ [])
    ≡ (message 0 1 Welcome ∷ [])
    ∷ (message 1 1 Welcome ∷ [])
    ∷ (message 0 1 (Granted 0 1 0 (page_of 0)) ∷ [])
    ∷ (message 0 1 (MayWrite 1 0 1) ∷ [])
    ∷ ([])
    ∷ ([])
    ∷ ([])
    ∷ ([])
    ∷ ([])
    ∷ ([])
    ∷ ([])
    ∷ (message 1 1 (Granted 0 2 0 (page_of 0)) ∷ []) ∷ []
unfolding client_call call_fault client_take server_take
hostile_messages = refl

first_batch : next_batch (later_server (empty_server 1 1) (MessageComes 0 1 Hello
    ∷ MessageComes 0 1 (AskRead 1 0)
    ∷ MessageComes 0 1 (AskWrite 1 0 1)
    ∷ MessageComes 0 1 (Commit 1 (write_record 0 1 (page_of 7) ∷ [])) ∷ [])) ≡ Some (record { number = 1; pages = record { page = 0; version = 1; bytes = page_of 7 } ∷ [] })
unfolding client_call call_fault client_take server_take
first_batch = refl

last_batch : next_batch (later_server (empty_server 1 1) (MessageComes 0 1 Hello
    ∷ MessageComes 0 1 (AskRead 1 0)
    ∷ MessageComes 0 1 (AskWrite 1 0 1)
    ∷ MessageComes 0 1 (Commit 1 (write_record 0 1 (page_of 7) ∷ []))
    ∷ ReachesDisk 1
    ∷ MessageComes 0 1 (Commit 1 (write_record 0 1 (page_of 7) ∷ []))
    ∷ MessageComes 0 1 (AskRead 2 0)
    ∷ MessageComes 0 1 (Commit 1 (write_record 0 1 (page_of 7) ∷ []))
    ∷ MessageComes 0 1 (Commit 2 (write_record 0 1 (page_of 8) ∷ []))
    ∷ MessageComes 0 1 (Drop 2)
    ∷ MessageComes 0 1 (Commit 2 ([]))
    ∷ MessageComes 0 1 (Commit 3 ([])) ∷ [])) ≡ Some (record { number = 2; pages = [] })
unfolding client_call call_fault client_take server_take
last_batch = refl

abbrev one_client : Limits
one_client = record { clients = 1; pages = 8; page_size = 16; slots = 2; keep_write = false }

-- a call, or a message that comes where the pool lets no page go
data Stir : Type 0 where
  Called_by : Call → Stir
  TakesMessage : Body → Stir

abbrev stirred : Client → Stir → List ClientStep
stirred k (Called_by x) = (client_call one_client k x).steps
stirred k (TakesMessage b) = client_take one_client k b None

abbrev bodies : Client → List Stir → List (List Body)
bodies k [] = []
bodies k (x ∷ xs) = bodies_said (stirred k x) ∷ bodies (client_after false k (stirred k x)) xs

abbrev later_client : Client → List Stir → Client
later_client k [] = k
later_client k (x ∷ xs) = later_client (client_after false k (stirred k x)) xs

abbrev stirs : List Stir
stirs = Called_by CallHello
    ∷ TakesMessage Welcome
    ∷ Called_by CallBegin
    ∷ Called_by (CallRead 5)
    ∷ TakesMessage (Granted 5 1 0 (page_of 0))
    ∷ TakesMessage (Callback 5 1)
    ∷ TakesMessage (Callback 5 1)
    ∷ Called_by CallDrop
    ∷ TakesMessage (Callback 5 1)
    ∷ Called_by CallBegin
    ∷ Called_by (CallRead 5)
    ∷ Called_by CallAgain
    ∷ TakesMessage (Granted 5 1 0 (page_of 0))
    ∷ TakesMessage (Granted 5 4 0 (page_of 0))
    ∷ Called_by (CallWant 5)
    ∷ TakesMessage (MayWrite 2 5 4)
    ∷ Called_by (CallWrite 5 (page_of 3))
    ∷ TakesMessage (AbortNow 2)
    ∷ Called_by CallAgain ∷ []

client_in_use_then_aborted : bodies new_client stirs
    ≡ (Hello ∷ [])
    ∷ ([])
    ∷ ([])
    ∷ ((AskRead 1 5) ∷ [])
    ∷ ([])
    ∷ ((InUse 1 5 1) ∷ [])
    ∷ ((InUse 1 5 1) ∷ [])
    ∷ ((Drop 1) ∷ (GiveBack 5 1) ∷ [])
    ∷ ((GiveBack 5 1) ∷ [])
    ∷ ([])
    ∷ ((AskRead 2 5) ∷ [])
    ∷ ((Drop 1) ∷ (AskRead 2 5) ∷ [])
    ∷ ((GiveBack 5 1) ∷ [])
    ∷ ([])
    ∷ ((AskWrite 2 5 4) ∷ [])
    ∷ ([])
    ∷ ([])
    ∷ ((Drop 2) ∷ (GiveBack 5 4) ∷ [])
    ∷ ((Drop 2) ∷ []) ∷ []
unfolding client_call call_fault client_take server_take
client_in_use_then_aborted = refl

ends_idle : client_status (later_client new_client stirs) ≡ StatusIdle
unfolding client_call call_fault client_take server_take
ends_idle = refl

ends_aborted : (later_client new_client stirs).last_outcome ≡ Aborted
unfolding client_call call_fault client_take server_take
ends_aborted = refl
