-- More worked lists of messages at a server alone. What is answered was worked out by hand from the rules as
-- docs/PROTOCOL.md tells them.
use Rattle.std.proofs.Common.{List, None, Option, Some, [], true, if◌then◌else◌, refl, ℕ, ◌∷◌, ◌≡◌}
use Rattle.cb_protocol.specs.AnyMessages.{Input, MessageComes, ReachesDisk, SendsAgain}
use Rattle.cb_protocol.specs.Flush.{Batch, StoredPage, next_batch}
use Rattle.cb_protocol.specs.Messages.{AbortNow, AskRead, AskWrite, Callback, Commit, Done, Downgrade, Downgraded, Drop, GiveBack, Granted, Hello, InUse, MayWrite, Message, Welcome}
use Rattle.cb_protocol.specs.Server.{Server, new_server, server_after}
use Rattle.cb_protocol.specs.ServerMessages.{is_exhausted, server_take}
use Rattle.cb_protocol.specs.WaitsFor.{on_cycle}
use Rattle.cb_protocol.specs.World.{messages_sent, opening_store}
use Rattle.cb_protocol.proofs.WorkedSides.{empty_server, later_server, message, outputs, page_of, write_record}

-- with kept write permission
abbrev kept_server : ℕ → ℕ → Server
kept_server clients pages = new_server clients pages (opening_store (record { clients = clients; pages = pages; page_size = 16; slots = 4; keep_write = true }) (record { bytes = λ p. page_of 0; version = λ p. 0; number = 0 }))

-- with two grant numbers left
abbrev late_server : ℕ → ℕ → Server
late_server clients pages = record (empty_server clients pages) { next_grant = 4611686018427387902 }

-- what is answered, or that the message is refused as exhausted
abbrev refused : Server → Input → Option (List Message)
refused s (MessageComes c i b) = if is_exhausted s c i b then None else Some (messages_sent (server_take on_cycle s c i b))
refused s _ = None

abbrev answers : Server → List Input → List (Option (List Message))
answers s [] = []
answers s (MessageComes c i b ∷ is) = refused s (MessageComes c i b) ∷ answers (if is_exhausted s c i b then s else server_after s (server_take on_cycle s c i b)) is
answers s (_ ∷ is) = []

abbrev stored : ℕ → ℕ → ℕ → StoredPage
stored p v b = record { page = p; version = v; bytes = page_of b }

abbrev batch : ℕ → List StoredPage → Batch
batch n ps = record { number = n; pages = ps }

-- A read ask behind a kept permission: its holder is told of each tag once, also after an AskWrite of a later
-- transaction gave it another; resending leaves out the holder that uses the page; an old tag is ignored.
two_tags_behind_one_ask : outputs (kept_server 2 1) (
    MessageComes 0 1 Hello
    ∷ MessageComes 1 1 Hello
    ∷ MessageComes 0 1 (AskRead 1 0)
    ∷ MessageComes 0 1 (AskWrite 1 0 1)
    ∷ MessageComes 0 1 (Commit 1 (write_record 0 1 (page_of 7) ∷ []))
    ∷ MessageComes 1 1 (AskRead 1 0)
    ∷ MessageComes 1 1 (AskRead 1 0)
    ∷ MessageComes 0 1 (AskWrite 2 0 1)
    ∷ MessageComes 0 1 (Commit 2 (write_record 0 1 (page_of 8) ∷ []))
    ∷ MessageComes 0 1 (Downgraded 0 1 1)
    ∷ SendsAgain
    ∷ MessageComes 0 1 (InUse 3 0 1)
    ∷ SendsAgain
    ∷ MessageComes 0 1 (Downgraded 0 1 2) ∷ [])
    ≡ (message 0 1 Welcome ∷ [])
    ∷ (message 1 1 Welcome ∷ [])
    ∷ (message 0 1 (Granted 0 1 0 (page_of 0)) ∷ [])
    ∷ (message 0 1 (MayWrite 1 0 1) ∷ [])
    ∷ ([])
    ∷ (message 0 1 (Downgrade 0 1 1) ∷ [])
    ∷ ([])
    ∷ (message 0 1 (MayWrite 2 0 1) ∷ [])
    ∷ (message 0 1 (Downgrade 0 1 2) ∷ [])
    ∷ ([])
    ∷ (message 0 1 (Downgrade 0 1 2) ∷ [])
    ∷ ([])
    ∷ ([])
    ∷ (message 1 1 (Granted 0 2 2 (page_of 8)) ∷ []) ∷ []
unfolding server_take
two_tags_behind_one_ask = refl

-- A doomed client is told again at each resending and at each message of its transaction, keeps its permission
-- as it gives its copy back, and is free with a later transaction.
doomed_told_again : outputs (empty_server 2 2) (
    MessageComes 0 1 Hello
    ∷ MessageComes 1 1 Hello
    ∷ MessageComes 0 1 (AskRead 1 0)
    ∷ MessageComes 0 1 (AskWrite 1 0 1)
    ∷ MessageComes 1 1 (AskRead 1 1)
    ∷ MessageComes 1 1 (AskWrite 1 1 2)
    ∷ MessageComes 0 1 (AskRead 1 1)
    ∷ MessageComes 1 1 (AskRead 1 0)
    ∷ SendsAgain
    ∷ MessageComes 1 1 (AskRead 1 0)
    ∷ MessageComes 1 1 (Commit 1 (write_record 1 2 (page_of 7) ∷ []))
    ∷ MessageComes 1 1 (GiveBack 1 2)
    ∷ MessageComes 1 1 (AskRead 2 0)
    ∷ SendsAgain
    ∷ MessageComes 0 1 (Drop 1) ∷ [])
    ≡ (message 0 1 Welcome ∷ [])
    ∷ (message 1 1 Welcome ∷ [])
    ∷ (message 0 1 (Granted 0 1 0 (page_of 0)) ∷ [])
    ∷ (message 0 1 (MayWrite 1 0 1) ∷ [])
    ∷ (message 1 1 (Granted 1 2 0 (page_of 0)) ∷ [])
    ∷ (message 1 1 (MayWrite 1 1 2) ∷ [])
    ∷ ([])
    ∷ (message 1 1 (AbortNow 1) ∷ [])
    ∷ (message 1 1 (AbortNow 1) ∷ [])
    ∷ (message 1 1 (AbortNow 1) ∷ [])
    ∷ (message 1 1 (AbortNow 1) ∷ [])
    ∷ ([])
    ∷ (message 0 1 (Granted 1 3 0 (page_of 0)) ∷ [])
    ∷ ([])
    ∷ (message 1 1 (Granted 0 4 0 (page_of 0)) ∷ []) ∷ []
unfolding server_take
doomed_told_again = refl

-- A write ask calls back the readers' copies, and again those that are not in use; it gets permission with the
-- last of them gone, and who asked behind it a copy of what it wrote.
write_behind_readers : outputs (empty_server 3 1) (
    MessageComes 0 1 Hello
    ∷ MessageComes 1 1 Hello
    ∷ MessageComes 2 1 Hello
    ∷ MessageComes 0 1 (AskRead 1 0)
    ∷ MessageComes 1 1 (AskRead 1 0)
    ∷ MessageComes 2 1 (AskRead 1 0)
    ∷ MessageComes 2 1 (AskWrite 1 0 3)
    ∷ MessageComes 0 1 (InUse 1 0 1)
    ∷ SendsAgain
    ∷ MessageComes 1 1 (GiveBack 0 2)
    ∷ MessageComes 1 1 (AskRead 1 0)
    ∷ SendsAgain
    ∷ MessageComes 0 1 (Drop 1)
    ∷ SendsAgain
    ∷ MessageComes 0 1 (GiveBack 0 1)
    ∷ MessageComes 2 1 (Commit 1 (write_record 0 3 (page_of 5) ∷ [])) ∷ [])
    ≡ (message 0 1 Welcome ∷ [])
    ∷ (message 1 1 Welcome ∷ [])
    ∷ (message 2 1 Welcome ∷ [])
    ∷ (message 0 1 (Granted 0 1 0 (page_of 0)) ∷ [])
    ∷ (message 1 1 (Granted 0 2 0 (page_of 0)) ∷ [])
    ∷ (message 2 1 (Granted 0 3 0 (page_of 0)) ∷ [])
    ∷ (message 0 1 (Callback 0 1) ∷ message 1 1 (Callback 0 2) ∷ [])
    ∷ ([])
    ∷ (message 1 1 (Callback 0 2) ∷ [])
    ∷ ([])
    ∷ ([])
    ∷ ([])
    ∷ ([])
    ∷ (message 0 1 (Callback 0 1) ∷ [])
    ∷ (message 2 1 (MayWrite 1 0 3) ∷ [])
    ∷ (message 1 1 (Granted 0 4 1 (page_of 5)) ∷ []) ∷ []
unfolding server_take
write_behind_readers = refl

-- In a queue a write ask stands behind a read ask: the read ask is met first, and its new copy is called back in
-- the same step. Who then uses that copy and asks to write is doomed as it enters.
write_ask_behind_read_ask : outputs (empty_server 3 1) (
    MessageComes 0 1 Hello
    ∷ MessageComes 1 1 Hello
    ∷ MessageComes 2 1 Hello
    ∷ MessageComes 0 1 (AskRead 1 0)
    ∷ MessageComes 2 1 (AskRead 1 0)
    ∷ MessageComes 2 1 (AskWrite 1 0 2)
    ∷ MessageComes 1 1 (AskRead 1 0)
    ∷ MessageComes 0 1 (AskWrite 1 0 1)
    ∷ MessageComes 2 1 (Drop 1)
    ∷ MessageComes 1 1 (InUse 1 0 3)
    ∷ MessageComes 2 1 (GiveBack 0 2)
    ∷ MessageComes 1 1 (AskWrite 1 0 3)
    ∷ MessageComes 1 1 (Drop 1)
    ∷ MessageComes 1 1 (GiveBack 0 3) ∷ [])
    ≡ (message 0 1 Welcome ∷ [])
    ∷ (message 1 1 Welcome ∷ [])
    ∷ (message 2 1 Welcome ∷ [])
    ∷ (message 0 1 (Granted 0 1 0 (page_of 0)) ∷ [])
    ∷ (message 2 1 (Granted 0 2 0 (page_of 0)) ∷ [])
    ∷ (message 0 1 (Callback 0 1) ∷ [])
    ∷ ([])
    ∷ ([])
    ∷ (message 1 1 (Granted 0 3 0 (page_of 0)) ∷ message 1 1 (Callback 0 3) ∷ message 2 1 (Callback 0 2) ∷ [])
    ∷ ([])
    ∷ ([])
    ∷ (message 1 1 (AbortNow 1) ∷ [])
    ∷ ([])
    ∷ (message 0 1 (MayWrite 1 0 1) ∷ []) ∷ []
unfolding server_take
write_ask_behind_read_ask = refl

abbrev before_refused_at_the_second_page : Server
before_refused_at_the_second_page = (empty_server 1 3)

abbrev inputs_refused_at_the_second_page : List Input
inputs_refused_at_the_second_page =
    MessageComes 0 1 Hello
    ∷ MessageComes 0 1 (AskRead 1 0)
    ∷ MessageComes 0 1 (AskWrite 1 0 1)
    ∷ MessageComes 0 1 (AskRead 1 1)
    ∷ MessageComes 0 1 (AskRead 1 2)
    ∷ MessageComes 0 1 (AskWrite 1 2 3)
    ∷ MessageComes 0 1 (Commit 1 (write_record 0 1 (page_of 4) ∷ write_record 1 2 (page_of 5) ∷ write_record 2 3 (page_of 6) ∷ [])) ∷ []

-- A commit of three pages, the second without permission: nothing is applied.
refused_at_the_second_page : outputs before_refused_at_the_second_page inputs_refused_at_the_second_page
    ≡ (message 0 1 Welcome ∷ [])
    ∷ (message 0 1 (Granted 0 1 0 (page_of 0)) ∷ [])
    ∷ (message 0 1 (MayWrite 1 0 1) ∷ [])
    ∷ (message 0 1 (Granted 1 2 0 (page_of 0)) ∷ [])
    ∷ (message 0 1 (Granted 2 3 0 (page_of 0)) ∷ [])
    ∷ (message 0 1 (MayWrite 1 2 3) ∷ [])
    ∷ ([]) ∷ []
unfolding server_take
refused_at_the_second_page = refl

refused_at_the_second_page_batch : next_batch (later_server before_refused_at_the_second_page inputs_refused_at_the_second_page) ≡ None
unfolding server_take
refused_at_the_second_page_batch = refl

abbrev before_refused_at_the_third_page : Server
before_refused_at_the_third_page = later_server before_refused_at_the_second_page inputs_refused_at_the_second_page

abbrev inputs_refused_at_the_third_page : List Input
inputs_refused_at_the_third_page =
    MessageComes 0 1 (AskWrite 1 1 2)
    ∷ MessageComes 0 1 (Commit 1 (write_record 0 1 (page_of 4) ∷ write_record 1 2 (page_of 5) ∷ write_record 2 9 (page_of 6) ∷ [])) ∷ []

-- The third by another grant: nothing is applied.
refused_at_the_third_page : outputs before_refused_at_the_third_page inputs_refused_at_the_third_page
    ≡ (message 0 1 (MayWrite 1 1 2) ∷ [])
    ∷ ([]) ∷ []
unfolding server_take
refused_at_the_third_page = refl

refused_at_the_third_page_batch : next_batch (later_server before_refused_at_the_third_page inputs_refused_at_the_third_page) ≡ None
unfolding server_take
refused_at_the_third_page_batch = refl

abbrev before_applied_whole : Server
before_applied_whole = later_server before_refused_at_the_third_page inputs_refused_at_the_third_page

abbrev inputs_applied_whole : List Input
inputs_applied_whole =
    MessageComes 0 1 (Commit 1 (write_record 0 1 (page_of 4) ∷ write_record 1 2 (page_of 5) ∷ write_record 2 3 (page_of 6) ∷ [])) ∷ []

-- All three allowed: one commit.
applied_whole : outputs before_applied_whole inputs_applied_whole
    ≡ ([]) ∷ []
unfolding server_take
applied_whole = refl

applied_whole_batch : next_batch (later_server before_applied_whole inputs_applied_whole) ≡ Some (batch 1 (stored 0 1 4 ∷ stored 1 1 5 ∷ stored 2 1 6 ∷ []))
unfolding server_take
applied_whole_batch = refl

abbrev before_batch_of_several_commits : Server
before_batch_of_several_commits = later_server before_applied_whole inputs_applied_whole

abbrev inputs_batch_of_several_commits : List Input
inputs_batch_of_several_commits =
    ReachesDisk 1
    ∷ MessageComes 0 1 (AskWrite 2 1 2)
    ∷ MessageComes 0 1 (Commit 2 (write_record 1 2 (page_of 21) ∷ []))
    ∷ MessageComes 0 1 (Commit 3 ([]))
    ∷ MessageComes 0 1 (AskWrite 4 0 1)
    ∷ MessageComes 0 1 (Commit 4 (write_record 0 1 (page_of 22) ∷ [])) ∷ []

-- Three commits since the flush, one without pages: the batch has the pages that they wrote, as they are now.
batch_of_several_commits : outputs before_batch_of_several_commits inputs_batch_of_several_commits
    ≡ (message 0 1 (Done 1 1) ∷ [])
    ∷ (message 0 1 (MayWrite 2 1 2) ∷ [])
    ∷ ([])
    ∷ ([])
    ∷ (message 0 1 (MayWrite 4 0 1) ∷ [])
    ∷ ([]) ∷ []
unfolding server_take
batch_of_several_commits = refl

batch_of_several_commits_batch : next_batch (later_server before_batch_of_several_commits inputs_batch_of_several_commits) ≡ Some (batch 4 (stored 0 4 22 ∷ stored 1 2 21 ∷ []))
unfolding server_take
batch_of_several_commits_batch = refl

abbrev before_batch_after_a_part : Server
before_batch_after_a_part = later_server before_batch_of_several_commits inputs_batch_of_several_commits

abbrev inputs_batch_after_a_part : List Input
inputs_batch_after_a_part =
    ReachesDisk 3 ∷ []

-- Two of them on disk: each is told, in order; the rest is still to be written.
batch_after_a_part : outputs before_batch_after_a_part inputs_batch_after_a_part
    ≡ (message 0 1 (Done 2 2) ∷ message 0 1 (Done 3 3) ∷ []) ∷ []
unfolding server_take
batch_after_a_part = refl

batch_after_a_part_batch : next_batch (later_server before_batch_after_a_part inputs_batch_after_a_part) ≡ Some (batch 4 (stored 0 4 22 ∷ []))
unfolding server_take
batch_after_a_part_batch = refl

abbrev before_batch_after_all : Server
before_batch_after_all = later_server before_batch_after_a_part inputs_batch_after_a_part

abbrev inputs_batch_after_all : List Input
inputs_batch_after_all =
    ReachesDisk 4 ∷ []

-- All on disk: nothing is left.
batch_after_all : outputs before_batch_after_all inputs_batch_after_all
    ≡ (message 0 1 (Done 4 4) ∷ []) ∷ []
unfolding server_take
batch_after_all = refl

batch_after_all_batch : next_batch (later_server before_batch_after_all inputs_batch_after_all) ≡ None
unfolding server_take
batch_after_all_batch = refl

-- The last two grant numbers. One that waits keeps a number, so another ask is refused as exhausted; with a later
-- transaction its client's ask is gone before its new ask is judged. A refused message changes nothing, so
-- the transaction that it names has not begun.
exhausted_after_the_earlier_ends : answers (late_server 2 2) (
    MessageComes 0 1 Hello
    ∷ MessageComes 1 1 Hello
    ∷ MessageComes 0 1 (AskRead 1 0)
    ∷ MessageComes 0 1 (AskWrite 1 0 4611686018427387902)
    ∷ MessageComes 1 1 (AskRead 1 0)
    ∷ MessageComes 0 1 (AskRead 1 1)
    ∷ MessageComes 1 1 (AskRead 2 1)
    ∷ MessageComes 0 1 (AskRead 1 1)
    ∷ MessageComes 1 1 (AskRead 2 1)
    ∷ MessageComes 0 1 (AskRead 2 1)
    ∷ MessageComes 0 1 (Drop 1) ∷ [])
    ≡ Some (message 0 1 Welcome ∷ [])
    ∷ Some (message 1 1 Welcome ∷ [])
    ∷ Some (message 0 1 (Granted 0 4611686018427387902 0 (page_of 0)) ∷ [])
    ∷ Some (message 0 1 (MayWrite 1 0 4611686018427387902) ∷ [])
    ∷ Some ([])
    ∷ None
    ∷ Some (message 1 1 (Granted 1 4611686018427387903 0 (page_of 0)) ∷ [])
    ∷ None
    ∷ Some (message 1 1 (Granted 1 4611686018427387903 0 (page_of 0)) ∷ [])
    ∷ None
    ∷ Some ([]) ∷ []
unfolding server_take
exhausted_after_the_earlier_ends = refl
