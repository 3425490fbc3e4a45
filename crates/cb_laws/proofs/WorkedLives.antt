-- Worked schedules over several lives of the server. What is answered was worked out by hand from the rules as docs/PROTOCOL.md tells them.
use Rattle.std.proofs.Common.{Bool, List, [], ap, arith, false, length, map, refl, true, ℕ, ◌++◌, ◌+◌, ◌∷◌, ◌≡◌}
use Rattle.cb_protocol.proofs.LivesProof.{lives_headline}
use Rattle.cb_laws.proofs.LivesText.{LivesGive, LivesLine, LivesOutput, Restarts, commit, event_of}
use Rattle.cb_laws.proofs.LivesText.{lines_lead, lives_of, lives_output, within}
use Rattle.cb_protocol.proofs.ScheduleText.{Line, at, begin, drop_txn, finish, flush_all, flush_to, hello, limits, page_of, peek, read, resend, restart, sent, server_resends, take, want, write, zeros}
use Rattle.cb_protocol.specs.Answers.{AnsweredBytes, AnsweredOk, Asked, Flushed, NoPacket, NotWelcome, Nothing, Permitted, Refused, Taken, TransactionOpen, Waiting}
use Rattle.cb_protocol.specs.Basics.{Bytes}
use Rattle.cb_protocol.specs.Client.{Committed, LastOutcome}
use Rattle.cb_protocol.specs.ClientCalls.{call_fault, client_call}
use Rattle.cb_protocol.specs.ClientMessages.{client_take}
use Rattle.cb_protocol.specs.Lives.{LivesPromise, lives_history}
use Rattle.cb_protocol.specs.LivesWorld.{LeadsTo, first_life}
use Rattle.cb_protocol.specs.Serial.{Put, Saw}
use Rattle.cb_protocol.specs.ServerMessages.{server_take}
use Rattle.cb_protocol.specs.WaitsFor.{on_cycle}
use Rattle.cb_laws.specs.Outcomes.{last_ended}
use Rattle.cb_protocol.specs.World.{step}

-- page 5 in the server's store after these lines
abbrev page_5 : List LivesLine → Bytes
page_5 ls = (lives_of (limits 2 8 4 false) ls).world.server.store.bytes 5

-- client 0 reads and writes page 5 and finishes; its Commit is packet 6
abbrev finished : List Line
finished = at (hello 0) AnsweredOk (sent 0 1 0 ∷ [])
    ∷ at (take 0) Taken (sent 1 65 0 ∷ [])
    ∷ at (take 1) Taken []
    ∷ at (begin 0) AnsweredOk []
    ∷ at (read 0 5) Asked (sent 2 2 0 ∷ [])
    ∷ at (take 2) Taken (sent 3 66 0 ∷ [])
    ∷ at (take 3) Taken []
    ∷ at (read 0 5) (AnsweredBytes (page_of 0)) []
    ∷ at (want 0 5) Asked (sent 4 3 0 ∷ [])
    ∷ at (take 4) Taken (sent 5 67 0 ∷ [])
    ∷ at (take 5) Taken []
    ∷ at (write 0 5 7) AnsweredOk []
    ∷ at (finish 0) AnsweredOk (sent 6 6 0 ∷ []) ∷ []

-- a Commit that is on its way as the server restarts is nothing to the new life
abbrev on_its_way_lines : List LivesLine
on_its_way_lines = within finished ++ Restarts 2 0 ∷ within (at (take 6) Taken []
    ∷ at flush_all Nothing []
    ∷ at (peek 0 5) (AnsweredBytes (page_of 7)) [] ∷ [])

commit_on_its_way : LivesGive (limits 2 8 4 false) on_its_way_lines [] × (page_5 on_its_way_lines ≡ page_of 0)
unfolding client_call call_fault client_take server_take step
commit_on_its_way = (refl, refl)

-- one that was applied and isn't on disk is lost; its Commit, which comes once more, is nothing
abbrev lost_lines : List LivesLine
lost_lines = within (finished ++ at (take 6) Taken [] ∷ []) ++ Restarts 2 0 ∷ within (at flush_all Nothing [] ∷ at (take 6) Taken [] ∷ at flush_all Nothing [] ∷ [])

commit_before_its_flush : LivesGive (limits 2 8 4 false) lost_lines [] × (page_5 lost_lines ≡ page_of 0)
unfolding client_call call_fault client_take server_take step
commit_before_its_flush = (refl, refl)

-- one that is on disk survives; its Done is packet 7
abbrev on_disk_lines : List LivesLine
on_disk_lines = within (finished ++ at (take 6) Taken [] ∷ at flush_all (Flushed 1) (sent 7 69 0 ∷ []) ∷ []) ++ Restarts 2 1 ∷ []

commit_after_its_flush : LivesGive (limits 2 8 4 false) on_disk_lines (commit 0 1 1 1 ∷ []) × (page_5 on_disk_lines ≡ page_of 7)
    × (lives_history (lives_of (limits 2 8 4 false) on_disk_lines) ≡ (Saw 5 (page_of 0) ∷ Put 5 (page_of 7) ∷ []) ∷ [])
unfolding client_call call_fault client_take server_take step
commit_after_its_flush = (refl, refl, refl)

-- the Done of the former life comes late, and says the truth
abbrev late_done_lines : List LivesLine
late_done_lines = on_disk_lines ++ within (at (take 7) Taken [] ∷ at (peek 0 5) (AnsweredBytes (page_of 7)) [] ∷ at (begin 0) AnsweredOk [] ∷ [])

late_done : LivesGive (limits 2 8 4 false) late_done_lines (commit 0 1 1 1 ∷ [])
unfolding client_call call_fault client_take server_take step
late_done = refl

-- A client of the former life still reads its old copy; what it asks, drops, commits and says again is nothing to the new life.
abbrev old_client_lines : List LivesLine
old_client_lines = late_done_lines ++ within (at (read 0 5) (AnsweredBytes (page_of 7)) []
    ∷ at (read 0 2) Asked (sent 8 2 0 ∷ [])
    ∷ at (take 8) Taken []
    ∷ at (finish 0) (Refused Waiting) []
    ∷ at (drop_txn 0) AnsweredOk (sent 9 7 0 ∷ [])
    ∷ at (take 9) Taken []
    ∷ at (begin 0) AnsweredOk []
    ∷ at (read 0 5) (AnsweredBytes (page_of 7)) []
    ∷ at (finish 0) AnsweredOk (sent 10 6 0 ∷ [])
    ∷ at (take 10) Taken []
    ∷ at flush_all Nothing []
    ∷ at (resend 0) AnsweredOk (sent 11 7 0 ∷ sent 12 6 0 ∷ [])
    ∷ at (take 11) Taken []
    ∷ at (take 12) Taken []
    ∷ at flush_all Nothing [] ∷ [])

old_client_commits_nothing : LivesGive (limits 2 8 4 false) old_client_lines (commit 0 1 1 1 ∷ []) × (page_5 old_client_lines ≡ page_of 7)
unfolding client_call call_fault client_take server_take step
old_client_commits_nothing = (refl, refl)

-- a Hello of the former life isn't welcomed, however often it comes; one of the new life is
late_hello : LivesGive (limits 2 8 4 false) (within (at (hello 1) AnsweredOk (sent 0 1 1 ∷ []) ∷ []) ++ Restarts 2 0 ∷ within (at (take 0) Taken []
    ∷ at (resend 1) AnsweredOk (sent 1 1 1 ∷ [])
    ∷ at (take 1) Taken []
    ∷ at (begin 1) (Refused NotWelcome) []
    ∷ at (restart 1) AnsweredOk []
    ∷ at (hello 1) AnsweredOk (sent 2 1 1 ∷ [])
    ∷ at (take 2) Taken (sent 3 65 1 ∷ [])
    ∷ at (take 0) Taken []
    ∷ at (take 3) Taken []
    ∷ at (begin 1) AnsweredOk [] ∷ [])) []
unfolding client_call call_fault client_take server_take step
late_hello = refl

-- A Welcome of the former life that comes again: its own incarnation begins a transaction that gets nothing, a new one ignores it.
welcome_repeated : LivesGive (limits 2 8 4 false) (within (at (hello 0) AnsweredOk (sent 0 1 0 ∷ [])
    ∷ at (take 0) Taken (sent 1 65 0 ∷ [])
    ∷ at (take 1) Taken [] ∷ []) ++ Restarts 2 0 ∷ within (at (take 1) Taken []
    ∷ at (begin 0) AnsweredOk []
    ∷ at (read 0 3) Asked (sent 2 2 0 ∷ [])
    ∷ at (take 2) Taken []
    ∷ at (restart 0) AnsweredOk []
    ∷ at (take 1) Taken []
    ∷ at (begin 0) (Refused NotWelcome) [] ∷ [])) []
unfolding client_call call_fault client_take server_take step
welcome_repeated = refl

-- Two restarts in a row: a client that comes to the first of the new lives is nothing to the second; one that comes to that reads what was on disk, and commits after it.
abbrev two_restarts_lines : List LivesLine
two_restarts_lines = on_disk_lines ++ Restarts 3 1 ∷ within (at (restart 1) AnsweredOk []
    ∷ at (hello 1) AnsweredOk (sent 8 1 1 ∷ [])
    ∷ at (take 8) Taken []
    ∷ at (restart 1) AnsweredOk []
    ∷ at (hello 1) AnsweredOk (sent 9 1 1 ∷ [])
    ∷ at (take 9) Taken (sent 10 65 1 ∷ [])
    ∷ at (take 10) Taken []
    ∷ at (begin 1) AnsweredOk []
    ∷ at (read 1 5) Asked (sent 11 2 1 ∷ [])
    ∷ at (take 11) Taken (sent 12 66 1 ∷ [])
    ∷ at (take 12) Taken []
    ∷ at (read 1 5) (AnsweredBytes (page_of 7)) []
    ∷ at (finish 1) AnsweredOk (sent 13 6 1 ∷ [])
    ∷ at (take 13) Taken []
    ∷ at flush_all (Flushed 2) (sent 14 69 1 ∷ []) ∷ [])

two_restarts : LivesGive (limits 2 8 4 false) two_restarts_lines (commit 1 3 1 2 ∷ commit 0 1 1 1 ∷ [])
    × (lives_history (lives_of (limits 2 8 4 false) two_restarts_lines) ≡ (Saw 5 (page_of 0) ∷ Put 5 (page_of 7) ∷ []) ∷ (Saw 5 (page_of 7) ∷ []) ∷ [])
unfolding client_call call_fault client_take server_take step
two_restarts = (refl, refl)

-- client 1 reads what client 0 committed, and commits too; nothing is on disk
abbrev read_from_it : List Line
read_from_it = at (hello 1) AnsweredOk (sent 0 1 1 ∷ [])
    ∷ at (take 0) Taken (sent 1 65 1 ∷ [])
    ∷ at (take 1) Taken []
    ∷ at (hello 0) AnsweredOk (sent 2 1 0 ∷ [])
    ∷ at (take 2) Taken (sent 3 65 0 ∷ [])
    ∷ at (take 3) Taken []
    ∷ at (begin 0) AnsweredOk []
    ∷ at (read 0 5) Asked (sent 4 2 0 ∷ [])
    ∷ at (take 4) Taken (sent 5 66 0 ∷ [])
    ∷ at (take 5) Taken []
    ∷ at (want 0 5) Asked (sent 6 3 0 ∷ [])
    ∷ at (take 6) Taken (sent 7 67 0 ∷ [])
    ∷ at (take 7) Taken []
    ∷ at (write 0 5 7) AnsweredOk []
    ∷ at (finish 0) AnsweredOk (sent 8 6 0 ∷ [])
    ∷ at (take 8) Taken []
    ∷ at (begin 1) AnsweredOk []
    ∷ at (read 1 5) Asked (sent 9 2 1 ∷ [])
    ∷ at (take 9) Taken (sent 10 66 1 ∷ [])
    ∷ at (take 10) Taken []
    ∷ at (read 1 5) (AnsweredBytes (page_of 7)) []
    ∷ at (finish 1) AnsweredOk (sent 11 6 1 ∷ [])
    ∷ at (take 11) Taken [] ∷ []

-- who read from a commit that was lost is lost with it
read_from_a_lost_commit : LivesGive (limits 2 8 4 false) (within read_from_it ++ Restarts 2 0 ∷ within (at (take 11) Taken [] ∷ at flush_all Nothing [] ∷ [])) []
unfolding client_call call_fault client_take server_take step
read_from_a_lost_commit = refl

-- up to which commit the disk has them, they survive: the first alone, or both
abbrev first_on_disk : List LivesLine
first_on_disk = within (read_from_it ++ at (flush_to 1) (Flushed 1) (sent 12 69 0 ∷ []) ∷ []) ++ Restarts 2 1 ∷ []

first_alone_survives : LivesGive (limits 2 8 4 false) first_on_disk (commit 0 1 1 1 ∷ []) × (page_5 first_on_disk ≡ page_of 7)
unfolding client_call call_fault client_take server_take step
first_alone_survives = (refl, refl)

both_survive : LivesGive (limits 2 8 4 false) (within (read_from_it ++ at (flush_to 2) (Flushed 2) (sent 12 69 0 ∷ sent 13 69 1 ∷ []) ∷ []) ++ Restarts 2 2 ∷ []) (commit 1 1 1 2 ∷ commit 0 1 1 1 ∷ [])
unfolding client_call call_fault client_take server_take step
both_survive = refl

-- A commit that the disk has, and of which the server wasn't told before it restarted: it counts, and no Done was sent. Its Commit, which comes again, is nothing; who comes to the new life reads it, and commits behind it.
abbrev unreported_lines : List LivesLine
unreported_lines = within (finished ++ at (take 6) Taken [] ∷ []) ++ Restarts 2 1 ∷ within (at (take 7) NoPacket []
    ∷ at (resend 0) AnsweredOk (sent 7 6 0 ∷ [])
    ∷ at (take 7) Taken []
    ∷ at flush_all Nothing []
    ∷ at (restart 1) AnsweredOk []
    ∷ at (hello 1) AnsweredOk (sent 8 1 1 ∷ [])
    ∷ at (take 8) Taken (sent 9 65 1 ∷ [])
    ∷ at (take 9) Taken []
    ∷ at (begin 1) AnsweredOk []
    ∷ at (read 1 5) Asked (sent 10 2 1 ∷ [])
    ∷ at (take 10) Taken (sent 11 66 1 ∷ [])
    ∷ at (take 11) Taken []
    ∷ at (read 1 5) (AnsweredBytes (page_of 7)) []
    ∷ at (finish 1) AnsweredOk (sent 12 6 1 ∷ [])
    ∷ at (take 12) Taken []
    ∷ at flush_all (Flushed 2) (sent 13 69 1 ∷ []) ∷ [])

written_and_not_reported : LivesGive (limits 2 8 4 false) unreported_lines (commit 1 2 1 2 ∷ commit 0 1 1 1 ∷ [])
    × (lives_history (lives_of (limits 2 8 4 false) unreported_lines) ≡ (Saw 5 (page_of 0) ∷ Put 5 (page_of 7) ∷ []) ∷ (Saw 5 (page_of 7) ∷ []) ∷ [])
unfolding client_call call_fault client_take server_take step
written_and_not_reported = (refl, refl)

-- of two commits of which none was reported, the disk may have the first alone, or both
part_of_a_batch : LivesGive (limits 2 8 4 false) (within read_from_it ++ Restarts 2 1 ∷ []) (commit 0 1 1 1 ∷ [])
    × LivesGive (limits 2 8 4 false) (within read_from_it ++ Restarts 2 2 ∷ []) (commit 1 1 1 2 ∷ commit 0 1 1 1 ∷ [])
unfolding client_call call_fault client_take server_take step
part_of_a_batch = (refl, refl)

-- the disk can't have a commit that wasn't made, nor lack one that it reported
abbrev may_happen : List LivesLine → Bool
may_happen ls = (lives_output (limits 2 8 4 false) (first_life (limits 2 8 4 false) zeros) ls).allowed

numbers_that_cannot_be : (may_happen (within read_from_it ++ Restarts 2 3 ∷ []) ≡ false) × (may_happen (within (read_from_it ++ at (flush_to 1) (Flushed 1) (sent 12 69 0 ∷ []) ∷ []) ++ Restarts 2 0 ∷ []) ≡ false)
unfolding client_call call_fault client_take server_take step
numbers_that_cannot_be = (refl, refl)

-- client 0 reads page 5 and client 1 too, which then asks to write it: client 0 is called back
abbrev called_back : ℕ → List Line
called_back n = at (hello 0) AnsweredOk (sent n 1 0 ∷ [])
    ∷ at (take n) Taken (sent (n + 1) 65 0 ∷ [])
    ∷ at (take (n + 1)) Taken []
    ∷ at (hello 1) AnsweredOk (sent (n + 2) 1 1 ∷ [])
    ∷ at (take (n + 2)) Taken (sent (n + 3) 65 1 ∷ [])
    ∷ at (take (n + 3)) Taken []
    ∷ at (begin 0) AnsweredOk []
    ∷ at (read 0 5) Asked (sent (n + 4) 2 0 ∷ [])
    ∷ at (take (n + 4)) Taken (sent (n + 5) 66 0 ∷ [])
    ∷ at (take (n + 5)) Taken []
    ∷ at (begin 1) AnsweredOk []
    ∷ at (read 1 5) Asked (sent (n + 6) 2 1 ∷ [])
    ∷ at (take (n + 6)) Taken (sent (n + 7) 66 1 ∷ [])
    ∷ at (take (n + 7)) Taken []
    ∷ at (want 1 5) Asked (sent (n + 8) 3 1 ∷ [])
    ∷ at (take (n + 8)) Taken (sent (n + 9) 68 0 ∷ []) ∷ []

-- client 0 says that it uses the page, which is marked, while client 1 waits
abbrev marked : List Line
marked = called_back 0 ++ at (take 9) Taken (sent 10 5 0 ∷ []) ∷ at (take 10) Taken [] ∷ at server_resends AnsweredOk [] ∷ []

-- the mark of client 0 on page 5, and how many asks wait there
abbrev seen_at_5 : List LivesLine → Bool × ℕ
seen_at_5 ls = let s = (lives_of (limits 2 8 4 false) ls).world.server in (s.in_use 0 5, length (s.queue 5))

-- No mark or ask of the former life is there in the new one: all goes as at first, and client 0 is called back again while it hasn't answered.
nothing_waits : (seen_at_5 (within marked) ≡ (true, 1)) × (seen_at_5 (within marked ++ Restarts 2 0 ∷ []) ≡ (false, 0))
unfolding client_call call_fault client_take server_take step
nothing_waits = (refl, refl)

all_anew : LivesGive (limits 2 8 4 false) (within marked ++ Restarts 2 0 ∷ within (at (restart 0) AnsweredOk [] ∷ at (restart 1) AnsweredOk [] ∷ called_back 11 ++ at server_resends AnsweredOk (sent 21 68 0 ∷ []) ∷ [])) []
unfolding client_call call_fault client_take server_take step
all_anew = refl

-- Nor is a row: who is alone in the new life may write at once, and nobody is called back.
no_row_survives : LivesGive (limits 2 8 4 false) (within marked ++ Restarts 2 0 ∷ within (at (restart 1) AnsweredOk []
    ∷ at (hello 1) AnsweredOk (sent 11 1 1 ∷ [])
    ∷ at (take 11) Taken (sent 12 65 1 ∷ [])
    ∷ at (take 12) Taken []
    ∷ at (begin 1) AnsweredOk []
    ∷ at (read 1 5) Asked (sent 13 2 1 ∷ [])
    ∷ at (take 13) Taken (sent 14 66 1 ∷ [])
    ∷ at (take 14) Taken []
    ∷ at (want 1 5) Asked (sent 15 3 1 ∷ [])
    ∷ at (take 15) Taken (sent 16 67 1 ∷ [])
    ∷ at server_resends AnsweredOk [] ∷ [])) []
unfolding client_call call_fault client_take server_take step
no_row_survives = refl

-- With kept write permission: client 0 of the former life may still write page 5, and commits nothing; client 1 of the new life reads what was on disk, at once, and commits.
kept_permission_ends : LivesGive (limits 2 8 4 true) (within (finished ++ at (take 6) Taken [] ∷ at flush_all (Flushed 1) (sent 7 69 0 ∷ []) ∷ at (take 7) Taken [] ∷ []) ++ Restarts 2 1 ∷ within (at (restart 1) AnsweredOk []
    ∷ at (hello 1) AnsweredOk (sent 8 1 1 ∷ [])
    ∷ at (take 8) Taken (sent 9 65 1 ∷ [])
    ∷ at (take 9) Taken []
    ∷ at (begin 1) AnsweredOk []
    ∷ at (read 1 5) Asked (sent 10 2 1 ∷ [])
    ∷ at (take 10) Taken (sent 11 66 1 ∷ [])
    ∷ at (take 11) Taken []
    ∷ at (read 1 5) (AnsweredBytes (page_of 7)) []
    ∷ at (begin 0) AnsweredOk []
    ∷ at (read 0 5) (AnsweredBytes (page_of 7)) []
    ∷ at (want 0 5) Permitted []
    ∷ at (write 0 5 8) AnsweredOk []
    ∷ at (finish 0) AnsweredOk (sent 12 6 0 ∷ [])
    ∷ at (take 12) Taken []
    ∷ at (read 1 5) (AnsweredBytes (page_of 7)) []
    ∷ at (finish 1) AnsweredOk (sent 13 6 1 ∷ [])
    ∷ at (take 13) Taken []
    ∷ at flush_all (Flushed 2) (sent 14 69 1 ∷ []) ∷ [])) (commit 1 2 1 2 ∷ commit 0 1 1 1 ∷ [])
unfolding client_call call_fault client_take server_take step
kept_permission_ends = refl

-- What a client was told last: how the transaction ended, and which one it was.
abbrev told : List LivesLine → ℕ → LastOutcome × ℕ
told ls c = let k = (lives_of (limits 2 8 4 false) ls).world.client c in (k.last_outcome, last_ended k)

-- who took the Done of the former life late was told of its first transaction, also when the next has begun
told_late : told late_done_lines 0 ≡ (Committed 1, 1)
unfolding client_call call_fault client_take server_take step
told_late = refl

-- A transaction that wrote nothing has a number as every other, and its client is told that one.
abbrev read_alone_lines : List LivesLine
read_alone_lines = two_restarts_lines ++ within (at (take 14) Taken [] ∷ [])

told_of_a_read : (told read_alone_lines 1 ≡ (Committed 2, 1)) × LivesGive (limits 2 8 4 false) read_alone_lines (commit 1 3 1 2 ∷ commit 0 1 1 1 ∷ [])
unfolding client_call call_fault client_take server_take step
told_of_a_read = (refl, refl)

-- A Done of the first transaction comes again while the second is committing, and once more in the next life: it is nothing to the second, which only read, and which waits for a Done of its own.
abbrev done_again_lines : List LivesLine
done_again_lines = within (finished ++ at (take 6) Taken [] ∷ at flush_all (Flushed 1) (sent 7 69 0 ∷ []) ∷ at (take 7) Taken []
    ∷ at (begin 0) AnsweredOk []
    ∷ at (read 0 5) (AnsweredBytes (page_of 7)) []
    ∷ at (finish 0) AnsweredOk (sent 8 6 0 ∷ [])
    ∷ at (take 7) Taken []
    ∷ at (begin 0) (Refused TransactionOpen) [] ∷ []) ++ Restarts 2 1 ∷ within (at (take 7) Taken []
    ∷ at (begin 0) (Refused TransactionOpen) []
    ∷ at (take 8) Taken []
    ∷ at flush_all Nothing [] ∷ [])

done_of_another : LivesGive (limits 2 8 4 false) done_again_lines (commit 0 1 1 1 ∷ []) × (told done_again_lines 0 ≡ (Committed 1, 1))
unfolding client_call call_fault client_take server_take step
done_of_another = (refl, refl)

-- The first client that comes to the floor itself is welcomed, and again as often as its Hello comes; no other message brings a Welcome.
hello_at_the_floor : LivesGive (limits 2 8 4 false) (Restarts 2 0 ∷ within (at (restart 1) AnsweredOk []
    ∷ at (hello 1) AnsweredOk (sent 0 1 1 ∷ [])
    ∷ at (take 0) Taken (sent 1 65 1 ∷ [])
    ∷ at (take 0) Taken (sent 2 65 1 ∷ [])
    ∷ at (take 2) Taken []
    ∷ at (begin 1) AnsweredOk []
    ∷ at (take 0) Taken (sent 3 65 1 ∷ [])
    ∷ at (drop_txn 1) AnsweredOk (sent 4 7 1 ∷ [])
    ∷ at (take 4) Taken []
    ∷ at server_resends AnsweredOk [] ∷ [])) []
unfolding client_call call_fault client_take server_take step
hello_at_the_floor = refl

-- A client that is above the new floor as the server restarts, and was never welcomed there: the Hello that it sent to the former life is welcomed by the new one. It reads what was on disk, and commits.
abbrev ahead_lines : List LivesLine
ahead_lines = within (finished ++ at (take 6) Taken [] ∷ at flush_all (Flushed 1) (sent 7 69 0 ∷ []) ∷ at (restart 1) AnsweredOk [] ∷ at (restart 1) AnsweredOk [] ∷ at (hello 1) AnsweredOk (sent 8 1 1 ∷ []) ∷ []) ++ Restarts 2 1 ∷ within (at (take 8) Taken (sent 9 65 1 ∷ [])
    ∷ at (take 9) Taken []
    ∷ at (begin 1) AnsweredOk []
    ∷ at (read 1 5) Asked (sent 10 2 1 ∷ [])
    ∷ at (take 10) Taken (sent 11 66 1 ∷ [])
    ∷ at (take 11) Taken []
    ∷ at (read 1 5) (AnsweredBytes (page_of 7)) []
    ∷ at (finish 1) AnsweredOk (sent 12 6 1 ∷ [])
    ∷ at (take 12) Taken []
    ∷ at flush_all (Flushed 2) (sent 13 69 1 ∷ []) ∷ [])

ahead_of_the_floor : LivesGive (limits 2 8 4 false) ahead_lines (commit 1 3 1 2 ∷ commit 0 1 1 1 ∷ [])
unfolding client_call call_fault client_take server_take step
ahead_of_the_floor = refl

-- Where nobody was welcomed, the floor may be the incarnation with which clients begin.
nobody_came : LivesGive (limits 2 8 4 false) (within (at (hello 0) AnsweredOk (sent 0 1 0 ∷ []) ∷ []) ++ Restarts 1 0 ∷ within (at (take 0) Taken (sent 1 65 0 ∷ []) ∷ at (take 1) Taken [] ∷ at (begin 0) AnsweredOk [] ∷ [])) []
unfolding client_call call_fault client_take server_take step
nobody_came = refl

-- Once it was, that isn't a new floor.
floor_that_was_admitted : (may_happen (within finished ++ Restarts 1 0 ∷ []) ≡ false) × (may_happen (ahead_lines ++ Restarts 3 2 ∷ []) ≡ false) × (may_happen (ahead_lines ++ Restarts 4 2 ∷ []) ≡ true)
unfolding client_call call_fault client_take server_take step
floor_that_was_admitted = (refl, refl, refl)

-- these lines are a list of events of the headline, and what they lead to keeps the promise
two_restarts_lead : LeadsTo (limits 2 8 4 false) on_cycle (first_life (limits 2 8 4 false) zeros) (map event_of two_restarts_lines) (lives_of (limits 2 8 4 false) two_restarts_lines)
two_restarts_lead = lines_lead (limits 2 8 4 false) (first_life (limits 2 8 4 false) zeros) two_restarts_lines (ap (λ (x : LivesOutput). x.allowed) two_restarts.0)

two_restarts_are_kept : LivesPromise zeros (lives_of (limits 2 8 4 false) two_restarts_lines)
two_restarts_are_kept = lives_headline (limits 2 8 4 false) on_cycle zeros (map event_of two_restarts_lines) (lives_of (limits 2 8 4 false) two_restarts_lines) (λ p. omega arith) two_restarts_lead

ahead_lead : LeadsTo (limits 2 8 4 false) on_cycle (first_life (limits 2 8 4 false) zeros) (map event_of ahead_lines) (lives_of (limits 2 8 4 false) ahead_lines)
ahead_lead = lines_lead (limits 2 8 4 false) (first_life (limits 2 8 4 false) zeros) ahead_lines (ap (λ (x : LivesOutput). x.allowed) ahead_of_the_floor)

ahead_is_kept : LivesPromise zeros (lives_of (limits 2 8 4 false) ahead_lines)
ahead_is_kept = lives_headline (limits 2 8 4 false) on_cycle zeros (map event_of ahead_lines) (lives_of (limits 2 8 4 false) ahead_lines) (λ p. omega arith) ahead_lead
