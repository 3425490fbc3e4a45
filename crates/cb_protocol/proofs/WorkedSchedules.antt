-- Worked schedules: the definitions give their stated outputs.
use Rattle.std.proofs.Common.{List, Some, [], false, refl, true, ◌∷◌, ◌≡◌}
use Rattle.cb_protocol.specs.Answers.{AnsweredBytes, AnsweredOk, Asked, Flushed, NotWelcome, Nothing, PoolFull, Refused, Taken}
use Rattle.cb_protocol.specs.ClientCalls.{call_fault, client_call}
use Rattle.cb_protocol.specs.ClientMessages.{client_take}
use Rattle.cb_protocol.specs.ServerMessages.{server_take}
use Rattle.cb_protocol.specs.World.{step}
use Rattle.cb_protocol.proofs.ScheduleText.{Line, Outputs, at, begin, finish, flush_all, flush_to, hello, letting_go, limits, packet_of, page_of, peek, read, resend, restart, sent, server_resends, take, want, write}
use Rattle.cb_protocol.specs.Messages.{Done, Granted}

-- a page is read by one client
first_run : Outputs (limits 1 8 4 false) (at (hello 0) AnsweredOk (sent 0 1 0 ∷ [])
    ∷ at (take 0) Taken (sent 1 65 0 ∷ [])
    ∷ at (take 1) Taken []
    ∷ at (begin 0) AnsweredOk []
    ∷ at (read 0 5) Asked (sent 2 2 0 ∷ [])
    ∷ at (take 2) Taken (sent 3 66 0 ∷ [])
    ∷ at (take 3) Taken []
    ∷ at (read 0 5) (AnsweredBytes (page_of 0)) [] ∷ []) 0
unfolding client_call call_fault client_take server_take step
first_run = refl

-- a pool whose pages are all fixed takes no other
pool_full : Outputs (limits 1 4 2 false) (at (hello 0) AnsweredOk (sent 0 1 0 ∷ [])
    ∷ at (take 0) Taken (sent 1 65 0 ∷ [])
    ∷ at (take 1) Taken []
    ∷ at (begin 0) AnsweredOk []
    ∷ at (read 0 0) Asked (sent 2 2 0 ∷ [])
    ∷ at (take 2) Taken (sent 3 66 0 ∷ [])
    ∷ at (take 3) Taken []
    ∷ at (read 0 1) Asked (sent 4 2 0 ∷ [])
    ∷ at (take 4) Taken (sent 5 66 0 ∷ [])
    ∷ at (take 5) Taken []
    ∷ at (want 0 0) Asked (sent 6 3 0 ∷ [])
    ∷ at (take 6) Taken (sent 7 67 0 ∷ [])
    ∷ at (take 7) Taken []
    ∷ at (want 0 1) Asked (sent 8 3 0 ∷ [])
    ∷ at (take 8) Taken (sent 9 67 0 ∷ [])
    ∷ at (take 9) Taken []
    ∷ at (read 0 2) (Refused PoolFull) [] ∷ []) 0
unfolding client_call call_fault client_take server_take step
pool_full = refl

-- a page let go is given back, and stays so though its grant comes again
page_let_go_is_given_back : Outputs (limits 1 4 2 false) (at (hello 0) AnsweredOk (sent 0 1 0 ∷ [])
    ∷ at (take 0) Taken (sent 1 65 0 ∷ [])
    ∷ at (take 1) Taken []
    ∷ at (begin 0) AnsweredOk []
    ∷ at (read 0 0) Asked (sent 2 2 0 ∷ [])
    ∷ at (take 2) Taken (sent 3 66 0 ∷ [])
    ∷ at (take 3) Taken []
    ∷ at (read 0 1) Asked (sent 4 2 0 ∷ [])
    ∷ at (take 4) Taken (sent 5 66 0 ∷ [])
    ∷ at (take 5) Taken []
    ∷ at (finish 0) AnsweredOk (sent 6 6 0 ∷ [])
    ∷ at (take 6) Taken []
    ∷ at (flush_all) (Flushed 1) (sent 7 69 0 ∷ [])
    ∷ at (take 7) Taken []
    ∷ at (begin 0) AnsweredOk []
    ∷ at (read 0 2) Asked (sent 8 2 0 ∷ [])
    ∷ at (take 8) Taken (sent 9 66 0 ∷ [])
    ∷ letting_go 0 (take 9) Taken (sent 10 4 0 ∷ [])
    ∷ at (take 3) Taken (sent 11 4 0 ∷ [])
    ∷ at (peek 0 0) Nothing [] ∷ []) 1
unfolding client_call call_fault client_take server_take step
page_let_go_is_given_back = refl

-- a grant that comes after its callback is given back
abbrev late_grant_lines : List Line
late_grant_lines = at (hello 0) AnsweredOk (sent 0 1 0 ∷ [])
    ∷ at (take 0) Taken (sent 1 65 0 ∷ [])
    ∷ at (take 1) Taken []
    ∷ at (hello 1) AnsweredOk (sent 2 1 1 ∷ [])
    ∷ at (take 2) Taken (sent 3 65 1 ∷ [])
    ∷ at (take 3) Taken []
    ∷ at (begin 0) AnsweredOk []
    ∷ at (read 0 0) Asked (sent 4 2 0 ∷ [])
    ∷ at (take 4) Taken (sent 5 66 0 ∷ [])
    ∷ at (begin 1) AnsweredOk []
    ∷ at (read 1 0) Asked (sent 6 2 1 ∷ [])
    ∷ at (take 6) Taken (sent 7 66 1 ∷ [])
    ∷ at (take 7) Taken []
    ∷ at (want 1 0) Asked (sent 8 3 1 ∷ [])
    ∷ at (take 8) Taken (sent 9 68 0 ∷ [])
    ∷ at (take 9) Taken (sent 10 4 0 ∷ [])
    ∷ at (take 10) Taken (sent 11 67 1 ∷ [])
    ∷ at (take 5) Taken (sent 12 4 0 ∷ [])
    ∷ at (peek 0 0) Nothing []
    ∷ at (resend 0) AnsweredOk (sent 13 2 0 ∷ [])
    ∷ at (take 13) Taken []
    ∷ at (take 11) Taken []
    ∷ at (write 1 0 7) AnsweredOk []
    ∷ at (finish 1) AnsweredOk (sent 14 6 1 ∷ [])
    ∷ at (take 14) Taken (sent 15 66 0 ∷ [])
    ∷ at (take 15) Taken []
    ∷ at (read 0 0) (AnsweredBytes (page_of 7)) []
    ∷ at (flush_all) (Flushed 1) (sent 16 69 1 ∷ []) ∷ []

grant_that_comes_after_its_callback : Outputs (limits 2 8 4 false) late_grant_lines 1
unfolding client_call call_fault client_take server_take step
grant_that_comes_after_its_callback = refl

-- packet 5 has grant 1, packet 15 grant 3 and version 1
late_grants : (packet_of (limits 2 8 4 false) late_grant_lines 5 ≡ Some (record { client = 0; incarnation = 1; body = Granted 0 1 0 (page_of 0) })) × (packet_of (limits 2 8 4 false) late_grant_lines 15 ≡ Some (record { client = 0; incarnation = 1; body = Granted 0 3 1 (page_of 7) }))
unfolding client_call call_fault client_take server_take step
late_grants = (refl, refl)

-- a bare grant is filled at its own version alone
bare_page_filled_by_its_own_version : Outputs (limits 1 8 2 false) (at (hello 0) AnsweredOk (sent 0 1 0 ∷ [])
    ∷ at (take 0) Taken (sent 1 65 0 ∷ [])
    ∷ at (take 1) Taken []
    ∷ at (begin 0) AnsweredOk []
    ∷ at (read 0 5) Asked (sent 2 2 0 ∷ [])
    ∷ at (take 2) Taken (sent 3 66 0 ∷ [])
    ∷ at (take 3) Taken []
    ∷ at (want 0 5) Asked (sent 4 3 0 ∷ [])
    ∷ at (take 4) Taken (sent 5 67 0 ∷ [])
    ∷ at (take 5) Taken []
    ∷ at (write 0 5 9) AnsweredOk []
    ∷ at (finish 0) AnsweredOk (sent 6 6 0 ∷ [])
    ∷ at (take 6) Taken []
    ∷ at (flush_all) (Flushed 1) (sent 7 69 0 ∷ [])
    ∷ at (take 7) Taken []
    ∷ at (begin 0) AnsweredOk []
    ∷ at (read 0 5) (AnsweredBytes (page_of 9)) []
    ∷ at (read 0 1) Asked (sent 8 2 0 ∷ [])
    ∷ at (take 8) Taken (sent 9 66 0 ∷ [])
    ∷ at (take 9) Taken []
    ∷ at (read 0 2) Asked (sent 10 2 0 ∷ [])
    ∷ at (take 10) Taken (sent 11 66 0 ∷ [])
    ∷ letting_go 5 (take 11) Taken []
    ∷ at (peek 0 5) Nothing []
    ∷ at (read 0 5) Asked (sent 12 2 0 ∷ [])
    ∷ at (take 3) Taken []
    ∷ at (peek 0 5) Nothing []
    ∷ at (take 12) Taken (sent 13 66 0 ∷ [])
    ∷ letting_go 1 (take 13) Taken []
    ∷ at (read 0 5) (AnsweredBytes (page_of 9)) [] ∷ []) 1
unfolding client_call call_fault client_take server_take step
bare_page_filled_by_its_own_version = refl

-- two clients that wait for each other
two_writers_deadlock : Outputs (limits 2 8 4 false) (at (hello 0) AnsweredOk (sent 0 1 0 ∷ [])
    ∷ at (take 0) Taken (sent 1 65 0 ∷ [])
    ∷ at (take 1) Taken []
    ∷ at (hello 1) AnsweredOk (sent 2 1 1 ∷ [])
    ∷ at (take 2) Taken (sent 3 65 1 ∷ [])
    ∷ at (take 3) Taken []
    ∷ at (begin 0) AnsweredOk []
    ∷ at (begin 1) AnsweredOk []
    ∷ at (read 0 0) Asked (sent 4 2 0 ∷ [])
    ∷ at (take 4) Taken (sent 5 66 0 ∷ [])
    ∷ at (take 5) Taken []
    ∷ at (read 1 0) Asked (sent 6 2 1 ∷ [])
    ∷ at (take 6) Taken (sent 7 66 1 ∷ [])
    ∷ at (take 7) Taken []
    ∷ at (want 0 0) Asked (sent 8 3 0 ∷ [])
    ∷ at (take 8) Taken (sent 9 68 1 ∷ [])
    ∷ at (want 1 0) Asked (sent 10 3 1 ∷ [])
    ∷ at (take 9) Taken (sent 11 5 1 ∷ [])
    ∷ at (take 11) Taken []
    ∷ at (take 10) Taken (sent 12 70 1 ∷ [])
    ∷ at (take 12) Taken (sent 13 7 1 ∷ sent 14 4 1 ∷ [])
    ∷ at (take 13) Taken []
    ∷ at (take 14) Taken (sent 15 67 0 ∷ []) ∷ []) 0
unfolding client_call call_fault client_take server_take step
two_writers_deadlock = refl

-- a doomed transaction keeps its permission until its Drop
doomed_writer_keeps_its_permission : Outputs (limits 3 8 4 false) (at (hello 0) AnsweredOk (sent 0 1 0 ∷ [])
    ∷ at (take 0) Taken (sent 1 65 0 ∷ [])
    ∷ at (take 1) Taken []
    ∷ at (hello 1) AnsweredOk (sent 2 1 1 ∷ [])
    ∷ at (take 2) Taken (sent 3 65 1 ∷ [])
    ∷ at (take 3) Taken []
    ∷ at (hello 2) AnsweredOk (sent 4 1 2 ∷ [])
    ∷ at (take 4) Taken (sent 5 65 2 ∷ [])
    ∷ at (take 5) Taken []
    ∷ at (begin 0) AnsweredOk []
    ∷ at (begin 1) AnsweredOk []
    ∷ at (begin 2) AnsweredOk []
    ∷ at (read 1 1) Asked (sent 6 2 1 ∷ [])
    ∷ at (take 6) Taken (sent 7 66 1 ∷ [])
    ∷ at (take 7) Taken []
    ∷ at (want 1 1) Asked (sent 8 3 1 ∷ [])
    ∷ at (take 8) Taken (sent 9 67 1 ∷ [])
    ∷ at (take 9) Taken []
    ∷ at (write 1 1 8) AnsweredOk []
    ∷ at (read 0 0) Asked (sent 10 2 0 ∷ [])
    ∷ at (take 10) Taken (sent 11 66 0 ∷ [])
    ∷ at (take 11) Taken []
    ∷ at (read 1 0) Asked (sent 12 2 1 ∷ [])
    ∷ at (take 12) Taken (sent 13 66 1 ∷ [])
    ∷ at (take 13) Taken []
    ∷ at (want 0 0) Asked (sent 14 3 0 ∷ [])
    ∷ at (take 14) Taken (sent 15 68 1 ∷ [])
    ∷ at (take 15) Taken (sent 16 5 1 ∷ [])
    ∷ at (take 16) Taken []
    ∷ at (want 1 0) Asked (sent 17 3 1 ∷ [])
    ∷ at (take 17) Taken (sent 18 70 1 ∷ [])
    ∷ at (read 2 1) Asked (sent 19 2 2 ∷ [])
    ∷ at (take 19) Taken []
    ∷ at (take 18) Taken (sent 20 7 1 ∷ sent 21 4 1 ∷ sent 22 4 1 ∷ [])
    ∷ at (take 22) Taken []
    ∷ at (take 21) Taken (sent 23 67 0 ∷ [])
    ∷ at (take 20) Taken (sent 24 66 2 ∷ [])
    ∷ at (take 24) Taken []
    ∷ at (read 2 1) (AnsweredBytes (page_of 0)) [] ∷ []) 0
unfolding client_call call_fault client_take server_take step
doomed_writer_keeps_its_permission = refl

-- a Commit that comes after its client said Hello again is ignored
restart_before_the_commit_comes : Outputs (limits 1 8 4 false) (at (hello 0) AnsweredOk (sent 0 1 0 ∷ [])
    ∷ at (take 0) Taken (sent 1 65 0 ∷ [])
    ∷ at (take 1) Taken []
    ∷ at (begin 0) AnsweredOk []
    ∷ at (read 0 0) Asked (sent 2 2 0 ∷ [])
    ∷ at (take 2) Taken (sent 3 66 0 ∷ [])
    ∷ at (take 3) Taken []
    ∷ at (want 0 0) Asked (sent 4 3 0 ∷ [])
    ∷ at (take 4) Taken (sent 5 67 0 ∷ [])
    ∷ at (take 5) Taken []
    ∷ at (write 0 0 5) AnsweredOk []
    ∷ at (finish 0) AnsweredOk (sent 6 6 0 ∷ [])
    ∷ at (restart 0) AnsweredOk []
    ∷ at (hello 0) AnsweredOk (sent 7 1 0 ∷ [])
    ∷ at (take 7) Taken (sent 8 65 0 ∷ [])
    ∷ at (take 6) Taken []
    ∷ at (flush_all) Nothing [] ∷ []) 0
unfolding client_call call_fault client_take server_take step
restart_before_the_commit_comes = refl

-- a Commit that comes before its restarted client says Hello is applied
commit_applied_after_a_restart : Outputs (limits 1 8 4 false) (at (hello 0) AnsweredOk (sent 0 1 0 ∷ [])
    ∷ at (take 0) Taken (sent 1 65 0 ∷ [])
    ∷ at (take 1) Taken []
    ∷ at (begin 0) AnsweredOk []
    ∷ at (read 0 0) Asked (sent 2 2 0 ∷ [])
    ∷ at (take 2) Taken (sent 3 66 0 ∷ [])
    ∷ at (take 3) Taken []
    ∷ at (want 0 0) Asked (sent 4 3 0 ∷ [])
    ∷ at (take 4) Taken (sent 5 67 0 ∷ [])
    ∷ at (take 5) Taken []
    ∷ at (write 0 0 5) AnsweredOk []
    ∷ at (finish 0) AnsweredOk (sent 6 6 0 ∷ [])
    ∷ at (restart 0) AnsweredOk []
    ∷ at (take 6) Taken []
    ∷ at (flush_all) (Flushed 1) (sent 7 69 0 ∷ [])
    ∷ at (hello 0) AnsweredOk (sent 8 1 0 ∷ [])
    ∷ at (take 8) Taken (sent 9 65 0 ∷ [])
    ∷ at (take 9) Taken []
    ∷ at (take 7) Taken []
    ∷ at (begin 0) AnsweredOk []
    ∷ at (read 0 0) Asked (sent 10 2 0 ∷ [])
    ∷ at (take 10) Taken (sent 11 66 0 ∷ [])
    ∷ at (take 11) Taken []
    ∷ at (read 0 0) (AnsweredBytes (page_of 5)) [] ∷ []) 1
unfolding client_call call_fault client_take server_take step
commit_applied_after_a_restart = refl

-- a repeated Commit is applied once and, when flushed, answered again
abbrev repeated_commit_lines : List Line
repeated_commit_lines = at (hello 0) AnsweredOk (sent 0 1 0 ∷ [])
    ∷ at (take 0) Taken (sent 1 65 0 ∷ [])
    ∷ at (take 1) Taken []
    ∷ at (begin 0) AnsweredOk []
    ∷ at (read 0 0) Asked (sent 2 2 0 ∷ [])
    ∷ at (take 2) Taken (sent 3 66 0 ∷ [])
    ∷ at (take 3) Taken []
    ∷ at (want 0 0) Asked (sent 4 3 0 ∷ [])
    ∷ at (take 4) Taken (sent 5 67 0 ∷ [])
    ∷ at (take 5) Taken []
    ∷ at (write 0 0 5) AnsweredOk []
    ∷ at (finish 0) AnsweredOk (sent 6 6 0 ∷ [])
    ∷ at (take 6) Taken []
    ∷ at (take 6) Taken []
    ∷ at (flush_to 2) Nothing []
    ∷ at (flush_all) (Flushed 1) (sent 7 69 0 ∷ [])
    ∷ at (take 6) Taken (sent 8 69 0 ∷ [])
    ∷ at (take 6) Taken (sent 9 69 0 ∷ []) ∷ []

repeated_commit_and_done : Outputs (limits 1 8 4 false) repeated_commit_lines 1
unfolding client_call call_fault client_take server_take step
repeated_commit_and_done = refl

-- packets 7, 8 and 9 are the same message
same_dones : (packet_of (limits 1 8 4 false) repeated_commit_lines 7 ≡ Some (record { client = 0; incarnation = 1; body = Done 1 1 })) × (packet_of (limits 1 8 4 false) repeated_commit_lines 8 ≡ Some (record { client = 0; incarnation = 1; body = Done 1 1 })) × (packet_of (limits 1 8 4 false) repeated_commit_lines 9 ≡ Some (record { client = 0; incarnation = 1; body = Done 1 1 }))
unfolding client_call call_fault client_take server_take step
same_dones = (refl, refl, refl)

-- a page in use is given back when its transaction is done
page_in_use_until_done : Outputs (limits 2 8 4 false) (at (hello 0) AnsweredOk (sent 0 1 0 ∷ [])
    ∷ at (take 0) Taken (sent 1 65 0 ∷ [])
    ∷ at (take 1) Taken []
    ∷ at (hello 1) AnsweredOk (sent 2 1 1 ∷ [])
    ∷ at (take 2) Taken (sent 3 65 1 ∷ [])
    ∷ at (take 3) Taken []
    ∷ at (begin 0) AnsweredOk []
    ∷ at (read 0 0) Asked (sent 4 2 0 ∷ [])
    ∷ at (take 4) Taken (sent 5 66 0 ∷ [])
    ∷ at (take 5) Taken []
    ∷ at (read 0 0) (AnsweredBytes (page_of 0)) []
    ∷ at (begin 1) AnsweredOk []
    ∷ at (read 1 0) Asked (sent 6 2 1 ∷ [])
    ∷ at (take 6) Taken (sent 7 66 1 ∷ [])
    ∷ at (take 7) Taken []
    ∷ at (want 1 0) Asked (sent 8 3 1 ∷ [])
    ∷ at (take 8) Taken (sent 9 68 0 ∷ [])
    ∷ at (take 9) Taken (sent 10 5 0 ∷ [])
    ∷ at (take 10) Taken []
    ∷ at (finish 0) AnsweredOk (sent 11 6 0 ∷ [])
    ∷ at (take 11) Taken []
    ∷ at (flush_all) (Flushed 1) (sent 12 69 0 ∷ [])
    ∷ at (take 12) Taken (sent 13 4 0 ∷ [])
    ∷ at (take 13) Taken (sent 14 67 1 ∷ []) ∷ []) 1
unfolding client_call call_fault client_take server_take step
page_in_use_until_done = refl

-- two readers, one of whom asks twice
abbrev two_asks_lines : List Line
two_asks_lines = at (hello 0) AnsweredOk (sent 0 1 0 ∷ [])
    ∷ at (take 0) Taken (sent 1 65 0 ∷ [])
    ∷ at (take 1) Taken []
    ∷ at (hello 1) AnsweredOk (sent 2 1 1 ∷ [])
    ∷ at (take 2) Taken (sent 3 65 1 ∷ [])
    ∷ at (take 3) Taken []
    ∷ at (begin 0) AnsweredOk []
    ∷ at (begin 1) AnsweredOk []
    ∷ at (read 0 5) Asked (sent 4 2 0 ∷ [])
    ∷ at (read 1 5) Asked (sent 5 2 1 ∷ [])
    ∷ at (take 5) Taken (sent 6 66 1 ∷ [])
    ∷ at (take 4) Taken (sent 7 66 0 ∷ [])
    ∷ at (take 4) Taken (sent 8 66 0 ∷ [])
    ∷ at (take 7) Taken []
    ∷ at (take 8) Taken []
    ∷ at (peek 0 5) (AnsweredBytes (page_of 0)) []
    ∷ at (peek 1 5) Nothing []
    ∷ at (take 6) Taken []
    ∷ at (read 1 5) (AnsweredBytes (page_of 0)) [] ∷ []

two_readers : Outputs (limits 2 8 4 false) two_asks_lines 0
unfolding client_call call_fault client_take server_take step
two_readers = refl

-- packets 7 and 8 are the same message, with grant 2
same_grants : (packet_of (limits 2 8 4 false) two_asks_lines 7 ≡ Some (record { client = 0; incarnation = 1; body = Granted 5 2 0 (page_of 0) })) × (packet_of (limits 2 8 4 false) two_asks_lines 8 ≡ Some (record { client = 0; incarnation = 1; body = Granted 5 2 0 (page_of 0) }))
unfolding client_call call_fault client_take server_take step
same_grants = (refl, refl)

-- messages of an older incarnation are ignored
old_incarnation_ignored : Outputs (limits 1 8 4 false) (at (hello 0) AnsweredOk (sent 0 1 0 ∷ [])
    ∷ at (take 0) Taken (sent 1 65 0 ∷ [])
    ∷ at (take 1) Taken []
    ∷ at (begin 0) AnsweredOk []
    ∷ at (finish 0) AnsweredOk (sent 2 6 0 ∷ [])
    ∷ at (restart 0) AnsweredOk []
    ∷ at (hello 0) AnsweredOk (sent 3 1 0 ∷ [])
    ∷ at (take 3) Taken (sent 4 65 0 ∷ [])
    ∷ at (take 2) Taken []
    ∷ at (take 0) Taken []
    ∷ at (take 1) Taken []
    ∷ at (begin 0) (Refused NotWelcome) []
    ∷ at (take 4) Taken []
    ∷ at (begin 0) AnsweredOk []
    ∷ at (flush_all) Nothing [] ∷ []) 0
unfolding client_call call_fault client_take server_take step
old_incarnation_ignored = refl

-- a kept permission is used again, then called back
permission_kept_and_called_back : Outputs (limits 2 8 4 true) (at (hello 0) AnsweredOk (sent 0 1 0 ∷ [])
    ∷ at (take 0) Taken (sent 1 65 0 ∷ [])
    ∷ at (take 1) Taken []
    ∷ at (hello 1) AnsweredOk (sent 2 1 1 ∷ [])
    ∷ at (take 2) Taken (sent 3 65 1 ∷ [])
    ∷ at (take 3) Taken []
    ∷ at (begin 0) AnsweredOk []
    ∷ at (read 0 0) Asked (sent 4 2 0 ∷ [])
    ∷ at (take 4) Taken (sent 5 66 0 ∷ [])
    ∷ at (take 5) Taken []
    ∷ at (want 0 0) Asked (sent 6 3 0 ∷ [])
    ∷ at (take 6) Taken (sent 7 67 0 ∷ [])
    ∷ at (take 7) Taken []
    ∷ at (write 0 0 7) AnsweredOk []
    ∷ at (finish 0) AnsweredOk (sent 8 6 0 ∷ [])
    ∷ at (take 8) Taken []
    ∷ at (flush_all) (Flushed 1) (sent 9 69 0 ∷ [])
    ∷ at (take 9) Taken []
    ∷ at (begin 1) AnsweredOk []
    ∷ at (read 1 0) Asked (sent 10 2 1 ∷ [])
    ∷ at (take 10) Taken (sent 11 71 0 ∷ [])
    ∷ at (begin 0) AnsweredOk []
    ∷ at (read 0 0) (AnsweredBytes (page_of 7)) []
    ∷ at (write 0 0 9) AnsweredOk []
    ∷ at (take 11) Taken (sent 12 5 0 ∷ [])
    ∷ at (take 12) Taken []
    ∷ at (finish 0) AnsweredOk (sent 13 6 0 ∷ [])
    ∷ at (take 13) Taken []
    ∷ at (flush_all) (Flushed 2) (sent 14 69 0 ∷ [])
    ∷ at (take 14) Taken (sent 15 8 0 ∷ [])
    ∷ at (take 15) Taken (sent 16 66 1 ∷ [])
    ∷ at (take 16) Taken []
    ∷ at (read 1 0) (AnsweredBytes (page_of 9)) [] ∷ []) 2
unfolding client_call call_fault client_take server_take step
permission_kept_and_called_back = refl

-- a Downgraded with an older tag is ignored
stale_downgraded_ignored : Outputs (limits 2 8 4 true) (at (hello 0) AnsweredOk (sent 0 1 0 ∷ [])
    ∷ at (take 0) Taken (sent 1 65 0 ∷ [])
    ∷ at (take 1) Taken []
    ∷ at (hello 1) AnsweredOk (sent 2 1 1 ∷ [])
    ∷ at (take 2) Taken (sent 3 65 1 ∷ [])
    ∷ at (take 3) Taken []
    ∷ at (begin 0) AnsweredOk []
    ∷ at (read 0 0) Asked (sent 4 2 0 ∷ [])
    ∷ at (take 4) Taken (sent 5 66 0 ∷ [])
    ∷ at (take 5) Taken []
    ∷ at (want 0 0) Asked (sent 6 3 0 ∷ [])
    ∷ at (take 6) Taken (sent 7 67 0 ∷ [])
    ∷ at (take 7) Taken []
    ∷ at (write 0 0 7) AnsweredOk []
    ∷ at (finish 0) AnsweredOk (sent 8 6 0 ∷ [])
    ∷ at (take 8) Taken []
    ∷ at (flush_all) (Flushed 1) (sent 9 69 0 ∷ [])
    ∷ at (take 9) Taken []
    ∷ at (begin 1) AnsweredOk []
    ∷ at (read 1 0) Asked (sent 10 2 1 ∷ [])
    ∷ at (take 10) Taken (sent 11 71 0 ∷ [])
    ∷ at (begin 0) AnsweredOk []
    ∷ at (read 0 0) (AnsweredBytes (page_of 7)) []
    ∷ at (write 0 0 9) AnsweredOk []
    ∷ at (take 11) Taken (sent 12 5 0 ∷ [])
    ∷ at (take 12) Taken []
    ∷ at (finish 0) AnsweredOk (sent 13 6 0 ∷ [])
    ∷ at (take 13) Taken []
    ∷ at (flush_all) (Flushed 2) (sent 14 69 0 ∷ [])
    ∷ at (take 14) Taken (sent 15 8 0 ∷ [])
    ∷ at (take 15) Taken (sent 16 66 1 ∷ [])
    ∷ at (take 16) Taken []
    ∷ at (read 1 0) (AnsweredBytes (page_of 9)) []
    ∷ at (finish 1) AnsweredOk (sent 17 6 1 ∷ [])
    ∷ at (take 17) Taken []
    ∷ at (flush_all) (Flushed 3) (sent 18 69 1 ∷ [])
    ∷ at (take 18) Taken []
    ∷ at (begin 0) AnsweredOk []
    ∷ at (read 0 0) (AnsweredBytes (page_of 9)) []
    ∷ at (want 0 0) Asked (sent 19 3 0 ∷ [])
    ∷ at (take 19) Taken (sent 20 68 1 ∷ [])
    ∷ at (take 20) Taken (sent 21 4 1 ∷ [])
    ∷ at (take 21) Taken (sent 22 67 0 ∷ [])
    ∷ at (take 22) Taken []
    ∷ at (take 15) Taken []
    ∷ at (begin 1) AnsweredOk []
    ∷ at (read 1 0) Asked (sent 23 2 1 ∷ [])
    ∷ at (take 23) Taken [] ∷ []) 3
unfolding client_call call_fault client_take server_take step
stale_downgraded_ignored = refl

-- a read ask that waits behind a live permission sends its Downgrade once that is merely kept
kept_later : Outputs (limits 2 8 4 true) (at (hello 0) AnsweredOk (sent 0 1 0 ∷ [])
    ∷ at (take 0) Taken (sent 1 65 0 ∷ [])
    ∷ at (take 1) Taken []
    ∷ at (hello 1) AnsweredOk (sent 2 1 1 ∷ [])
    ∷ at (take 2) Taken (sent 3 65 1 ∷ [])
    ∷ at (take 3) Taken []
    ∷ at (begin 0) AnsweredOk []
    ∷ at (read 0 0) Asked (sent 4 2 0 ∷ [])
    ∷ at (take 4) Taken (sent 5 66 0 ∷ [])
    ∷ at (take 5) Taken []
    ∷ at (want 0 0) Asked (sent 6 3 0 ∷ [])
    ∷ at (take 6) Taken (sent 7 67 0 ∷ [])
    ∷ at (take 7) Taken []
    ∷ at (begin 1) AnsweredOk []
    ∷ at (read 1 0) Asked (sent 8 2 1 ∷ [])
    ∷ at (take 8) Taken []
    ∷ at (write 0 0 7) AnsweredOk []
    ∷ at (finish 0) AnsweredOk (sent 9 6 0 ∷ [])
    ∷ at (take 9) Taken (sent 10 71 0 ∷ [])
    ∷ at (server_resends) AnsweredOk (sent 11 71 0 ∷ [])
    ∷ at (flush_all) (Flushed 1) (sent 12 69 0 ∷ [])
    ∷ at (take 12) Taken []
    ∷ at (take 10) Taken (sent 13 8 0 ∷ [])
    ∷ at (take 11) Taken (sent 14 8 0 ∷ [])
    ∷ at (take 13) Taken (sent 15 66 1 ∷ []) ∷ []) 1
unfolding client_call call_fault client_take server_take step
kept_later = refl
