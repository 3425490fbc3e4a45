-- What can be flushed, in the words of the commits and of the protocol.
use Rattle.std.proofs.Common.{◌≡◌, ◌∙◌, ◌+◌, ◌↔◌, ℕ, zero, suc, Bool, true, false, Option, Some, None, IfSome, IsTrue, refl, sym, ap, arith}
use Rattle.std.proofs.lemmas.Bool.Decides.{nat_tests}
use Rattle.cb_commit.specs.Batches.{BatchState}
use Rattle.cb_commit.specs.History.{CanFlush}
use Rattle.cb_protocol.specs.Flush.{can_flush, server_flush}
use Rattle.cb_protocol.specs.Numbers.{messages_for_pages, messages_for_queue}
use Rattle.cb_protocol.specs.Server.{Server, server_after}
use Rattle.cb_server_state.proofs.Committed.{flushes, may_flush}
use Rattle.cb_server.specs.ServerValue.{most_frames}
use Rattle.cb_server_state.specs.States.{server_of}
use Rattle.cb_server_state.specs.declared.server_state.ServerState.{ServerState}

can_be_flushed : (v : ServerState) (number : ℕ) → CanFlush v.commits number → can_flush (server_of v) number ≡ true
can_be_flushed v number can =
    let above = can.above in let there = can.there in grind (arith, nat_tests, above, there)

-- whether one can
pub can_flush_test : (r : Bool) (v : ServerState) (number : ℕ) → (IsTrue r ↔ CanFlush v.commits number) → r ≡ can_flush (server_of v) number
can_flush_test true v number is = sym (can_be_flushed v number (is.0 refl))
can_flush_test false v number is = by (can_flush (server_of v) number) refl
  where
    by : (b : Bool) → can_flush (server_of v) number ≡ b → false ≡ b
    by true e = absurd (let t = is.1 (may_flush v number e) in cc)
    by false e = refl

-- the commits of a batch can
pub batch_can_be_flushed : (v : ServerState) (batch : Option BatchState) → IfSome batch (λ b. CanFlush v.commits b.number)
    → IfSome batch (λ b. can_flush (server_of v) b.number ≡ true)
batch_can_be_flushed v None can = tt
batch_can_be_flushed v (Some b) can = can_be_flushed v b.number can

-- a flush leaves the asks, so it leaves what they need
same_asks : (s : Server) (number end : ℕ) → messages_for_pages (record s { flushed = number }) end ≡ messages_for_pages s end
same_asks s number zero = refl
same_asks s number (suc page) = ap (λ (n : ℕ). n + messages_for_queue s.clients (s.queue page)) (same_asks s number page)

pub flush_needs : (s : Server) (number : ℕ) → most_frames (server_after s (server_flush s number)) ≡ most_frames s
flush_needs s number = sym (ap most_frames (flushes s number)) ∙ ap (λ (n : ℕ). n + 33) (same_asks s number s.pages)
