-- Worked schedules: a written page in each phase of its transaction, and the copies sent for a row.
use Rattle.std.proofs.Common.{Bool, List, None, Option, Some, [], false, refl, ℕ, ◌∷◌, ◌≡◌}
use Rattle.cb_laws.specs.WrittenPages.{last_written, operations_so_far}
use Rattle.cb_protocol.proofs.ScheduleText.{begin, finish, flush_all, hello, limits, page_of, read, take, want, write, zeros}
use Rattle.cb_protocol.specs.Basics.{Bytes, Limits}
use Rattle.cb_protocol.specs.Cache.{Committing, Idle, Open, TransactionState}
use Rattle.cb_protocol.specs.ClientCalls.{call_fault, client_call}
use Rattle.cb_protocol.specs.ClientMessages.{client_take}
use Rattle.cb_protocol.specs.Messages.{Granted, Message}
use Rattle.cb_protocol.specs.ServerMessages.{server_take}
use Rattle.cb_protocol.specs.WaitsFor.{on_cycle}
use Rattle.cb_protocol.specs.World.{Event, World, new_world, packet_at, step}

-- the world after these events
abbrev pub after : Limits → World → List Event → World
after L w [] = w
after L w (e ∷ es) = after L (step L on_cycle w e None).world es

-- what is to be seen of page 0: client 0 wrote it, or not; client 1 has a copy, or not
pub record Seen : Type 0 where
  pub status : TransactionState
  pub last : Option Bytes
  pub own : Option Bytes
  pub other : Option Bytes
  pub holder : Option ℕ
  pub bytes : Bytes
  pub version : ℕ

abbrev seen : World → Seen
seen w = record {
  status = (w.client 0).cache.status;
  last = last_written (operations_so_far w 0) 0;
  own = (w.client 0).cache.content 0;
  other = (w.client 1).cache.content 0;
  holder = w.server.store.holder 0;
  bytes = w.server.store.bytes 0;
  version = w.server.store.version 0;
}

-- client 0 writes page 0, and client 1 asks to read it
abbrev written : List Event
written = hello 0 ∷ take 0 ∷ take 1 ∷ hello 1 ∷ take 2 ∷ take 3 ∷ begin 0 ∷ read 0 0 ∷ take 4 ∷ take 5 ∷ want 0 0 ∷ take 6 ∷ take 7 ∷ write 0 0 7
    ∷ begin 1 ∷ read 1 0 ∷ take 8 ∷ []

world : List Event → World
world es = after (limits 2 4 2 false) (new_world (limits 2 4 2 false) zeros) es

-- open: nobody else has a copy, and the store has the page as it was
while_open : seen (world written) ≡ record { status = Open; last = Some (page_of 7); own = Some (page_of 7); other = None; holder = Some 0; bytes = page_of 0; version = 0 }
unfolding world client_call call_fault client_take server_take step
while_open = refl

-- the Commit is on its way: so it stays
on_its_way : seen (after (limits 2 4 2 false) (world written) (finish 0 ∷ [])) ≡ record { status = Committing; last = Some (page_of 7); own = Some (page_of 7); other = None; holder = Some 0; bytes = page_of 0; version = 0 }
unfolding world client_call call_fault client_take server_take step
on_its_way = refl

-- applied, Done on its way: the store has what was written, and so has the copy that client 1 gets
when_applied : seen (after (limits 2 4 2 false) (world written) (finish 0 ∷ take 9 ∷ take 10 ∷ []))
    ≡ record { status = Committing; last = Some (page_of 7); own = Some (page_of 7); other = Some (page_of 7); holder = None; bytes = page_of 7; version = 1 }
unfolding world client_call call_fault client_take server_take step
when_applied = refl

-- Done came: the page isn't written any more, and is the store's
pub record Copy : Type 0 where
  pub status : TransactionState
  pub wrote : Bool
  pub version : ℕ
  pub content : Option Bytes

abbrev copy_of : World → Copy
copy_of w = let k = (w.client 0).cache in record { status = k.status; wrote = k.wrote 0; version = k.version 0; content = k.content 0 }

when_done : copy_of (after (limits 2 4 2 false) (world written) (finish 0 ∷ take 9 ∷ take 10 ∷ flush_all ∷ take 11 ∷ []))
    ≡ record { status = Idle; wrote = false; version = 1; content = Some (page_of 7) }
unfolding world client_call call_fault client_take server_take step
when_done = refl

-- two copies that were sent, and the rows that they are for
pub record Sent : Type 0 where
  pub first : Option Message
  pub second : Option Message
  pub row : Option ℕ
  pub other : Option ℕ

abbrev sent_of : World → Sent
sent_of w = record { first = packet_at w.packets 5; second = packet_at w.packets 10; row = (w.server.session 0).row 0; other = (w.server.session 1).row 0 }

-- client 0 wrote the page since its copy was sent; client 1's is as the store has it
copies_sent : sent_of (after (limits 2 4 2 false) (world written) (finish 0 ∷ take 9 ∷ [])) ≡ record {
  first = Some (record { client = 0; incarnation = 1; body = Granted 0 1 0 (page_of 0) });
  second = Some (record { client = 1; incarnation = 1; body = Granted 0 2 1 (page_of 7) });
  row = Some 1;
  other = Some 2;
}
unfolding world client_call call_fault client_take server_take step
copies_sent = refl
