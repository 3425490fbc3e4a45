-- What a step sends at most.
use Rattle.std.proofs.Common.{ℕ, ◌+◌, ◌*◌, ◌-◌, ◌≤◌, ◌≡◌, Bool, true, false, not, ◌&&◌, if◌then◌else◌, List, [], ◌∷◌, length, zero, suc, Option, Some, None, arith}
use Rattle.std.proofs.Math.Nat.{mul-le-mul_left}
use Rattle.cb_asks.proofs.Queues.{reads_in_length}
use Rattle.cb_asks.specs.Asks.{asks_below}
use Rattle.cb_outbox.specs.Saying.{HasRoomFor, OutboxState}
use Rattle.cb_protocol.proofs.MessagesSent.{again_doomed_send, again_page_sends, resending_copies, sends, sends_more, settling_sends_at_most}
use Rattle.cb_protocol.specs.Basics.{is_none}
use Rattle.cb_protocol.specs.Numbers.{messages_for_pages, messages_for_queue}
use Rattle.cb_protocol.specs.Resend.{again_doomed, again_downgrade, again_page, again_pages, server_again, uses_page}
use Rattle.cb_protocol.specs.Server.{EnterQueue, Server, WaitingAsk, after_server_step}
use Rattle.cb_protocol.specs.ServerMessages.{enter_queue, is_empty, read_asks_below, read_asks_in}
use Rattle.cb_protocol.specs.Settling.{doom_client, keeps_permission, send_callbacks, send_downgrade, send_downgrades, settle_pages}
use Rattle.cb_protocol.specs.WaitsFor.{on_cycle}

pub entering_bounded : (server : Server) (page : ℕ) (ask : WaitingAsk) (outbox : OutboxState) → length outbox.sent + 1 ≤ outbox.room
    → HasRoomFor (enter_queue on_cycle server page ask) outbox
entering_bounded server page ask outbox room = go (not (is_empty (server.queue page)) && on_cycle (after_server_step server (EnterQueue page ask)) ask.client)
  where
    go : (b : Bool) → HasRoomFor (if b then EnterQueue page ask ∷ doom_client (after_server_step server (EnterQueue page ask)) ask.client else EnterQueue page ask ∷ []) outbox
    go true = record { frames = omega (arith, room); copies = omega arith }
    go false = record { frames = omega (arith, room); copies = omega arith }

-- each ask costs 33 messages at most
queue_costs : (clients : ℕ) (queue : List WaitingAsk) → clients ≤ 32 → messages_for_queue clients queue ≤ 33 * length queue
queue_costs clients [] few = omega arith
queue_costs clients (ask ∷ queue) few = go (queue_costs clients queue few) (is_none ask.write_grant)
  where
    go : messages_for_queue clients queue ≤ 33 * length queue → (reads : Bool) → (if reads then 2 else clients + 1) + messages_for_queue clients queue ≤ 33 * suc (length queue)
    go rest true = omega (arith, rest)
    go rest false = omega (arith, rest, few)

pages_cost : (server : Server) (end : ℕ) → server.clients ≤ 32 → messages_for_pages server end ≤ 33 * asks_below server end
pages_cost server zero few = omega arith
pages_cost server (suc page) few = let rest = pages_cost server page few in let here = queue_costs server.clients (server.queue page) few in omega (arith, rest, here)

pub settling_by_kind : (server : Server) (outbox : OutboxState) → length outbox.sent + messages_for_pages server server.pages ≤ outbox.room
    → read_asks_below server server.pages ≤ outbox.spare → HasRoomFor (settle_pages on_cycle server server.pages) outbox
settling_by_kind server outbox room spare =
    let sent = (settling_sends_at_most on_cycle server).all_pages server.pages in
    let copies = (settling_sends_at_most on_cycle server).all_copies server.pages in
    record { frames = omega (arith, room, sent); copies = omega (arith, copies, spare) }

pub settling_bounded : (server : Server) (outbox : OutboxState) → server.clients ≤ 32 → length outbox.sent + 33 * asks_below server server.pages ≤ outbox.room
    → read_asks_below server server.pages ≤ outbox.spare → HasRoomFor (settle_pages on_cycle server server.pages) outbox
settling_bounded server outbox few room spare =
    let sent = (settling_sends_at_most on_cycle server).all_pages server.pages in
    let bound = pages_cost server server.pages few in
    let copies = (settling_sends_at_most on_cycle server).all_copies server.pages in
    record { frames = omega (arith, room, sent, bound); copies = omega (arith, copies, spare) }

-- what is sent again for a page is no more than settling may send for its first ask
downgrades_once : (server : Server) (page asker : ℕ) (skip : ℕ → Bool) (holder : Option ℕ) → sends (send_downgrades server skip page asker holder) ≤ 2
downgrades_once server page asker skip None = omega arith
downgrades_once server page asker skip (Some one) = go (keeps_permission server page asker (Some one) && not (skip one)) ((server.session one).row page)
  where
    go : (b : Bool) (grant : Option ℕ) → sends (if b then send_downgrade server one page grant else []) ≤ 2
    go true None = omega arith
    go true (Some g) = omega arith
    go false grant = omega arith

page_again : (server : Server) (page : ℕ) (queue : List WaitingAsk) → sends (again_page server page queue) ≤ messages_for_queue server.clients queue
page_again server page [] = omega arith
page_again server page (ask ∷ queue) = go (is_none ask.write_grant) (again_page_sends server page (ask ∷ []))
  where
    down : (keep : Bool) → sends (if keep then send_downgrades server (uses_page server page) page ask.client (server.store.holder page) else []) ≤ 2
    down true = downgrades_once server page ask.client (uses_page server page) (server.store.holder page)
    down false = omega arith

    go : (reads : Bool)
        → sends (if reads then again_downgrade server page ask else send_callbacks server (uses_page server page) page ask.client server.clients) ≤ 1 * (server.clients + 1)
        → sends (if reads then again_downgrade server page ask else send_callbacks server (uses_page server page) page ask.client server.clients)
        ≤ (if reads then 2 else server.clients + 1) + messages_for_queue server.clients queue
    go true most = let few : sends (again_downgrade server page ask) ≤ 2 = down server.store.keep_write in omega (arith, few)
    go false most = omega (arith, most)

pages_by_kind : (server : Server) (end : ℕ) → sends (again_pages server end) ≤ messages_for_pages server end
pages_by_kind server zero = omega arith
pages_by_kind server (suc page) =
    let whole = sends_more (again_pages server page) (again_page server page (server.queue page)) in
    let rest = pages_by_kind server page in
    let here = page_again server page (server.queue page) in
    omega (arith, whole, rest, here)

pub resending_by_kind : (server : Server) (outbox : OutboxState)
    → length outbox.sent + (messages_for_pages server server.pages + server.clients) ≤ outbox.room → HasRoomFor (server_again server) outbox
resending_by_kind server outbox room =
    let whole = sends_more (again_pages server server.pages) (again_doomed server server.clients) in
    let pages = pages_by_kind server server.pages in
    let doomed = again_doomed_send server server.clients in
    let copies = resending_copies server in
    record { frames = omega (arith, room, whole, pages, doomed); copies = omega (arith, copies) }

-- how many messages settling may send, by how many ask to read and how many ask
more_reads : (each sent reads asks : ℕ) → sent + each * reads ≡ 2 * reads + each * asks → (2 + sent) + each * (reads + 1) ≡ 2 * (reads + 1) + each * suc asks
more_reads each sent reads asks e = grind arith

more_writes : (each sent reads asks : ℕ) → sent + each * reads ≡ 2 * reads + each * asks → (each + sent) + each * reads ≡ 2 * reads + each * suc asks
more_writes each sent reads asks e = grind arith

more_pages : (each sent reads asks here some all : ℕ) → sent + each * reads ≡ 2 * reads + each * asks → here + each * some ≡ 2 * some + each * all
    → (sent + here) + each * (reads + some) ≡ 2 * (reads + some) + each * (asks + all)
more_pages each sent reads asks here some all e f = grind arith

queue_by_kind : (clients : ℕ) (queue : List WaitingAsk)
    → messages_for_queue clients queue + (clients + 1) * read_asks_in queue ≡ 2 * read_asks_in queue + (clients + 1) * length queue
queue_by_kind clients [] = grind arith
queue_by_kind clients (ask ∷ queue) = go (queue_by_kind clients queue) (is_none ask.write_grant)
  where
    go : messages_for_queue clients queue + (clients + 1) * read_asks_in queue ≡ 2 * read_asks_in queue + (clients + 1) * length queue → (reads : Bool)
        → ((if reads then 2 else clients + 1) + messages_for_queue clients queue) + (clients + 1) * (if reads then read_asks_in queue + 1 else read_asks_in queue)
        ≡ 2 * (if reads then read_asks_in queue + 1 else read_asks_in queue) + (clients + 1) * suc (length queue)
    go rest true = more_reads (clients + 1) (messages_for_queue clients queue) (read_asks_in queue) (length queue) rest
    go rest false = more_writes (clients + 1) (messages_for_queue clients queue) (read_asks_in queue) (length queue) rest

asks_by_kind : (server : Server) (end : ℕ)
    → messages_for_pages server end + (server.clients + 1) * read_asks_below server end ≡ 2 * read_asks_below server end + (server.clients + 1) * asks_below server end
asks_by_kind server zero = grind arith
asks_by_kind server (suc page) =
    more_pages (server.clients + 1) (messages_for_pages server page) (read_asks_below server page) (asks_below server page)
    (messages_for_queue server.clients (server.queue page)) (read_asks_in (server.queue page)) (length (server.queue page))
    (asks_by_kind server page) (queue_by_kind server.clients (server.queue page))

pub reads_among : (server : Server) (end : ℕ) → read_asks_below server end ≤ asks_below server end
reads_among server zero = omega arith
reads_among server (suc page) = let rest = reads_among server page in let here = reads_in_length (server.queue page) in omega (arith, rest, here)

by_writes : (each sent reads asks writes : ℕ) → asks ≡ reads + writes → sent + each * reads ≡ 2 * reads + each * asks → 2 * reads + each * writes ≡ sent
by_writes each sent reads asks writes e f = grind arith

counted_by_kind : (server : Server)
    → 2 * read_asks_below server server.pages + (server.clients + 1) * (asks_below server server.pages - read_asks_below server server.pages) ≡ messages_for_pages server server.pages
counted_by_kind server =
    by_writes (server.clients + 1) (messages_for_pages server server.pages) (read_asks_below server server.pages) (asks_below server server.pages)
    (asks_below server server.pages - read_asks_below server server.pages) (let less = reads_among server server.pages in omega (arith, less)) (asks_by_kind server server.pages)

pub messages_counted : (server : Server) (clients reads asks : ℕ) → clients ≡ server.clients → reads ≡ read_asks_below server server.pages → asks ≡ asks_below server server.pages
    → 2 * reads + (clients + 1) * (asks - reads) ≡ messages_for_pages server server.pages
messages_counted server clients reads asks c r a = rw (c, r, a) (counted_by_kind server)

pub few_by_kind : (server : Server) (clients reads asks : ℕ) → clients ≡ server.clients → reads ≡ read_asks_below server server.pages → asks ≡ asks_below server server.pages
    → clients ≤ 32 → asks ≤ 32 → 2 * reads + (clients + 1) * (asks - reads) ≤ 1056
few_by_kind server clients reads asks c r a few some =
    let same = messages_counted server clients reads asks c r a in
    let most = pages_cost server server.pages (let l : server.clients ≤ 32 = omega (arith, c, few) in l) in
    omega (arith, same, most, a, some)

-- so does it where it is sent again
pages_again : (server : Server) (end : ℕ) → server.clients ≤ 32 → sends (again_pages server end) ≤ 33 * asks_below server end
pages_again server zero few = omega arith
pages_again server (suc page) few =
    let whole = sends_more (again_pages server page) (again_page server page (server.queue page)) in
    let rest = pages_again server page few in
    let here = again_page_sends server page (server.queue page) in
    let most = mul-le-mul_left (length (server.queue page)) (let one : server.clients + 1 ≤ 33 = omega (arith, few) in one) in
    omega (arith, whole, rest, here, most)

pub resending_bounded : (server : Server) (outbox : OutboxState) → server.clients ≤ 32
    → length outbox.sent + (33 * asks_below server server.pages + server.clients) ≤ outbox.room → HasRoomFor (server_again server) outbox
resending_bounded server outbox few room =
    let whole = sends_more (again_pages server server.pages) (again_doomed server server.clients) in
    let pages = pages_again server server.pages few in
    let doomed = again_doomed_send server server.clients in
    let copies = resending_copies server in
    record { frames = omega (arith, room, whole, pages, doomed); copies = omega (arith, copies) }
