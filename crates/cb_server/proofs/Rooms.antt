-- Room for settling, once a message is answered.
use Rattle.std.proofs.Common.{◌≡◌, ◌≢◌, ℕ, ◌+◌, ◌<◌, ◌≤◌, ◌==◌, true, false, true≢false, List, [], ◌∷◌, ◌++◌, length, zero, suc, refl, sym, ap, ◌∙◌, subst, arith}
use Rattle.std.proofs.lemmas.Bool.Decides.{nat_tests}
use Rattle.std.proofs.lemmas.List.{length-append}
use Rattle.cb_asks.specs.Asks.{asks_below}
use Rattle.cb_outbox.proofs.Saying.{after_append, copies_append, sent_append}
use Rattle.cb_page.specs.Bounds.{Bounds}
use Rattle.cb_protocol.proofs.GrantNumbers.{left_at_admission, left_at_answer, left_at_begin}
use Rattle.cb_protocol.specs.Messages.{AskRead, AskWrite, Body, Commit, Hello, Message}
use Rattle.cb_protocol.specs.Numbers.{HasGrantsLeft, copies_sent, messages_for_pages, messages_for_queue}
use Rattle.cb_protocol.specs.Server.{Server, ServerStep, WaitingAsk, server_after}
use Rattle.cb_protocol.specs.ServerMessages.{begin_transaction, direct_answer, named_txn, read_asks_below, read_asks_in}
use Rattle.cb_protocol.specs.WaitsFor.{on_cycle}
use Rattle.cb_protocol.specs.World.{messages_sent}
use Rattle.cb_server.specs.Answering.{CanAnswer, CanSayTo, CanSettle, HasLimits, HasRoom, LacksNumber, Makes, answer_to, copies_for_body, messages_for_body, messages_in_all, read_asks_in_all, server_in}
use Rattle.cb_server.specs.declared.engine.Engine.{Engine}
use Rattle.cb_server.proofs.Counting.{Costs, admission, admission_costs, answer_costs, at_least_one, begins_as_many, begins_quietly, begins_with_fewer, begins_with_less, begins_with_no_copy, most, reads}

-- steps that cost no more than there is room for leave room for settling
settles_by : (old new : Engine) (f : Server → List ServerStep) (m k : ℕ) → HasRoom old (messages_in_all old + m) (read_asks_in_all old + k) → Makes old f new
    → Costs (server_in old) (f (server_in old)) m k → HasGrantsLeft (server_after (server_in old) (f (server_in old))) → CanSettle new
settles_by old new f m k room makes costs grants = record {
  frames =
      let more = ap (λ (x : List Message). length x) makes.says.sends ∙ length-append old.outbox.sent (messages_sent (f (server_in old))) in
      let cost = costs.sends in let same = makes.says.room in let had = room.frames in
      let now = ap most makes.says.becomes in
      omega (arith, more, cost, same, had, now);
  copies_of_pages =
      let now = ap reads makes.says.becomes in
      let cost = costs.copies in let spare = makes.says.spare in let had = room.copies_of_pages in
      omega (arith, now, cost, spare, had);
  grants = subst HasGrantsLeft (sym makes.says.becomes) grants;
  size = makes.says.page_size ∙ room.size ∙ sym makes.stays.page_size;
}

answer_leaves : (s : Server) (c : ℕ) (b : Body) → Costs s (answer_to on_cycle c b s) (messages_for_body s.clients b) (copies_for_body b)
answer_leaves s c b = record { sends = few; copies = kept }
  where
    first : List ServerStep
    first = begin_transaction s c (named_txn b)

    next : List ServerStep
    next = direct_answer on_cycle (server_after s first) c b

    cost : Costs (server_after s first) next (messages_for_body (server_after s first).clients b) (copies_for_body b)
    cost = answer_costs on_cycle (server_after s first) c b

    sent : messages_sent (first ++ next) ≡ messages_sent next
    sent = sent_append first next ∙ ap (λ (l : List Message). l ++ messages_sent next) (begins_quietly s c (named_txn b))

    few : length (messages_sent (first ++ next)) + most (server_after s (first ++ next)) ≤ most s + messages_for_body s.clients b
    few =
        let said = ap (λ (l : List Message). length l) sent in
        let fewer = begins_with_less s c (named_txn b) in
        let after = ap most (after_append s first next) in
        let costs = cost.sends in
        let many = ap (λ (n : ℕ). messages_for_body n b) (begins_as_many s c (named_txn b)) in
        omega (arith, said, fewer, after, costs, many)

    kept : copies_sent (first ++ next) + reads (server_after s (first ++ next)) ≤ reads s + copies_for_body b
    kept =
        let all = copies_append first next in
        let none = begins_with_no_copy s c (named_txn b) in
        let fewer = begins_with_fewer s c (named_txn b) in
        let after = ap reads (after_append s first next) in
        let costs = cost.copies in
        omega (arith, all, none, fewer, after, costs)

pub settles_after_answer : (old new : Engine) (c : ℕ) (b : Body) → CanAnswer old b → LacksNumber old c b false → Makes old (answer_to on_cycle c b) new → CanSettle new
settles_after_answer old new c b room left makes =
    settles_by old new (answer_to on_cycle c b) (messages_for_body s.clients b) (copies_for_body b) room makes (answer_leaves (server_in old) c b)
    (subst HasGrantsLeft (sym (after_append s (begin_transaction s c (named_txn b)) (direct_answer on_cycle (server_after s (begin_transaction s c (named_txn b))) c b)))
    (left_at_answer on_cycle (server_after s (begin_transaction s c (named_txn b))) c b (left_at_begin s c (named_txn b) room.grants) left))
  where
    s : Server
    s = server_in old

pub settles_after_admission : (old new : Engine) (c i : ℕ) → CanAnswer old Hello → Makes old (λ s. admission c i) new → CanSettle new
settles_after_admission old new c i room makes =
    settles_by old new (λ s. admission c i) 1 0 room makes (admission_costs (server_in old) c i) (left_at_admission (server_in old) c i room.grants)

-- room for so much as the body can need
pub can_answer : (old mid : Engine) (limits : Bounds) (b : Body) (messages copies : ℕ) → HasLimits old limits → server_in mid ≡ server_in old
    → messages ≡ messages_for_body limits.clients b → copies ≡ copies_for_body b
    → HasRoom mid (messages_in_all mid + messages) (read_asks_in_all mid + copies) → CanAnswer mid b
can_answer old mid limits b messages copies of same is also room =
    subst (λ (n : ℕ). HasRoom mid (messages_in_all mid + n) (read_asks_in_all mid + copies_for_body b))
    (is ∙ ap (λ (n : ℕ). messages_for_body n b) (sym (ap (λ (s : Server). s.clients) same ∙ of.clients)))
    (subst (λ (n : ℕ). HasRoom mid (messages_in_all mid + messages) (read_asks_in_all mid + n)) also room)

-- where nobody waits, settling needs nothing
pub none_at : (n m : ℕ) → n + m ≡ 0 → (n ≡ 0) × (m ≡ 0)
none_at n m e = (omega (arith, e), omega (arith, e))

no_messages : (clients : ℕ) (q : List WaitingAsk) → length q ≡ 0 → messages_for_queue clients q ≡ 0
no_messages clients [] e = refl
no_messages clients (a ∷ q) e = absurd (omega (arith, e))

no_reads : (q : List WaitingAsk) → length q ≡ 0 → read_asks_in q ≡ 0
no_reads [] e = refl
no_reads (a ∷ q) e = absurd (omega (arith, e))

pub no_messages_below : (s : Server) (end : ℕ) → asks_below s end ≡ 0 → messages_for_pages s end ≡ 0
no_messages_below s zero e = refl
no_messages_below s (suc page) e =
    let both = none_at (asks_below s page) (length (s.queue page)) e in
    let rest = no_messages_below s page both.0 in let here = no_messages s.clients (s.queue page) both.1 in omega (arith, rest, here)

pub no_reads_below : (s : Server) (end : ℕ) → asks_below s end ≡ 0 → read_asks_below s end ≡ 0
no_reads_below s zero e = refl
no_reads_below s (suc page) e =
    let both = none_at (asks_below s page) (length (s.queue page)) e in
    let rest = no_reads_below s page both.0 in let here = no_reads (s.queue page) both.1 in omega (arith, rest, here)

-- and where settling needs nothing, nobody waits
asks_in : (clients : ℕ) (q : List WaitingAsk) → length q ≤ messages_for_queue clients q
asks_in clients [] = omega arith
asks_in clients (a ∷ q) = let one = at_least_one clients a.write_grant in let rest = asks_in clients q in omega (arith, one, rest)

sums : (a b m n : ℕ) → a ≤ m → b ≤ n → a + b ≤ m + n
sums a b m n k l = omega (arith, k, l)

asks_cost : (s : Server) (end : ℕ) → asks_below s end ≤ messages_for_pages s end
asks_cost s zero = omega arith
asks_cost s (suc page) =
    sums (asks_below s page) (length (s.queue page)) (messages_for_pages s page) (messages_for_queue s.clients (s.queue page)) (asks_cost s page) (asks_in s.clients (s.queue page))

equal : (i n : ℕ) → i ≡ n → (i == n) ≡ true
equal i n e = grind (arith, nat_tests)

unequal : (i n : ℕ) → i ≢ n → (i == n) ≡ false
unequal i n ne = grind (arith, nat_tests)

pub nobody_by : (s : Server) (room answers : ℕ) → room ≡ messages_for_pages s s.pages + answers → (room == answers) ≡ (asks_below s s.pages == 0)
nobody_by s room answers is = go (asks_below s s.pages) (asks_cost s s.pages) (no_messages_below s s.pages)
  where
    go : (asks : ℕ) → asks ≤ messages_for_pages s s.pages → (asks ≡ 0 → messages_for_pages s s.pages ≡ 0) → (room == answers) ≡ (asks == 0)
    go zero cost none = let nothing = none refl in equal room answers (omega (arith, is, nothing)) ∙ sym (equal 0 0 refl)
    go (suc asks) cost none = unequal room answers (λ same. omega (arith, is, cost, same)) ∙ sym (unequal (suc asks) 0 (λ same. omega (arith, same)))

-- what can't be refused for nothing is refused for something
pub some_asked : (n : ℕ) → (n ≡ 0 → false ≡ true) → 0 < n
some_asked zero f = absurd (true≢false (sym (f refl)))
some_asked (suc n) f = omega arith

-- there is room for the answer alone
pub can_say_to : (e : Engine) (b : Body) → CanAnswer e b → CanSayTo b e
can_say_to e (AskRead t p) r = record {
  say = record { frames = let f = r.frames in omega (arith, f) };
  copy = let k = r.copies_of_pages in omega (arith, k);
  size = r.size;
}
can_say_to e (AskWrite t p g) r = record { frames = let f = r.frames in omega (arith, f) }
can_say_to e (Commit t ws) r = record { frames = let f = r.frames in omega (arith, f) }
can_say_to e _ r = tt
