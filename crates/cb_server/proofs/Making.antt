-- Steps of the engine, one after another, and what one change of its tables is.
use Rattle.std.proofs.Common.{◌≡◌, ◌≤◌, ◌+◌, ℕ, nat_lt, Bool, true, false, if◌then◌else◌, List, [], ◌∷◌, ◌++◌, length, Result, Ok, Err, OnOk, OnErr, refl, sym, ap, ◌∙◌, subst, arith}
use Rattle.std.proofs.lemmas.Bool.Decides.{nat_tests}
use Rattle.std.proofs.lemmas.List.{append-nil, append_assoc}
use Rattle.cb_server_state.proofs.Later.{stays_then}
use Rattle.cb_server_state.specs.States.{Does, Stays}
use Rattle.cb_server_state.specs.declared.server_state.ServerState.{ServerState}
use Rattle.cb_outbox.proofs.Saying.{after_append, says_as, says_nothing, says_then}
use Rattle.cb_outbox.specs.Saying.{OutboxState}
use Rattle.cb_protocol.proofs.ServedSteps.{tells_again, tells_only}
use Rattle.cb_protocol.proofs.SettlingClears.{after_sends}
use Rattle.cb_protocol.specs.Messages.{Body, Message, Welcome}
use Rattle.cb_protocol.specs.Numbers.{copies_sent}
use Rattle.cb_protocol.specs.Resend.{server_again}
use Rattle.cb_protocol.specs.Server.{ChangeSession, DeadlockTest, ForgetTransaction, Send, Server, ServerStep, server_after}
use Rattle.cb_protocol.specs.Session.{Admit, BeginTransaction}
use Rattle.cb_protocol.specs.ServerMessages.{and_then, begin_transaction, direct_answer, named_txn, take_current}
use Rattle.cb_protocol.specs.Settling.{settle_pages}
use Rattle.cb_protocol.specs.WaitsFor.{on_cycle}
use Rattle.cb_protocol.specs.World.{messages_sent}
use Rattle.cb_server.specs.Answering.{Begins, IsLeft, Makes, Serves, answer_to, most_room, server_in}
use Rattle.cb_server.specs.ServerValue.{most_frames}
use Rattle.cb_server.specs.declared.engine.Engine.{Engine}

pub stays_same : (h : ServerState) → Stays h h
stays_same h = record { keep_write = refl; clients = refl; pages = refl; page_size = refl; opening = refl; forgotten = refl }

pub makes_nothing : (e : Engine) → Makes e (λ s. []) e
makes_nothing e = record { says = says_nothing (server_in e) e.outbox; stays = stays_same e.callbacks.state }

pub makes_then : (old mid new : Engine) (f g : Server → List ServerStep) → Makes old f mid → Makes mid g new → Makes old (λ s. and_then s (f s) g) new
makes_then old mid new f g a b = record {
  says = says_then (server_in old) (server_in mid) (server_in new) f g old.outbox mid.outbox new.outbox a.says b.says;
  stays = stays_then old.callbacks.state mid.callbacks.state new.callbacks.state a.stays b.stays;
}

pub makes_as : (old new : Engine) (f g : Server → List ServerStep) → f (server_in old) ≡ g (server_in old) → Makes old g new → Makes old f new
makes_as old new f g e m = record { says = says_as (server_in old) (server_in new) f g old.outbox new.outbox e m.says; stays = m.stays }

-- a change of the tables that sends nothing
pub changes_make : (old new : Engine) (steps : List ServerStep) → Does old.callbacks.state steps new.callbacks.state
    → new.outbox ≡ old.outbox → messages_sent steps ≡ [] → copies_sent steps ≡ 0 → Makes old (λ s. steps) new
changes_make old new steps c o m k = record {
  says = record {
    becomes = c.becomes;
    sends = ap (λ (x : OutboxState). x.sent) o ∙ sym (ap (λ (l : List Message). old.outbox.sent ++ l) m ∙ append-nil old.outbox.sent);
    room = ap (λ (x : OutboxState). x.room) o;
    spare = let e = ap (λ (x : OutboxState). x.spare) o in omega (arith, e, k);
    page_size = ap (λ (x : OutboxState). x.page_size) o;
  };
  stays = c.stays;
}

-- a message of no transaction begins none
pub begins_none : (s : Server) (c : ℕ) → begin_transaction s c 0 ≡ []
begins_none s c = go (nat_lt (s.session c).txn 0) refl
  where
    go : (r : Bool) → nat_lt (s.session c).txn 0 ≡ r → (if r then ForgetTransaction c ∷ ChangeSession c (BeginTransaction 0) ∷ [] else []) ≡ []
    go true e = absurd (grind (arith, nat_tests))
    go false e = refl

pub alone : (cycle : DeadlockTest) (c : ℕ) (b : Body) (s : Server) → named_txn b ≡ 0 → answer_to cycle c b s ≡ direct_answer cycle s c b
alone cycle c b s e = ap (λ (l : List ServerStep). l ++ direct_answer cycle (server_after s l) c b)
    (ap (λ (t : ℕ). begin_transaction s c t) e ∙ begins_none s c)

-- an answer by its two parts
pub answers : (old mid new : Engine) (c t : ℕ) (b : Body) → named_txn b ≡ t → Begins old c t mid → Makes mid (λ s. direct_answer on_cycle s c b) new
    → Makes old (answer_to on_cycle c b) new
answers old mid new c t b e a m =
    makes_as old new (answer_to on_cycle c b) (λ s. and_then s (begin_transaction s c t) (λ s. direct_answer on_cycle s c b))
    (ap (λ (n : ℕ). and_then (server_in old) (begin_transaction (server_in old) c n) (λ s. direct_answer on_cycle s c b)) e)
    (makes_then old mid new (λ s. begin_transaction s c t) (λ s. direct_answer on_cycle s c b) a.makes m)

-- then all pages are settled
pub takes : (old mid new : Engine) (c : ℕ) (b : Body) → Makes old (answer_to on_cycle c b) mid → Makes mid (λ s. settle_pages on_cycle s s.pages) new
    → Makes old (λ s. take_current on_cycle s c b) new
takes old mid new c b a m =
    makes_as old new (λ s. take_current on_cycle s c b) (λ s. and_then s (answer_to on_cycle c b s) (λ s. settle_pages on_cycle s s.pages)) parts
    (makes_then old mid new (answer_to on_cycle c b) (λ s. settle_pages on_cycle s s.pages) a m)
  where
    s : Server
    s = server_in old

    first : List ServerStep
    first = begin_transaction s c (named_txn b)

    next : List ServerStep
    next = direct_answer on_cycle (server_after s first) c b

    parts : first ++ (next ++ settle_pages on_cycle (server_after (server_after s first) next) (server_after (server_after s first) next).pages)
        ≡ (first ++ next) ++ settle_pages on_cycle (server_after s (first ++ next)) (server_after s (first ++ next)).pages
    parts = sym (append_assoc first next (settle_pages on_cycle (server_after (server_after s first) next) (server_after (server_after s first) next).pages))
        ∙ ap (λ (t : Server). (first ++ next) ++ settle_pages on_cycle t t.pages) (sym (after_append s first next))

-- where only room for asks had changed
pub stays_left : (old mid new : ServerState) → mid ≡ record old { asks = mid.asks } → Stays mid new → Stays old new
stays_left old mid new rest s = record {
  keep_write = s.keep_write ∙ ap (λ (h : ServerState). h.keep_write) rest;
  clients = s.clients ∙ ap (λ (h : ServerState). length h.sessions) rest;
  pages = s.pages ∙ ap (λ (h : ServerState). length h.commits.store.pages) rest;
  page_size = s.page_size ∙ ap (λ (h : ServerState). h.commits.store.page_size) rest;
  opening = s.opening ∙ ap (λ (h : ServerState). h.commits.opening) rest;
  forgotten = s.forgotten ∙ ap (λ (h : ServerState). h.commits.forgotten) rest;
}

-- where room was made before
pub serves : (old mid new : Engine) (f : Server → List ServerStep) → IsLeft old mid → Makes mid f new → Serves old f new
serves old mid new f l m = record {
  becomes = m.says.becomes ∙ ap (λ (s : Server). server_after s (f s)) l.server;
  sends = m.says.sends ∙ (ap (λ (x : List Message). x ++ messages_sent (f (server_in mid))) l.sent
      ∙ ap (λ (s : Server). old.outbox.sent ++ messages_sent (f s)) l.server);
  stays = stays_left old.callbacks.state mid.callbacks.state new.callbacks.state l.rest m.stays;
  page_size = m.says.page_size ∙ l.page_size;
  few = λ few. let middle = l.few few in let spare = m.says.spare in omega (arith, middle, spare);
  room = λ little. let middle = l.room little in let same = m.says.room in omega (arith, middle, same);
}

pub serves_as : (old new : Engine) (f g : Server → List ServerStep) → f (server_in old) ≡ g (server_in old) → Serves old g new → Serves old f new
serves_as old new f g e m = record {
  becomes = m.becomes ∙ ap (λ (l : List ServerStep). server_after (server_in old) l) (sym e);
  sends = m.sends ∙ ap (λ (l : List ServerStep). old.outbox.sent ++ messages_sent l) (sym e);
  stays = m.stays;
  page_size = m.page_size;
  few = m.few;
  room = m.room;
}

pub serves_nothing : (e : Engine) → Serves e (λ s. []) e
serves_nothing e = record { becomes = refl; sends = sym (append-nil e.outbox.sent); stays = stays_same e.callbacks.state; page_size = refl; few = λ few. few; room = λ little. little }

-- what is said again changes nothing
pub serves_again : (e : Engine) → messages_sent (server_again (server_in e)) ≡ [] → Serves e server_again e
serves_again e none = record {
  becomes = sym (after_sends s (server_again s) (tells_only s.flushed (server_again s) (tells_again s.flushed s)));
  sends = sym (ap (λ (l : List Message). e.outbox.sent ++ l) none ∙ append-nil e.outbox.sent);
  stays = stays_same e.callbacks.state;
  page_size = refl;
  few = λ few. few;
  room = λ little. little;
}
  where
    s : Server
    s = server_in e

-- room for an ask's place is made before
pub reserved : (old res : Engine) → Does old.callbacks.state [] res.callbacks.state → res.outbox ≡ old.outbox → Makes old (λ s. []) res
reserved old res changes o = changes_make old res [] changes o refl refl

pub answers_reserved : (old res mid new : Engine) (c t : ℕ) (b : Body) → named_txn b ≡ t → Makes old (λ s. []) res → Begins res c t mid → Makes mid (λ s. direct_answer on_cycle s c b) new
    → Makes old (answer_to on_cycle c b) new
answers_reserved old res mid new c t b e r a m = makes_then old res new (λ s. []) (answer_to on_cycle c b) r (answers res mid new c t b e a m)

-- a greater incarnation is admitted and welcomed
pub admits : (old new : Engine) (c i : ℕ) → Does old.callbacks.state (ForgetTransaction c ∷ ChangeSession c (Admit i) ∷ []) new.callbacks.state
    → new.outbox ≡ record old.outbox { sent = old.outbox.sent ++ record { client = c; incarnation = i; body = Welcome } ∷ [] }
    → Makes old (λ s. ForgetTransaction c ∷ ChangeSession c (Admit i) ∷ Send c i Welcome ∷ []) new
admits old new c i changes o = record {
  says = record {
    becomes = changes.becomes;
    sends = ap (λ (x : OutboxState). x.sent) o;
    room = ap (λ (x : OutboxState). x.room) o;
    spare = let e = ap (λ (x : OutboxState). x.spare) o in omega (arith, e);
    page_size = ap (λ (x : OutboxState). x.page_size) o;
  };
  stays = changes.stays;
}

-- what is passed on where nothing is refused
pub on_ok : {X F : Type 0} (r : Result X F) {P Q : Type 0} → (P → Q) → OnOk r P → OnOk r Q
on_ok (Ok x) f p = f p
on_ok (Err x) f p = p

pub on_err : {X F : Type 0} (r : Result X F) {P Q : Type 0} → (P → Q) → OnErr r P → OnErr r Q
on_err (Ok x) f p = p
on_err (Err x) f p = f p

-- what holds anyway
pub if_err : {X F : Type 0} (r : Result X F) {P : Type 0} → P → OnErr r P
if_err (Ok x) p = tt
if_err (Err x) p = p

-- what is left is left again
pub left_then : (old mid new : Engine) → IsLeft old mid → IsLeft mid new → IsLeft old new
left_then old mid new a b = record {
  server = b.server ∙ a.server;
  rest = b.rest ∙ ap (λ (h : ServerState). record h { asks = new.callbacks.state.asks }) a.rest;
  sent = b.sent ∙ a.sent;
  page_size = b.page_size ∙ a.page_size;
  few = λ few. b.few (a.few few);
  room = λ little. subst (λ (n : ℕ). new.outbox.room ≤ n) same (b.room (subst (λ (n : ℕ). mid.outbox.room ≤ n) (sym same) (a.room little)));
}
  where
    same : most_room mid ≡ most_room old
    same = ap (λ (l : List Message). length l + most_frames (server_in mid)) a.sent ∙ ap (λ (s : Server). length old.outbox.sent + most_frames s) a.server
