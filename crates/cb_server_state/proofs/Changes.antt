-- What is said with a change, to the protocol's server.
use Rattle.std.proofs.Common.{◌≡◌, ℕ, Bool, true, ◌<◌, ◌-◌, List, [], ◌∷◌, ◌++◌, length, refl, sym, ◌∙◌, arith}
use Rattle.std.specs.Prelude.{slice_set}
use Rattle.std.proofs.lemmas.Bool.Decides.{nat_tests}
use Rattle.std.proofs.lemmas.List.{append-nil}
use Rattle.std.proofs.Math.ListN.{length-set}
use Rattle.cb_asks.specs.Asks.{AsksState, Leaves, Removes, queue_at}
use Rattle.cb_asks.specs.Marks.{MarksState, is_in_use}
use Rattle.cb_directory.specs.Directories.{DirectoryState, Grants}
use Rattle.cb_links.specs.Changes as links
use Rattle.cb_links.specs.Changes.{is_live_transaction, session_of}
use Rattle.cb_links.specs.declared.sessions.Session.{Session}
use Rattle.cb_links.specs.declared.sessions.Transaction.{Transaction}
use Rattle.cb_links.specs.declared.sessions.Transaction.TheVariants.{NotBegun, Live, Ended}
use Rattle.cb_outbox.specs.Saying.{OutboxState, Says}
use Rattle.cb_protocol.specs.Messages.{AbortNow, Granted, MayWrite, Message}
use Rattle.cb_protocol.specs.Server.{ChangeSession, Doom, LeaveQueue, RemoveAsk, WaitingAsk, server_after}
use Rattle.cb_protocol.specs.Session.{PermitWrite, has_live_txn}
use Rattle.cb_protocol.specs.Settling.{doom_client, give_permission}
use Rattle.cb_server_state.specs.Granting.{grant_copy}
use Rattle.cb_server_state.specs.States.{Does, HasClient, PartsAgree, begun_txn, client_session, server_of, transaction_of}
use Rattle.cb_server_state.specs.declared.server_state.ServerState.{ServerState}
use Rattle.cb_server_state.proofs.Alike.{same_server}
use Rattle.cb_server_state.proofs.Steps.{grants_row, lives, session_set}

-- other queues
pub queued : (v : ServerState) (asks : AsksState) (queue : ℕ → List WaitingAsk) → ((page : ℕ) → queue_at asks page ≡ queue page)
    → server_of (record v { asks = asks }) ≡ record (server_of v) { queue = queue }
queued v asks queue same = λ i. record (server_of v) { queue = λ page. same page i }

-- other marks
pub marked : (v : ServerState) (marks : MarksState) (in_use : ℕ → ℕ → Bool) → ((client page : ℕ) → is_in_use marks client page ≡ in_use client page)
    → server_of (record v { marks = marks }) ≡ record (server_of v) { in_use = in_use }
marked v marks in_use same = λ i. record (server_of v) { in_use = λ client page. same client page i }

-- with as many queues, or as many marks, the parts agree as before
pub agree_asks : (v : ServerState) (asks : AsksState) → PartsAgree v → length asks.queues ≡ length v.asks.queues → PartsAgree (record v { asks = asks })
agree_asks v asks agree pages = record {
  clients = agree.clients;
  pages = agree.pages;
  numbered = agree.numbered;
  queues = pages ∙ agree.queues;
  marked_clients = agree.marked_clients;
  marked_pages = agree.marked_pages;
}

pub agree_marks : (v : ServerState) (marks : MarksState) → PartsAgree v → length marks.by_client ≡ length v.marks.by_client
    → length marks.by_page ≡ length v.marks.by_page → PartsAgree (record v { marks = marks })
agree_marks v marks agree clients pages = record {
  clients = agree.clients;
  pages = agree.pages;
  numbered = agree.numbered;
  queues = agree.queues;
  marked_clients = clients ∙ agree.marked_clients;
  marked_pages = pages ∙ agree.marked_pages;
}

-- a permission given
pub gives : (before after : ServerState) (client page grant : ℕ) (said : Message) (old new : OutboxState)
    → Does before (ChangeSession client (PermitWrite page grant) ∷ []) after
    → said ≡ record { client = client; incarnation = ((server_of before).session client).current; body = MayWrite ((server_of before).session client).txn page grant }
    → new ≡ record old { sent = old.sent ++ said ∷ [] }
    → Says (server_of before) (λ server. give_permission server client page grant) (server_of after) old new
gives before after client page grant said old new does is put = rw (put, is) (record {
  becomes = does.becomes;
  sends = refl;
  room = refl;
  spare = omega arith;
  page_size = refl;
})

-- the first ask of a page leaves
pub leaves_first : (before : ServerState) (asks : AsksState) (page : ℕ) (a : OutboxState) → Leaves before.asks page asks
    → Says (server_of before) (λ server. LeaveQueue page ∷ []) (server_of (record before { asks = asks })) a a
leaves_first before asks page a leaves = record {
  becomes = queued before asks _ leaves.has.queues;
  sends = sym (append-nil a.sent);
  room = refl;
  spare = omega arith;
  page_size = refl;
}

-- a copy granted
pub grants : (before : ServerState) (d : DirectoryState) (client page : ℕ) (said : Message) (old new : OutboxState)
    → Grants before.directory client page d
    → said ≡ record {
      client = client;
      incarnation = ((server_of before).session client).current;
      body = Granted page (server_of before).next_grant ((server_of before).store.version page) ((server_of before).store.bytes page);
    }
    → 0 < old.spare → new ≡ record old { sent = old.sent ++ said ∷ []; spare = old.spare - 1 }
    → Says (server_of before) (λ server. grant_copy server page client) (server_of (record before { directory = d })) old new
grants before d client page said old new granted is some put = rw (put, is) (record {
  becomes = (grants_row before client page d granted).becomes;
  sends = refl;
  room = refl;
  spare = omega (arith, some);
  page_size = refl;
})

-- a live transaction that is the victim of a deadlock
doomed_is : (s : Session) → is_live_transaction s.transaction ≡ true → links.doomed s ≡ record s { transaction = Live (begun_txn s.transaction) true }
doomed_is s live = by_transaction s.transaction live
  where
    by_transaction : (t : Transaction) → is_live_transaction t ≡ true
        → links.with_transaction s (links.doomed_transaction t) ≡ record s { transaction = Live (begun_txn t) true }
    by_transaction NotBegun e = cc
    by_transaction (Live txn is_doomed) e = refl
    by_transaction (Ended txn last) e = cc

-- as far as the protocol sees them, the sessions are as they were
pub doomed_becomes : (v : ServerState) (c : ℕ) (asks : AsksState) → PartsAgree v → HasClient v c → has_live_txn (client_session v c) ≡ true
    → Removes v.asks c asks
    → server_of (record v { sessions = slice_set v.sessions c (links.doomed (session_of v.sessions c)); asks = asks })
    ≡ server_after (server_of v) (RemoveAsk c ∷ Doom c ∷ [])
doomed_becomes v c asks agree h live removes = rw is (same_server _ _ (record {
  holder = λ page. refl;
  tag = λ page. refl;
  keep_write = refl;
  version = λ page. refl;
  bytes = λ page. refl;
  last_commit = refl;
  commit_number = λ client incarnation txn. refl;
  current = λ client. grind (arith, nat_tests, session_set v.sessions c client s h);
  row = λ client page. refl;
  txn = λ client. grind (arith, nat_tests, session_set v.sessions c client s h);
  ended = λ client. grind (arith, nat_tests, session_set v.sessions c client s h, known);
  queue = removes.has.queues;
  in_use = λ client page. refl;
  doomed = λ client. grind (arith, nat_tests, session_set v.sessions c client s h);
  outcome = λ client. grind (arith, nat_tests, session_set v.sessions c client s h, known);
  next_grant = refl;
  commits = refl;
  flushed = refl;
  clients = length-set v.sessions c s;
  pages = refl;
}))
  where
    known : is_live_transaction (transaction_of v c) ≡ true
    known = sym (lives v c agree) ∙ live

    s : Session
    s = record (session_of v.sessions c) { transaction = Live (begun_txn (transaction_of v c)) true }

    is : links.doomed (session_of v.sessions c) ≡ s
    is = doomed_is (session_of v.sessions c) known

-- a client doomed
pub dooms : (v : ServerState) (c : ℕ) (asks : AsksState) (said : Message) (old new : OutboxState)
    → PartsAgree v → HasClient v c → has_live_txn (client_session v c) ≡ true → Removes v.asks c asks
    → said ≡ record { client = c; incarnation = ((server_of v).session c).current; body = AbortNow ((server_of v).session c).txn }
    → new ≡ record old { sent = old.sent ++ said ∷ [] }
    → Says (server_of v) (λ server. doom_client server c)
    (server_of (record v { sessions = slice_set v.sessions c (links.doomed (session_of v.sessions c)); asks = asks })) old new
dooms v c asks said old new agree h live removes is put = rw (put, is) (record {
  becomes = doomed_becomes v c asks agree h live removes;
  sends = refl;
  room = refl;
  spare = omega arith;
  page_size = refl;
})
