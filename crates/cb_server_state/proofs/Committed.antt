-- Commits and flushes, in the words of the commits' crate and of the protocol.
use Rattle.std.proofs.Common.{◌≡◌, ℕ, ◌<◌, ◌+◌, ◌==◌, Bool, true, false, ◌&&◌, nat_lt, nat_le, List, [], ◌∷◌, ◌++◌, Option, Some, None, length, map, reverse, zero, suc, refl, sym, ap, ◌∙◌, arith, if◌then◌else◌, inl, inr}
use Rattle.std.specs.List.{All}
use Rattle.std.specs.Option.{option_map}
use Rattle.std.specs.Prelude.{slice_index_or, slice_set}
use Rattle.std.proofs.lemmas.Bool.{cases_eq}
use Rattle.std.proofs.lemmas.Bool.Decides.{nat_tests}
use Rattle.std.proofs.lemmas.List.{append-nil, append_assoc, get_or-set_other, get_or-set_same, length-set, map-append, map_push, reverse-append}
use Rattle.cb_commit.specs.Batches.{changed_below, taken}
use Rattle.cb_commit.specs.History as commits_history
use Rattle.cb_commit.specs.History.{CanFlush, CommitsState, FitsInto, WritesInto, done_of, rewritten}
use Rattle.cb_commit.specs.Stores.{StoreState, no_page}
use Rattle.cb_commit.specs.declared.commit.Commit.{Commit}
use Rattle.cb_commit.specs.declared.store.StoredPage.{StoredPage}
use Rattle.cb_frame.specs.Grammar.{page_of}
use Rattle.cb_frame.specs.declared.frame.Frame.{Frame}
use Rattle.cb_frame.specs.declared.writes.Write.{Write}
use Rattle.cb_page.specs.Rising.{RisesFrom}
use Rattle.cb_protocol.specs.Flush as protocol
use Rattle.cb_protocol.specs.Messages.{Done, PageWrite, write_of_page}
use Rattle.cb_protocol.specs.Server.{AppliedCommit, Send, Server, ServerStep, SetFlushed, after_server_step, server_after}
use Rattle.cb_protocol.specs.Session.{new_bytes, new_version}
use Rattle.cb_protocol.specs.World.{messages_sent}
use Rattle.cb_protocol.proofs.Cases.{sent_append, server_after_append}
use Rattle.cb_server_state.specs.States.{Does, newest_first, server_of}
use Rattle.cb_server_state.specs.declared.server_state.ServerState.{ServerState}
use Rattle.cb_server_state.specs.Commits.{applied_commit, batch_of, batch_page}
use Rattle.cb_outbox.specs.Messages.{message_of, messages_of, page_writes}

-- the newest commit is first in the server's list
pub newest : (cs : List Commit) (c : Commit)
    → newest_first (cs ++ c ∷ []) ≡ applied_commit c ∷ newest_first cs
newest cs c =
    ap (λ (xs : List AppliedCommit). reverse xs) (map_push applied_commit cs c)
    ∙ reverse-append (map applied_commit cs) (applied_commit c ∷ [])

-- the first commit is last in it
pub oldest : (c : Commit) (cs : List Commit)
    → newest_first (c ∷ cs) ≡ newest_first cs ++ applied_commit c ∷ []
oldest c cs = reverse-append (applied_commit c ∷ []) (map applied_commit cs)

-- the page after a commit of that number, by what it wrote of it
abbrev page_after : Option PageWrite → ℕ → StoredPage → StoredPage
page_after None number old = old
page_after (Some write) number old = record { version = number; bytes = write.bytes }

-- rising writes have no page below the first
not_written : (ws : List Write) (least page : ℕ) → RisesFrom least (map page_of ws) → page < least
    → write_of_page (page_writes ws) page ≡ None
not_written [] least page rises lt = refl
not_written (w ∷ ws) least page rises lt =
    let apart : (w.page == page) ≡ false = grind (arith, nat_tests, rises.0) in
    rw apart (not_written ws (w.page + 1) page rises.1 (omega (arith, rises.0)))

-- each page is as its one write made it, or as it was
rewritten_page : (ws : List Write) (number : ℕ) (pages : List StoredPage) (least page : ℕ)
    → RisesFrom least (map page_of ws) → All (λ w. w.page < length pages) ws
    → slice_index_or (rewritten number pages ws) page no_page
    ≡ page_after (write_of_page (page_writes ws) page) number (slice_index_or pages page no_page)
rewritten_page [] number pages least page rises all = refl
rewritten_page (w ∷ ws) number pages least page rises all =
    rewritten_page ws number next (w.page + 1) page rises.1
    (λ k d lt. rw (length-set pages w.page new) (all (suc k) d (omega (arith, lt))))
    ∙ elim (cases_eq page w.page) [
      | inl here ↦
          let none = not_written ws (w.page + 1) page rises.1 (omega (arith, here)) in
          let same : (w.page == page) ≡ true = grind (arith, nat_tests, here) in
          let put : slice_index_or next page no_page ≡ new =
          rw here (get_or-set_same pages w.page new no_page (all zero w (omega arith))) in
          rw (none, same) put
      | inr apart ↦
          let other : (w.page == page) ≡ false = grind (arith, nat_tests, apart) in
          rw other (ap (λ (old : StoredPage). page_after (write_of_page (page_writes ws) page) number old)
          (get_or-set_other pages w.page page new no_page apart))
    ]
  where
    new : StoredPage
    new = record { version = number; bytes = w.bytes }

    next : List StoredPage
    next = slice_set pages w.page (record { version = number; bytes = w.bytes })

pages_in : (s : StoreState) (ws : List Write) → FitsInto s ws → All (λ w. w.page < length s.pages) ws
pages_in s ws fit k d lt = (fit.pages k d lt).page

version_after : (o : Option PageWrite) (number : ℕ) (old : StoredPage)
    → (page_after o number old).version ≡ new_version o number old.version
version_after None number old = refl
version_after (Some write) number old = refl

bytes_after : (o : Option PageWrite) (number : ℕ) (old : StoredPage)
    → (page_after o number old).bytes ≡ new_bytes o old.bytes
bytes_after None number old = refl
bytes_after (Some write) number old = refl

-- a page's version and bytes after a commit
pub version_written : (s : StoreState) (ws : List Write) (number page : ℕ) → FitsInto s ws
    → (slice_index_or (rewritten number s.pages ws) page no_page).version
    ≡ new_version (write_of_page (page_writes ws) page) number (slice_index_or s.pages page no_page).version
version_written s ws number page fit =
    ap (λ (p : StoredPage). p.version) (rewritten_page ws number s.pages 0 page fit.rising (pages_in s ws fit))
    ∙ version_after (write_of_page (page_writes ws) page) number (slice_index_or s.pages page no_page)

pub bytes_written : (s : StoreState) (ws : List Write) (number page : ℕ) → FitsInto s ws
    → (slice_index_or (rewritten number s.pages ws) page no_page).bytes
    ≡ new_bytes (write_of_page (page_writes ws) page) (slice_index_or s.pages page no_page).bytes
bytes_written s ws number page fit =
    ap (λ (p : StoredPage). p.bytes) (rewritten_page ws number s.pages 0 page fit.rising (pages_in s ws fit))
    ∙ bytes_after (write_of_page (page_writes ws) page) number (slice_index_or s.pages page no_page)

-- the pages of a batch
pub changed : (v : ServerState) (end : ℕ)
    → map batch_page (changed_below v.commits.flushed v.commits.store.pages end)
    ≡ protocol.changed_pages (server_of v) end
changed v zero = refl
changed v (suc page) =
    map-append batch_page (changed_below v.commits.flushed v.commits.store.pages page)
    (if nat_lt v.commits.flushed (slice_index_or v.commits.store.pages page no_page).version
    then taken v.commits.store.pages page ∷ [] else [])
    ∙ (λ i. changed v page i ++ one (nat_lt v.commits.flushed (slice_index_or v.commits.store.pages page no_page).version) i)
  where
    one : (b : Bool) → map batch_page (if b then taken v.commits.store.pages page ∷ [] else [])
        ≡ (if b then protocol.stored_page (server_of v) page ∷ [] else [])
    one true = refl
    one false = refl

-- what is to be written next
pub batches : (v : ServerState)
    → option_map batch_of (commits_history.next_batch v.commits) ≡ protocol.next_batch (server_of v)
batches v = by_test (nat_lt v.commits.flushed v.commits.store.number)
  where
    by_test : (b : Bool) → option_map batch_of (if b then Some (record {
      number = v.commits.store.number;
      pages = changed_below v.commits.flushed v.commits.store.pages (length v.commits.store.pages);
    }) else None) ≡ (if b then Some (record {
      number = v.commits.store.number;
      pages = protocol.changed_pages (server_of v) (length v.commits.store.pages);
    }) else None)
    by_test true = λ i. Some (record {
      number = v.commits.store.number;
      pages = changed v (length v.commits.store.pages) i;
    })
    by_test false = refl

-- that commit was made and isn't on disk, in the words of the commits
pub may_flush : (v : ServerState) (number : ℕ) → protocol.can_flush (server_of v) number ≡ true → CanFlush v.commits number
may_flush v number can = record { above = grind (arith, nat_tests, can); there = grind (arith, nat_tests, can) }

-- the Done of one commit, if it is in the range
abbrev done_if : ℕ → ℕ → AppliedCommit → List ServerStep
done_if above last commit = if nat_lt above commit.number && nat_le commit.number last
    then Send commit.client commit.incarnation (Done commit.txn commit.number) ∷ [] else []

dones_end : (xs : List AppliedCommit) (y : AppliedCommit) (above last : ℕ)
    → protocol.dones_between (xs ++ y ∷ []) above last
    ≡ done_if above last y ++ protocol.dones_between xs above last
dones_end [] y above last = sym (append-nil (done_if above last y))
dones_end (x ∷ xs) y above last =
    ap (λ (steps : List ServerStep). steps ++ done_if above last x) (dones_end xs y above last)
    ∙ append_assoc (done_if above last y) (protocol.dones_between xs above last) (done_if above last x)

-- the frames of the Dones say the protocol's messages
pub dones : (cs : List Commit) (above last : ℕ)
    → messages_of (commits_history.dones_between above last cs)
    ≡ messages_sent (protocol.dones_between (newest_first cs) above last)
dones [] above last = refl
dones (c ∷ cs) above last =
    map-append message_of one (commits_history.dones_between above last cs)
    ∙ ((λ i. said (nat_lt above c.number && nat_le c.number last) i ++ dones cs above last i)
    ∙ (sym (sent_append (done_if above last (applied_commit c)) (protocol.dones_between (newest_first cs) above last))
    ∙ ap messages_sent (sym (dones_end (newest_first cs) (applied_commit c) above last)
    ∙ ap (λ (xs : List AppliedCommit). protocol.dones_between xs above last) (sym (oldest c cs)))))
  where
    one : List Frame
    one = if nat_lt above c.number && nat_le c.number last then done_of c ∷ [] else []

    said : (b : Bool) → messages_of (if b then done_of c ∷ [] else [])
        ≡ messages_sent (if b then Send c.client c.incarnation (Done c.txn c.number) ∷ [] else [])
    said true = refl
    said false = refl

-- Dones leave the server as it is
dones_still : (s : Server) (xs : List AppliedCommit) (above last : ℕ)
    → server_after s (protocol.dones_between xs above last) ≡ s
dones_still s [] above last = refl
dones_still s (x ∷ xs) above last =
    server_after_append s (protocol.dones_between xs above last) (done_if above last x)
    ∙ (ap (λ (t : Server). server_after t (done_if above last x)) (dones_still s xs above last)
    ∙ one (nat_lt above x.number && nat_le x.number last))
  where
    one : (b : Bool) → server_after s (if b then Send x.client x.incarnation (Done x.txn x.number) ∷ [] else []) ≡ s
    one true = refl
    one false = refl

-- what a flush makes of the server
pub flushes : (s : Server) (number : ℕ)
    → record s { flushed = number } ≡ server_after s (protocol.server_flush s number)
flushes s number =
    sym (server_after_append s (protocol.dones_between s.commits s.flushed number) (SetFlushed number ∷ [])
    ∙ ap (λ (t : Server). after_server_step t (SetFlushed number)) (dones_still s s.commits s.flushed number))

-- and what it says
pub flush_says : (s : Server) (number : ℕ)
    → messages_sent (protocol.server_flush s number)
    ≡ messages_sent (protocol.dones_between s.commits s.flushed number)
flush_says s number =
    sent_append (protocol.dones_between s.commits s.flushed number) (SetFlushed number ∷ [])
    ∙ append-nil (messages_sent (protocol.dones_between s.commits s.flushed number))

-- the state with other commits on disk
pub flushed_does : (v : ServerState) (number : ℕ)
    → Does v (protocol.server_flush (server_of v) number)
    (record v { commits = record v.commits { flushed = number } })
flushed_does v number = record {
  becomes = flushes (server_of v) number;
  stays = record { keep_write = refl; clients = refl; pages = refl; page_size = refl; opening = refl; forgotten = refl };
  room = λ page. omega arith;
}

-- the frames of a flush say what the protocol's server says
pub flush_frames : (v : ServerState) (number : ℕ)
    → messages_of (commits_history.dones_between v.commits.flushed number v.commits.commits)
    ≡ messages_sent (protocol.server_flush (server_of v) number)
flush_frames v number =
    dones v.commits.commits v.commits.flushed number ∙ sym (flush_says (server_of v) number)
