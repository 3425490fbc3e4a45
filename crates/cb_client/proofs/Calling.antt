-- What the table says of reading, wanting and writing a page.
use Rattle.std.proofs.Common.{if◌then◌else◌, ◌≡◌, ◌<◌, ◌==◌, ◌&&◌, ℕ, Bool, true, false, List, [], ◌∷◌, ◌++◌, length, slice_set, Option, Some, None, unwrap_or, refl, sym, ◌∙◌, ap, subst}
use Rattle.std.proofs.Math.ListN.{length-set}
use Rattle.std.specs.Option.{is_some}
use Rattle.cb_page.specs.Flags.{has}
use Rattle.cb_protocol.proofs.Cases.{call_refused}
use Rattle.cb_protocol.specs.Answers as table
use Rattle.cb_protocol.specs.Basics.{Bytes, is_none}
use Rattle.cb_protocol.specs.Cache.{Read, WriteBytes}
use Rattle.cb_protocol.specs.Client.{ChangeCache, Client, MarkWanted, ReadAsk, Say, SetAsk, WriteAsk, bodies_said, client_after, has_room, new_client}
use Rattle.cb_protocol.specs.ClientCalls.{Call, CallRead, CallWant, CallWrite, Reply, call_fault, client_call, read_page, reply_with}
use Rattle.cb_protocol.specs.Messages.{AskRead, AskWrite}
use Rattle.cb_protocol.specs.Serial.{Operation, Saw}
use Rattle.cb_cache.specs.CacheState.{CacheState, client_with, content_at, copy_at}
use Rattle.cb_cache.specs.ByTable.{Does}
use Rattle.cb_cache.proofs.Changing.{put_entry}
use Rattle.cb_client_core.specs.ClientState.{ClientState, HasRoomLeft, IsClient, base_of, client_of, locks_with}
use Rattle.cb_client.specs.ByTable.{Called, Calls, IsRefusal, IsRefused, as_before, limits_at, messages_from, refusal}
use Rattle.cb_client.specs.CallAnswers.{Answers, after_read, after_read_here, bytes_at, page_asked, page_read, puts, read_ask, reads_here, sees}
use Rattle.cb_client_core.specs.declared.stage.PendingAsk.TheVariants as asks
use Rattle.cb_client.specs.declared.client_fault.ClientFault.{ClientFault}
use Rattle.cb_client.specs.declared.client_fault.ClientFault.TheVariants as fault
use Rattle.cb_client.proofs.CallSteps.{FindsNone, accepted, accepts, refused}
use Rattle.cb_client.proofs.Refusals.{FirstIs, FreeIs, fetch_full, fetch_here, fetch_is, fetch_room, fetch_shut, of_page, page_within}
use Rattle.cb_client_core.proofs.Keeping.{keeps}
use Rattle.cb_twoq.proofs.Called.{refers_more}
use Rattle.cb_twoq.specs.Calls.{references_in}
use Rattle.cb_twoq.specs.declared.chooser.ChooserCall.TheVariants.{Reference}
use Rattle.cb_client_core.proofs.Reaching.{calls_reach}

-- a refused call answers so, and changes nothing
pub refuses : (v : ClientState) (call : Call) (reason : table.ClientFault) → IsRefusal v call (Some reason) → Calls v call (table.Refused reason) [] as_before v
refuses v call reason r =
    let e : (ops : List Operation) → client_call (limits_at v) (client_of v ops) call ≡ reply_with (table.Refused reason) [] =
    λ ops. call_refused (limits_at v) (client_of v ops) call reason (r ops) in
    record {
      word = λ ops. ap (λ (a : Reply). a.word) (e ops);
      makes = record {
        said = λ ops. ap (λ (a : Reply). messages_from v (bodies_said a.steps)) (e ops);
        after = λ ops. ap (λ (a : Reply). client_after v.copies.limits.keep_write (client_of v ops) a.steps) (e ops);
        limits = refl;
        no = refl;
        incarnation = refl;
      };
      references = refl;
    }

some_bytes : (o : Option Bytes) → is_some o ≡ true → o ≡ Some (unwrap_or o [])
some_bytes None e = absurd cc
some_bytes (Some bytes) e = refl

no_bytes : (o : Option Bytes) → is_some o ≡ false → o ≡ None
no_bytes None e = refl
no_bytes (Some bytes) e = absurd cc

-- a read where the bytes are in the pool
pub reads : (v : ClientState) (page : ℕ) → FindsNone v (CallRead page) → page < length v.locks.locked → is_some (content_at v.copies page) ≡ true
    → Calls v (CallRead page) (table.AnsweredBytes (bytes_at v page)) [] (sees page (bytes_at v page)) (page_read v page)
reads v page h lt here = accepted v (page_read v page) (CallRead page) (table.AnsweredBytes (bytes_at v page)) (λ ops. ChangeCache (Read page (bytes_at v page)) ∷ []) [] (sees page (bytes_at v page)) (record {
  accepts = accepts v (CallRead page) h;
  reply = λ ops. ap (read_page (client_of v ops) page) (some_bytes (content_at v.copies page) here);
  said = λ ops. refl;
  after = λ ops i. record (client_of (page_read v page) (Saw page (bytes_at v page) ∷ ops)) {
    cache = record (client_of (page_read v page) (Saw page (bytes_at v page) ∷ ops)).cache {
      locked = λ q. put_entry false v.locks.locked page q true lt i;
    };
  };
  limits = refl;
  same_no = refl;
  same_incarnation = refl;
  references = ap (λ (b : Bool). references_in (if b then v.copies.pool.calls ++ (Reference page, v.copies.pool.fixed) ∷ [] else v.copies.pool.calls)) here
      ∙ refers_more v.copies.pool.calls page v.copies.pool.fixed;
})

-- a read where they are not
pub asks_read : (v : ClientState) (page : ℕ) → FindsNone v (CallRead page) → is_some (content_at v.copies page) ≡ false
    → Calls v (CallRead page) table.Asked (read_ask v page ∷ []) as_before (page_asked v page)
asks_read v page h out = accepted v (page_asked v page) (CallRead page) table.Asked (λ ops. SetAsk (ReadAsk page) ∷ Say (AskRead (unwrap_or v.txn 0) page) ∷ []) (read_ask v page ∷ []) as_before (record {
  accepts = accepts v (CallRead page) h;
  reply = λ ops. ap (read_page (client_of v ops) page) (no_bytes (content_at v.copies page) out);
  said = λ ops. refl;
  after = λ ops. refl;
  limits = refl;
  same_no = refl;
  same_incarnation = refl;
  references = refl;
})

-- where the table accepts a read, what the client is after it
none_refused : (v : ClientState) (page : ℕ) → FindsNone v (CallRead page) → is_none (call_fault (limits_at v) (client_of v []) (CallRead page)) ≡ true
none_refused v page h = rw (accepts v (CallRead page) h []) refl

pub after_here : (v : ClientState) (page : ℕ) → FindsNone v (CallRead page) → is_some (content_at v.copies page) ≡ true → page_read v page ≡ after_read v page
after_here v page h here = rw (none_refused v page h, here) refl

pub after_ask : (v : ClientState) (page : ℕ) → FindsNone v (CallRead page) → is_some (content_at v.copies page) ≡ false → page_asked v page ≡ after_read v page
after_ask v page h out = rw (none_refused v page h, out) refl

-- and where it refuses one
pub after_refused : (v : ClientState) (page : ℕ) (f : ClientFault) → IsRefused v (CallRead page) f → v ≡ after_read v page
after_refused v page f r = rw (r.refuses []) refl

pub called_refused : (v : ClientState) (page : ℕ) (f : ClientFault) → IsRefused v (CallRead page) f → Called v (CallRead page) v
called_refused v page f r = record { answered = table.Refused r.reason; messages = []; history = as_before; calls = refuses v (CallRead page) r.reason r.refuses }

pub called_here : (v : ClientState) (page : ℕ) → FindsNone v (CallRead page) → page < length v.locks.locked → is_some (content_at v.copies page) ≡ true → Called v (CallRead page) (page_read v page)
called_here v page h lt here = record { answered = _; messages = _; history = _; calls = reads v page h lt here }

pub called_ask : (v : ClientState) (page : ℕ) → FindsNone v (CallRead page) → is_some (content_at v.copies page) ≡ false → Called v (CallRead page) (page_asked v page)
called_ask v page h out = record { answered = _; messages = _; history = _; calls = asks_read v page h out }

-- a read that its page is refused for, one that finds the page here, one that finds no room for it,
-- and one that finds room
pub read_shut_out : (v : ClientState) (page : ℕ) (f : ClientFault) → FirstIs v (of_page v page) (Some (refusal f)) → IsRefused v (CallRead page) f
read_shut_out v page f e = refused v (CallRead page) f (fetch_is v page (Some (refusal f)) (fetch_shut v page (refusal f) e))

pub finds_here : (v : ClientState) (page : ℕ) → FirstIs v (of_page v page) None → is_some (content_at v.copies page) ≡ true → FindsNone v (CallRead page)
finds_here v page n here = fetch_is v page None (fetch_here v page n here)

pub finds_full : (v : ClientState) (page : ℕ) → FirstIs v (of_page v page) None → is_some (content_at v.copies page) ≡ false
    → ((other : Client) → false ≡ has_room (limits_at v) (client_with v.copies other)) → IsRefused v (CallRead page) fault.PoolFull
finds_full v page n out full = refused v (CallRead page) fault.PoolFull (fetch_is v page (Some (refusal fault.PoolFull)) (fetch_full v page n out full))

pub finds_room : (v : ClientState) (page : ℕ) → FirstIs v (of_page v page) None → ((other : Client) → true ≡ has_room (limits_at v) (client_with v.copies other)) → FindsNone v (CallRead page)
finds_room v page n room = fetch_is v page None (fetch_room v page n room)

-- whether the page is read where it is here, and what the client is then
and_false : (b : Bool) → (b && false) ≡ false
and_false true = refl
and_false false = refl

pub refused_here : (v : ClientState) (page : ℕ) (f : ClientFault) → IsRefused v (CallRead page) f → reads_here v page ≡ false
refused_here v page f r = rw (r.refuses []) (and_false (is_some (content_at v.copies page)))

absent_here : (v : ClientState) (page : ℕ) → is_some (content_at v.copies page) ≡ false → reads_here v page ≡ false
absent_here v page out = rw out refl

found_here : (v : ClientState) (page : ℕ) → FindsNone v (CallRead page) → is_some (content_at v.copies page) ≡ true → reads_here v page ≡ true
found_here v page h here = rw (here, none_refused v page h) refl

pub stays_here : (v : ClientState) (page : ℕ) → reads_here v page ≡ false → v ≡ after_read_here v page
stays_here v page e = rw e refl

read_here_is : (v : ClientState) (page : ℕ) → reads_here v page ≡ true → page_read v page ≡ after_read_here v page
read_here_is v page e = rw e refl

pub copied : (old new : ClientState) (page : ℕ) → FreeIs old None → (result : Bool) → result ≡ is_some (content_at old.copies page)
    → (result ≡ true → new ≡ page_read old page) → (result ≡ false → new ≡ old) → (result ≡ true → page < old.copies.limits.pages) → (result ≡ true → page < length old.locks.locked)
    → (result ≡ reads_here old page) × (new ≡ after_read_here old page)
    × (result ≡ true → Calls old (CallRead page) (table.AnsweredBytes (bytes_at old page)) [] (sees page (bytes_at old page)) new)
copied old new page free true here read away within locks =
    let finds = finds_here old page (page_within old page free (within refl)) (sym here) in
    let found = found_here old page finds (sym here) in (
      sym found,
      read refl ∙ read_here_is old page found,
      λ _. subst (λ (w : ClientState). Calls old (CallRead page) (table.AnsweredBytes (bytes_at old page)) [] (sees page (bytes_at old page)) w) (sym (read refl)) (reads old page finds (locks refl) (sym here)),
    )
copied old new page free false here read away within locks =
    let none = absent_here old page (sym here) in (sym none, away refl ∙ stays_here old page none, λ e. absurd cc)

-- a locked page stays locked where another one is
stays_locked : (flags : List Bool) (page q : ℕ) → page < length flags → has flags q ≡ true → has (slice_set flags page true) q ≡ true
stays_locked flags page q lt e = sym (put_entry false flags page q true lt) ∙ by (q == page)
  where
    by : (b : Bool) → (if b then true else has flags q) ≡ true
    by true = refl
    by false = e

pub read_keeps : (v : ClientState) (page : ℕ) → FindsNone v (CallRead page) → page < v.copies.limits.pages → is_some (content_at v.copies page) ≡ true → IsClient v → IsClient (page_read v page)
read_keeps v page h below here is =
    let lt : page < length v.locks.locked = rw is.locked below in
    keeps v (page_read v page) is refl refl refl (length-set v.locks.locked page true) refl refl refl is.same_txn (λ q. refl) (λ q. refl)
    (λ q e. stays_locked v.locks.locked page q lt e) (λ q e. e) is.room (calls_reach v (page_read v page) (CallRead page) (reads v page h lt here) is.reached)

pub ask_keeps : (v : ClientState) (page : ℕ) → FindsNone v (CallRead page) → is_some (content_at v.copies page) ≡ false
    → ((other : Client) → HasRoomLeft (limits_at v) (client_with v.copies other)) → IsClient v → IsClient (page_asked v page)
ask_keeps v page h out room is =
    keeps v (page_asked v page) is refl refl refl refl refl refl refl is.same_txn (λ q. refl) (λ q. refl)
    (λ q e. e) (λ q e. e) (λ p e. room) (calls_reach v (page_asked v page) (CallRead page) (asks_read v page h out) is.reached)

-- the answer of a read, from what the pool lends afterwards
kept_there : (v : ClientState) (page : ℕ) → FindsNone v (CallRead page) → content_at (after_read v page).copies page ≡ content_at v.copies page
kept_there v page h = rw (none_refused v page h) (pick (is_some (content_at v.copies page)))
  where
    pick : (b : Bool) → content_at (if b then page_read v page else page_asked v page).copies page ≡ content_at v.copies page
    pick true = refl
    pick false = refl

pub answers_bytes : (v : ClientState) (page : ℕ) (bytes : Bytes) → FindsNone v (CallRead page) → Some bytes ≡ content_at (after_read v page).copies page → page < length v.locks.locked
    → Answers v (CallRead page) (table.AnsweredBytes bytes) []
answers_bytes v page bytes h e lt =
    let there : content_at v.copies page ≡ Some bytes = sym (kept_there v page h) ∙ sym e in
    let here = reads v page h lt (rw there refl) in
    record { word = λ ops. here.word ops ∙ ap (λ (o : Option Bytes). table.AnsweredBytes (unwrap_or o [])) there; said = here.makes.said }

pub answers_ask : (v : ClientState) (page : ℕ) → FindsNone v (CallRead page) → is_some (content_at (after_read v page).copies page) ≡ false → Answers v (CallRead page) table.Asked (read_ask v page ∷ [])
answers_ask v page h e =
    let asked = asks_read v page h (ap is_some (sym (kept_there v page h)) ∙ e) in
    record { word = asked.word; said = asked.makes.said }

-- the copies with a page that is wanted
module _ (v : ClientState) (page : ℕ) (copies : CacheState) (does : Does v.copies (MarkWanted page ∷ []) copies) where
  -- wanted, and permitted
  pub wants : FindsNone v (CallWant page) → has v.copies.may_write page ≡ true → Calls v (CallWant page) table.Permitted [] as_before (record v { copies = copies })
  wants h may = accepted v (record v { copies = copies }) (CallWant page) table.Permitted (λ ops. MarkWanted page ∷ []) [] as_before (record {
    accepts = accepts v (CallWant page) h;
    reply = λ ops. rw may refl;
    said = λ ops. refl;
    after = λ ops. does.becomes (locks_with v.locks (base_of v ops));
    limits = does.limits;
    same_no = refl;
    same_incarnation = refl;
    references = does.references;
  })

  -- wanted, and asked for
  pub asks_want : (grant txn : ℕ) → FindsNone v (CallWant page) → has v.copies.may_write page ≡ false → (copy_at v.copies page).held ≡ Some grant → v.txn ≡ Some txn
      → Calls v (CallWant page) table.Asked (record { client = v.no; incarnation = v.incarnation; body = AskWrite txn page grant } ∷ []) as_before (record v { copies = copies; ask = asks.Write page })
  asks_want grant txn h may held begun = accepted v (record v { copies = copies; ask = asks.Write page }) (CallWant page) table.Asked
      (λ ops. MarkWanted page ∷ SetAsk (WriteAsk page) ∷ Say (AskWrite (unwrap_or v.txn 0) page grant) ∷ []) _ as_before (record {
        accepts = accepts v (CallWant page) h;
        reply = λ ops. rw (may, held) refl;
        said = λ ops. rw begun refl;
        after = λ ops. ap (λ (k : Client). record k { ask = WriteAsk page }) (does.becomes (locks_with v.locks (base_of v ops)));
        limits = does.limits;
        same_no = refl;
        same_incarnation = refl;
        references = does.references;
      })

  held_same : (q : ℕ) → (copy_at copies q).held ≡ (copy_at v.copies q).held
  held_same q = sym (ap (λ (k : Client). k.cache.held q) (does.becomes new_client))

  content_same : (q : ℕ) → content_at copies q ≡ content_at v.copies q
  content_same q = sym (ap (λ (k : Client). k.cache.content q) (does.becomes new_client))

  pub want_keeps : FindsNone v (CallWant page) → has v.copies.may_write page ≡ true → v.ask ≡ asks.Nothing → IsClient v → IsClient (record v { copies = copies })
  want_keeps h may none is = keeps v (record v { copies = copies }) is does.limits refl refl refl refl refl refl is.same_txn (λ q. refl) held_same
      (λ q e. e) (λ q e. sym (content_same q) ∙ e) (λ p e. absurd (let z : asks.Nothing ≡ asks.Read p = sym none ∙ e in cc))
      (calls_reach v (record v { copies = copies }) (CallWant page) (wants h may) is.reached)

  pub ask_want_keeps : (grant txn : ℕ) → FindsNone v (CallWant page) → has v.copies.may_write page ≡ false → (copy_at v.copies page).held ≡ Some grant → v.txn ≡ Some txn
      → IsClient v → IsClient (record v { copies = copies; ask = asks.Write page })
  ask_want_keeps grant txn h may held begun is = keeps v (record v { copies = copies; ask = asks.Write page }) is does.limits refl refl refl refl refl refl is.same_txn (λ q. refl) held_same
      (λ q e. e) (λ q e. sym (content_same q) ∙ e) (λ p e. absurd cc)
      (calls_reach v (record v { copies = copies; ask = asks.Write page }) (CallWant page) (asks_want grant txn h may held begun) is.reached)

-- the copies with a page that is written
module _ (v : ClientState) (page : ℕ) (bytes : Bytes) (copies : CacheState) (does : Does v.copies (ChangeCache (WriteBytes page bytes) ∷ []) copies) where
  pub writes : FindsNone v (CallWrite page bytes) → Calls v (CallWrite page bytes) table.AnsweredOk [] (puts page bytes) (record v { copies = copies })
  writes h = accepted v (record v { copies = copies }) (CallWrite page bytes) table.AnsweredOk (λ ops. ChangeCache (WriteBytes page bytes) ∷ []) [] (puts page bytes) (record {
    accepts = accepts v (CallWrite page bytes) h;
    reply = λ ops. refl;
    said = λ ops. refl;
    after = λ ops. does.becomes (locks_with v.locks (base_of v ops));
    limits = does.limits;
    same_no = refl;
    same_incarnation = refl;
    references = does.references;
  })

  write_held : (q : ℕ) → (copy_at copies q).held ≡ (copy_at v.copies q).held
  write_held q = sym (ap (λ (k : Client). k.cache.held q) (does.becomes new_client))

  write_content : (q : ℕ) → content_at copies q ≡ None → content_at v.copies q ≡ None
  write_content q e = by (q == page) (ap (λ (k : Client). k.cache.content q) (does.becomes new_client) ∙ e)
    where
      by : (b : Bool) → (if b then Some bytes else content_at v.copies q) ≡ None → content_at v.copies q ≡ None
      by true z = absurd cc
      by false z = z

  pub write_keeps : FindsNone v (CallWrite page bytes) → v.ask ≡ asks.Nothing → IsClient v → IsClient (record v { copies = copies })
  write_keeps h none is = keeps v (record v { copies = copies }) is does.limits refl refl refl refl refl refl is.same_txn (λ q. refl) write_held
      (λ q e. e) write_content (λ p e. absurd (let z : asks.Nothing ≡ asks.Read p = sym none ∙ e in cc))
      (calls_reach v (record v { copies = copies }) (CallWrite page bytes) (writes h) is.reached)
