-- What a worker's read of a page rests on.
use Rattle.std.proofs.Common.{◌≡◌, ◌&&◌, ℕ, Bor, Bool, true, false, List, [], ◌∷◌, Option, Some, None, Result, Ok, Err, refl, sym, ◌∙◌, ap, arith, drop, not, true≢false}
use Rattle.std.specs.Option.{is_some}
use Rattle.std.specs.Result.{is_ok}
use Rattle.std.proofs.lemmas.Bool.Decides.{nat_tests}
use Rattle.cb_client.specs.ByTable.{Calls, IsRefused, as_before, limits_at, messages_from}
use Rattle.cb_client.specs.CallAnswers.{Answers, AnswersRead, after_read, after_read_here, page_asked, page_read, reads_here}
use Rattle.cb_client.specs.declared.answers.ReadAnswer.{ReadAnswer}
use Rattle.cb_client.specs.declared.answers.ReadAnswer.TheVariants as read
use Rattle.cb_client.specs.declared.client_fault.ClientFault.{ClientFault}
use Rattle.cb_client_core.specs.ClientState.{ClientState, client_of}
use Rattle.cb_cache.specs.CacheState.{content_at}
use Rattle.cb_hands.specs.declared.grant.Held.{Held}
use Rattle.cb_protocol.proofs.Cases.{call_accepted, call_refused, fault_of_peek}
use Rattle.cb_protocol.specs.Answers as table
use Rattle.cb_protocol.specs.Basics.{Bytes, is_none}
use Rattle.cb_protocol.specs.Client.{bodies_said}
use Rattle.cb_protocol.specs.Cache.{is_idle}
use Rattle.cb_protocol.specs.ClientCalls.{CallPeek, CallRead, Cause, Reply, call_fault, cause_of, causes, client_call, first_refusal, peek_word, read_page}
use Rattle.cb_protocol.specs.Serial.{Operation}
use Rattle.cb_worker.specs.Waiting.{HasRead}
use Rattle.cb_worker.specs.Workers.{HasTransaction, Hit, Hits, ReadsAtHand, WorkerState, after_hit, is_same, may_hit, shows_copy, with_client}

-- a read of the page is not refused
abbrev pub may_read : ClientState → (page : ℕ) → Bool
may_read client page = is_none (call_fault (limits_at client) (client_of client []) (CallRead page))

and_false : (b : Bool) → (b && false) ≡ false
and_false true = refl
and_false false = refl

module _ (w : WorkerState) (page : ℕ) where
  pub absent : is_some (content_at w.client.copies page) ≡ false → may_hit w page ≡ false
  absent e = rw e (and_false (shows_copy w page))

  pub may : shows_copy w page ≡ true → is_some (content_at w.client.copies page) ≡ true → may_read w.client page ≡ true → may_hit w page ≡ true
  may s h r = rw (s, h, r) refl

  pub stays : may_hit w page ≡ false → w ≡ after_hit w page
  stays e = rw e refl

  pub reads : may_hit w page ≡ true → with_client w (page_read w.client page) ≡ after_hit w page
  reads e = rw e refl

-- a read that is answered so isn't refused
abbrev is_refusal : table.AnswerWord → Bool
is_refusal (table.Refused f) = true
is_refusal _ = false

abbrev client_call_word : ClientState → (page : ℕ) → table.AnswerWord
client_call_word v page = (client_call (limits_at v) (client_of v []) (CallRead page)).word

not_refused : (v : ClientState) (page : ℕ) (word : table.AnswerWord) → is_refusal word ≡ false → client_call_word v page ≡ word → may_read v page ≡ true
not_refused v page word n a = go (call_fault (limits_at v) (client_of v []) (CallRead page)) refl
  where
    go : (f : Option table.ClientFault) → call_fault (limits_at v) (client_of v []) (CallRead page) ≡ f → may_read v page ≡ true
    go None e = rw e refl
    go (Some f) e = absurd (let w : word ≡ table.Refused f = sym a ∙ ap (λ (r : Reply). r.word) (call_refused _ _ _ f e) in let z : true ≡ false = sym (ap is_refusal w) ∙ n in cc)

-- one that is refused is refused
pub is_refused : (v : ClientState) (page : ℕ) (f : ClientFault) → IsRefused v (CallRead page) f → may_read v page ≡ false
is_refused v page f r = rw (r.refuses []) refl

-- whether it is
pub read_so : (v : ClientState) (page : ℕ) (r : Result ReadAnswer ClientFault) → AnswersRead v page r → is_ok r ≡ may_read v page
read_so v page (Ok (read.Bytes b)) a = sym (not_refused v page (table.AnsweredBytes b.now) refl (a.word []))
read_so v page (Ok read.Asked) a = sym (not_refused v page table.Asked refl (a.word []))
read_so v page (Err f) a = sym (is_refused v page f a)

pub after_read_is : (v : ClientState) (page : ℕ) → may_read v page ≡ true → is_some (content_at v.copies page) ≡ true → after_read v page ≡ page_read v page
after_read_is v page r h = rw (r, h) refl

-- a page that the hand shows is read where the client can read it without the server
pub shown_hits : (w : WorkerState) (page : ℕ) → shows_copy w page ≡ true → reads_here w.client page ≡ may_hit w page
shown_hits w page s = rw s refl

pub read_is_hit : (w : WorkerState) (page : ℕ) → shows_copy w page ≡ true → with_client w (after_read_here w.client page) ≡ after_hit w page
read_is_hit w page s = go (reads_here w.client page) refl
  where
    go : (b : Bool) → reads_here w.client page ≡ b → with_client w (after_read_here w.client page) ≡ after_hit w page
    go true r = ap (with_client w) (rw r refl) ∙ reads w page (sym (shown_hits w page s) ∙ r)
    go false r = ap (with_client w) (rw r refl) ∙ stays w page (sym (shown_hits w page s) ∙ r)

-- a copy that the hand shows
pub shown_copy : (copy : Option (ℕ × ℕ)) (held : Option Held) → is_same copy held ≡ true → (x : Held) × (held ≡ Some x) × (copy ≡ Some (x.grant, x.version))
shown_copy None None e = absurd cc
shown_copy None (Some x) e = absurd cc
shown_copy (Some c) None e = absurd cc
shown_copy (Some c) (Some x) e = (x, refl, grind (arith, nat_tests))

-- what a peek is answered is what the pool has
pub peeked : (v : ClientState) (page : ℕ) (o : Option Bytes) → Calls v (CallPeek page) (peek_word o) [] as_before v → o ≡ content_at v.copies page
peeked v page o calls = same o (content_at v.copies page) (sym (calls.word []) ∙ ap (λ (r : Reply). r.word) (call_accepted (limits_at v) (client_of v []) (CallPeek page) (fault_of_peek (limits_at v) (client_of v []) page)))
  where
    same : (a b : Option Bytes) → peek_word a ≡ peek_word b → a ≡ b
    same None None e = refl
    same None (Some y) e = absurd cc
    same (Some x) None e = absurd cc
    same (Some x) (Some y) e = cc

-- whether a read is refused doesn't hang on what the transaction did
same_fault : (v : ClientState) (page : ℕ) (ops : List Operation) → call_fault (limits_at v) (client_of v ops) (CallRead page) ≡ call_fault (limits_at v) (client_of v []) (CallRead page)
unfolding call_fault
same_fault v page ops = refl

none_of : (f : Option table.ClientFault) → is_none f ≡ true → f ≡ None
none_of None e = refl
none_of (Some f) e = absurd cc

-- a read that isn't refused, of a page in the pool, is answered with its bytes
pub answers : (v : ClientState) (page : ℕ) (bytes : Bytes) → may_read v page ≡ true → content_at v.copies page ≡ Some bytes → Answers v (CallRead page) (table.AnsweredBytes bytes) []
answers v page bytes m e = record {
  word = λ ops. ap (λ (r : Reply). r.word) (reply ops);
  said = λ ops. ap (λ (r : Reply). messages_from v (bodies_said r.steps)) (reply ops);
}
  where
    reply : (ops : List Operation) → client_call (limits_at v) (client_of v ops) (CallRead page) ≡ read_page (client_of v ops) page (Some bytes)
    reply ops = call_accepted (limits_at v) (client_of v ops) (CallRead page) (same_fault v page ops ∙ none_of _ m)
        ∙ ap (λ (o : Option Bytes). read_page (client_of v ops) page o) e

pub three : (a b c : Bool) → (a && (b && c)) ≡ true → (a ≡ true) × (b ≡ true) × (c ≡ true)
three true true true e = (refl, refl, refl)
three true true false e = absurd cc
three true false c e = absurd cc
three false b c e = absurd cc

-- what a hit lends, where the page could be read
pub hits : (w : WorkerState) (page : ℕ) (o : Option Bytes) → may_hit w page ≡ true → o ≡ content_at w.client.copies page → Hits w page o
hits w page None m e = absurd (let f = absent w page (rw (← e) refl) in let g : true ≡ false = sym m ∙ f in cc)
hits w page (Some bytes) m e =
    let parts = three _ _ _ m in
    let copy = shown_copy _ _ parts.0 in
    record { may = m; held = copy.0; in_hand = copy.1; same = copy.2; answers = answers w.client page bytes parts.2 (sym e) }

-- a read changes no bytes
pub same_bytes : (w : WorkerState) (page : ℕ) → may_hit w page ≡ true → content_at (after_hit w page).client.copies page ≡ content_at w.client.copies page
same_bytes w page m = rw m refl

-- a page that was just read is in the pool, and was read so
pub not_bare : (w : WorkerState) (page : ℕ) → HasRead w page → None ≡ content_at w.client.copies page → ⊥
not_bare w page r e =
    let out : may_hit r.0 page ≡ false = hits r.0 page None r.1 (e ∙ ap (λ (v : WorkerState). content_at v.client.copies page) r.2 ∙ same_bytes r.0 page r.1) in
    let z : true ≡ false = sym r.1 ∙ out in cc

pub fetches : (w : WorkerState) (page : ℕ) (bytes : Bytes) → HasRead w page → Some bytes ≡ content_at w.client.copies page
    → (before : WorkerState) × Hit before page bytes × (w ≡ after_hit before page)
fetches w page bytes r e = (r.0, hits r.0 page (Some bytes) r.1 (e ∙ ap (λ (v : WorkerState). content_at v.client.copies page) r.2 ∙ same_bytes r.0 page r.1), r.2)

-- the reply to a read that isn't refused
read_reply : (v : ClientState) (page : ℕ) → may_read v page ≡ true → client_call (limits_at v) (client_of v []) (CallRead page) ≡ read_page (client_of v []) page (content_at v.copies page)
read_reply v page m = call_accepted (limits_at v) (client_of v []) (CallRead page) (none_of _ m)

-- one that is answered with bytes finds them in the pool
pub bytes_here : (v : ClientState) (page : ℕ) (b : Bor Bytes) → AnswersRead v page (Ok (read.Bytes b)) → is_some (content_at v.copies page) ≡ true
bytes_here v page b a = go (content_at v.copies page) refl
  where
    m : may_read v page ≡ true
    m = sym (read_so v page (Ok (read.Bytes b)) a)

    go : (o : Option Bytes) → content_at v.copies page ≡ o → is_some (content_at v.copies page) ≡ true
    go (Some x) e = rw e refl
    go None e = absurd (let w : table.Asked ≡ table.AnsweredBytes b.now = sym (ap (λ (r : Reply). r.word) (read_reply v page m ∙ ap (λ (o : Option Bytes). read_page (client_of v []) page o) e)) ∙ a.word [] in cc)

-- one that asks doesn't, and the client has asked
pub asks_out : (v : ClientState) (page : ℕ) → AnswersRead v page (Ok read.Asked) → after_read v page ≡ page_asked v page
asks_out v page a = go (content_at v.copies page) refl
  where
    m : may_read v page ≡ true
    m = sym (read_so v page (Ok read.Asked) a)

    go : (o : Option Bytes) → content_at v.copies page ≡ o → after_read v page ≡ page_asked v page
    go None e = rw (m, e) refl
    go (Some x) e = absurd (let w : table.AnsweredBytes x ≡ table.Asked = sym (ap (λ (r : Reply). r.word) (read_reply v page m ∙ ap (λ (o : Option Bytes). read_page (client_of v []) page o) e)) ∙ a.word [] in cc)

-- one that is refused leaves the client as it was
pub refused_read : (v : ClientState) (page : ℕ) (f : ClientFault) → IsRefused v (CallRead page) f → after_read v page ≡ v
refused_read v page f r = rw (is_refused v page f r) refl

-- a read that is answered with bytes, of a page that the hand shows, is one at once
pub at_hand : (w : WorkerState) (page : ℕ) (b : Bor Bytes) (client : ClientState) → shows_copy w page ≡ true → AnswersRead w.client page (Ok (read.Bytes b))
    → client ≡ after_read w.client page → ReadsAtHand w page (with_client w client)
at_hand w page b client s a e =
    let here = bytes_here w.client page b a in
    let free : may_read w.client page ≡ true = sym (read_so w.client page (Ok (read.Bytes b)) a) in
    let m = may w page s here free in
    (m, ap (with_client w) (e ∙ after_read_is w.client page free here) ∙ reads w page m)

-- a call whose first two causes don't hold
two_clear : (a b : Bool) (f h : table.ClientFault) (rest : List Cause) → first_refusal (cause_of (not a) f ∷ cause_of b h ∷ rest) ≡ None → (a ≡ true) × (b ≡ false)
two_clear true false f h rest e = (refl, refl)
two_clear true true f h rest e = absurd cc
two_clear false b f h rest e = absurd cc

reads_open : (v : ClientState) (page : ℕ) → call_fault (limits_at v) (client_of v []) (CallRead page) ≡ None → (v.welcomed ≡ true) × (is_idle (client_of v []).cache.status ≡ false)
unfolding call_fault
reads_open v page e = two_clear v.welcomed (is_idle (client_of v []).cache.status) table.NotWelcome table.NoTransaction (drop 2 (causes (limits_at v) (client_of v []) (CallRead page))) e

-- where a page could be read, there was a transaction
pub reads_in_one : (w : WorkerState) (page : ℕ) → may_hit w page ≡ true → HasTransaction w
reads_in_one w page m =
    let parts : (w.client.welcomed ≡ true) × (is_idle (client_of w.client []).cache.status ≡ false) = reads_open w.client page (none_of _ (three _ _ _ m).2) in
    record { welcomed = parts.0; busy = λ ops e. true≢false (ap is_idle (sym e) ∙ parts.1) }
