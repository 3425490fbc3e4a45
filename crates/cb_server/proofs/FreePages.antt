-- An ask to read of a free page, where nobody waits: in the table it enters the page's queue, is
-- granted and leaves in the same step.
use Rattle.std.proofs.Common.{◌≡◌, ◌∙◌, ◌≢◌, ℕ, ◌+◌, ◌<◌, ◌≤◌, nat_lt, Bool, true, false, not, ◌==◌, ◌&&◌, ◌||◌, if◌then◌else◌, List, [], ◌∷◌, ◌++◌, length, Option, Some, None, zero, suc, ap, arith, refl, sym, subst, inl, inr}
use Rattle.std.proofs.lemmas.Bool.{cases_eq}
use Rattle.std.proofs.lemmas.Bool.Decides.{nat_tests}
use Rattle.cb_asks.specs.Asks.{asks_below}
use Rattle.cb_callbacks.proofs.Lacking.{rows_stay}
use Rattle.cb_callbacks.proofs.Queues.{each_place}
use Rattle.cb_callbacks.proofs.Standing.{begins_later}
use Rattle.cb_callbacks.specs.Numbers as numbers
use Rattle.cb_callbacks.specs.Numbers.{IsLiveOne}
use Rattle.cb_outbox.proofs.Saying.{says_as}
use Rattle.cb_outbox.specs.Saying.{HasRoomFor, OutboxState, Says}
use Rattle.cb_protocol.proofs.SettlingAgain.{append_nil, empty_page, passed_over}
use Rattle.cb_protocol.proofs.SettlingClears.{put_other, put_there}
use Rattle.cb_protocol.specs.Basics.{is_none, max_number, update}
use Rattle.cb_protocol.specs.Messages.{AbortNow, AskRead}
use Rattle.cb_protocol.specs.Server.{EnterQueue, Server, ServerStep, WaitingAsk, after_first, after_server_step, has_ask, has_not_ended, server_after, without_client}
use Rattle.cb_protocol.specs.ServerMessages.{and_then, begin_transaction, direct_answer, enter_queue, has_waiting_ask, is_empty, lacks_number, new_ask, read_asks_below, take_ask_read, take_current}
use Rattle.cb_protocol.specs.Settling.{Decided, Settled, decide, doom_client, downgrade_once, grant_row, no_other_holder, send_to, settle_page, settle_pages, wait_or_doom}
use Rattle.cb_protocol.specs.WaitsFor.{on_cycle}
use Rattle.cb_server_state.specs.Granting.{grant_copy}
use Rattle.cb_server.specs.Answering.{Begins, CanGrant, HasBegun, HasPage, LacksNumber, Makes, is_free, server_in}
use Rattle.cb_server.specs.declared.engine.Engine.{Engine}
use Rattle.cb_server.specs.declared.engine.answers.Begun.TheVariants as begun
use Rattle.cb_server.proofs.DirectAnswers.{doomed_answer, ended_answer, live_answer}
use Rattle.cb_server.proofs.Greeting.{one_number}
use Rattle.cb_server.proofs.Making.{makes_then}
use Rattle.cb_server.proofs.Rooms.{none_at}

-- nobody waits for any page
abbrev pub NobodyWaits : Server → Type 0
NobodyWaits s = (page : ℕ) → page < s.pages → s.queue page ≡ []

-- the page is free for the client, which has no copy of it
pub record IsFreeFor (s : Server) (client page : ℕ) : Type 0 where
  pub nobody : NobodyWaits s
  pub within : page < s.pages
  pub alone : no_other_holder (s.store.holder page) client ≡ true
  pub no_row : is_none ((s.session client).row page) ≡ true

-- by how many wait
no_ask : (queue : List WaitingAsk) → length queue ≡ 0 → queue ≡ []
no_ask [] e = refl
no_ask (ask ∷ queue) e = absurd (omega (arith, e))

nobody_below : (s : Server) (end : ℕ) → asks_below s end ≡ 0 → (page : ℕ) → page < end → s.queue page ≡ []
nobody_below s zero none page lt = absurd (omega (arith, lt))
nobody_below s (suc last) none page lt =
    let both = none_at (asks_below s last) (length (s.queue last)) none in
    elim (cases_eq page last) [
      | inl same ↦ subst (λ (n : ℕ). s.queue n ≡ []) (sym same) (no_ask (s.queue last) both.1)
      | inr ne ↦ nobody_below s last both.0 page (omega (arith, lt, ne))
    ]

pub nobody_counted : (s : Server) → asks_below s s.pages ≡ 0 → NobodyWaits s
nobody_counted s none = nobody_below s s.pages none

-- once a transaction has begun it is free as before
alone_begun : (c : ℕ) (live : Bool) (holder : Option ℕ) → no_other_holder holder c ≡ true
    → no_other_holder (if live
    then (elim holder as (λ _. Option ℕ) [ None ↦ None | Some other ↦ if other == c then None else Some other ])
    else holder) c ≡ true
alone_begun c true None e = refl
alone_begun c true (Some other) e = go (other == c) e
  where
    go : (own : Bool) → own ≡ true → no_other_holder (if own then None else Some other) c ≡ true
    go true e = refl
    go false e = absurd cc
alone_begun c false holder e = e

pub begun_free : (s : Server) (c t p : ℕ) → IsFreeFor s c p → IsFreeFor (server_after s (begin_transaction s c t)) c p
begun_free s c t p f = record {
  nobody = begun.0;
  within = begun.1;
  alone = begun.2;
  no_row = ap is_none (rows_stay s c t p) ∙ f.no_row;
}
  where
    go : (later : Bool) → let new = server_after s (if later then begins_later c t else []) in
        NobodyWaits new × (p < new.pages) × (no_other_holder (new.store.holder p) c ≡ true)
    go true = (
      λ page lt. ap (without_client c) (f.nobody page lt),
      f.within,
      alone_begun c (nat_lt (s.session c).ended (s.session c).txn) (s.store.holder p) f.alone,
    )
    go false = (f.nobody, f.within, f.alone)

    begun : let new = server_after s (begin_transaction s c t) in
        NobodyWaits new × (p < new.pages) × (no_other_holder (new.store.holder p) c ≡ true)
    begun = go (nat_lt (s.session c).txn t)

-- where nobody waits nothing is settled
pub none_settled : (s : Server) → NobodyWaits s → settle_pages on_cycle s s.pages ≡ []
none_settled s nobody = passed_over on_cycle s 0 s.pages (omega arith) (λ page from lt. nobody page lt)

-- the server once the ask has entered
abbrev entered : Server → (client page : ℕ) → Server
entered s client page = after_server_step s (EnterQueue page (new_ask client None))

there : (s : Server) (c p : ℕ) → IsFreeFor s c p → (entered s c p).queue p ≡ new_ask c None ∷ []
there s c p f = put_there s.queue p (s.queue p ++ new_ask c None ∷ []) ∙ ap (λ (q : List WaitingAsk). q ++ new_ask c None ∷ []) (f.nobody p f.within)

elsewhere : (s : Server) (c p page : ℕ) → page ≢ p → (entered s c p).queue page ≡ s.queue page
elsewhere s c p page ne = put_other s.queue p page (s.queue p ++ new_ask c None ∷ []) ne

-- its page is settled by its grant
settled_there : (s : Server) (c p : ℕ) → IsFreeFor s c p → settle_page on_cycle 2 (entered s c p) p ≡ grant_row (entered s c p) p c
settled_there s c p f =
    subst (λ (q : List WaitingAsk). (elim (decide on_cycle u p q) as (λ _. List ServerStep) [
      | Settled ds ↦ ds
      | Decided ds ↦ ds ++ settle_page on_cycle 1 (server_after u ds) p
    ]) ≡ grant_row u p c) (sym (there s c p f)) (granted (no_other_holder (s.store.holder p) c) (is_none ((s.session c).row p)) f.alone f.no_row)
  where
    u : Server
    u = entered s c p

    left : (server_after u (grant_row u p c)).queue p ≡ []
    left = put_there u.queue p (after_first (u.queue p)) ∙ ap after_first (there s c p f)

    granted : (alone no_row : Bool) → alone ≡ true → no_row ≡ true
        → (elim (if alone && no_row then Decided (grant_row u p c) else wait_or_doom on_cycle u c (downgrade_once u p (new_ask c None))) as (λ _. List ServerStep) [
          | Settled ds ↦ ds
          | Decided ds ↦ ds ++ settle_page on_cycle 1 (server_after u ds) p
        ]) ≡ grant_row u p c
    granted true true a b = ap (λ (l : List ServerStep). grant_row u p c ++ l) (empty_page on_cycle (server_after u (grant_row u p c)) p 1 left) ∙ append_nil (grant_row u p c)
    granted true false a b = absurd cc
    granted false no_row a b = absurd cc

-- so that is all that settling does
all_settled : (s : Server) (c p : ℕ) → IsFreeFor s c p → settle_pages on_cycle (entered s c p) s.pages ≡ grant_row (entered s c p) p c
all_settled s c p f =
    passed_over on_cycle u (suc p) s.pages (let lt = f.within in omega (arith, lt))
    (λ page from lt. elsewhere s c p page (λ e. omega (arith, from, e)) ∙ f.nobody page lt)
    ∙ (ap (λ (l : List ServerStep). l ++ settle_page on_cycle (length (u.queue p) + 1) (server_after u l) p) before
    ∙ (ap (λ (q : List WaitingAsk). settle_page on_cycle (length q + 1) u p) (there s c p f) ∙ settled_there s c p f))
  where
    u : Server
    u = entered s c p

    before : settle_pages on_cycle u p ≡ []
    before = passed_over on_cycle u 0 p (omega arith)
        (λ page from lt. elsewhere s c p page (λ e. omega (arith, lt, e)) ∙ f.nobody page (let end = f.within in omega (arith, lt, end)))

-- no ask of the client waits
idle : (s : Server) (c end : ℕ) → ((page : ℕ) → page < end → s.queue page ≡ []) → has_waiting_ask s c end ≡ false
idle s c zero nobody = refl
idle s c (suc page) nobody =
    ap (λ (b : Bool). b || has_ask c (s.queue page)) (idle s c page (λ at lt. nobody at (omega (arith, lt))))
    ∙ ap (has_ask c) (nobody page (omega arith))

none_there : (row : Option ℕ) → is_none row ≡ true → row ≡ None
none_there None e = refl
none_there (Some grant) e = absurd cc

-- what is done for an ask to read, once its transaction has begun
abbrev pub answered : (client txn page : ℕ) → Server → List ServerStep
answered client txn page s =
    and_then s (direct_answer on_cycle s client (AskRead txn page)) (λ answered.
    settle_pages on_cycle answered answered.pages)

enters : (s : Server) (c t p : ℕ) → IsLiveOne s c t false → IsFreeFor s c p → direct_answer on_cycle s c (AskRead t p) ≡ EnterQueue p (new_ask c None) ∷ []
enters s c t p l f =
    live_answer s c t (take_ask_read on_cycle s c p ((s.session c).row p)) l
    ∙ (ap (take_ask_read on_cycle s c p) (none_there ((s.session c).row p) f.no_row)
    ∙ (ap (λ (b : Bool). if b then [] else enter_queue on_cycle s p (new_ask c None)) (idle s c s.pages f.nobody)
    ∙ ap (λ (q : List WaitingAsk). if not (is_empty q) && on_cycle (entered s c p) c
    then EnterQueue p (new_ask c None) ∷ doom_client (entered s c p) c else EnterQueue p (new_ask c None) ∷ []) (f.nobody p f.within)))

live_steps : (s : Server) (c t p : ℕ) → IsLiveOne s c t false → IsFreeFor s c p → answered c t p s ≡ EnterQueue p (new_ask c None) ∷ grant_row (entered s c p) p c
live_steps s c t p l f =
    ap (λ (ds : List ServerStep). ds ++ settle_pages on_cycle (server_after s ds) (server_after s ds).pages) (enters s c t p l f)
    ∙ ap (λ (ds : List ServerStep). EnterQueue p (new_ask c None) ∷ ds) (all_settled s c p f)

-- the ask has left: the server is as if it had never entered
as_granted : (s : Server) (c p : ℕ) → IsFreeFor s c p
    → server_after s (EnterQueue p (new_ask c None) ∷ grant_row (entered s c p) p c) ≡ server_after s (grant_copy s p c)
as_granted s c p f = λ i. record (server_after s (grant_copy s p c)) { queue = λ page. same page i }
  where
    u : Server
    u = entered s c p

    same : (page : ℕ) → update u.queue p (after_first (u.queue p)) page ≡ s.queue page
    same page = each_place (λ n (q : List WaitingAsk). q ≡ s.queue n) u.queue p (after_first (u.queue p))
        (ap after_first (there s c p f) ∙ sym (f.nobody p f.within)) (λ at ne. elsewhere s c p at ne) page

-- granting a copy at once is what the table does for a live transaction
pub grants_as_asked : (s new : Server) (c t p : ℕ) (a b : OutboxState) → IsLiveOne s c t false → IsFreeFor s c p
    → Says s (λ server. grant_copy server p c) new a b → Says s (answered c t p) new a b
grants_as_asked s new c t p a b l f says =
    says_as s new (answered c t p) (λ server. EnterQueue p (new_ask c None) ∷ grant_row (entered server c p) p c) a b (live_steps s c t p l f)
    (record {
      becomes = says.becomes ∙ sym (as_granted s c p f);
      sends = says.sends;
      room = says.room;
      spare = says.spare;
      page_size = says.page_size;
    })

-- of a doomed transaction, and of one that has ended
pub doomed_steps : (s : Server) (c t p : ℕ) → IsLiveOne s c t true → NobodyWaits s → answered c t p s ≡ send_to s c (AbortNow t) ∷ []
doomed_steps s c t p l nobody =
    ap (λ (ds : List ServerStep). ds ++ settle_pages on_cycle (server_after s ds) (server_after s ds).pages) (doomed_answer s c t _ l)
    ∙ ap (λ (ds : List ServerStep). send_to s c (AbortNow t) ∷ ds) (none_settled s nobody)

pub ended_steps : (s : Server) (c t p : ℕ) → has_not_ended s c t ≡ false → NobodyWaits s → answered c t p s ≡ []
ended_steps s c t p e nobody =
    ap (λ (ds : List ServerStep). ds ++ settle_pages on_cycle (server_after s ds) (server_after s ds).pages) (ended_answer s c t _ e)
    ∙ none_settled s nobody

-- a grant number is left for it
pub number_left : (s : Server) (c t p : ℕ) → IsLiveOne s c t false → IsFreeFor s c p → lacks_number s c (AskRead t p) ≡ false → s.next_grant ≤ max_number
number_left s c t p l f e = let left = sym is ∙ e in grind (arith, nat_tests, left)
  where
    is : lacks_number s c (AskRead t p) ≡ nat_lt max_number (s.next_grant + read_asks_below s s.pages)
    is = rw (l.not_ended, l.doomed, f.no_row, idle s c s.pages f.nobody) refl

-- of an engine
pub free_by : (e : Engine) (c p : ℕ) → HasPage e p → is_free e c p ≡ true → IsFreeFor (server_in e) c p
free_by e c p within free =
    let last = both ((asks_below s s.pages == 0) && is_none ((s.session c).row p)) (no_other_holder (s.store.holder p) c) free in
    let others = both (asks_below s s.pages == 0) (is_none ((s.session c).row p)) last.0 in record {
      nobody = nobody_counted s (one_number (asks_below s s.pages) 0 others.0);
      within = within;
      alone = last.1;
      no_row = others.1;
    }
  where
    s : Server
    s = server_in e

    both : (a b : Bool) → (a && b) ≡ true → (a ≡ true) × (b ≡ true)
    both true b e = (refl, e)
    both false b e = absurd cc

-- where nothing but room has changed
pub number_by : (old mid : Engine) (c t p : ℕ) → server_in mid ≡ server_in old → LacksNumber old c (AskRead t p) false → LacksNumber mid c (AskRead t p) false
number_by old mid c t p same number = subst (λ (s : Server). numbers.LacksNumber s c (AskRead t p) false) (sym same) number

pub free_begun : (old new : Engine) (c t p : ℕ) → Begins old c t new → IsFreeFor (server_in old) c p → IsFreeFor (server_in new) c p
free_begun old new c t p begins f = subst (λ (s : Server). IsFreeFor s c p) (sym begins.makes.says.becomes) (begun_free (server_in old) c t p f)

pub number_begun : (old new : Engine) (c t p : ℕ) → HasBegun old c t begun.Live new → IsFreeFor (server_in new) c p → LacksNumber old c (AskRead t p) false
    → (server_in new).next_grant ≤ max_number
number_begun old new c t p live f number = number_left (server_in new) c t p live.stands f
    (subst (λ (s : Server). lacks_number s c (AskRead t p) ≡ false) (sym live.begins.makes.says.becomes) number)

pub room_to_grant : (e : Engine) (c p : ℕ) → CanGrant e → HasRoomFor (grant_copy (server_in e) p c) e.outbox
room_to_grant e c p can = record { frames = let one = can.say.frames in omega (arith, one); copies = let one = can.copy in omega (arith, one) }

-- a message of a transaction that has begun is answered, and all pages are settled
pub takes_begun : (old mid new : Engine) (c t p : ℕ) → Begins old c t mid → Makes mid (answered c t p) new → Makes old (λ s. take_current on_cycle s c (AskRead t p)) new
takes_begun old mid new c t p begins makes = makes_then old mid new (λ s. begin_transaction s c t) (answered c t p) begins.makes makes
