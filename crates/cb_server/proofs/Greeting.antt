-- Hello, by its incarnation, and every other message.
use Rattle.std.proofs.Common.{◌≡◌, ◌≢◌, ℕ, ◌+◌, ◌<◌, ◌≤◌, nat_lt, nat_le, Bool, true, false, ◌==◌, ◌&&◌, if◌then◌else◌, [], ◌∷◌, refl, sym, ap, ◌∙◌, arith, true≢false}
use Rattle.std.proofs.lemmas.Bool.Decides.{nat_tests}
use Rattle.cb_asks.specs.Asks.{asks_below}
use Rattle.cb_server_state.specs.Questions.{admission_in}
use Rattle.cb_links.specs.declared.sessions.Admission.{Admission}
use Rattle.cb_links.specs.declared.sessions.Admission.TheVariants as admission
use Rattle.cb_frame.specs.declared.frame.ShortBody.{ShortBody}
use Rattle.cb_frame.specs.declared.frame.ShortBody.TheVariants as short
use Rattle.cb_outbox.specs.Messages.{short_of}
use Rattle.cb_protocol.proofs.Cases.{serves_current, serves_hello_again, serves_new_hello, serves_no_old_hello, serves_no_other_incarnation}
use Rattle.cb_protocol.specs.Messages.{AskRead, AskWrite, Body, Commit, Downgraded, Drop, GiveBack, Hello, InUse, Welcome, to_server}
use Rattle.cb_protocol.specs.Server.{Send, Server}
use Rattle.cb_protocol.specs.ServerMessages.{admit_incarnation, begin_transaction, direct_answer, lacks_number, named_txn, server_take, take_current}
use Rattle.cb_protocol.specs.Settling.{settle_pages}
use Rattle.cb_protocol.specs.WaitsFor.{on_cycle}
use Rattle.cb_server.specs.Answering.{copies_for_body, is_ask_read, is_hello, messages_for_body}
use Rattle.cb_server.specs.Taking.{may_be_answered, may_want_memory, may_want_room}
use Rattle.cb_server.proofs.Making.{begins_none}

pub is_unknown : (s : Server) (c i : ℕ) → admission.Unknown ≡ admission_in s c i → (s.session c).current < i
is_unknown s c i e = go (nat_lt (s.session c).current i) (i == (s.session c).current) refl e
  where
    go : (r u : Bool) → nat_lt (s.session c).current i ≡ r → admission.Unknown ≡ (if r then admission.Unknown else if u then admission.Current else admission.Stale) → (s.session c).current < i
    go true u is e = grind (arith, nat_tests)
    go false true is e = absurd cc
    go false false is e = absurd cc

pub is_current : (s : Server) (c i : ℕ) → admission.Current ≡ admission_in s c i → i ≡ (s.session c).current
is_current s c i e = go (nat_lt (s.session c).current i) (i == (s.session c).current) refl e
  where
    go : (r u : Bool) → (i == (s.session c).current) ≡ u → admission.Current ≡ (if r then admission.Unknown else if u then admission.Current else admission.Stale) → i ≡ (s.session c).current
    go true u is e = absurd cc
    go false true is e = grind (arith, nat_tests)
    go false false is e = absurd cc

pub is_stale : (s : Server) (c i : ℕ) → admission.Stale ≡ admission_in s c i → i < (s.session c).current
is_stale s c i e = go (nat_lt (s.session c).current i) (i == (s.session c).current) refl refl e
  where
    go : (r u : Bool) → nat_lt (s.session c).current i ≡ r → (i == (s.session c).current) ≡ u → admission.Stale ≡ (if r then admission.Unknown else if u then admission.Current else admission.Stale) → i < (s.session c).current
    go true u is at e = absurd cc
    go false true is at e = absurd cc
    go false false is at e = grind (arith, nat_tests)

pub is_other : (s : Server) (c i : ℕ) (a : Admission) → a ≡ admission_in s c i → a ≢ admission.Current → i ≢ (s.session c).current
is_other s c i a e n is = n (e ∙ go (nat_lt (s.session c).current i) (i == (s.session c).current) refl refl)
  where
    go : (r u : Bool) → nat_lt (s.session c).current i ≡ r → (i == (s.session c).current) ≡ u → (if r then admission.Unknown else if u then admission.Current else admission.Stale) ≡ admission.Current
    go true u lt at = absurd (grind (arith, nat_tests))
    go false true lt at = refl
    go false false lt at = absurd (grind (arith, nat_tests))

pub hello_is : (b : Body) → is_hello b ≡ true → b ≡ Hello
hello_is Hello e = refl
hello_is _ e = absurd cc

pub no_hello : (b : Body) → is_hello b ≡ false → b ≢ Hello
no_hello b e is = absurd (let t : is_hello b ≡ true = ap is_hello is in cc)

pub unknown_hello : (s : Server) (c i : ℕ) → admission.Unknown ≡ admission_in s c i → server_take on_cycle s c i Hello ≡ admit_incarnation on_cycle s c i
unknown_hello s c i e = serves_new_hello on_cycle s c i (is_unknown s c i e)

pub current_hello : (s : Server) (c i : ℕ) → admission.Current ≡ admission_in s c i → server_take on_cycle s c i Hello ≡ Send c i Welcome ∷ []
current_hello s c i e = serves_hello_again on_cycle s c i (is_current s c i e)

pub stale_hello : (s : Server) (c i : ℕ) → admission.Stale ≡ admission_in s c i → server_take on_cycle s c i Hello ≡ []
stale_hello s c i e = serves_no_old_hello on_cycle s c i (is_stale s c i e)

pub other_ignored : (s : Server) (c i : ℕ) (b : Body) → is_hello b ≡ false → i ≢ (s.session c).current → server_take on_cycle s c i b ≡ []
other_ignored s c i b h n = serves_no_other_incarnation on_cycle s c i b (no_hello b h) n

pub current_taken : (s : Server) (c i : ℕ) (b : Body) → is_hello b ≡ false → i ≡ (s.session c).current → server_take on_cycle s c i b ≡ take_current on_cycle s c b
current_taken s c i b h e = serves_current on_cycle s c i b (no_hello b h) e

-- what goes to clients is ignored, where nothing is left to be settled
pub ignored : (s : Server) (c : ℕ) (b : Body) → to_server b ≡ false → settle_pages on_cycle s s.pages ≡ [] → take_current on_cycle s c b ≡ []
ignored s c b way settled = rw (begins b way, answers b way, settled) refl
  where
    begins : (b : Body) → to_server b ≡ false → begin_transaction s c (named_txn b) ≡ []
    begins Hello e = absurd cc
    begins (AskRead t p) e = absurd cc
    begins (AskWrite t p g) e = absurd cc
    begins (GiveBack p g) e = absurd cc
    begins (InUse t p g) e = absurd cc
    begins (Commit t ws) e = absurd cc
    begins (Drop t) e = absurd cc
    begins (Downgraded p g t) e = absurd cc
    begins _ e = begins_none s c

    answers : (b : Body) → to_server b ≡ false → direct_answer on_cycle s c b ≡ []
    answers Hello e = absurd cc
    answers (AskRead t p) e = absurd cc
    answers (AskWrite t p g) e = absurd cc
    answers (GiveBack p g) e = absurd cc
    answers (InUse t p g) e = absurd cc
    answers (Commit t ws) e = absurd cc
    answers (Drop t) e = absurd cc
    answers (Downgraded p g t) e = absurd cc
    answers _ e = refl

-- another message than AskRead wants no copy, nor a number if it is no commit
pub no_copies : (b : Body) → is_ask_read b ≡ false → 0 ≡ copies_for_body b
no_copies (AskRead t p) e = absurd cc
no_copies _ e = refl

pub lacks_none_other : (b : ShortBody) (s : Server) (c : ℕ) → is_ask_read (short_of b) ≡ false → lacks_number s c (short_of b) ≡ false
lacks_none_other (short.AskRead t p) s c e = absurd cc
lacks_none_other _ s c e = refl

-- what may be answered may want memory
pub answered_may_want : (s : Server) (b : Body) → may_be_answered b ≡ true → may_want_room s b ≡ true
answered_may_want s Hello e = refl
answered_may_want s (AskRead t p) e = refl
answered_may_want s (AskWrite t p g) e = refl
answered_may_want s (Commit t ws) e = refl
answered_may_want s _ e = absurd cc

some_wait : (n m k : ℕ) → m ≡ 0 → k ≡ 0 → 0 < m + k + n → nat_lt 0 n ≡ true
some_wait n m k e f l = grind (arith, nat_tests)

-- so may what needs room
pub room_may_want : (s : Server) (b : Body) (clients m k : ℕ) → to_server b ≡ true → m ≡ messages_for_body clients b → k ≡ copies_for_body b
    → 0 < m + k + asks_below s s.pages → may_want_room s b ≡ true
room_may_want s Hello n m k t e f l = refl
room_may_want s (AskRead r p) n m k t e f l = refl
room_may_want s (AskWrite r p g) n m k t e f l = refl
room_may_want s (Commit r ws) n m k t e f l = refl
room_may_want s (GiveBack p g) n m k t e f l = some_wait (asks_below s s.pages) m k e f l
room_may_want s (InUse r p g) n m k t e f l = some_wait (asks_below s s.pages) m k e f l
room_may_want s (Drop r) n m k t e f l = some_wait (asks_below s s.pages) m k e f l
room_may_want s (Downgraded p g r) n m k t e f l = some_wait (asks_below s s.pages) m k e f l
room_may_want s _ n m k t e f l = absurd cc

-- for which messages memory may be wanted
both : (a b : Bool) → a ≡ true → b ≡ true → (a && b) ≡ true
both true true e f = refl
both true false e f = absurd cc
both false b e f = absurd cc

-- what a test of two numbers says of them
same_number : (i n : ℕ) → i ≡ n → (i == n) ≡ true
same_number i n e = grind (arith, nat_tests)

pub one_number : (i n : ℕ) → (i == n) ≡ true → i ≡ n
one_number i n e = grind (arith, nat_tests)

pub two_numbers : (i n : ℕ) → (i == n) ≡ false → i ≢ n
two_numbers i n e same = absurd (true≢false (sym (same_number i n same) ∙ e))

at_most : (n i : ℕ) → n ≤ i → nat_le n i ≡ true
at_most n i l = grind (arith, nat_tests)

pub hello_may_want : (s : Server) (c i : ℕ) (b : Body) → is_hello b ≡ true → (s.session c).current ≤ i → may_want_memory s c i b ≡ true
hello_may_want s c i Hello h l = at_most _ _ l
hello_may_want s c i _ h l = absurd cc

pub current_may_want : (s : Server) (c i : ℕ) (b : Body) → is_hello b ≡ false → i ≡ (s.session c).current → may_want_room s b ≡ true → may_want_memory s c i b ≡ true
current_may_want s c i Hello h e t = absurd cc
current_may_want s c i b h e t = both _ _ (same_number i _ e) t
