-- What a client does at each message (TODS 1997; by the grant held and `seen`, the greatest grant
-- that came, this project's rule).
use Rattle.std.specs.Prelude.{◌≡◌, ◌<◌, ◌≤◌, ℕ, nat_lt, Bool, true, false, not, ◌&&◌, if◌then◌else◌}
use Rattle.std.specs.Prelude.{◌==◌, ◌≢◌, List, [], ◌∷◌, ◌++◌, Option, Some, None, ⊤}
use Rattle.cb_protocol.specs.Basics.{Bytes, Limits, is_exactly, is_none}
use Rattle.cb_protocol.specs.Cache.{Fill, Install, Lock, MakeBare, TakeDone, TakePermission}
use Rattle.cb_protocol.specs.Cache.{TakeWelcome, YieldPermission, is_committing, is_open}
use Rattle.cb_protocol.specs.Client.{Aborted, ChangeCache, Client, ClientStep, Committed}
use Rattle.cb_protocol.specs.Client.{EndTransaction, MarkDue, MarkDueDowngrade, NoAsk, Say, SetAsk}
use Rattle.cb_protocol.specs.Client.{asks_to_read, asks_to_write, is_fixed, pages_in_pool}
use Rattle.cb_protocol.specs.ClientEnd.{drop_transaction, end_pages, give_back, refuse_grant}
use Rattle.cb_protocol.specs.Messages.{AbortNow, Body, Callback, Done, Downgrade, Downgraded}
use Rattle.cb_protocol.specs.Messages.{Granted, InUse, MayWrite, Welcome}

-- The pool lets a page go to make room: its grant becomes bare where the transaction reads the
-- page, else the copy is given back.
abbrev pub let_page_go : Client → (let_go : Option ℕ) → List ClientStep
let_page_go client None = []
let_page_go client (Some page) =
    if client.cache.locked page then ChangeCache (MakeBare page) ∷ []
    else give_back page (client.cache.held page)

-- Granted for the grant that is held: bytes for a bare grant, where they are of the very version
-- that is held and a read ask is out.
abbrev pub take_granted_held : Client → (page grant version : ℕ) → Bytes → (let_go : Option ℕ)
    → (content : Option Bytes) → List ClientStep
take_granted_held client page grant version bytes let_go (Some content) = []
take_granted_held client page grant version bytes let_go None =
    if (client.cache.version page == version) && asks_to_read client.ask page
    then let_page_go client let_go ++ SetAsk NoAsk ∷ ChangeCache (Fill page grant bytes) ∷ []
    else []

-- Granted where nothing is held: a new copy only where the grant is greater than all seen and a
-- read ask for the page is out; it answers the ask and locks the page. Else the grant is given
-- back.
abbrev pub take_new_grant : Client → (page grant version : ℕ) → Bytes → (let_go : Option ℕ)
    → List ClientStep
take_new_grant client page grant version bytes let_go =
    if nat_lt (client.cache.seen page) grant && asks_to_read client.ask page
    then let_page_go client let_go
    ++ SetAsk NoAsk ∷ ChangeCache (Install page grant version bytes) ∷ ChangeCache (Lock page) ∷ []
    else refuse_grant page grant

-- Granted, by the grant held: another one than that is given back.
abbrev pub take_granted : Client → (page grant version : ℕ) → Bytes → (let_go : Option ℕ)
    → (held : Option ℕ) → List ClientStep
take_granted client page grant version bytes let_go (Some held) =
    if held == grant
    then take_granted_held client page grant version bytes let_go (client.cache.content page)
    else refuse_grant page grant
take_granted client page grant version bytes let_go None =
    take_new_grant client page grant version bytes let_go

-- Callback of the grant held: a copy that the transaction reads is in use and due at its end; one
-- that it does not read goes at once.
abbrev pub call_back_held : Client → (page grant : ℕ) → List ClientStep
call_back_held client page grant =
    if client.cache.locked page
    then MarkDue page ∷ Say (InUse client.cache.number page grant) ∷ []
    else give_back page (Some grant)

-- Callback: a grant that is not held is given back too, even if it never came.
abbrev pub take_callback : Client → (page grant : ℕ) → List ClientStep
take_callback client page grant =
    if is_exactly (client.cache.held page) grant then call_back_held client page grant
    else refuse_grant page grant

-- Downgrade: the permission with that tag goes, at once where the transaction did not use it, else
-- at its end.
abbrev pub take_downgrade : Client → (page grant tag : ℕ) → List ClientStep
take_downgrade client page grant tag =
    if not (is_exactly (client.cache.held page) grant) then refuse_grant page grant
    else if not (client.cache.may_write page && (client.cache.tag page == tag))
    then Say (Downgraded page grant tag) ∷ []
    else if is_fixed client page
    then MarkDueDowngrade page (record { grant = grant; tag = tag })
    ∷ Say (InUse client.cache.number page grant) ∷ []
    else ChangeCache (YieldPermission page) ∷ Say (Downgraded page grant tag) ∷ []

-- the message is about the open transaction
abbrev pub of_open_txn : Client → (txn : ℕ) → Bool
of_open_txn client txn = is_open client.cache.status && (client.cache.number == txn)

-- it is about the transaction that is committing
abbrev pub of_committing_txn : Client → (txn : ℕ) → Bool
of_committing_txn client txn = is_committing client.cache.status && (client.cache.number == txn)

-- a message that a welcomed client takes; kinds for the server are ignored
abbrev pub take_welcomed : Limits → Client → Body → (let_go : Option ℕ) → List ClientStep
take_welcomed limits client (Granted page grant version bytes) let_go =
    take_granted client page grant version bytes let_go (client.cache.held page)
take_welcomed limits client (MayWrite txn page grant) let_go =
    if of_open_txn client txn && asks_to_write client.ask page
    && is_exactly (client.cache.held page) grant
    then SetAsk NoAsk ∷ ChangeCache (TakePermission page) ∷ [] else []
take_welcomed limits client (Callback page grant) let_go = take_callback client page grant
take_welcomed limits client (Done txn number) let_go =
    if of_committing_txn client txn
    then EndTransaction (Committed number) ∷ ChangeCache (TakeDone number)
    ∷ end_pages client false limits.pages
    else []
take_welcomed limits client (AbortNow txn) let_go =
    if of_open_txn client txn then drop_transaction limits client Aborted else []
take_welcomed limits client (Downgrade page grant tag) let_go =
    if limits.keep_write then take_downgrade client page grant tag else []
take_welcomed limits client _ let_go = []

-- What a client does when a message of its incarnation comes; before the Welcome all others are
-- ignored. `let_go`: the page that the pool lets go, should it take in a page. Proofs open it by
-- the case lemmas of proofs/Cases.
unfoldable pub client_take : Limits → Client → Body → (let_go : Option ℕ) → List ClientStep
client_take limits client Welcome let_go = ChangeCache TakeWelcome ∷ []
client_take limits client body let_go =
    if client.cache.welcomed then take_welcomed limits client body let_go else []

-- a page's bytes come into the pool in these steps
abbrev pub brings_page : List ClientStep → Bool
brings_page [] = false
brings_page (ChangeCache (Install page grant version bytes) ∷ steps) = true
brings_page (ChangeCache (Fill page grant bytes) ∷ steps) = true
brings_page (_ ∷ steps) = brings_page steps

-- The law of the pool's choice, where a page comes in that was not there: nothing goes where there
-- is room; where the pool is full one page goes, which is there and not fixed.
abbrev pub MayLetGo : Limits → Client → (page : ℕ) → (let_go : Option ℕ) → Type 0
MayLetGo limits client page None = pages_in_pool client limits.pages < limits.slots
MayLetGo limits client page (Some gone) =
    (gone ≢ page) × (is_none (client.cache.content gone) ≡ false)
    × (is_fixed client gone ≡ false) × (limits.slots ≤ pages_in_pool client limits.pages)

-- it binds the choice at a Granted that brings a page, the one message that can
abbrev pub ChoiceAllowed : Limits → Client → Body → (let_go : Option ℕ) → Type 0
ChoiceAllowed limits client (Granted page grant version bytes) let_go =
    brings_page (client_take limits client (Granted page grant version bytes) let_go) ≡ true
    → MayLetGo limits client page let_go
ChoiceAllowed limits client _ let_go = ⊤

-- the steps of a client at a message, with the pool's choice left open
abbrev pub ClientTakes : Limits → Client → Body → List ClientStep → Type 0
ClientTakes limits client body steps =
    (let_go : Option ℕ) × ChoiceAllowed limits client body let_go
    × (steps ≡ client_take limits client body let_go)
