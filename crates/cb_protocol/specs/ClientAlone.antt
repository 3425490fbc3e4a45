-- A client alone: each callback is answered at once, and a page in use is given back once, as its
-- transaction ends.
use Rattle.std.specs.Prelude.{◌≡◌, ◌≢◌, ◌<◌, ℕ, Bool, true, false, ◌&&◌, ◌||◌, if◌then◌else◌, ◌==◌}
use Rattle.std.specs.Prelude.{List, [], ◌∷◌, Option, Some, None, ⊤}
use Rattle.cb_protocol.specs.Basics.{Limits, IsIn, is_none, update}
use Rattle.cb_protocol.specs.Messages.{Body, GiveBack, InUse, Callback, Done, AbortNow, Downgrade}
use Rattle.cb_protocol.specs.Messages.{Downgraded}
use Rattle.cb_protocol.specs.Cache.{Idle}
use Rattle.cb_protocol.specs.Client.{Client, ClientStep, DueDowngrade, new_client, client_after}
use Rattle.cb_protocol.specs.Client.{bodies_said, is_fixed}
use Rattle.cb_protocol.specs.ClientCalls.{Call, CallDrop, client_call, first_refusal, open_causes}
use Rattle.cb_protocol.specs.ClientMessages.{ChoiceAllowed, client_take, of_open_txn}
use Rattle.cb_protocol.specs.ClientMessages.{of_committing_txn}

-- what comes to a client: a call; or a message of its incarnation, with the page that its pool lets
-- go should it take one in
pub data ClientInput : Type 0 where
  ReceivesCall : Call → ClientInput
  ReceivesMessage : Body → (let_go : Option ℕ) → ClientInput

-- the pool keeps the law of its choice
abbrev pub InputAllowed : Limits → Client → ClientInput → Type 0
InputAllowed limits client (ReceivesCall call) = ⊤
InputAllowed limits client (ReceivesMessage body let_go) = ChoiceAllowed limits client body let_go

-- what it does at it
abbrev pub client_steps_at : Limits → Client → ClientInput → List ClientStep
client_steps_at limits client (ReceivesCall call) = (client_call limits client call).steps
client_steps_at limits client (ReceivesMessage body let_go) = client_take limits client body let_go

-- the client after it
abbrev pub after_input : Limits → Client → ClientInput → Client
after_input limits client input =
    client_after limits.keep_write client (client_steps_at limits client input)

-- A client that was new, after calls and messages of its incarnation that are allowed.
pub data Arises (limits : Limits) (Allowed : ClientInput → Type 0) : Client → Type 0 where
  StartsNew : Arises limits Allowed new_client
  Continues : (client : Client) (input : ClientInput) → Arises limits Allowed client
      → InputAllowed limits client input → Allowed input
      → Arises limits Allowed (after_input limits client input)

-- whatever is called and comes
abbrev pub Anything : ClientInput → Type 0
Anything input = ⊤

-- that grant of the page is held, and the open or committing transaction read the page
abbrev pub Reading : Client → (page grant : ℕ) → Type 0
Reading client page grant =
    (client.cache.held page ≡ Some grant) × (client.cache.locked page ≡ true)

-- What a client says to a Callback, and is after it (callback locking: TODS 1997).
pub record AnswersCallback (before after : Client) (said : List Body) (page grant : ℕ)
    : Type 0 where
  -- in use: exactly where the grant is held and the transaction read the page. The page is then
  -- due, and nothing else changes
  pub in_use : Reading before page grant
      → (said ≡ InUse before.cache.number page grant ∷ [])
      × (after ≡ record before { due = update before.due page true })
  -- else given back, also where the grant never came; it is not held afterwards
  pub back : (Reading before page grant → ⊥)
      → (said ≡ GiveBack page grant ∷ []) × (after.cache.held page ≢ Some grant)

-- Each callback is answered by one message at once.
abbrev pub CallbackAnsweredAtOnce : Limits → Type 0
CallbackAnsweredAtOnce limits = (client : Client) (page grant : ℕ) (let_go : Option ℕ)
    → client.cache.welcomed ≡ true
    → let input = ReceivesMessage (Callback page grant) let_go in
    AnswersCallback client (after_input limits client input)
    (bodies_said (client_steps_at limits client input)) page grant

-- the transaction uses that permission of the page: it has the tag, and the page is wanted or was
-- written
abbrev pub Using : Client → (page grant tag : ℕ) → Type 0
Using client page grant tag =
    (client.cache.held page ≡ Some grant) × (client.cache.may_write page ≡ true)
    × (client.cache.tag page ≡ tag) × (is_fixed client page ≡ true)

-- What a client says to a Downgrade, and is after it, where permission is kept (this project's
-- rule).
pub record AnswersDowngrade (before after : Client) (said : List Body) (page grant tag : ℕ)
    : Type 0 where
  -- in use: exactly where the grant is held and its permission with that tag is used. The downgrade
  -- is then due, and nothing else changes
  pub in_use : Using before page grant tag
      → (said ≡ InUse before.cache.number page grant ∷ [])
      × (after ≡ record before {
        due_downgrade =
            update before.due_downgrade page (Some (record { grant = grant; tag = tag }));
      })
  -- given up: where the grant is held otherwise; no permission with that tag is left
  pub down : before.cache.held page ≡ Some grant → (Using before page grant tag → ⊥)
      → (said ≡ Downgraded page grant tag ∷ [])
      × (after.cache.may_write page ≡ true → after.cache.tag page ≢ tag)
  -- given back: where it isn't held
  pub back : before.cache.held page ≢ Some grant
      → (said ≡ GiveBack page grant ∷ []) × (after.cache.held page ≢ Some grant)

-- Each downgrade is answered by one message at once, where permission is kept; else it is ignored.
abbrev pub DowngradeAnsweredAtOnce : Limits → Type 0
DowngradeAnsweredAtOnce limits = (client : Client) (page grant tag : ℕ) (let_go : Option ℕ)
    → client.cache.welcomed ≡ true
    → let input = ReceivesMessage (Downgrade page grant tag) let_go in
    let said = bodies_said (client_steps_at limits client input) in
    let after = after_input limits client input in
    (limits.keep_write ≡ false → (said ≡ []) × (after ≡ client))
    × (limits.keep_write ≡ true → AnswersDowngrade client after said page grant tag)

-- the grants of the page that these messages give back, in order
abbrev pub given_back : (page : ℕ) → List Body → List ℕ
given_back page [] = []
given_back page (GiveBack other grant ∷ bodies) =
    if other == page then grant ∷ given_back page bodies else given_back page bodies
given_back page (_ ∷ bodies) = given_back page bodies

-- the permissions of the page that they give up
abbrev pub given_down : (page : ℕ) → List Body → List DueDowngrade
given_down page [] = []
given_down page (Downgraded other grant tag ∷ bodies) =
    if other == page then record { grant = grant; tag = tag } ∷ given_down page bodies
    else given_down page bodies
given_down page (_ ∷ bodies) = given_down page bodies

-- the pages of which they give a grant back
abbrev pub pages_given_back : List Body → List ℕ
pages_given_back [] = []
pages_given_back (GiveBack page grant ∷ bodies) = page ∷ pages_given_back bodies
pages_given_back (_ ∷ bodies) = pages_given_back bodies

-- each of them is greater
abbrev pub EachGreater : (page : ℕ) → List ℕ → Type 0
EachGreater page [] = ⊤
EachGreater page (next ∷ pages) = (page < next) × EachGreater page pages

-- rising strictly
abbrev pub Rising : List ℕ → Type 0
Rising [] = ⊤
Rising (page ∷ pages) = EachGreater page pages × Rising pages

-- how a transaction fares at an input
pub data Ending : Type 0 where
  GoesOn : Ending
  EndsCommitted : Ending
  EndsDropped : Ending  -- by its own call or by the server

-- it ends so where the test holds
abbrev pub ending_if : Bool → Ending → Ending
ending_if test ending = if test then ending else GoesOn

-- the open transaction ends by an accepted drop or an AbortNow of its number, the committing one by
-- a Done of its number; nothing else ends one
abbrev pub ending : Limits → Client → ClientInput → Ending
ending limits client (ReceivesCall CallDrop) =
    ending_if (is_none (first_refusal (open_causes client))) EndsDropped
ending limits client (ReceivesCall _) = GoesOn
ending limits client (ReceivesMessage (Done txn number) let_go) =
    ending_if (client.cache.welcomed && of_committing_txn client txn) EndsCommitted
ending limits client (ReceivesMessage (AbortNow txn) let_go) =
    ending_if (client.cache.welcomed && of_open_txn client txn) EndsDropped
ending limits client (ReceivesMessage _ let_go) = GoesOn

-- what is given back of a page as the transaction ends: the grant held, where the page is due or
-- bare, or was written and that is dropped
abbrev pub owed_back : Client → (dropped : Bool) → (page : ℕ) → (held : Option ℕ) → List ℕ
owed_back client dropped page None = []
owed_back client dropped page (Some grant) =
    if client.due page || is_none (client.cache.content page)
    || (dropped && client.cache.wrote page)
    then grant ∷ [] else []

-- the downgrade that is due, as a list
abbrev pub due_alone : Option DueDowngrade → List DueDowngrade
due_alone None = []
due_alone (Some downgrade) = downgrade ∷ []

-- the permission given up of it (kept write permission alone): one whose downgrade is due, where
-- the transaction commits and the page isn't given back
abbrev pub owed_down : Client → (dropped : Bool) → (page : ℕ) → (held : Option ℕ)
    → List DueDowngrade
owed_down client dropped page None = []
owed_down client dropped page (Some grant) =
    if dropped || client.due page || is_none (client.cache.content page) then []
    else due_alone (client.due_downgrade page)

-- that page's grant stays held and due, and its transaction the same; this grant of it is not given
-- back
abbrev pub StaysDue : (before after : Client) → (said : List Body) → (page grant : ℕ) → Type 0
StaysDue before after said page grant =
    Reading after page grant × (after.due page ≡ true)
    × (after.cache.number ≡ before.cache.number) × (IsIn (GiveBack page grant) said → ⊥)

-- What a client said, and is, at its transaction's end.
pub record EndSays (before after : Client) (dropped : Bool) (said : List Body) : Type 0 where
  -- of each page exactly what it owes: one grant given back, or one permission, or nothing; pages
  -- given back rise
  pub back : (page : ℕ)
      → given_back page said ≡ owed_back before dropped page (before.cache.held page)
  pub down : (page : ℕ)
      → given_down page said ≡ owed_down before dropped page (before.cache.held page)
  pub rising : Rising (pages_given_back said)
  -- nothing is due any more, and no page is held of which a grant was given back
  pub idle : after.cache.status ≡ Idle
  pub none_due : (page : ℕ) → after.due page ≡ false
  pub gone : (page grant : ℕ) → IsIn grant (given_back page said) → after.cache.held page ≡ None

-- what holds after an input, by how the transaction fares at it
abbrev pub EndsRight : (before after : Client) → (said : List Body) → Ending → Type 0
EndsRight before after said GoesOn = (page grant : ℕ) → before.due page ≡ true
    → before.cache.held page ≡ Some grant → StaysDue before after said page grant
EndsRight before after said EndsCommitted = EndSays before after false said
EndsRight before after said EndsDropped = EndSays before after true said

-- A page whose callback was answered InUse is due until its transaction ends, and its grant is
-- given back exactly once then, and by no earlier step.
pub record GivesBackOnce (limits : Limits) (client : Client) : Type 0 where
  -- a due page is held, and read by a transaction that has not ended
  pub due : (page : ℕ) → client.due page ≡ true
      → (client.cache.status ≢ Idle) × ((grant : ℕ) × Reading client page grant)
  -- Until the end it stays so. At the end one grant is given back of each page that is due, bare or
  -- (where dropped) written, and none of another.
  pub ends : (input : ClientInput)
      → EndsRight client (after_input limits client input)
      (bodies_said (client_steps_at limits client input)) (ending limits client input)

-- so of every client that arises by what is allowed
abbrev pub InUseGivenBackOnce : Limits → (ClientInput → Type 0) → Type 0
InUseGivenBackOnce limits Allowed =
    (client : Client) → Arises limits Allowed client → GivesBackOnce limits client
