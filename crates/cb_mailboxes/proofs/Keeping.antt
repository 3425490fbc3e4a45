-- What always holds of a dispatcher is kept by its calls.
use Rattle.std.proofs.Common.{◌≡◌, ◌<◌, ◌≤◌, ℕ, not, ◌==◌, List, [], drop, length, filter}
use Rattle.std.proofs.Common.{replicate, reverse, slice_index_or, slice_set, ◌||◌, refl, sym, ◌∙◌}
use Rattle.std.proofs.Common.{ap, subst, arith, inl, inr, ◌⊎◌}
use Rattle.std.proofs.lemmas.Bool.{cases_lt}
use Rattle.std.proofs.lemmas.List.{append-nil, get_or-replicate, get_or_past, length-replicate}
use Rattle.std.proofs.lemmas.List.{length-set}
use Rattle.cb_commit.specs.Stores.{IsSound, StoreState}
use Rattle.cb_frame.specs.declared.frame.Frame.{Frame}
use Rattle.cb_mailboxes.proofs.Dispatching.{by_server, dismisses, greets, posts, silences}
use Rattle.cb_mailboxes.proofs.Dispatching.{unchanged, unchanged_too}
use Rattle.cb_mailboxes.proofs.Mail.{mail_anew, mail_collected, mail_dismissed, mail_posted}
use Rattle.cb_mailboxes.proofs.Mail.{mail_stays, mail_unchanged, new_mail, resumed_mail}
use Rattle.cb_mailboxes.proofs.Posting.{collected_one}
use Rattle.cb_mailboxes.specs.Dispatching.{DispatcherState, mailbox_of, server_of}
use Rattle.cb_mailboxes.specs.Mail.{HasMail}
use Rattle.cb_mailboxes.specs.Mailboxes.{AsBefore, MailboxesState, current_in, is_said_to}
use Rattle.cb_mailboxes.specs.Mailboxes.{mailbox_in}
use Rattle.cb_outbox.specs.Messages.{messages_of}
use Rattle.cb_page.specs.Bounds.{Bounds}
use Rattle.cb_page.specs.Clients.{has}
use Rattle.cb_protocol.specs.AnyMessages.{ComesFromClient, Input, MessageComes}
use Rattle.cb_protocol.specs.Basics.{IsIn}
use Rattle.cb_protocol.specs.Messages.{Body}
use Rattle.cb_server.specs.ServerValue as server
use Rattle.cb_server.specs.ServerValue.{IsNew, IsResumed, ServerValue, limits_at}
use Rattle.cb_server.specs.Taking.{Does}
use Rattle.cb_server_state.specs.States as states
use Rattle.cb_server_state.specs.declared.server_state.ServerState.{ServerState}

-- a dispatcher of these
abbrev of : ServerValue → MailboxesState → DispatcherState
of s boxes = record { server = s; mailboxes = boxes }

-- what always holds of it
abbrev pub IsKept : ServerValue → MailboxesState → Type 0
IsKept s boxes = (length boxes.boxes ≡ s.limits.clients)
    × HasMail (record { server = s; mailboxes = boxes })

pub kept_told : (s : ServerValue) (old new : MailboxesState)
    → new ≡ record old { untold = new.untold } → IsKept s old → IsKept s new
kept_told s old new e k = (
  ap (λ (o : MailboxesState). length o.boxes) e ∙ k.0,
  mail_stays (of s old) (of s new) refl refl
      (λ client frame i. subst (λ (l : List Frame). IsIn frame l)
      (ap (λ (o : MailboxesState). mailbox_in (current_in (server.server_of s)) o client) e) i) k.1,
)

pub kept_forgot : (s new : ServerValue) (number : ℕ) (boxes : MailboxesState)
    → new ≡ server.forgot s number → IsKept s boxes → IsKept new boxes
kept_forgot s new number boxes e k = rw e (
  k.0,
  mail_stays (of s boxes)
      (of (server.forgot s number) boxes) refl refl (λ client frame i. i) k.1,
)

pub same_before : (current : ℕ → ℕ) (boxes : MailboxesState) → AsBefore current boxes boxes
same_before current boxes = record { mailbox = λ client. refl; clients = refl; untold = refl }

-- late frames were put into their mailboxes
pub kept_ready : (s : ServerValue) (h : ServerState) (old ready : MailboxesState) → h ≡ s.state
    → AsBefore (current_in (states.server_of h)) old ready → IsKept s old → IsKept s ready
kept_ready s h old ready e before k =
    let as_before = by_server s h old ready e before in (
      as_before.clients ∙ k.0,
      mail_unchanged (of s old) (of s ready) (unchanged (of s old) ready as_before) k.1,
    )

-- and then the call was refused
pub kept_refused : (s : ServerValue) (h : ServerState) (old ready : MailboxesState)
    (new : ServerValue) → h ≡ s.state → AsBefore (current_in (states.server_of h)) old ready
    → server.IsUnchanged s new → IsKept s old → IsKept new ready
kept_refused s h old ready new e before same k =
    let as_before = by_server s h old ready e before in (
      as_before.clients ∙ k.0 ∙ ap (λ (b : Bounds). b.clients) (sym same.limits),
      mail_unchanged (of s old) (of new ready) (unchanged_too (of s old) ready new as_before same)
          k.1,
    )

pub kept_collected : (s : ServerValue) (h : ServerState) (old ready new : MailboxesState)
    (client : ℕ) → h ≡ s.state → AsBefore (current_in (states.server_of h)) old ready
    → ready.late ≡ []
    → new ≡ record ready {
      boxes = slice_set ready.boxes client (drop 1 (slice_index_or ready.boxes client []));
    } → client < length ready.boxes → IsKept s old → IsKept s new
kept_collected s h old ready new client e before none f lt k =
    let as_before = by_server s h old ready e before in (
      ap (λ (o : MailboxesState). length o.boxes) f
          ∙ length-set ready.boxes client (drop 1 (slice_index_or ready.boxes client []))
          ∙ as_before.clients ∙ k.0,
      mail_collected (of s old) (of s new) client refl
          (collected_one (current_in (server.server_of s)) old ready new client lt as_before none f)
          k.1,
    )

-- A step was made, and what it says was put behind.
module _ (s : ServerValue) (h : ServerState) (old ready : MailboxesState) (new : ServerValue)
    (input : Input) (said : List Frame) (e : h ≡ s.state)
    (before : AsBefore (current_in (states.server_of h)) old ready) (none : ready.late ≡ [])
    (does : Does s input (messages_of said) new)
    (comes : ComesFromClient (limits_at s) (server.server_of s) input) (k : IsKept s old) where
  as_before : AsBefore (current_in (server.server_of s)) old ready
  as_before = by_server s h old ready e before

  sizes : length ready.boxes ≡ new.limits.clients
  sizes = as_before.clients ∙ k.0 ∙ ap (λ (b : Bounds). b.clients) (sym does.limits)

  pub kept_posted : (boxes : MailboxesState) → boxes.boxes ≡ ready.boxes
      → boxes.late ≡ reverse said
      → ((client : ℕ) → has boxes.untold client
      ≡ (has ready.untold client || is_said_to client said)) → IsKept new boxes
  kept_posted boxes f g t = (
    ap (λ (l : List (List Frame)). length l) f ∙ sizes,
    mail_posted (of s old) (of new boxes) input
        (posts (of s old) input ready new said as_before none does boxes f g t) comes k.1,
  )

  pub kept_greeted : (client : ℕ) (cleared boxes : MailboxesState)
      → client < length ready.boxes
      → cleared ≡ record ready { boxes = slice_set ready.boxes client [] }
      → boxes.boxes ≡ cleared.boxes → boxes.late ≡ reverse said
      → ((d : ℕ) → has boxes.untold d ≡ (has cleared.untold d || is_said_to d said))
      → IsKept new boxes
  kept_greeted client cleared boxes lt c f g t = (
    ap (λ (l : List (List Frame)). length l) f ∙ ap (λ (o : MailboxesState). length o.boxes) c
        ∙ length-set ready.boxes client [] ∙ sizes,
    mail_anew (of s old) (of new boxes) input client
        (greets (of s old) input ready new said as_before none does client cleared boxes lt c f g t)
        comes k.1,
  )

  pub kept_dismissed : (client : ℕ) (kept : List Frame) (cleared boxes : MailboxesState)
      → client < length ready.boxes → kept ≡ filter (λ frame. not (frame.client == client)) said
      → cleared ≡ record ready { boxes = slice_set ready.boxes client [] }
      → boxes.boxes ≡ cleared.boxes → boxes.late ≡ reverse kept
      → ((d : ℕ) → has boxes.untold d ≡ (has cleared.untold d || is_said_to d kept))
      → IsKept new boxes
  kept_dismissed client kept cleared boxes lt filtered c f g t = (
    ap (λ (l : List (List Frame)). length l) f ∙ ap (λ (o : MailboxesState). length o.boxes) c
        ∙ length-set ready.boxes client [] ∙ sizes,
    mail_dismissed (of s old) (of new boxes) input client
        (dismisses (of s old) input ready new said as_before none does client kept cleared boxes lt
        filtered c f g t)
        (silences (of s old) input ready new said as_before none does client kept cleared boxes lt
        filtered c f g) comes k.1,
  )

-- where the client of a frame is one that there is
pub comes_from : (before ready : DispatcherState) (client incarnation : ℕ) (said : Body)
    → ready.server ≡ before.server → client < before.server.limits.clients
    → ComesFromClient (limits_at ready.server) (server_of ready)
    (MessageComes client incarnation said)
comes_from before ready client incarnation said same lt =
    subst (λ (s : ServerValue). client < s.limits.clients) (sym same) lt

abbrev no_frames : List Frame
no_frames = []

-- the mailboxes as they are made
abbrev AreEmpty : ℕ → MailboxesState → Type 0
AreEmpty count boxes =
    boxes ≡ record { boxes = replicate count []; late = []; untold = boxes.untold }

nothing_sent : (count : ℕ) (new : ServerValue) (boxes : MailboxesState) → AreEmpty count boxes
    → (client : ℕ) → mailbox_of (record { server = new; mailboxes = boxes }) client ≡ []
nothing_sent count new boxes empty client =
    ap (λ (o : MailboxesState). mailbox_in (current_in (server.server_of new)) o client) empty
    ∙ append-nil (slice_index_or (replicate count no_frames) client no_frames)
    ∙ nothing (cases_lt client count)
  where
    nothing : (client < count) ⊎ (count ≤ client)
        → slice_index_or (replicate count no_frames) client no_frames ≡ no_frames
    nothing (inl lt) = get_or-replicate count client no_frames no_frames lt
    nothing (inr le) = get_or_past (replicate count no_frames) client no_frames
        (let l = length-replicate count no_frames in omega (arith, l, le))

all_made : (count : ℕ) (boxes : MailboxesState) → AreEmpty count boxes
    → length boxes.boxes ≡ count
all_made count boxes empty = ap (λ (o : MailboxesState). length o.boxes) empty
    ∙ length-replicate count no_frames

pub kept_new : (limits : Bounds) (store : StoreState) (count : ℕ) (new : ServerValue)
    (boxes : MailboxesState) → IsSound store → IsNew limits store new → count ≡ limits.clients
    → AreEmpty count boxes → IsKept new boxes
kept_new limits store count new boxes sound is e empty = (
  all_made count boxes empty ∙ e ∙ ap (λ (b : Bounds). b.clients) (sym is.limits),
  new_mail limits store (of new boxes) sound is (nothing_sent count new boxes empty),
)

pub kept_resumed : (limits : Bounds) (store : StoreState) (floor count : ℕ) (new : ServerValue)
    (boxes : MailboxesState) → IsSound store → 1 ≤ floor → IsResumed limits store floor new
    → count ≡ limits.clients → AreEmpty count boxes → IsKept new boxes
kept_resumed limits store floor count new boxes sound least is e empty = (
  all_made count boxes empty ∙ e ∙ ap (λ (b : Bounds). b.clients) (sym is.limits),
  resumed_mail limits store floor (of new boxes) sound least is
      (nothing_sent count new boxes empty),
)
