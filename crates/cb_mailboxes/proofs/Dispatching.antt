-- A dispatcher before and after its calls.
use Rattle.std.proofs.Common.{◌≡◌, ◌<◌, ℕ, Bool, not, ◌==◌, ◌||◌, List, [], length, reverse, filter, slice_index_or, slice_set, refl, sym, ◌∙◌, ap, subst, Result, Ok, Err, OnErr, All}
use Rattle.std.proofs.lemmas.List.Elements.{All-filter, All-from_recursion}
use Rattle.std.specs.List.{AllByRecursion}
use Rattle.cb_mailboxes.proofs.Posting.{posted, posted_anew, posted_nothing, posted_to_others, said_to_others}
use Rattle.cb_mailboxes.specs.Dispatching.{DispatcherState, Everybody, IsUnchanged, Others, Posts, emptied, mailbox_of, server_of}
use Rattle.cb_mailboxes.specs.Mailboxes.{AsBefore, MailboxesState, current_in, is_said_to, mailbox_in}
use Rattle.cb_frame.specs.Grammar.{Fits}
use Rattle.cb_frame.specs.declared.frame.Frame.{Frame}
use Rattle.cb_server_state.specs.States as states
use Rattle.cb_server_state.specs.declared.server_state.ServerState.{ServerState}
use Rattle.cb_outbox.specs.Messages.{messages_of}
use Rattle.cb_page.specs.Bounds.{Bounds}
use Rattle.cb_page.specs.Clients.{Clients, has}
use Rattle.cb_protocol.specs.AnyMessages.{Input}
use Rattle.cb_protocol.specs.Server.{Server}
use Rattle.cb_server.specs.ServerValue as server
use Rattle.cb_server.specs.ServerValue.{ServerValue}
use Rattle.cb_server.specs.Taking.{Does}

pub on_err : {T E : Type 0} (r : Result T E) (P : Type 0) → P → OnErr r P
on_err (Ok x) P p = tt
on_err (Err e) P p = p

-- what is late is in the mailboxes, by the server's own incarnations
pub by_server : (s : ServerValue) (h : ServerState) (old ready : MailboxesState) → h ≡ s.state → AsBefore (current_in (states.server_of h)) old ready → AsBefore (current_in (server.server_of s)) old ready
by_server s h old ready e as_before = subst (λ (k : ServerState). AsBefore (current_in (states.server_of k)) old ready) e as_before

-- a call was refused
pub unchanged : (d : DispatcherState) (ready : MailboxesState) → AsBefore (current_in (server_of d)) d.mailboxes ready → IsUnchanged d (record { server = d.server; mailboxes = ready })
unchanged d ready as_before = record { server = record { limits = refl; server = refl; rest = refl }; mailbox = as_before.mailbox; untold = as_before.untold }

pub unchanged_too : (d : DispatcherState) (ready : MailboxesState) (new : ServerValue) → AsBefore (current_in (server_of d)) d.mailboxes ready → server.IsUnchanged d.server new
    → IsUnchanged d (record { server = new; mailboxes = ready })
unchanged_too d ready new as_before same = record {
  server = same;
  mailbox = λ client. ap (λ (s : Server). mailbox_in (current_in s) ready client) same.server ∙ as_before.mailbox client;
  untold = as_before.untold;
}

-- a step was made
module _ (d : DispatcherState) (input : Input) (ready : MailboxesState) (new : ServerValue) (said : List Frame) (as_before : AsBefore (current_in (server_of d)) d.mailboxes ready) (none : ready.late ≡ [])
    (does : Does d.server input (messages_of said) new) where
  -- who is to be told beside the others
  telling : (from boxes : MailboxesState) (told : List Frame) → from.untold ≡ ready.untold → ((client : ℕ) → has boxes.untold client ≡ (has from.untold client || is_said_to client told))
      → (client : ℕ) → has boxes.untold client ≡ (has d.mailboxes.untold client || is_said_to client told)
  telling from boxes told same t client = t client ∙ ap (λ (s : Clients). has s client || is_said_to client told) (same ∙ as_before.untold)

  pub posts : (boxes : MailboxesState) → boxes.boxes ≡ ready.boxes → boxes.late ≡ reverse said → ((client : ℕ) → has boxes.untold client ≡ (has ready.untold client || is_said_to client said))
      → Posts d input (mailbox_of d) Everybody (record { server = new; mailboxes = boxes })
  posts boxes e f t = record {
    said = said;
    does = does;
    mailbox = λ client hears. posted (current_in (server_of d)) (current_in (server.server_of new)) d.mailboxes ready boxes said as_before none e f client;
    untold = λ client hears. telling ready boxes said refl t client;
  }

  pub greets : (client : ℕ) (cleared boxes : MailboxesState) → client < length ready.boxes → cleared ≡ record ready { boxes = slice_set ready.boxes client [] } → boxes.boxes ≡ cleared.boxes → boxes.late ≡ reverse said
      → ((k : ℕ) → has boxes.untold k ≡ (has cleared.untold k || is_said_to k said))
      → Posts d input (emptied (mailbox_of d) client) Everybody (record { server = new; mailboxes = boxes })
  greets client cleared boxes lt c e f t = record {
    said = said;
    does = does;
    mailbox = λ k hears. posted_anew (current_in (server_of d)) (current_in (server.server_of new)) d.mailboxes ready boxes said client lt as_before none (e ∙ ap (λ (o : MailboxesState). o.boxes) c) f k;
    untold = λ k hears. telling cleared boxes said (ap (λ (o : MailboxesState). o.untold) c) t k;
  }

  pub dismisses : (client : ℕ) (kept : List Frame) (cleared boxes : MailboxesState) → client < length ready.boxes → kept ≡ filter (λ frame. not (frame.client == client)) said
      → cleared ≡ record ready { boxes = slice_set ready.boxes client [] } → boxes.boxes ≡ cleared.boxes → boxes.late ≡ reverse kept
      → ((k : ℕ) → has boxes.untold k ≡ (has cleared.untold k || is_said_to k kept))
      → Posts d input (mailbox_of d) (Others client) (record { server = new; mailboxes = boxes })
  dismisses client kept cleared boxes lt filtered c e f t = record {
    said = said;
    does = does;
    mailbox = λ k other. posted_to_others (current_in (server_of d)) (current_in (server.server_of new)) d.mailboxes ready boxes said kept client lt as_before none filtered (e ∙ ap (λ (o : MailboxesState). o.boxes) c) f k other;
    untold = λ k other. telling cleared boxes kept (ap (λ (o : MailboxesState). o.untold) c) t k
        ∙ ap (λ (b : Bool). has d.mailboxes.untold k || b) (ap (λ (l : List Frame). is_said_to k l) filtered ∙ said_to_others client k said other);
  }

  pub silences : (client : ℕ) (kept : List Frame) (cleared boxes : MailboxesState) → client < length ready.boxes → kept ≡ filter (λ frame. not (frame.client == client)) said
      → cleared ≡ record ready { boxes = slice_set ready.boxes client [] } → boxes.boxes ≡ cleared.boxes → boxes.late ≡ reverse kept
      → mailbox_of (record { server = new; mailboxes = boxes }) client ≡ []
  silences client kept cleared boxes lt filtered c e f =
      posted_nothing (current_in (server_of d)) (current_in (server.server_of new)) d.mailboxes ready boxes said kept client lt as_before none filtered (e ∙ ap (λ (o : MailboxesState). o.boxes) c) f

-- there is a mailbox for whoever something is said to
pub kept_have_boxes : (limits : Bounds) (boxes : List (List Frame)) (client : ℕ) (said kept : List Frame) → AllByRecursion (Fits limits) said → length boxes ≡ limits.clients
    → kept ≡ filter (λ frame. not (frame.client == client)) said → All (λ frame. frame.client < length boxes) kept
kept_have_boxes limits boxes client said kept fits sizes filtered =
    subst (λ (l : List Frame). All (λ frame. frame.client < length boxes) l) (sym filtered) (All-filter (λ (frame : Frame). not (frame.client == client)) (λ (frame : Frame). frame.client < length boxes) said
    (λ k d lt. subst (λ (n : ℕ). (slice_index_or said k d).client < n) (sym sizes) (All-from_recursion (Fits limits) said fits k d lt).client))
