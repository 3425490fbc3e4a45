-- What lies in the mailboxes was said by the server, whatever is called.
use Rattle.std.proofs.Common.{◌≡◌, ◌≢◌, ◌≤◌, ◌+◌, ℕ, Bool, true, false, ◌&&◌, ◌==◌}
use Rattle.std.proofs.Common.{if◌then◌else◌, cond, List, [], ◌∷◌, ◌++◌, drop}
use Rattle.std.proofs.Common.{filter, slice_get, Option, Some, None, refl, sym, ◌∙◌, ap, subst}
use Rattle.std.proofs.Common.{arith, inl, inr, ◌⊎◌}
use Rattle.std.specs.Prelude.{IfSome}
use Rattle.std.proofs.lemmas.Bool.{cases_eq}
use Rattle.std.proofs.lemmas.Bool.Decides.{nat_tests}
use Rattle.cb_commit.specs.Stores.{IsSound, StoreState}
use Rattle.cb_frame.specs.declared.frame.Frame.{Frame}
use Rattle.cb_laws.specs.RowVersions.{GrantedSent, RowVersions}
use Rattle.cb_mailboxes.specs.Dispatching.{DispatcherState, Everybody, IsUnchanged, Others, Posts}
use Rattle.cb_mailboxes.specs.Dispatching.{emptied, mailbox_of, server_of, without_oldest}
use Rattle.cb_mailboxes.specs.Mail.{HasMail, IsMailFor}
use Rattle.cb_mailboxes.specs.Mailboxes.{addressed, current_in, is_for}
use Rattle.cb_outbox.specs.Messages.{body_of, message_of, messages_of}
use Rattle.cb_page.specs.Bounds.{Bounds}
use Rattle.cb_protocol.proofs.LifeImage.{in_append, in_left, in_right}
use Rattle.cb_protocol.specs.AnyMessages.{ComesFromClient, Input}
use Rattle.cb_protocol.specs.Basics.{Bytes, IsIn}
use Rattle.cb_protocol.specs.Messages.{Granted, Message}
use Rattle.cb_server.specs.ServerValue as server
use Rattle.cb_server.specs.ServerValue.{IsNew, IsResumed, ServerValue, limits_at}
use Rattle.cb_server.proofs.RowsSaid.{says_row_versions}
use Rattle.cb_server.specs.Said.{Answered, HasSaid, Opened, Resumed, Stayed}
use Rattle.cb_server.specs.Taking.{Does}

in_filter : {A : Type 0} (p : A → Bool) (x : A) (xs : List A) → IsIn x (filter p xs)
    → IsIn x xs × (p x ≡ true)
in_filter p x [] i = absurd i
in_filter p x (y ∷ xs) i = by (λ j. in_filter p x xs j) (p y) refl i
  where
    by : (IsIn x (filter p xs) → IsIn x xs × (p x ≡ true)) → (b : Bool) → p y ≡ b
        → IsIn x (cond b (y ∷ filter p xs) (filter p xs)) → IsIn x (y ∷ xs) × (p x ≡ true)
    by rest true e (inl f) = (inl f, sym (ap p f) ∙ e)
    by rest true e (inr j) = let r = rest j in (inr r.0, r.1)
    by rest false e j = let r = rest j in (inr r.0, r.1)

in_messages : (frame : Frame) (frames : List Frame) → IsIn frame frames
    → IsIn (message_of frame) (messages_of frames)
in_messages frame [] i = absurd i
in_messages frame (first ∷ frames) (inl e) = inl (ap message_of e)
in_messages frame (first ∷ frames) (inr i) = inr (in_messages frame frames i)

in_dropped : {A : Type 0} (x : A) (xs : List A) → IsIn x (drop 1 xs) → IsIn x xs
in_dropped x [] i = absurd i
in_dropped x (y ∷ xs) i = inr i

for_client : (current : ℕ → ℕ) (client : ℕ) (frame : Frame) → is_for current client frame ≡ true
    → frame.client ≡ client
for_client current client frame e = go (frame.client == client) refl e
  where
    go : (b : Bool) → (frame.client == client) ≡ b
        → (b && (frame.incarnation == current client)) ≡ true → frame.client ≡ client
    go true f g = grind (arith, nat_tests)
    go false f g = absurd (let z : false ≡ true = g in cc)

-- A frame that the server said to the client is mail for it, by the law of row versions.
mail_for : (d : DispatcherState) (sent : List Message) (client : ℕ) (frame : Frame)
    → HasSaid d.server sent → IsIn (message_of frame) sent → frame.client ≡ client
    → IsMailFor (server_of d) client frame
mail_for d sent client frame by_server i to = record {
  addressed = to;
  copy = λ page grant version bytes e row.
      let was : GrantedSent sent client frame.incarnation page grant version bytes =
      subst (λ (m : Message). IsIn m sent) (same page grant version bytes e) i in record {
        current = rows.current client frame.incarnation page grant version bytes was row;
        stored = rows.version client frame.incarnation page grant version bytes was row;
      };
}
  where
    rows : RowVersions (server_of d) sent
    rows = says_row_versions d.server sent by_server

    same : (page grant version : ℕ) (bytes : Bytes)
        → body_of frame.body ≡ Granted page grant version bytes
        → message_of frame ≡ record {
          client = client;
          incarnation = frame.incarnation;
          body = Granted page grant version bytes;
        }
    same page grant version bytes e =
        λ j. record { client = to j; incarnation = frame.incarnation; body = e j }

-- Mail is what was said to its client.
has_mail : (d : DispatcherState) (sent : List Message) → HasSaid d.server sent
    → ((client : ℕ) (frame : Frame) → IsIn frame (mailbox_of d client)
    → IsIn (message_of frame) sent × (frame.client ≡ client)) → HasMail d
has_mail d sent by_server from = record {
  sent = sent;
  by_server = by_server;
  said = λ client frame i. (from client frame i).0;
  mail = λ client frame i. let x = from client frame i in
      mail_for d sent client frame by_server x.0 x.1;
}

-- a server as it begins, and nothing is to be sent
begun_mail : (d : DispatcherState) → HasSaid d.server []
    → ((client : ℕ) → mailbox_of d client ≡ []) → HasMail d
begun_mail d by_server none = has_mail d [] by_server
    (λ client frame i. absurd (subst (λ (l : List Frame). IsIn frame l) (none client) i))

-- a new one said nothing
pub new_mail : (limits : Bounds) (store : StoreState) (d : DispatcherState) → IsSound store
    → IsNew limits store d.server → ((client : ℕ) → mailbox_of d client ≡ []) → HasMail d
new_mail limits store d sound new none = begun_mail d (Opened limits store d.server sound new) none

-- nor did one of a later life
pub resumed_mail : (limits : Bounds) (store : StoreState) (floor : ℕ) (d : DispatcherState)
    → IsSound store → 1 ≤ floor → IsResumed limits store floor d.server
    → ((client : ℕ) → mailbox_of d client ≡ []) → HasMail d
resumed_mail limits store floor d sound least is none =
    begun_mail d (Resumed limits store floor d.server sound least is) none

-- The server does a step, and what it says is put behind what was to be sent.
module _ (old new : DispatcherState) (input : Input) (said : List Frame)
    (does : Does old.server input (messages_of said) new.server)
    (comes : ComesFromClient (limits_at old.server) (server_of old) input) (h : HasMail old) where
  -- each frame was to be sent before, or is said now
  abbrev Comes : ℕ → Type 0
  Comes client = (frame : Frame) → IsIn frame (mailbox_of new client)
      → IsIn frame (mailbox_of old client) ⊎ (IsIn frame said × (frame.client ≡ client))

  mail_after : ((client : ℕ) → Comes client) → HasMail new
  mail_after from = has_mail new (h.sent ++ messages_of said)
      (Answered h.by_server input (messages_of said) new.server comes does)
      (λ client frame i. by client frame (from client frame i))
    where
      by : (client : ℕ) (frame : Frame)
          → IsIn frame (mailbox_of old client) ⊎ (IsIn frame said × (frame.client ≡ client))
          → IsIn (message_of frame) (h.sent ++ messages_of said) × (frame.client ≡ client)
      by client frame (inl j) = (
        in_left (message_of frame) h.sent (messages_of said) (h.said client frame j),
        (h.mail client frame j).addressed,
      )
      by client frame (inr j) = (
        in_right (message_of frame) h.sent (messages_of said) (in_messages frame said j.0),
        j.1,
      )

  -- behind those of these that stayed
  behind : (before : ℕ → List Frame) (client : ℕ)
      → ((frame : Frame) → IsIn frame (before client) → IsIn frame (mailbox_of old client))
      → mailbox_of new client ≡ before client ++ addressed (current_in (server_of new)) client said
      → Comes client
  behind before client kept e frame i =
      let told : List Frame = addressed (current_in (server_of new)) client said in
      by (in_append frame (before client) told (subst (λ (l : List Frame). IsIn frame l) e i))
    where
      by : IsIn frame (before client)
          ⊎ IsIn frame (addressed (current_in (server_of new)) client said)
          → IsIn frame (mailbox_of old client) ⊎ (IsIn frame said × (frame.client ≡ client))
      by (inl j) = inl (kept frame j)
      by (inr j) = let k = in_filter (is_for (current_in (server_of new)) client) frame said j in
          inr (k.0, for_client (current_in (server_of new)) client frame k.1)

-- to everybody
pub mail_posted : (old new : DispatcherState) (input : Input)
    → Posts old input (mailbox_of old) Everybody new
    → ComesFromClient (limits_at old.server) (server_of old) input → HasMail old → HasMail new
mail_posted old new input p comes h = mail_after old new input p.said p.does comes h
    (λ client. behind old new input p.said p.does comes h (mailbox_of old) client (λ f i. i)
    (p.mailbox client tt))

-- after a client's mailbox was emptied
pub mail_anew : (old new : DispatcherState) (input : Input) (client : ℕ)
    → Posts old input (emptied (mailbox_of old) client) Everybody new
    → ComesFromClient (limits_at old.server) (server_of old) input → HasMail old → HasMail new
mail_anew old new input client p comes h = mail_after old new input p.said p.does comes h
    (λ c. behind old new input p.said p.does comes h (emptied (mailbox_of old) client) c (kept c)
    (p.mailbox c tt))
  where
    kept : (c : ℕ) (frame : Frame) → IsIn frame (emptied (mailbox_of old) client c)
        → IsIn frame (mailbox_of old c)
    kept c frame i = go (c == client) i
      where
        go : (b : Bool) → IsIn frame (if b then [] else mailbox_of old c)
            → IsIn frame (mailbox_of old c)
        go true j = absurd j
        go false j = j

-- to all but one client
pub mail_dismissed : (old new : DispatcherState) (input : Input) (client : ℕ)
    → Posts old input (mailbox_of old) (Others client) new → mailbox_of new client ≡ []
    → ComesFromClient (limits_at old.server) (server_of old) input → HasMail old → HasMail new
mail_dismissed old new input client p silent comes h =
    mail_after old new input p.said p.does comes h (λ c. by c (cases_eq c client))
  where
    by : (c : ℕ) → (c ≡ client) ⊎ (c ≢ client) → (frame : Frame)
        → IsIn frame (mailbox_of new c)
        → IsIn frame (mailbox_of old c) ⊎ (IsIn frame p.said × (frame.client ≡ c))
    by c (inl e) frame i = absurd (subst (λ (l : List Frame). IsIn frame l) silent
        (subst (λ (k : ℕ). IsIn frame (mailbox_of new k)) e i))
    by c (inr n) frame i = behind old new input p.said p.does comes h (mailbox_of old) c
        (λ f j. j) (p.mailbox c n) frame i

-- the server stays, and nothing comes into a mailbox
pub mail_stays : (old new : DispatcherState) → new.server.limits ≡ old.server.limits
    → server_of new ≡ server_of old
    → ((client : ℕ) (frame : Frame) → IsIn frame (mailbox_of new client)
    → IsIn frame (mailbox_of old client)) → HasMail old → HasMail new
mail_stays old new limits same less h =
    has_mail new h.sent (Stayed h.by_server new.server limits same)
    (λ client frame i. let was = less client frame i in
    (h.said client frame was, (h.mail client frame was).addressed))

pub mail_unchanged : (old new : DispatcherState) → IsUnchanged old new → HasMail old → HasMail new
mail_unchanged old new same h = mail_stays old new same.server.limits same.server.server
    (λ client frame i. subst (λ (l : List Frame). IsIn frame l) (same.mailbox client) i) h

pub mail_collected : (old new : DispatcherState) (client : ℕ) → new.server ≡ old.server
    → ((other : ℕ) → mailbox_of new other ≡ without_oldest (mailbox_of old) client other)
    → HasMail old → HasMail new
mail_collected old new client same rest h =
    mail_stays old new (ap (λ (s : ServerValue). s.limits) same) (ap server.server_of same)
    (λ c frame i. kept c frame (cases_eq c client)
    (subst (λ (l : List Frame). IsIn frame l) (rest c) i)) h
  where
    kept : (c : ℕ) (frame : Frame) → (c ≡ client) ⊎ (c ≢ client)
        → IsIn frame (without_oldest (mailbox_of old) client c) → IsIn frame (mailbox_of old c)
    kept c frame (inl e) i = subst (λ (k : ℕ). IsIn frame (mailbox_of old k)) (sym e)
        (in_dropped frame (mailbox_of old client)
        (at (c == client) (let f : (c == client) ≡ true = grind (arith, nat_tests) in f) i))
      where
        at : (b : Bool) → b ≡ true
            → IsIn frame (if b then drop 1 (mailbox_of old client) else mailbox_of old c)
            → IsIn frame (drop 1 (mailbox_of old client))
        at true f j = j
        at false f j = absurd (let z : false ≡ true = f in cc)
    kept c frame (inr n) i =
        at (c == client) (let f : (c == client) ≡ false = grind (arith, nat_tests) in f) i
      where
        at : (b : Bool) → b ≡ false
            → IsIn frame (if b then drop 1 (mailbox_of old client) else mailbox_of old c)
            → IsIn frame (mailbox_of old c)
        at true f j = absurd (let z : true ≡ false = f in cc)
        at false f j = j

in_first : (frames : List Frame) (frame : Frame) → slice_get frames 0 ≡ Some frame
    → IsIn frame frames
in_first [] frame e = absurd (let z : None ≡ Some frame = e in cc)
in_first (first ∷ frames) frame e = inl (let z : Some first ≡ Some frame = e in cc)

-- the oldest one is mail
pub oldest_mail : (d : DispatcherState) (client : ℕ) (o : Option Frame) → HasMail d
    → o ≡ slice_get (mailbox_of d client) 0 → IfSome o (IsMailFor (server_of d) client)
oldest_mail d client None h e = tt
oldest_mail d client (Some frame) h e =
    h.mail client frame (in_first (mailbox_of d client) frame (sym e))
