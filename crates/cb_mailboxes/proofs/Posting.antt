-- What is to be sent stays so while late frames are put into their mailboxes.
use Rattle.std.proofs.Common.{◌≡◌, ◌≢◌, ◌<◌, ℕ, Bool, true, false, ◌&&◌, ◌==◌, nat_lt, if◌then◌else◌, cond, ◌-◌, ◌+◌, take, slice_get, Some, List, [], ◌∷◌, ◌++◌, length, reverse, slice_index_or, slice_set, filter, drop, not, refl, sym, ap, ◌∙◌, subst, arith, inl, inr, append_assoc, ◌⊎◌, ◌||◌, ◌↔◌, IsTrue}
use Rattle.std.specs.List.{list_any}
use Rattle.std.proofs.Math.Seq.{take-length}
use Rattle.std.proofs.lemmas.Bool.{cases_eq}
use Rattle.std.proofs.lemmas.List.Elements.{filter-append}
use Rattle.std.proofs.lemmas.Option.{get_or_from_slice_get, slice_get_within}
use Rattle.std.proofs.lemmas.Bool.Decides.{nat_tests}
use Rattle.std.proofs.lemmas.List.{take_more, reverse-append, reverse-reverse, append-nil, length-set, get_or-set_same, get_or-set_other}
use Rattle.cb_mailboxes.specs.Dispatching.{emptied, without_oldest}
use Rattle.cb_mailboxes.specs.Mailboxes.{AsBefore, Moves, MailboxesState, addressed, is_for, is_said_to, mailbox_in}
use Rattle.cb_page.specs.Clients.{Clients}
use Rattle.cb_frame.specs.declared.frame.Frame.{Frame}
use Rattle.cb_server_state.specs.Questions.{admission_in}
use Rattle.cb_links.specs.declared.sessions.Admission.TheVariants.{Stale, Current, Unknown}
use Rattle.cb_protocol.specs.Server.{Server}

-- what is for the client of late frames, by the oldest
oldest : (p : Frame → Bool) (late new_late : List Frame) (f : Frame) → late ≡ new_late ++ f ∷ []
    → filter p (reverse late) ≡ cond (p f) (f ∷ filter p (reverse new_late)) (filter p (reverse new_late))
oldest p late new_late f e = rw e (rw (reverse-append new_late (f ∷ [])) refl)

equal : (a b : ℕ) → a ≡ b → (a == b) ≡ true
equal a b e = grind (arith, nat_tests)

unequal : (a b : ℕ) → a ≢ b → (a == b) ≡ false
unequal a b e = grind (arith, nat_tests)

and_true : (a b : Bool) → a ≡ true → b ≡ true → (a && b) ≡ true
and_true a b e f = rw (e, f) refl

and_false : (a b : Bool) → b ≡ false → (a && b) ≡ false
and_false true b e = e
and_false false b e = refl

-- the oldest is put into its mailbox
pub placed : (untold : Clients) (current : ℕ → ℕ) (boxes : List (List Frame)) (late new_late new_box : List Frame) (client : ℕ) → client < length boxes
    → (m : Moves late (slice_index_or boxes client []) new_late new_box) → m.frame.client ≡ client → m.frame.incarnation ≡ current client
    → AsBefore current (record { boxes = boxes; late = late; untold = untold }) (record { boxes = slice_set boxes client new_box; late = new_late; untold = untold })
placed untold current boxes late new_late new_box client lt m e f = record {
  mailbox = λ d. by d (cases_eq d client);
  clients = length-set boxes client new_box;
  untold = refl;
}
  where
    Goal : ℕ → Type 0
    Goal d = mailbox_in current (record { boxes = slice_set boxes client new_box; late = new_late; untold = untold }) d ≡ mailbox_in current (record { boxes = boxes; late = late; untold = untold }) d

    box : List Frame
    box = slice_index_or boxes client []

    xs : ℕ → List Frame
    xs d = filter (is_for current d) (reverse new_late)

    here : filter (is_for current client) (reverse late) ≡ m.frame ∷ xs client
    here = oldest (is_for current client) late new_late m.frame m.taken
        ∙ ap (λ (b : Bool). cond b (m.frame ∷ xs client) (xs client)) (and_true _ _ (equal m.frame.client client e) (equal m.frame.incarnation (current client) f))

    there : (d : ℕ) → d ≢ client → filter (is_for current d) (reverse late) ≡ xs d
    there d n = oldest (is_for current d) late new_late m.frame m.taken
        ∙ ap (λ (b : Bool). cond (b && (m.frame.incarnation == current d)) (m.frame ∷ xs d) (xs d)) (unequal m.frame.client d (λ g. n (sym g ∙ e)))

    at_client : Goal client
    at_client = ap (λ (l : List Frame). l ++ xs client) (get_or-set_same boxes client new_box [] lt ∙ m.put) ∙ append_assoc box (m.frame ∷ []) (xs client)
        ∙ ap (λ (l : List Frame). box ++ l) (sym here)

    by : (d : ℕ) → (d ≡ client) ⊎ (d ≢ client) → Goal d
    by d (inl g) = subst (λ (k : ℕ). Goal k) (sym g) at_client
    by d (inr n) = ap (λ (l : List Frame). l ++ xs d) (get_or-set_other boxes client d new_box [] n) ∙ ap (λ (l : List Frame). slice_index_or boxes d [] ++ l) (sym (there d n))

-- the oldest is for no current incarnation
pub passed_over : (untold : Clients) (current : ℕ → ℕ) (boxes : List (List Frame)) (late new_late : List Frame) (frame : Frame) → late ≡ new_late ++ frame ∷ [] → frame.incarnation ≢ current frame.client
    → AsBefore current (record { boxes = boxes; late = late; untold = untold }) (record { boxes = boxes; late = new_late; untold = untold })
passed_over untold current boxes late new_late frame e n = record {
  mailbox = λ d. ap (λ (l : List Frame). slice_index_or boxes d [] ++ l) (sym (oldest (is_for current d) late new_late frame e
      ∙ ap (λ (b : Bool). cond b (frame ∷ filter (is_for current d) (reverse new_late)) (filter (is_for current d) (reverse new_late))) (for_none d (cases_eq d frame.client))));
  clients = refl;
  untold = refl;
}
  where
    for_none : (d : ℕ) → (d ≡ frame.client) ⊎ (d ≢ frame.client) → is_for current d frame ≡ false
    for_none d (inl g) = and_false _ _ (unequal frame.incarnation (current d) (λ h. n (h ∙ ap current g)))
    for_none d (inr g) = ap (λ (b : Bool). b && (frame.incarnation == current d)) (unequal frame.client d (λ h. g (sym h)))

-- the incarnation is current exactly where it is admitted as such
pub is_current : (s : Server) (c i : ℕ) → admission_in s c i ≡ Current → i ≡ (s.session c).current
is_current s c i e = go (nat_lt (s.session c).current i) (i == (s.session c).current) refl e
  where
    go : (u v : Bool) → (i == (s.session c).current) ≡ v → (if u then Unknown else if v then Current else Stale) ≡ Current → i ≡ (s.session c).current
    go true v f g = absurd (let h : Unknown ≡ Current = g in cc)
    go false true f g = grind (arith, nat_tests)
    go false false f g = absurd (let h : Stale ≡ Current = g in cc)

pub is_not_current : (s : Server) (c i : ℕ) → admission_in s c i ≢ Current → i ≢ (s.session c).current
is_not_current s c i n e = n (rw e (go (nat_lt (s.session c).current (s.session c).current) (refl) ((s.session c).current == (s.session c).current) (equal _ _ refl)))
  where
    go : (u : Bool) → nat_lt (s.session c).current (s.session c).current ≡ u → (v : Bool) → v ≡ true → (if u then Unknown else if v then Current else Stale) ≡ Current
    go true f v g = absurd (let l : (s.session c).current < (s.session c).current = grind (arith, nat_tests) in omega (arith, l))
    go false f v g = rw g refl

-- nothing is late any more, so all is in the mailboxes
pub only_boxes : (current : ℕ → ℕ) (mailboxes : MailboxesState) → mailboxes.late ≡ [] → (client : ℕ) → mailbox_in current mailboxes client ≡ slice_index_or mailboxes.boxes client []
only_boxes current mailboxes none client = ap (λ (l : List Frame). slice_index_or mailboxes.boxes client [] ++ addressed current client (reverse l)) none ∙ append-nil (slice_index_or mailboxes.boxes client [])

behind : (after : ℕ → ℕ) (boxes : List (List Frame)) (new : MailboxesState) (said : List Frame) → new.boxes ≡ boxes → new.late ≡ reverse said
    → (client : ℕ) → mailbox_in after new client ≡ slice_index_or boxes client [] ++ addressed after client said
behind after boxes new said e f client =
    ap (λ (l : List (List Frame)). slice_index_or l client [] ++ addressed after client (reverse new.late)) e
    ∙ ap (λ (l : List Frame). slice_index_or boxes client [] ++ addressed after client l) (ap (λ (l : List Frame). reverse l) f ∙ reverse-reverse said)

-- what is said is put behind what was to be sent
pub posted : (before after : ℕ → ℕ) (old ready new : MailboxesState) (said : List Frame) → AsBefore before old ready → ready.late ≡ [] → new.boxes ≡ ready.boxes → new.late ≡ reverse said
    → (client : ℕ) → mailbox_in after new client ≡ mailbox_in before old client ++ addressed after client said
posted before after old ready new said as_before none boxes late client =
    behind after ready.boxes new said boxes late client ∙ ap (λ (l : List Frame). l ++ addressed after client said) (sym (only_boxes before ready none client) ∙ as_before.mailbox client)

set_there : (boxes : List (List Frame)) (client : ℕ) (new : List Frame) → client < length boxes → slice_index_or (slice_set boxes client new) client [] ≡ new
set_there boxes client new lt = get_or-set_same boxes client new [] lt

set_elsewhere : (boxes : List (List Frame)) (client d : ℕ) (new : List Frame) → d ≢ client → slice_index_or (slice_set boxes client new) d [] ≡ slice_index_or boxes d []
set_elsewhere boxes client d new n = get_or-set_other boxes client d new [] n

-- and behind nothing, where the client's mailbox was emptied
pub posted_anew : (before after : ℕ → ℕ) (old ready new : MailboxesState) (said : List Frame) (client : ℕ) → client < length ready.boxes → AsBefore before old ready → ready.late ≡ []
    → new.boxes ≡ slice_set ready.boxes client [] → new.late ≡ reverse said
    → (d : ℕ) → mailbox_in after new d ≡ emptied (λ c. mailbox_in before old c) client d ++ addressed after d said
posted_anew before after old ready new said client lt as_before none boxes late d = behind after (slice_set ready.boxes client []) new said boxes late d ∙ ap (λ (l : List Frame). l ++ addressed after d said) (by (cases_eq d client))
  where
    by : (d ≡ client) ⊎ (d ≢ client) → slice_index_or (slice_set ready.boxes client []) d [] ≡ emptied (λ c. mailbox_in before old c) client d
    by (inl here) = subst (λ (k : ℕ). slice_index_or (slice_set ready.boxes client []) k [] ≡ emptied (λ c. mailbox_in before old c) client k) (sym here)
        (set_there ready.boxes client [] lt ∙ sym (rw (equal client client refl) refl))
    by (inr apart) = set_elsewhere ready.boxes client d [] apart ∙ sym (only_boxes before ready none d) ∙ as_before.mailbox d ∙ sym (rw (unequal d client apart) refl)

-- frames for others alone
pub others : (current : ℕ → ℕ) (client d : ℕ) (said : List Frame) → d ≢ client → addressed current d (filter (λ frame. not (frame.client == client)) said) ≡ addressed current d said
others current client d [] n = refl
others current client d (frame ∷ said) n = by (others current client d said n) (frame.client == client) (frame.client == d) refl refl
  where
    by : addressed current d (filter (λ f. not (f.client == client)) said) ≡ addressed current d said → (u v : Bool) → (frame.client == client) ≡ u → (frame.client == d) ≡ v
        → addressed current d (cond (not u) (frame ∷ filter (λ f. not (f.client == client)) said) (filter (λ f. not (f.client == client)) said))
        ≡ cond (v && (frame.incarnation == current d)) (frame ∷ addressed current d said) (addressed current d said)
    by rest true true e f = absurd (let g : frame.client ≡ client = grind (arith, nat_tests) in let h : frame.client ≡ d = grind (arith, nat_tests) in n (sym h ∙ g))
    by rest true false e f = rest
    by rest false true e f = rw f (ap (λ (l : List Frame). cond (frame.incarnation == current d) (frame ∷ l) l) rest)
    by rest false false e f = rw f rest

-- so of whom they are to
pub said_to_others : (client d : ℕ) (said : List Frame) → d ≢ client → is_said_to d (filter (λ frame. not (frame.client == client)) said) ≡ is_said_to d said
said_to_others client d [] n = refl
said_to_others client d (frame ∷ said) n = by (said_to_others client d said n) (frame.client == client) (frame.client == d) refl refl
  where
    by : is_said_to d (filter (λ f. not (f.client == client)) said) ≡ is_said_to d said → (u v : Bool) → (frame.client == client) ≡ u → (frame.client == d) ≡ v
        → is_said_to d (cond (not u) (frame ∷ filter (λ f. not (f.client == client)) said) (filter (λ f. not (f.client == client)) said)) ≡ (v || is_said_to d said)
    by rest true true e f = absurd (let g : frame.client ≡ client = grind (arith, nat_tests) in let h : frame.client ≡ d = grind (arith, nat_tests) in n (sym h ∙ g))
    by rest true false e f = rest
    by rest false true e f = rw f refl
    by rest false false e f = rw f rest

nothing_for : (current : ℕ → ℕ) (client : ℕ) (said : List Frame) → addressed current client (filter (λ frame. not (frame.client == client)) said) ≡ []
nothing_for current client [] = refl
nothing_for current client (frame ∷ said) = by (nothing_for current client said) (frame.client == client) refl
  where
    by : addressed current client (filter (λ f. not (f.client == client)) said) ≡ [] → (u : Bool) → (frame.client == client) ≡ u
        → addressed current client (cond (not u) (frame ∷ filter (λ f. not (f.client == client)) said) (filter (λ f. not (f.client == client)) said)) ≡ []
    by rest true e = rest
    by rest false e = rw e rest

-- to all but one client
module _ (before after : ℕ → ℕ) (old ready new : MailboxesState) (said kept : List Frame) (client : ℕ) (lt : client < length ready.boxes) (as_before : AsBefore before old ready) (none : ready.late ≡ [])
    (filtered : kept ≡ filter (λ frame. not (frame.client == client)) said) (boxes : new.boxes ≡ slice_set ready.boxes client []) (late : new.late ≡ reverse kept) where
  pub posted_to_others : (d : ℕ) → d ≢ client → mailbox_in after new d ≡ mailbox_in before old d ++ addressed after d said
  posted_to_others d n = posted_anew before after old ready new kept client lt as_before none boxes late d
      ∙ ap (λ (l : List Frame). emptied (λ c. mailbox_in before old c) client d ++ l) (ap (addressed after d) filtered ∙ others after client d said n)
      ∙ ap (λ (b : Bool). (if b then [] else mailbox_in before old d) ++ addressed after d said) (unequal d client n)

  pub posted_nothing : mailbox_in after new client ≡ []
  posted_nothing = posted_anew before after old ready new kept client lt as_before none boxes late client
      ∙ ap (λ (l : List Frame). emptied (λ c. mailbox_in before old c) client client ++ l) (ap (addressed after client) filtered ∙ nothing_for after client said)
      ∙ ap (λ (b : Bool). (if b then [] else mailbox_in before old client) ++ []) (equal client client refl)

-- a client has collected its oldest frame
pub collected_one : (current : ℕ → ℕ) (old ready new : MailboxesState) (client : ℕ) → client < length ready.boxes → AsBefore current old ready → ready.late ≡ []
    → new ≡ record ready { boxes = slice_set ready.boxes client (drop 1 (slice_index_or ready.boxes client [])) }
    → (d : ℕ) → mailbox_in current new d ≡ without_oldest (λ c. mailbox_in current old c) client d
collected_one current old ready new client lt as_before none e d =
    only_boxes current new (ap (λ (o : MailboxesState). o.late) e ∙ none) d ∙ ap (λ (o : MailboxesState). slice_index_or o.boxes d []) e ∙ by (cases_eq d client)
  where
    was : (c : ℕ) → slice_index_or ready.boxes c [] ≡ mailbox_in current old c
    was c = sym (only_boxes current ready none c) ∙ as_before.mailbox c

    by : (d ≡ client) ⊎ (d ≢ client) → slice_index_or (slice_set ready.boxes client (drop 1 (slice_index_or ready.boxes client []))) d [] ≡ without_oldest (λ c. mailbox_in current old c) client d
    by (inl here) = subst (λ (k : ℕ). slice_index_or (slice_set ready.boxes client (drop 1 (slice_index_or ready.boxes client []))) k [] ≡ without_oldest (λ c. mailbox_in current old c) client k) (sym here)
        (set_there ready.boxes client _ lt ∙ ap (λ (l : List Frame). drop 1 l) (was client) ∙ sym (ap (λ (b : Bool). if b then drop 1 (mailbox_in current old client) else mailbox_in current old client) (equal client client refl)))
    by (inr apart) = set_elsewhere ready.boxes client d _ apart ∙ was d ∙ sym (ap (λ (b : Bool). if b then drop 1 (mailbox_in current old client) else mailbox_in current old d) (unequal d client apart))

pub oldest_one : (current : ℕ → ℕ) (old ready : MailboxesState) (client : ℕ) → AsBefore current old ready → ready.late ≡ [] → slice_index_or ready.boxes client [] ≡ mailbox_in current old client
oldest_one current old ready client as_before none = sym (only_boxes current ready none client) ∙ as_before.mailbox client

-- the last of a list, apart
pub last_of : (frames : List Frame) (frame : Frame) → slice_get frames (length frames - 1) ≡ Some frame → frames ≡ take (length frames - 1) frames ++ frame ∷ []
last_of frames frame e =
    let lt : length frames - 1 < length frames = slice_get_within frames (length frames - 1) frame e in
    let n : (length frames - 1) + 1 ≡ length frames = omega (arith, lt) in
    sym (take-length frames) ∙ ap (λ (k : ℕ). take k frames) (sym n) ∙ take_more frames (length frames - 1) frame lt
    ∙ ap (λ (x : Frame). take (length frames - 1) frames ++ x ∷ []) (get_or_from_slice_get frames (length frames - 1) frame frame e)

-- of late frames what is for the client, by the first of them
filtered : (p : Frame → Bool) (x : Frame) (xs : List Frame) → filter p (reverse (x ∷ xs)) ≡ filter p (reverse xs) ++ cond (p x) (x ∷ []) []
filtered p x xs = ap (λ (l : List Frame). filter p l) (reverse-append (x ∷ []) xs) ∙ filter-append p (reverse xs) (x ∷ [])

none_late : (p : Frame → Bool) (late : List Frame) → list_any p late ≡ false → filter p (reverse late) ≡ []
none_late p [] e = refl
none_late p (x ∷ xs) e = filtered p x xs ∙ by (none_late p xs) (p x) e
  where
    by : (list_any p xs ≡ false → filter p (reverse xs) ≡ []) → (b : Bool) → (b || list_any p xs) ≡ false → filter p (reverse xs) ++ cond b (x ∷ []) [] ≡ []
    by before true f = absurd (let g : true ≡ false = f in cc)
    by before false f = append-nil (filter p (reverse xs)) ∙ before f

not_empty : (l : List Frame) (x : Frame) → l ++ x ∷ [] ≢ []
not_empty [] x e = absurd (let f : x ∷ [] ≡ [] = e in cc)
not_empty (y ∷ l) x e = absurd (let f : y ∷ (l ++ x ∷ []) ≡ [] = e in cc)

some_late : (p : Frame → Bool) (late : List Frame) → list_any p late ≡ true → filter p (reverse late) ≢ []
some_late p [] e = absurd (let f : false ≡ true = e in cc)
some_late p (x ∷ xs) e = λ none. by (some_late p xs) (p x) e (sym (filtered p x xs) ∙ none)
  where
    by : (list_any p xs ≡ true → filter p (reverse xs) ≢ []) → (b : Bool) → (b || list_any p xs) ≡ true → filter p (reverse xs) ++ cond b (x ∷ []) [] ≢ []
    by before true f = not_empty (filter p (reverse xs)) x
    by before false f = λ none. before f (sym (append-nil (filter p (reverse xs))) ∙ none)

-- a frame is to be sent where the mailbox isn't empty
pub in_the_box : (current : ℕ → ℕ) (o : MailboxesState) (client : ℕ) → slice_index_or o.boxes client [] ≢ [] → mailbox_in current o client ≢ []
in_the_box current o client n = by (slice_index_or o.boxes client []) n
  where
    by : (l : List Frame) → l ≢ [] → l ++ addressed current client (reverse o.late) ≢ []
    by [] m = absurd (m refl)
    by (x ∷ l) m = λ e. absurd (let f : x ∷ (l ++ addressed current client (reverse o.late)) ≡ [] = e in cc)

-- else exactly where a late one is for it
pub among_the_late : (current : ℕ → ℕ) (o : MailboxesState) (client : ℕ) (late : Bool) → slice_index_or o.boxes client [] ≡ [] → late ≡ list_any (is_for current client) o.late
    → IsTrue late ↔ (mailbox_in current o client ≢ [])
among_the_late current o client late empty e = by late (sym e)
  where
    only : mailbox_in current o client ≡ addressed current client (reverse o.late)
    only = ap (λ (l : List Frame). l ++ addressed current client (reverse o.late)) empty

    by : (b : Bool) → list_any (is_for current client) o.late ≡ b → IsTrue b ↔ (mailbox_in current o client ≢ [])
    by true f = ((λ is. λ none. some_late (is_for current client) o.late f (sym only ∙ none)), (λ n. refl))
    by false f = ((λ is. absurd (let g : false ≡ true = is in cc)), (λ n. absurd (n (only ∙ none_late (is_for current client) o.late f))))
