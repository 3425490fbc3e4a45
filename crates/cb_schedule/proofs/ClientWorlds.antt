-- The clients of a world as one of them changes.
use Rattle.std.proofs.Common.{◌≡◌, ◌≢◌, ℕ, ◌<◌, ◌≤◌, ◌+◌, ◌==◌, ◌&&◌, nat_le, nat_lt, Bool, true, false, List, [], ◌∷◌, ◌++◌, Option, None, Result, length, refl, ap, sym, ◌∙◌, subst, arith, if◌then◌else◌}
use Rattle.std.specs.Prelude.{slice_set, slice_index_or}
use Rattle.std.proofs.lemmas.Bool.Decides.{nat_tests}
use Rattle.std.proofs.lemmas.Grind.{get_or-set_at}
use Rattle.std.proofs.lemmas.List.{get_or-set_other, get_or_read_under, length-set, set-get_or}
use Rattle.cb_page.specs.Bounds.{AreInRange, Bounds}
use Rattle.std.specs.List.{AllByRecursion}
use Rattle.std.specs.Prelude.{IfOk, OnErr}
use Rattle.std.proofs.lemmas.List.FromFn.{get_or-map-range_with_len, length-map-range_with_len, map-range_with_len_more}
use Rattle.std.proofs.lemmas.Result.{IfOk-weaker, on_err_weaker}
use Rattle.cb_frame.specs.Grammar.{Fits}
use Rattle.cb_client_core.proofs.Reaching.{starts}
use Rattle.cb_client.specs.ByTable.{IsRefusal, Takes, messages_from}
use Rattle.cb_client.specs.ClientState.{ClientState, client_of, new_state}
use Rattle.cb_client.specs.FramesTaken.{TakesFrame, is_for}
use Rattle.cb_cache.specs.CacheState.{limits_of}
use Rattle.cb_frame.specs.declared.frame.Frame.{Frame}
use Rattle.cb_outbox.specs.Messages.{body_of, message_of, messages_of}
use Rattle.cb_protocol.proofs.Cases.{step_call, step_call_no_client, step_restart, step_restart_no_client}
use Rattle.cb_protocol.specs.Answers.{AnsweredOk, Exhausted, NoClient, Refused, Taken}
use Rattle.cb_protocol.specs.Basics.{max_number, update}
use Rattle.cb_protocol.specs.Client.{Client, bodies_said, client_after, new_client}
use Rattle.cb_protocol.specs.ClientCalls.{Call, client_call}
use Rattle.cb_protocol.specs.ClientMessages.{ChoiceAllowed, client_take}
use Rattle.cb_protocol.specs.Messages.{Body, Message}
use Rattle.cb_protocol.specs.Serial.{Operation}
use Rattle.cb_protocol.specs.WaitsFor.{on_cycle}
use Rattle.cb_protocol.specs.World.{ClientCalls, Event, Opening, Restart, World, answer_only, answer_with, client_does, deliver_to_client, messages_said, new_world}
use Rattle.cb_transcript.specs.ProtocolEvents.{word_of}
use Rattle.cb_schedule.specs.ByWorld.{Answers, Delivers, Replies, StaysOne}
use Rattle.cb_schedule.specs.WorldClientsState.{AreWorldClients, IsWorldClient, Represents}
use Rattle.cb_schedule.specs.WorldClientsState.{WorldClientsState, client_at, first_clients}
use Rattle.cb_schedule.specs.WorldClientsState.{with_client}
use Rattle.cb_schedule.specs.declared.reply.Reply.{Reply}

-- the client c of a world is this one, whatever its transaction has done
abbrev IsClientOf : ClientState → Client → Type 0
IsClientOf s k = k ≡ client_of s k.cache.operations

client_is : (s : ClientState) (k : Client) (os : List Operation) → k ≡ client_of s os → IsClientOf s k
client_is s k os e = e ∙ ap (λ (xs : List Operation). client_of s xs) (sym (ap (λ (x : Client). x.cache.operations) e))

-- the client at a place, once the one at c is another
at_place : (P : ClientState → Type 0) (s : WorldClientsState) (c d : ℕ) (t : ClientState) → c < length s.clients → (d ≡ c → P t) → P (client_at s d) → P (client_at (with_client s c t) d)
at_place P s c d t h own other = by (d == c) refl
  where
    by : (x : Bool) → (d == c) ≡ x → P (client_at (with_client s c t) d)
    by true e =
        let same : d ≡ c = grind (arith, nat_tests) in
        rw (get_or-set_at s.clients c d t (new_state d 1 s.limits) same h) (own same)
    by false e =
        let differs : d ≢ c = grind (arith, nat_tests) in
        rw (get_or-set_other s.clients c d t (new_state d 1 s.limits) differs) other

-- they are clients still
pub world_clients_with : (s : WorldClientsState) (c : ℕ) (t : ClientState) → AreWorldClients s → c < s.limits.clients → IsWorldClient s.limits c t → AreWorldClients (with_client s c t)
world_clients_with s c t is h one = record {
  limits = is.limits;
  count = length-set s.clients c t ∙ is.count;
  each = λ d l. at_place (λ (x : ClientState). IsWorldClient s.limits d x) s c d t (rw is.count h) (λ e. subst (λ (n : ℕ). IsWorldClient s.limits n t) (sym e) one) (is.each d l);
}

-- the world with another client at that number, of that incarnation
abbrev world_with : World → ℕ → Client → ℕ → World
world_with w c k i = record w { client = update w.client c k; incarnation = update w.incarnation c i }

pub represents_with : (s : WorldClientsState) (w : World) (c : ℕ) (t : ClientState) (os : List Operation) (i : ℕ) → AreWorldClients s → c < s.limits.clients → Represents s w → t.incarnation ≡ i
    → Represents (with_client s c t) (world_with w c (client_of t os) i)
represents_with s w c t os i is h sh e = record { clients = clients; incarnations = incarnations }
  where
    within : c < length s.clients
    within = rw is.count h

    clients : (d : ℕ) → d < s.limits.clients → IsClientOf (client_at (with_client s c t) d) (update w.client c (client_of t os) d)
    clients d l = by (d == c) refl
      where
        by : (x : Bool) → (d == c) ≡ x → IsClientOf (slice_index_or (slice_set s.clients c t) d (new_state d 1 s.limits)) (if d == c then client_of t os else w.client d)
        by true q =
            let same : d ≡ c = grind (arith, nat_tests) in
            rw (q, get_or-set_at s.clients c d t (new_state d 1 s.limits) same within) (client_is t (client_of t os) os refl)
        by false q =
            let differs : d ≢ c = grind (arith, nat_tests) in
            rw (q, get_or-set_other s.clients c d t (new_state d 1 s.limits) differs) (sh.clients d l)

    incarnations : (d : ℕ) → d < s.limits.clients → update w.incarnation c i d ≡ (client_at (with_client s c t) d).incarnation
    incarnations d l = by (d == c) refl
      where
        by : (x : Bool) → (d == c) ≡ x → (if d == c then i else w.incarnation d) ≡ (slice_index_or (slice_set s.clients c t) d (new_state d 1 s.limits)).incarnation
        by true q =
            let same : d ≡ c = grind (arith, nat_tests) in
            rw (q, get_or-set_at s.clients c d t (new_state d 1 s.limits) same within) (sym e)
        by false q =
            let differs : d ≢ c = grind (arith, nat_tests) in
            rw (q, get_or-set_other s.clients c d t (new_state d 1 s.limits) differs) (sh.incarnations d l)

-- a function with its own value at a place is the function
kept_at : (f : ℕ → ℕ) (c d : ℕ) → update f c (f c) d ≡ f d
kept_at f c d = by (d == c) refl
  where
    by : (x : Bool) → (d == c) ≡ x → (if d == c then f c else f d) ≡ f d
    by true e =
        let same : d ≡ c = grind (arith, nat_tests) in
        rw e (ap f (sym same))
    by false e = rw e refl

-- so where the incarnation stays
pub represents_step : (s : WorldClientsState) (w : World) (c : ℕ) (t : ClientState) (os : List Operation) → AreWorldClients s → c < s.limits.clients → Represents s w → t.incarnation ≡ (client_at s c).incarnation
    → Represents (with_client s c t) (record w { client = update w.client c (client_of t os) })
represents_step s w c t os is h sh e =
    let one = represents_with s w c t os (w.incarnation c) is h sh (e ∙ sym (sh.incarnations c h)) in
    record { clients = one.clients; incarnations = λ d l. sym (kept_at w.incarnation c d) ∙ one.incarnations d l }

-- what a client says are messages of its number and incarnation
pub said_by : (c i : ℕ) (v : ClientState) (bodies : List Body) → v.no ≡ c → v.incarnation ≡ i → messages_said c i bodies ≡ messages_from v bodies
said_by c i v [] n e = refl
said_by c i v (b ∷ bs) n e = λ j. record { client = sym n j; incarnation = sym e j; body = b } ∷ said_by c i v bs n e j

-- a call of a client that there is
pub call_answers : (s : WorldClientsState) (c : ℕ) (call : Call) (reply : Reply) (t : ClientState) → AreWorldClients s → c < s.limits.clients → Replies (client_at s c) call reply t
    → Answers s (ClientCalls c call) (word_of reply.word) (messages_of reply.said.items) (with_client s c t)
call_answers s c call reply t is h r = record {
  limits = refl;
  by_event = λ w sh let_go.
      let v : ClientState = client_at s c in
      let os : List Operation = (w.client c).cache.operations in
      let l : v.copies.limits ≡ s.limits = (is.each c h).limits in
      let k : w.client c ≡ client_of v os = sh.clients c h in
      let word_is : (client_call (limits_of s.limits) (w.client c) call).word ≡ word_of reply.word
      = (λ i. (client_call (limits_of (sym l i)) (k i) call).word) ∙ r.calls.word os in
      let said_is : messages_said c (w.incarnation c) (bodies_said (client_call (limits_of s.limits) (w.client c) call).steps) ≡ messages_of reply.said.items
      = said_by c (w.incarnation c) v (bodies_said (client_call (limits_of s.limits) (w.client c) call).steps) (is.each c h).no (sym (sh.incarnations c h))
      ∙ ((λ i. messages_from v (bodies_said (client_call (limits_of (sym l i)) (k i) call).steps)) ∙ r.calls.makes.said os) in
      let after_is : client_after s.limits.keep_write (w.client c) (client_call (limits_of s.limits) (w.client c) call).steps ≡ client_of t (r.history os)
      = (λ i. client_after (sym l i).keep_write (k i) (client_call (limits_of (sym l i)) (k i) call).steps) ∙ r.calls.makes.after os in (
        record w { client = update w.client c (client_of t (r.history os)) },
        step_call (limits_of s.limits) on_cycle w c call let_go h ∙ (λ i. answer_with w (ClientCalls c call) (word_is i) (said_is i) (record w { client = update w.client c (after_is i) })),
        refl,
        represents_step s w c t (r.history os) is h sh r.calls.makes.incarnation,
      );
}

not_below : (c n : ℕ) → n ≤ c → nat_lt c n ≡ false
not_below c n h = grind (arith, nat_tests)

-- and of one that there is not
pub no_client_answers : (s : WorldClientsState) (c : ℕ) (call : Call) → s.limits.clients ≤ c → Answers s (ClientCalls c call) NoClient [] s
no_client_answers s c call h = record {
  limits = refl;
  by_event = λ w sh let_go. (w, step_call_no_client (limits_of s.limits) on_cycle w c call let_go (not_below c s.limits.clients h), refl, sh);
}

-- a client is still at its place
pub same_site : (s : WorldClientsState) (c : ℕ) (t : ClientState) → AreWorldClients s → c < s.limits.clients → StaysOne (client_at s c) t → IsWorldClient s.limits c t
same_site s c t is h e = record { no = e.no ∙ (is.each c h).no; limits = e.limits ∙ (is.each c h).limits }

-- whether a frame is for the client, by its incarnation alone
for_it : (v : ClientState) (f : Frame) → v.no ≡ f.client → is_for v f ≡ (f.incarnation == v.incarnation)
for_it v f e = ap (λ (n : ℕ). (f.client == n) && (f.incarnation == v.incarnation)) e ∙ rw (same f.client) refl
  where
    same : (q : ℕ) → (q == q) ≡ true
    same q = grind (arith, nat_tests)

not_own : (i j : ℕ) → (i == j) ≡ false → i ≡ j → ⊥
not_own i j e f = grind arith

-- a frame is taken by the client that it names
pub take_delivers : (s : WorldClientsState) (f : Frame) (said : List Message) (t : ClientState) → AreWorldClients s → f.client < s.limits.clients → TakesFrame (client_at s f.client) f said t → Delivers s (message_of f) said (with_client s f.client t)
take_delivers s f said t is h takes = record { limits = refl; by_event = λ w sh e. by w sh e (f.incarnation == w.incarnation f.client) refl }
  where
    v : ClientState
    v = client_at s f.client

    l : v.copies.limits ≡ s.limits
    l = (is.each f.client h).limits

    by : (w : World) (sh : Represents s w) (e : Event) (x : Bool) → (f.incarnation == w.incarnation f.client) ≡ x
        → (let_go : Option ℕ) × (after : World) × (f.incarnation ≡ w.incarnation f.client → ChoiceAllowed (limits_of s.limits) (w.client f.client) (body_of f.body) let_go)
        × (deliver_to_client (limits_of s.limits) w e (message_of f) let_go ≡ answer_with w e Taken said after) × (after.server ≡ w.server) × Represents (with_client s f.client t) after
    by w sh e true q =
        let os : List Operation = (w.client f.client).cache.operations in
        let k : w.client f.client ≡ client_of v os = sh.clients f.client h in
        let own : is_for v f ≡ true = for_it v f (is.each f.client h).no ∙ (ap (λ (i : ℕ). f.incarnation == i) (sym (sh.incarnations f.client h)) ∙ q) in
        let r : Takes v (body_of f.body) said t = takes.own own in
        let said_is : messages_said f.client (w.incarnation f.client) (bodies_said (client_take (limits_of s.limits) (w.client f.client) (body_of f.body) r.let_go)) ≡ said
        = said_by f.client (w.incarnation f.client) v (bodies_said (client_take (limits_of s.limits) (w.client f.client) (body_of f.body) r.let_go)) (is.each f.client h).no (sym (sh.incarnations f.client h))
        ∙ ((λ i. messages_from v (bodies_said (client_take (limits_of (sym l i)) (k i) (body_of f.body) r.let_go))) ∙ r.makes.said os) in
        let after_is : client_after s.limits.keep_write (w.client f.client) (client_take (limits_of s.limits) (w.client f.client) (body_of f.body) r.let_go) ≡ client_of t (r.history os)
        = (λ i. client_after (sym l i).keep_write (k i) (client_take (limits_of (sym l i)) (k i) (body_of f.body) r.let_go)) ∙ r.makes.after os in (
          r.let_go,
          record w { client = update w.client f.client (client_of t (r.history os)) },
          (λ _. subst (λ (x : Client). ChoiceAllowed (limits_of s.limits) x (body_of f.body) r.let_go) (sym k) (subst (λ (b : Bounds). ChoiceAllowed (limits_of b) (client_of v os) (body_of f.body) r.let_go) l (r.allowed os))),
          (to_it w e r.let_go q ∙ (λ i. answer_with w e Taken (said_is i) (record w { client = update w.client f.client (after_is i) }))),
          refl,
          represents_step s w f.client t (r.history os) is h sh r.makes.incarnation,
        )
      where
        to_it : (w : World) (e : Event) (o : Option ℕ) → (f.incarnation == w.incarnation f.client) ≡ true
            → deliver_to_client (limits_of s.limits) w e (message_of f) o ≡ client_does (limits_of s.limits) w e f.client Taken (client_take (limits_of s.limits) (w.client f.client) (body_of f.body) o)
        to_it w e o q = rw q refl
    by w sh e false q =
        let other : is_for v f ≡ false = for_it v f (is.each f.client h).no ∙ (ap (λ (i : ℕ). f.incarnation == i) (sym (sh.incarnations f.client h)) ∙ q) in
        let nothing : said ≡ [] = takes.ignored other in
        let same : s ≡ with_client s f.client t = sym (ap (λ (x : ClientState). with_client s f.client x) (takes.unchanged other) ∙ ap (λ (xs : List ClientState). record { limits = s.limits; clients = xs }) (set-get_or s.clients f.client (new_state f.client 1 s.limits))) in (
          None,
          w,
          (λ i. absurd (not_own f.incarnation (w.incarnation f.client) q i)),
          (to_nobody w e q ∙ ap (λ (ms : List Message). answer_with w e Taken ms w) (sym nothing)),
          refl,
          subst (λ (x : WorldClientsState). Represents x w) same sh,
        )
      where
        to_nobody : (w : World) (e : Event) → (f.incarnation == w.incarnation f.client) ≡ false → deliver_to_client (limits_of s.limits) w e (message_of f) None ≡ answer_only w e Taken
        to_nobody w e q = rw q refl

-- a client starts anew
pub restart_answers : (s : WorldClientsState) (c : ℕ) → AreWorldClients s → c < s.limits.clients → (client_at s c).incarnation + 1 ≤ max_number
    → Answers s (Restart c) AnsweredOk [] (with_client s c (new_state c ((client_at s c).incarnation + 1) s.limits))
restart_answers s c is h left = record {
  limits = refl;
  by_event = λ w sh let_go.
      let i : w.incarnation c ≡ (client_at s c).incarnation = sh.incarnations c h in
      let t : ClientState = new_state c ((client_at s c).incarnation + 1) s.limits in
      let more : nat_le max_number (w.incarnation c) ≡ false = grind (arith, nat_tests, i, left) in
      let one : Represents (with_client s c t) (world_with w c (client_of t []) (w.incarnation c + 1)) = represents_with s w c t [] (w.incarnation c + 1) is h sh (ap (λ (n : ℕ). n + 1) (sym i)) in (
        world_with w c new_client (w.incarnation c + 1),
        step_restart (limits_of s.limits) on_cycle w c let_go h ∙ rw more refl,
        refl,
        subst (λ (k : Client). Represents (with_client s c t) (world_with w c k (w.incarnation c + 1))) (starts c ((client_at s c).incarnation + 1) s.limits) one,
      );
}

-- no incarnation is left
pub restart_refused : (s : WorldClientsState) (c : ℕ) → c < s.limits.clients → max_number ≤ (client_at s c).incarnation → Answers s (Restart c) (Refused Exhausted) [] s
restart_refused s c h least = record {
  limits = refl;
  by_event = λ w sh let_go.
      let i : w.incarnation c ≡ (client_at s c).incarnation = sh.incarnations c h in
      let none : nat_le max_number (w.incarnation c) ≡ true = grind (arith, nat_tests, i, least) in
      (w, step_restart (limits_of s.limits) on_cycle w c let_go h ∙ rw none refl, refl, sh);
}

pub restart_nobody : (s : WorldClientsState) (c : ℕ) → s.limits.clients ≤ c → Answers s (Restart c) NoClient [] s
restart_nobody s c h = record {
  limits = refl;
  by_event = λ w sh let_go. (w, step_restart_no_client (limits_of s.limits) on_cycle w c let_go (not_below c s.limits.clients h), refl, sh);
}

-- the client of a number at the start of a world
first_at : (L : Bounds) (n c d : ℕ) → c < n → slice_index_or (first_clients L n) c (new_state d 1 L) ≡ new_state c 1 L
first_at L n c d h = get_or-map-range_with_len (λ number. new_state number 1 L) 0 n c c (new_state d 1 L) h (omega arith)

-- the clients at the start of a world
pub first_world_clients : (L : Bounds) → AreInRange L → AreWorldClients (record { limits = L; clients = first_clients L L.clients })
first_world_clients L is = record {
  limits = is;
  count = length-map-range_with_len (λ number. new_state number 1 L) 0 L.clients;
  each = λ c h. subst (λ (x : ClientState). IsWorldClient L c x) (sym (first_at L L.clients c c h)) (record { no = refl; limits = refl });
}

-- they are those of a new world
pub first_world : (L : Bounds) (opening : Opening) → Represents (record { limits = L; clients = first_clients L L.clients }) (new_world (limits_of L) opening)
first_world L opening = record {
  clients = λ c h. rw (first_at L L.clients c c h) (sym (starts c 1 L));
  incarnations = λ c h. rw (first_at L L.clients c c h) refl;
}

-- there is such a client, or none
pub has_it : (s n : WorldClientsState) (c g : ℕ) → s ≡ n → g ≡ c → g < s.limits.clients → c < n.limits.clients
has_it s n c g same e h = subst (λ (x : WorldClientsState). c < x.limits.clients) same (subst (λ (x : ℕ). x < s.limits.clients) e h)

apart : false ≡ true → ⊥
apart e = cc

not_below_it : (g m : ℕ) → (g < m → false ≡ true) → m ≤ g
not_below_it g m h = by (nat_lt g m) refl
  where
    by : (x : Bool) → nat_lt g m ≡ x → m ≤ g
    by true e =
        let below : g < m = grind (arith, nat_tests) in
        absurd (apart (h below))
    by false e = grind (arith, nat_tests)

pub lacks_it : (s n : WorldClientsState) (c g : ℕ) → s ≡ n → g ≡ c → (g < s.limits.clients → false ≡ true) → n.limits.clients ≤ c
lacks_it s n c g same e h = subst (λ (x : WorldClientsState). x.limits.clients ≤ c) same (subst (λ (x : ℕ). s.limits.clients ≤ x) e (not_below_it g s.limits.clients h))

-- what is read at a place is the client of that number
lent_is : (s : WorldClientsState) (i c : ℕ) (u : ClientState) → AreWorldClients s → c < s.limits.clients → i ≡ c → u ≡ slice_index_or s.clients i u → u ≡ client_at s c
lent_is s i c u is h e lent = get_or_read_under s.clients c s.limits.clients u (new_state c 1 s.limits) (lent ∙ ap (λ (x : ℕ). slice_index_or s.clients x u) e) h (sym is.count)

-- The client of a number was read at a place.
pub record IsLent (s n : WorldClientsState) (i c : ℕ) (u : ClientState) : Type 0 where
  pub world_clients : AreWorldClients s
  pub same : s ≡ n
  pub has : c < n.limits.clients
  pub place : i ≡ c
  pub read : u ≡ slice_index_or s.clients i u

-- so it is there, and is that client
here : (s n : WorldClientsState) (i c : ℕ) (u : ClientState) → IsLent s n i c u → c < s.limits.clients
here s n i c u l = subst (λ (x : WorldClientsState). c < x.limits.clients) (sym l.same) l.has

its_own : (s n : WorldClientsState) (i c : ℕ) (u : ClientState) → IsLent s n i c u → u ≡ client_at s c
its_own s n i c u l = lent_is s i c u l.world_clients (here s n i c u l) l.place l.read

-- the client at that place, once it is another
set_there : (s n : WorldClientsState) (i c : ℕ) (u t : ClientState) → IsLent s n i c u → client_at (with_client s i t) c ≡ t
set_there s n i c u t l =
    let within : c < length s.clients = subst (λ (x : ℕ). c < x) (sym l.world_clients.count) (here s n i c u l) in
    get_or-set_at s.clients i c t (new_state c 1 s.limits) (sym l.place) (subst (λ (x : ℕ). x < length s.clients) (sym l.place) within)

own_stays : (s n : WorldClientsState) (i c : ℕ) (u t : ClientState) → IsLent s n i c u → StaysOne u t → StaysOne (client_at s c) t
own_stays s n i c u t l stays = subst (λ (x : ClientState). StaysOne x t) (its_own s n i c u l) stays

-- the clients once that one was called, or took a frame
pub called_world_clients : (s n : WorldClientsState) (i c : ℕ) (u t : ClientState) → IsLent s n i c u → StaysOne u t → AreWorldClients (with_client s i t)
called_world_clients s n i c u t l stays =
    subst (λ (x : ℕ). AreWorldClients (with_client s x t)) (sym l.place)
    (world_clients_with s c t l.world_clients (here s n i c u l) (same_site s c t l.world_clients (here s n i c u l) (own_stays s n i c u t l stays)))

pub called_stays : (s n : WorldClientsState) (i c : ℕ) (u t : ClientState) → IsLent s n i c u → StaysOne u t → StaysOne (client_at n c) (client_at (with_client s i t) c)
called_stays s n i c u t l stays =
    subst (λ (x : WorldClientsState). StaysOne (client_at x c) (client_at (with_client s i t) c)) l.same
    (subst (λ (x : ClientState). StaysOne (client_at s c) x) (sym (set_there s n i c u t l)) (own_stays s n i c u t l stays))

-- memory was refused for a call that its table accepts
pub called_fails : {X E : Type 0} (s n : WorldClientsState) (i c : ℕ) (call : Call) (u : ClientState) (result : Result X E) → IsLent s n i c u → OnErr result (IsRefusal u call None) → OnErr result (IsRefusal (client_at n c) call None)
called_fails s n i c call u result l fails =
    on_err_weaker result (λ accepts. subst (λ (x : WorldClientsState). IsRefusal (client_at x c) call None) l.same (subst (λ (x : ClientState). IsRefusal x call None) (its_own s n i c u l) accepts)) fails

-- what a client replied is the answer
pub called_answers : {X : Type 0} (s n : WorldClientsState) (c : ℕ) (call : Call) (result : Result Reply X) → AreWorldClients s → c < s.limits.clients → n ≡ with_client s c (client_at n c)
    → IfOk result (λ reply. Replies (client_at s c) call reply (client_at n c))
    → IfOk result (λ reply. Answers s (ClientCalls c call) (word_of reply.word) (messages_of reply.said.items) n)
called_answers s n c call result is h e replied =
    IfOk-weaker result (λ reply. Replies (client_at s c) call reply (client_at n c)) (λ reply. Answers s (ClientCalls c call) (word_of reply.word) (messages_of reply.said.items) n)
    (λ reply r. subst (λ (x : WorldClientsState). Answers s (ClientCalls c call) (word_of reply.word) (messages_of reply.said.items) x) (sym e) (call_answers s c call reply (client_at n c) is h r)) replied

-- and its frames fit
pub called_fits : {X : Type 0} (s n : WorldClientsState) (c : ℕ) (call : Call) (result : Result Reply X) → AreWorldClients s → c < s.limits.clients
    → IfOk result (λ reply. Replies (client_at s c) call reply (client_at n c)) → IfOk result (λ reply. AllByRecursion (Fits s.limits) reply.said.items)
called_fits s n c call result is h replied =
    IfOk-weaker result (λ reply. Replies (client_at s c) call reply (client_at n c)) (λ reply. AllByRecursion (Fits s.limits) reply.said.items)
    (λ reply r. subst (λ (L : Bounds). AllByRecursion (Fits L) reply.said.items) (is.each c h).limits r.fits) replied

-- a client that took a frame is the same one
pub takes_stays : (old new : ClientState) (f : Frame) (said : List Message) → TakesFrame old f said new → StaysOne old new
takes_stays old new f said takes = by (is_for old f) refl
  where
    by : (x : Bool) → is_for old f ≡ x → StaysOne old new
    by true e =
        let taken : Takes old (body_of f.body) said new = takes.own e in
        record { no = taken.makes.no; incarnation = taken.makes.incarnation; limits = taken.makes.limits }
    by false e = subst (λ (x : ClientState). StaysOne old x) (sym (takes.unchanged e)) (record { no = refl; incarnation = refl; limits = refl })

-- it has the limits of the world
pub lent_limits : (s n : WorldClientsState) (i c : ℕ) (u : ClientState) → IsLent s n i c u → u.copies.limits ≡ n.limits
lent_limits s n i c u l =
    ap (λ (x : ClientState). x.copies.limits) (its_own s n i c u l) ∙ ((l.world_clients.each c (here s n i c u l)).limits ∙ ap (λ (x : WorldClientsState). x.limits) l.same)

-- what holds of the client as it is lent holds of it as it was
pub own_before : (s n : WorldClientsState) (i c : ℕ) (u : ClientState) → IsLent s n i c u → u ≡ client_at n c
own_before s n i c u l = its_own s n i c u l ∙ ap (λ (x : WorldClientsState). client_at x c) l.same

-- the frame was taken by the client that it names
pub frame_delivers : {T X : Type 0} (s n : WorldClientsState) (i : ℕ) (f : Frame) (u t : ClientState) (messages : T → List Message) (result : Result T X) → IsLent s n i f.client u
    → IfOk result (λ said. TakesFrame u f (messages said) t) → IfOk result (λ said. Delivers n (message_of f) (messages said) (with_client s i t))
frame_delivers s n i f u t messages result l taken =
    IfOk-weaker result (λ said. TakesFrame u f (messages said) t) (λ said. Delivers n (message_of f) (messages said) (with_client s i t))
    (λ said takes. subst (λ (x : WorldClientsState). Delivers x (message_of f) (messages said) (with_client s i t)) l.same
    (subst (λ (x : ℕ). Delivers s (message_of f) (messages said) (with_client s x t)) (sym l.place)
    (take_delivers s f (messages said) t l.world_clients (here s n i f.client u l) (subst (λ (x : ClientState). TakesFrame x f (messages said) t) (its_own s n i f.client u l) takes)))) taken

-- nothing changed
pub left_as_before : (s n : WorldClientsState) (i c : ℕ) (u t : ClientState) → IsLent s n i c u → t ≡ u → with_client s i t ≡ n
left_as_before s n i c u t l e =
    ap (λ (x : ℕ). with_client s x t) l.place ∙ (ap (λ (x : ClientState). with_client s c x) (e ∙ its_own s n i c u l)
    ∙ (ap (λ (xs : List ClientState). record { limits = s.limits; clients = xs }) (set-get_or s.clients c (new_state c 1 s.limits)) ∙ l.same))

-- a client that restarts is the one of its number
pub restarted_is : (s n : WorldClientsState) (i c next : ℕ) (u t : ClientState) → IsLent s n i c u → t ≡ new_state u.no next u.copies.limits → t ≡ new_state c next s.limits
restarted_is s n i c next u t l made =
    let own = its_own s n i c u l in
    let site = l.world_clients.each c (here s n i c u l) in
    made ∙ ap (λ (x : ℕ). new_state x next u.copies.limits) (ap (λ (x : ClientState). x.no) own ∙ site.no)
    ∙ ap (λ (L : Bounds). new_state c next L) (ap (λ (x : ClientState). x.copies.limits) own ∙ site.limits)

-- the clients once one is new
pub restart_world_clients : (s n : WorldClientsState) (i c next : ℕ) (u t : ClientState) → IsLent s n i c u → t ≡ new_state c next s.limits → AreWorldClients (with_client s i t)
restart_world_clients s n i c next u t l made =
    subst (λ (x : ℕ). AreWorldClients (with_client s x t)) (sym l.place) (subst (λ (x : ClientState). AreWorldClients (with_client s c x)) (sym made)
    (world_clients_with s c (new_state c next s.limits) l.world_clients (here s n i c u l) (record { no = refl; limits = refl })))

pub restart_becomes : (s n : WorldClientsState) (i j c k next : ℕ) (u t : ClientState) → IsLent s n i c u → k ≡ u.incarnation → next ≡ k + 1 → k + 1 ≤ max_number → j ≡ c → t ≡ new_state c next s.limits
    → Answers n (Restart c) AnsweredOk [] (with_client s j t)
restart_becomes s n i j c k next u t l was follows left e made =
    let own : k ≡ (client_at s c).incarnation = was ∙ ap (λ (x : ClientState). x.incarnation) (its_own s n i c u l) in
    let fresh : t ≡ new_state c ((client_at s c).incarnation + 1) s.limits = made ∙ ap (λ (x : ℕ). new_state c x s.limits) (follows ∙ ap (λ (x : ℕ). x + 1) own) in
    subst (λ (x : WorldClientsState). Answers x (Restart c) AnsweredOk [] (with_client s j t)) l.same
    (subst (λ (x : ℕ). Answers s (Restart c) AnsweredOk [] (with_client s x t)) (sym e)
    (subst (λ (x : ClientState). Answers s (Restart c) AnsweredOk [] (with_client s c x)) (sym fresh)
    (restart_answers s c l.world_clients (here s n i c u l) (subst (λ (x : ℕ). x + 1 ≤ max_number) own left))))

-- an incarnation is left for it
pub restart_fails : (s n : WorldClientsState) (i c k : ℕ) (u : ClientState) → IsLent s n i c u → k ≡ u.incarnation → k + 1 ≤ max_number → (c < n.limits.clients) × ((client_at n c).incarnation < max_number)
restart_fails s n i c k u l was left =
    let own : k ≡ (client_at n c).incarnation = was ∙ ap (λ (x : ClientState). x.incarnation) (its_own s n i c u l) ∙ ap (λ (x : WorldClientsState). (client_at x c).incarnation) l.same in
    (l.has, subst (λ (x : ℕ). x < max_number) own (omega (arith, left)))

no_more : (k m : ℕ) → (k + 1 ≤ m → false ≡ true) → m ≤ k
no_more k m h = by (nat_lt k m) refl
  where
    by : (x : Bool) → nat_lt k m ≡ x → m ≤ k
    by true e =
        let below : k + 1 ≤ m = grind (arith, nat_tests) in
        absurd (apart (h below))
    by false e = grind (arith, nat_tests)

pub restart_full : (s n : WorldClientsState) (i c k : ℕ) (u : ClientState) → IsLent s n i c u → k ≡ u.incarnation → (k + 1 ≤ max_number → false ≡ true) → Answers n (Restart c) (Refused Exhausted) [] n
restart_full s n i c k u l was full =
    let own : k ≡ (client_at s c).incarnation = was ∙ ap (λ (x : ClientState). x.incarnation) (its_own s n i c u l) in
    subst (λ (x : WorldClientsState). Answers x (Restart c) (Refused Exhausted) [] x) l.same
    (restart_refused s c (here s n i c u l) (subst (λ (x : ℕ). max_number ≤ x) own (no_more k max_number full)))

-- one more of the first clients
pub first_pushed : (L : Bounds) (n m : ℕ) (before after : List ClientState) (client : ClientState) → before ≡ first_clients L n → client ≡ new_state m 1 L → m ≡ n
    → after ≡ before ++ client ∷ [] → after ≡ first_clients L (n + 1)
first_pushed L n m before after client so_far made number pushed =
    pushed ∙ (ap (λ (xs : List ClientState). xs ++ client ∷ []) so_far ∙ (ap (λ (x : ClientState). first_clients L n ++ x ∷ []) (made ∙ ap (λ (x : ℕ). new_state x 1 L) number)
    ∙ sym (map-range_with_len_more (λ x. new_state x 1 L) 0 n n (omega arith))))
