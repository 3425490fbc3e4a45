-- The versions of rows.
use Rattle.std.proofs.Common.{List, Some, [], arith, false, inl, inr, refl, subst, sym, true, ℕ, ◌++◌, ◌<◌, ◌∙◌, ◌∷◌, ◌≡◌, ◌≤◌, ◌⊎◌}
use Rattle.std.specs.Prelude.{⊤}
use Rattle.cb_laws.proofs.RowFacts.{RowFacts, facts_all, weaker}
use Rattle.cb_laws.proofs.RowsSent.{AllSent, more_sent, rows_sent}
use Rattle.cb_laws.proofs.WorldServed.{Addressed, Served, ServesInput, ServesNot, event_served}
use Rattle.cb_laws.specs.RowVersions.{CopiesOnTheirWay, RowVersions, SentAfter, SentByServer, SentNothing, ServersRowVersions}
use Rattle.cb_protocol.proofs.Followed.{ImageOfSome, image_of_reached}
use Rattle.cb_protocol.proofs.Invariant.{MessageHolds, cache_at_session}
use Rattle.cb_protocol.proofs.LifeEvents.{one_life}
use Rattle.cb_protocol.proofs.LifeImage.{Image, in_append, in_left, in_right}
use Rattle.cb_protocol.proofs.Machine.{Machine}
use Rattle.cb_protocol.proofs.ServedSteps.{first_asks_met}
use Rattle.cb_protocol.proofs.ServerOrder.{Orderly, StepsRight, orderly_start}
use Rattle.cb_protocol.proofs.ServerSteps.{sent_near}
use Rattle.cb_protocol.proofs.ServerTakes.{right_again, right_flushes, right_server_take}
use Rattle.cb_protocol.proofs.SettlingRight.{clients_served}
use Rattle.cb_protocol.specs.AnyMessages.{ComesFromClient, Input, MessageComes, ReachesDisk, SendsAgain, input_steps}
use Rattle.cb_protocol.specs.Basics.{Bytes, IsIn, Limits}
use Rattle.cb_protocol.specs.Cache.{Cache}
use Rattle.cb_protocol.specs.Headline.{SoundOpening}
use Rattle.cb_protocol.specs.Laws.{Always}
use Rattle.cb_protocol.specs.Messages.{Body, Granted, Message, to_server}
use Rattle.cb_protocol.specs.Server.{DeadlockTest, Server, ServerStep, new_server, server_after}
use Rattle.cb_protocol.specs.Session.{Session, Store}
use Rattle.cb_protocol.specs.World.{Moment, Opening, Plays, StepResult, World, messages_sent, new_world, opening_store, world_after}

-- any message may come
abbrev Any : ℕ → ℕ → Body → Type 0
Any c i b = ⊤

-- what is kept of a server and of what it sent
pub record Kept (L : Limits) (s : Server) (ms : List Message) : Type 0 where
  pub orderly : Orderly Any s
  pub clients : s.clients ≡ L.clients
  pub facts : RowFacts (λ f. IsIn f ms) s
  pub sent : AllSent (λ f. IsIn f ms) s

right_input : (L : Limits) (cycle : DeadlockTest) (s : Server) (i : Input) → Orderly Any s → s.clients ≡ L.clients → ComesFromClient L s i → StepsRight Any s (input_steps cycle s i)
right_input L cycle s (MessageComes c i b) o e f = right_server_take Any cycle s c i b o (rw e f) tt
right_input L cycle s SendsAgain o e f = right_again Any s o
right_input L cycle s (ReachesDisk n) o e f = right_flushes Any s n o

either_in : (ms ns : List Message) (f : Message) → IsIn f ms ⊎ IsIn f ns → IsIn f (ms ++ ns)
either_in ms ns f k = elim k [ inl j ↦ in_left f ms ns j | inr j ↦ in_right f ms ns j ]

pub kept_input : (L : Limits) (cycle : DeadlockTest) (s : Server) (ms : List Message) (i : Input) → Kept L s ms → ComesFromClient L s i → Kept L (server_after s (input_steps cycle s i)) (ms ++ messages_sent (input_steps cycle s i))
kept_input L cycle s ms i k f = let ds : List ServerStep = input_steps cycle s i in
    let t : StepsRight Any s ds = right_input L cycle s i k.orderly k.clients f in
    record {
      orderly = t.1;
      clients = clients_served s ds ∙ k.clients;
      facts = weaker (λ f. IsIn f ms ⊎ IsIn f (messages_sent ds)) (λ f. IsIn f (ms ++ messages_sent ds)) (server_after s ds) (λ f j. in_append f ms (messages_sent ds) j) (facts_all Any (λ f. IsIn f ms) s ds k.facts t.0);
      sent = more_sent (λ f. IsIn f ms ⊎ IsIn f (messages_sent ds)) (λ f. IsIn f (ms ++ messages_sent ds)) (server_after s ds) (either_in ms (messages_sent ds)) (rows_sent (λ f. IsIn f ms) s ds k.sent (first_asks_met cycle s i).0);
    }

pub kept_new : (L : Limits) (o : Opening) → SoundOpening o → Kept L (new_server L.clients L.pages (opening_store L o)) []
kept_new L o sound = record {
  orderly = orderly_start Any L o;
  clients = refl;
  facts = record {
    sole = λ p d g c e. absurd cc;
    below = λ c p g e. absurd cc;
    versions = sound;
    sent_below = λ c i p g v b m. absurd m;
    right = λ c i p g v b m. absurd m;
  };
  sent = λ c p g e. absurd cc;
}

pub kept_by_server : (L : Limits) (cycle : DeadlockTest) (o : Opening) (s : Server) (ms : List Message) → SoundOpening o → SentByServer L cycle o s ms → Kept L s ms
kept_by_server L cycle o s ms sound SentNothing = kept_new L o sound
kept_by_server L cycle o s ms sound (SentAfter {server = k} {sent = ns} r i f) = kept_input L cycle k ns i (kept_by_server L cycle o k ns sound r) f

pub row_versions : (L : Limits) (s : Server) (ms : List Message) → Kept L s ms → RowVersions s ms
row_versions L s ms k = record {
  sent = k.sent;
  current = λ c i p g v b m e. (k.facts.right c i p g v b m e).0;
  version = λ c i p g v b m e. (k.facts.right c i p g v b m e).1;
}

-- whatever messages come
pub server_row_versions : ServersRowVersions
server_row_versions L cycle o s ms sound r = row_versions L s ms (kept_by_server L cycle o s ms sound r)

-- a world's server, with all that it sent
record ServedSoFar (L : Limits) (cycle : DeadlockTest) (o : Opening) (v : World) : Type 0 where
  sent : List Message
  server : SentByServer L cycle o v.server sent
  there : (f : Message) → IsIn f sent → IsIn f v.packets
  all : (f : Message) → IsIn f v.packets → to_server f.body ≡ false → IsIn f sent
  addressed : Addressed L v

served_new : (L : Limits) (cycle : DeadlockTest) (o : Opening) → ServedSoFar L cycle o (new_world L o)
served_new L cycle o = record { sent = []; server = SentNothing; there = λ f i. absurd i; all = λ f i e. absurd i; addressed = λ f i. absurd i }

served_next : (L : Limits) (cycle : DeadlockTest) (o : Opening) (v v' : World) → SoundOpening o → ServedSoFar L cycle o v → Served L cycle v v' → ServedSoFar L cycle o v'
served_next L cycle o v v' sound h (ServesNot e more none) = record {
  sent = h.sent;
  server = subst (λ (s : Server). SentByServer L cycle o s h.sent) (sym e) h.server;
  there = λ f i. more f (h.there f i);
  all = λ f i t. elim (none f i) [ inl j ↦ h.all f j t | inr j ↦ absurd (let z : true ≡ false = sym j.0 ∙ t in cc) ];
  addressed = λ f i. elim (none f i) [ inl j ↦ h.addressed f j | inr j ↦ j.1 ];
}
served_next L cycle o v v' sound h (ServesInput i from e p) = let ds : List ServerStep = input_steps cycle v.server i in
    let k : Kept L v.server h.sent = kept_by_server L cycle o v.server h.sent sound h.server in
    record {
      sent = h.sent ++ messages_sent ds;
      server = subst (λ (s : Server). SentByServer L cycle o s (h.sent ++ messages_sent ds)) (sym e) (SentAfter h.server i from);
      there = λ f j. subst (λ (x : List Message). IsIn f x) (sym p) (elim (in_append f h.sent (messages_sent ds) j) [ inl l ↦ in_left f v.packets (messages_sent ds) (h.there f l) | inr l ↦ in_right f v.packets (messages_sent ds) l ]);
      all = λ f j t. elim (in_append f v.packets (messages_sent ds) (subst (λ (x : List Message). IsIn f x) p j)) [ inl l ↦ in_left f h.sent (messages_sent ds) (h.all f l t) | inr l ↦ in_right f h.sent (messages_sent ds) l ];
      addressed = λ f j. elim (in_append f v.packets (messages_sent ds) (subst (λ (x : List Message). IsIn f x) p j)) [
        | inl l ↦ h.addressed f l
        | inr l ↦ sent_near Any v.server ds L.clients f k.clients (right_input L cycle v.server i k.orderly k.clients from).0 l
      ];
    }

served_along : (L : Limits) (cycle : DeadlockTest) (o : Opening) (v : World) (moments : List Moment) → SoundOpening o → ServedSoFar L cycle o v → Plays L cycle v moments → ServedSoFar L cycle o (world_after v moments)
served_along L cycle o v [] sound h p = h
served_along L cycle o v (m ∷ moments) sound h p =
    let one : Served L cycle v m.world = subst (λ (x : StepResult). Served L cycle v x.world) p.0.2 (event_served L cycle v m.event p.0.0 h.addressed) in
    served_along L cycle o m.world moments sound (served_next L cycle o v m.world sound h one) p.1

pub world_row_versions : Always (λ o v. RowVersions v.server v.packets)
world_row_versions L cycle o v sound reached =
    let h : ServedSoFar L cycle o v = subst (λ (x : World). ServedSoFar L cycle o x) reached.2 (served_along L cycle o (new_world L o) reached.0 sound (served_new L cycle o) reached.1) in
    let r : RowVersions v.server h.sent = server_row_versions L cycle o v.server h.sent sound h.server in
    record {
      sent = λ c p g e. let a = r.sent c p g e in (a.0, a.1, h.there _ a.2);
      current = λ c i p g x b m e. r.current c i p g x b (h.all _ m refl) e;
      version = λ c i p g x b m e. r.version c i p g x b (h.all _ m refl) e;
    }

-- what a client would take, by the machine
new_copy : (c : ℕ) (s : Store) (t : Session) (k : Cache) (i p g v : ℕ) (b : Bytes) → t.current ≤ i → MessageHolds c s t k i i (Granted p g v b) → (t.current ≡ i → k.seen p < g) → (t.row p ≡ Some g) × ((v ≡ s.version p) × (b ≡ s.bytes p))
new_copy c s t k i p g v b l h n = let e : t.current ≡ i = omega (arith, l, h.0) in let f = h.1 (sym e) in let u = n e in
    elim f.2 [ inl z ↦ (z.0, (z.1, f.1 z.1)) | inr z ↦ absurd (omega arith) ]

pub copies_on_their_way : Always (λ o v. CopiesOnTheirWay v)
copies_on_their_way L cycle o v sound reached c p g x b sent new =
    let a : ImageOfSome L o (λ w. ⊤) v = image_of_reached L cycle o (λ w. ⊤) (λ w e h may q. tt) tt v sound reached in
    there a.0 a.1
  where
    there : (w : Machine) → Image L (one_life o) v w → ((v.server.session c).row p ≡ Some g) × ((x ≡ v.server.store.version p) × (b ≡ v.server.store.bytes p))
    there w m =
        let i : w.incarnation c ≡ v.incarnation c = m.incarnation c (omega arith) in
        let f : MessageHolds c w.store (w.session c) (cache_at_session w c) (w.incarnation c) (w.incarnation c) (Granted p g x b) =
        m.safe.fine (record { client = c; incarnation = w.incarnation c; body = Granted p g x b }) (subst (λ (j : ℕ). IsIn (record { client = c; incarnation = j; body = Granted p g x b }) w.packets) (sym i) (m.packets _ (omega arith) sent)) in
        let z = new_copy c w.store (w.session c) (cache_at_session w c) (w.incarnation c) p g x b (m.safe.behind c) f
        (λ e. subst (λ (j : ℕ). (w.client c j).seen p < g) (sym e) (subst (λ (k : Cache). k.seen p < g) (sym (m.cache c (omega arith))) new)) in
        subst (λ (s : Store). ((v.server.session c).row p ≡ Some g) × ((x ≡ s.version p) × (b ≡ s.bytes p))) m.store
        (subst (λ (t : ℕ → Session). ((t c).row p ≡ Some g) × ((x ≡ w.store.version p) × (b ≡ w.store.bytes p))) m.session z)
