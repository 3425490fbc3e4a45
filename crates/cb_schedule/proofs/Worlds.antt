-- A world of the protocol, event by event: it stays reached from the opening store, which stays what it was.
use Rattle.std.proofs.Common.{◌≡◌, ℕ, Bool, true, false, List, [], ◌∷◌, ◌++◌, length, map, refl, ap, sym, ◌∙◌, subst, suc, ◌≤◌, nat_lt, take, zero, Result, Ok, Err, OnErr, OnOk, IfOk, arith}
use Rattle.std.proofs.Common.{Option, Some, None, Bor, not}
use Rattle.std.specs.Option.{is_some, option_copied}
use Rattle.std.specs.Prelude.{reverse}
use Rattle.std.specs.List.{AllByRecursion}
use Rattle.std.proofs.lemmas.List.{get_or_past, take_at, map-append, reverse-append}
use Rattle.std.proofs.lemmas.List.Elements.{All-get_or}
use Rattle.std.proofs.lemmas.Bool.Decides.{nat_tests}
use Rattle.cb_page.specs.Bounds.{Bounds}
use Rattle.cb_commit.specs.Stores.{IsSound, IsStored, StoreState, no_page, version_at}
use Rattle.cb_schedule.specs.NetMoves as net
use Rattle.cb_schedule.specs.Plays.{IsWorld, IsReached, Steps}
use Rattle.cb_transcript.specs.ProtocolEvents.{event_of, answer_of, word_of, sent_of, entry_of, transcript_of}
use Rattle.cb_cache.specs.CacheState.{limits_of}
use Rattle.cb_server_state.specs.States.{opening_of}
use Rattle.cb_schedule.specs.Packets.{IsSpelled}
use Rattle.cb_schedule.specs.NetState.{NetState, RepresentsNet, limits_in}
use Rattle.cb_transcript.specs.Transcripts.{name_of}
use Rattle.cb_transcript.specs.declared.transcript.TransactionName.{TransactionName}
use Rattle.cb_schedule.specs.WorldState.{WorldState, Represents, Tells, opened}
use Rattle.cb_schedule.proofs.Telling.{told_is_serial}
use Rattle.cb_transcript.specs.declared.event.Event.{Event}
use Rattle.cb_transcript.specs.declared.answer.Answer.{Answer}
use Rattle.cb_transcript.specs.declared.answer.TranscriptEntry.{TranscriptEntry}
use Rattle.cb_schedule.proofs.Packing.{spell_length}
use Rattle.cb_protocol.specs.AnyMessages.{committed_names}
use Rattle.cb_protocol.specs.Basics.{Limits}
use Rattle.cb_protocol.specs.Server.{Server}
use Rattle.cb_protocol.specs.Headline.{Promise, SoundOpening}
use Rattle.cb_protocol.specs.Laws.{WholePromise}
use Rattle.cb_protocol.specs.Messages.{Message}
use Rattle.cb_protocol.specs.WaitsFor.{on_cycle}
use Rattle.cb_protocol.specs.World as protocol
use Rattle.cb_protocol.specs.World.{ReachedWorld, numbered_from}

pub plays_more : (L : Limits) (w : protocol.World) (ms : List protocol.Moment) (m : protocol.Moment) → protocol.Plays L on_cycle w ms → protocol.Becomes L on_cycle (protocol.world_after w ms) m.event m.answer m.world → protocol.Plays L on_cycle w (ms ++ m ∷ [])
plays_more L w [] m p b = (b, tt)
plays_more L w (k ∷ ks) m p b = (p.0, plays_more L k.world ks m p.1 b)

pub after_more : (w : protocol.World) (ms : List protocol.Moment) (m : protocol.Moment) → protocol.world_after w (ms ++ m ∷ []) ≡ m.world
after_more w [] m = refl
after_more w (k ∷ ks) m = after_more k.world ks m

-- each world on the way keeps the promise
abbrev AllPromised : protocol.Opening → List protocol.Moment → Type 0
AllPromised o ms = AllByRecursion (λ moment. Promise o moment.world) ms

pub promises_more : (o : protocol.Opening) (ms : List protocol.Moment) (m : protocol.Moment) → AllPromised o ms → Promise o m.world → AllPromised o (ms ++ m ∷ [])
promises_more o [] m ps p = (p, tt)
promises_more o (k ∷ ks) m ps p = (ps.0, promises_more o ks m ps.1 p)

-- a world that is reached becomes one that is
pub reached_more : (L : Limits) (o : protocol.Opening) (w v : protocol.World) (e : protocol.Event) (a : protocol.Answer) → ReachedWorld L on_cycle o w → protocol.Becomes L on_cycle w e a v → ReachedWorld L on_cycle o v
reached_more L o w v e a r b =
    let m : protocol.Moment = record { event = e; answer = a; world = v } in (
      r.0 ++ m ∷ [],
      plays_more L (protocol.new_world L o) r.0 m r.1 (subst (λ (x : protocol.World). protocol.Becomes L on_cycle x e a v) (sym r.2) b),
      after_more (protocol.new_world L o) r.0 m,
    )

-- the protocol's world after the event
abbrev After : protocol.World → protocol.Event → Answer → List Message → protocol.World → protocol.World
After w e a fs u = (protocol.answer_with w e (word_of a.word) fs u).world

transcript_more : (told : List TranscriptEntry) (e : Event) (a : Answer) → record { event = event_of e; word = word_of a.word } ∷ transcript_of told ≡ transcript_of (told ++ record { event = e; answer = a } ∷ [])
transcript_more told e a = sym (ap reverse (map-append entry_of told (record { event = e; answer = a } ∷ [])) ∙ reverse-append (map entry_of told) (entry_of (record { event = e; answer = a }) ∷ []))

-- What an event makes of the net it makes of the world, as the protocol has it.
pub net_becomes : (w v : WorldState) (e : Event) (a : Answer) (u : protocol.World) → limits_in w.net ≡ w.limits
    → net.NetBecomes w.net (event_of e) a v.net → v.transcript ≡ w.transcript ++ record { event = e; answer = a } ∷ [] → Tells v.net w.commits v.commits → Represents w u
    → (x : protocol.World) × protocol.Becomes (limits_of w.limits) on_cycle u (event_of e) (answer_of a) x × Represents v x
net_becomes w v e a u l b t c sh =
    let by = b.by_event u sh.net in
    let fs = by.1 in
    let x : protocol.World = After u (event_of e) a fs by.2 in
    let numbers : numbered_from (length u.packets) fs ≡ map sent_of a.sent = ap (λ k. numbered_from k fs) (spell_length (limits_in w.net) w.net.packets.sent u.packets sh.net.packets) ∙ by.5 in (
      x,
      subst (λ (m : Bounds). protocol.Becomes (limits_of m) on_cycle u (event_of e) (answer_of a) x) l
          (by.0, by.3, by.4 ∙ ap (λ (ss : List protocol.SentPacket). record { answer = record { word = word_of a.word; sent = ss }; world = x }) numbers),
      record { net = by.6; commits = c.all ∙ ap (λ (s : Server). committed_names s.commits) (sym by.6.server); transcript = ap (λ (hs : List protocol.TranscriptEntry). record { event = event_of e; word = word_of a.word } ∷ hs) sh.transcript ∙ transcript_more w.transcript e a ∙ ap transcript_of (sym t) },
    )

-- Where only the packets from before an event stay, they are those of before.
pub packets_taken_back : (n m : NetState) (e : protocol.Event) (a : Answer) → net.NetBecomes n e a m → take (length n.packets.sent) m.packets.sent ≡ n.packets.sent
packets_taken_back n m e a b = ap (λ (ps : List (List ℕ)). take (length n.packets.sent) ps) b.packets.all ∙ take_at n.packets.sent b.packets.sent (length n.packets.sent) refl

pub on_err : {A E : Type 0} (r : Result A E) (P : Type 0) → P → OnErr r P
on_err (Ok a) P p = tt
on_err (Err e) P p = p

pub if_ok : {A E X P : Type 0} (r : Result A E) → OnOk r X → (X → P) → IfOk r (λ a. P)
if_ok (Ok a) x p = p x
if_ok (Err e) x p = tt

-- A running world plays an event.
pub steps : (w v : WorldState) (e : Event) (a : Answer) → WholePromise → IsReached w → w.stopped ≡ false → v.stopped ≡ false → v.limits ≡ w.limits → v.opening ≡ w.opening
    → net.NetBecomes w.net (event_of e) a v.net → v.transcript ≡ w.transcript ++ record { event = e; answer = a } ∷ [] → Tells v.net w.commits v.commits → Steps w e a v
steps w v e a whole s ran runs l o b t c =
    let next = net_becomes w v e a s.world s.limits b t c s.represents in
    let reached = reached_more (limits_of w.limits) (opened w) s.world next.0 (event_of e) (answer_of a) s.reached next.1 in
    let promise = whole (limits_of w.limits) on_cycle (opened w) next.0 s.sound reached in
    record {
      ran = ran;
      runs = runs;
      limits = l;
      opening = o;
      transcript = t;
      commits = (c.later, c.more);
      packets = (b.packets.sent, b.packets.all, b.packets.counted);
      becomes = λ u sh. net_becomes w v e a u s.limits b t c sh;
      promise = (next.0, next.2, reached, promise);
    }

-- It is such a world afterwards.
pub reached_after : (w v : WorldState) (e : Event) (a : Answer) → SoundOpening (opened w) → limits_in v.net ≡ v.limits → Steps w e a v → IsReached v
reached_after w v e a sound l s = record {
  limits = l;
  sound = subst SoundOpening (ap opening_of (sym s.opening)) sound;
  world = s.promise.0;
  represents = s.promise.1;
  reached = subst (λ (o : protocol.Opening). ReachedWorld (limits_of v.limits) on_cycle o s.promise.0) (ap opening_of (sym s.opening)) (subst (λ (m : Bounds). ReachedWorld (limits_of m) on_cycle (opened w) s.promise.0) (sym s.limits) s.promise.2);
}

all_append : (l : Bounds) (ps qs : List (List ℕ)) → AllByRecursion (IsSpelled l) ps → AllByRecursion (IsSpelled l) qs → AllByRecursion (IsSpelled l) (ps ++ qs)
all_append l [] qs a b = b
all_append l (p ∷ ps) qs a b = (a.0, all_append l ps qs a.1 b)

-- the first of them
all_take : (l : Bounds) (n : ℕ) (ps : List (List ℕ)) → AllByRecursion (IsSpelled l) ps → AllByRecursion (IsSpelled l) (take n ps)
all_take l zero ps a = tt
all_take l (suc n) [] a = tt
all_take l (suc n) (p ∷ ps) a = (a.0, all_take l n ps a.1)

-- After an event its packets are spellings of frames.
pub spelled_packets : (w v : WorldState) (e : protocol.Event) (a : Answer) → limits_in w.net ≡ w.limits → v.limits ≡ w.limits → AllByRecursion (IsSpelled w.limits) w.net.packets.sent → net.NetBecomes w.net e a v.net
    → AllByRecursion (IsSpelled v.limits) v.net.packets.sent
spelled_packets w v e a of l all b = rw b.packets.all (subst (λ (m : Bounds). AllByRecursion (IsSpelled m) (w.net.packets.sent ++ b.packets.sent)) (sym l)
    (all_append w.limits w.net.packets.sent b.packets.sent all (subst (λ (m : Bounds). AllByRecursion (IsSpelled m) b.packets.sent) of b.packets.spelled)))

-- The world of a store before any event.
pub reached_at_first : (v : WorldState) (l : Bounds) (s : StoreState) → v.limits ≡ l → limits_in v.net ≡ l → v.opening ≡ s → SoundOpening (opening_of s) → RepresentsNet v.net (protocol.new_world (limits_of l) (opening_of s)) → v.transcript ≡ [] → v.commits ≡ []
    → (opened v ≡ opening_of s) × Represents v (protocol.new_world (limits_of l) (opening_of s)) × IsReached v
reached_at_first v l s e f k sound sh t c =
    let o : opened v ≡ opening_of s = ap opening_of k in
    let represents : Represents v (protocol.new_world (limits_of l) (opening_of s)) = record { net = sh; transcript = ap transcript_of (sym t); commits = ap (λ (ns : List TransactionName). reverse (map name_of ns)) c } in (
      o,
      represents,
      record {
        limits = f ∙ sym e;
        sound = subst SoundOpening (sym o) sound;
        world = protocol.new_world (limits_of l) (opening_of s);
        represents = represents;
        reached = ([], tt, λ i. protocol.new_world (limits_of (e i)) (o i));
      },
    )

pub first_promise : (L : Limits) (o : protocol.Opening) → WholePromise → SoundOpening o → Promise o (protocol.new_world L o)
first_promise L o whole sound = whole L on_cycle o (protocol.new_world L o) sound ([], tt, refl)

-- no page of a store is newer than its last commit
pub sound_opening : (s : StoreState) → IsSound s → SoundOpening (opening_of s)
sound_opening s sound p = by_test (nat_lt p (length s.pages)) refl
  where
    by_test : (b : Bool) → nat_lt p (length s.pages) ≡ b → version_at s p ≤ s.number
    by_test true e = (All-get_or (IsStored s.page_size s.number) s.pages p no_page (grind (arith, nat_tests)) sound.pages).version
    by_test false e =
        let past : length s.pages ≤ p = grind (arith, nat_tests) in
        rw (version_at, get_or_past s.pages p no_page past) (omega arith)

-- A running world that is told an event is such a world again.
pub stepped : (w v : WorldState) (e : Event) → WholePromise → IsWorld w → w.stopped ≡ false → v.stopped ≡ false → v.limits ≡ w.limits → v.opening ≡ w.opening
    → (a : Answer) × net.NetBecomes w.net (event_of e) a v.net × (v.transcript ≡ w.transcript ++ record { event = e; answer = a } ∷ []) × Tells v.net w.commits v.commits
    → IsWorld v × ((a : Answer) × Steps w e a v)
stepped w v e whole z ran runs l o told =
    let s = z.running ran in
    let one = steps w v e told.0 whole s ran runs l o told.1 told.2 told.3 in
    let after = reached_after w v e told.0 s.sound (told.1.limits ∙ s.limits ∙ sym l) one in
    (record { packets = spelled_packets w v (event_of e) told.0 s.limits l z.packets told.1; serial = told_is_serial v one.promise.0 one.promise.1 (subst (λ (x : protocol.Opening). Promise x one.promise.0) (ap opening_of (sym one.opening)) one.promise.3); running = λ _. after }, (told.0, one))

-- where nothing is lent there is nothing
pub nothing_lent : {A : Type 0} (o : Option (Bor A)) (none : Bool) → is_some o ≡ not none → option_copied o ≡ None → none ≡ true
nothing_lent None true told e = refl
nothing_lent None false told e = told
nothing_lent (Some x) none told e = absurd (let no : Some x.now ≡ None = e in cc)
