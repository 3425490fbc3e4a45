-- A station that has just opened is a world that is reached.
use Rattle.std.proofs.Common.{◌≡◌, ◌≤◌, Bool, true, false, nat_lt, List, [], length, refl, sym}
use Rattle.std.proofs.Common.{subst, inl, inr, arith, ℕ, ap, ◌∙◌, if◌then◌else◌}
use Rattle.std.proofs.lemmas.Bool.Decides.{nat_tests}
use Rattle.std.proofs.lemmas.List.{get_or_past}
use Rattle.std.proofs.lemmas.List.Elements.{All-get_or}
use Rattle.cb_commit.specs.Stores as stores
use Rattle.cb_commit.specs.Stores.{StoreState, no_page, version_at}
use Rattle.cb_frame.specs.declared.frame.Frame.{Frame}
use Rattle.cb_page.specs.Bounds.{Bounds}
use Rattle.cb_protocol.specs.Basics.{IsIn, Limits}
use Rattle.cb_protocol.specs.Headline.{SoundOpening}
use Rattle.cb_protocol.specs.StoreLimits.{limits_of}
use Rattle.cb_protocol.specs.Server.{Server}
use Rattle.cb_protocol.specs.World.{Opening, new_world}
use Rattle.cb_server_state.specs.States.{opening_of}
use Rattle.cb_running_laws.proofs.Events.{opening_world, whole}
use Rattle.cb_running_laws.proofs.Resuming.{FloorTold, floor_told}
use Rattle.cb_running_laws.proofs.Standing.{Kept, MayStillJoin, no_worker}
use Rattle.cb_running_laws.specs.Laws.{IsFirst}
use Rattle.cb_running_laws.specs.Programs.{HasBegun, HasOpened, IsSound, Program}
use Rattle.cb_running_laws.specs.Programs.HasBegun.{anew, in_life}

-- no page of a store is newer than its last commit
pub sound_opening : (s : StoreState) → stores.IsSound s → SoundOpening (opening_of s)
sound_opening s sound p = by_test (nat_lt p (length s.pages)) refl
  where
    by_test : (b : Bool) → nat_lt p (length s.pages) ≡ b → version_at s p ≤ s.number
    by_test true e = (All-get_or (stores.IsStored s.page_size s.number) s.pages p no_page
        (grind (arith, nat_tests)) sound.pages).version
    by_test false e =
        let past : length s.pages ≤ p = grind (arith, nat_tests) in
        rw (version_at, get_or_past s.pages p no_page past) (omega arith)

-- a client without a worker, where each has greeted at the floor
may_join : (L : Limits) (o : Opening) (floor : ℕ) (told : FloorTold L o floor L.clients) (c : ℕ)
    → MayStillJoin told.world c
may_join L o floor told c = by (nat_lt c L.clients) refl
  where
    current : (told.world.server.session c).current ≡ (if nat_lt c L.clients then floor else 0)
    current = ap (λ (s : Server). (s.session c).current) told.server

    by : (b : Bool) → nat_lt c L.clients ≡ b → MayStillJoin told.world c
    by true e =
        let at : (told.world.server.session c).current ≡ floor = current
        ∙ ap (λ (b : Bool). if b then floor else 0) e in
        let own : told.world.incarnation c ≡ floor = told.below c (grind (arith, nat_tests)) in
        inl (omega (arith, at, own))
    by false e =
        let at : (told.world.server.session c).current ≡ 0 = current
        ∙ ap (λ (b : Bool). if b then floor else 0) e in
        let own = told.rest c (grind (arith, nat_tests)) in let one = own.1 in
        inr (omega (arith, at, one), own.0)

-- with the world that it begins with
pub begun_kept : (limits : Bounds) (store : StoreState) (r : Program)
    (begun : HasBegun limits store r.station.dispatcher.server) → HasOpened limits store r → IsSound r
    → (kept : Kept limits (opening_world (limits_of limits) (opening_of store)) r)
    × IsFirst limits store r.station.dispatcher.server begun kept.world
begun_kept limits store r (anew new) opens sound = (
  record {
    limits_are = new.limits;
    sound = sound;
    world = new_world (limits_of limits) (opening_of store);
    reached = ([], tt, refl);
    opened = sound_opening store opens.sound;
    performed = sym opens.nothing;
    stands = record {
      server = sym new.server;
      worker = λ c k e. absurd (no_worker r c k e (opens.nobody c));
      absent = λ c e. inr (refl, refl);
      mailbox = λ c f i. absurd (subst (λ (l : List Frame). IsIn f l) (opens.mailbox c) i);
    };
  },
  refl,
)
begun_kept limits store r (in_life floor least most life) opens sound =
    let L : Limits = limits_of limits in let o : Opening = opening_of store in
    let told : FloorTold L o floor L.clients =
    floor_told L o floor least most L.clients (omega arith) in (
      record {
        limits_are = life.limits;
        sound = sound;
        world = told.world;
        reached = told.reached;
        opened = sound_opening store opens.sound;
        performed = told.silent ∙ sym opens.nothing;
        stands = record {
          server = told.server ∙ sym life.server;
          worker = λ c k e. absurd (no_worker r c k e (opens.nobody c));
          absent = λ c e. may_join L o floor told c;
          mailbox = λ c f i. absurd (subst (λ (l : List Frame). IsIn f l) (opens.mailbox c) i);
        };
      },
      whole L (opening_world L o) told.world told.reached,
    )

abbrev pub opening_kept : (limits : Bounds) (store : StoreState) (r : Program)
    → HasOpened limits store r → IsSound r
    → Kept limits (opening_world (limits_of limits) (opening_of store)) r
opening_kept limits store r opens sound = (begun_kept limits store r opens.server opens sound).0
