-- What a file and its services are after any steps.
use Rattle.std.proofs.Common.{◌≡◌, ◌<◌, ◌≤◌, ◌++◌, ℕ, Bool, true, false, nat_lt, List, [], ◌∷◌}
use Rattle.std.proofs.Common.{refl, sym, ◌∙◌, ap, subst, arith, inl, inr}
use Rattle.std.proofs.Common.{if◌then◌else◌}
use Rattle.std.proofs.lemmas.List.{length-replicate}
use Rattle.sqlite.specs.Effect.{Database}
use Rattle.sqlite.specs.Store.{Ghosts}
use Rattle.cb_commit.specs.Batches.{BatchState, after_batch}
use Rattle.cb_commit.specs.Stores.{StoreState, IsOf, bytes_at, version_at, zero_page, zeros}
use Rattle.cb_laws.proofs.LifeBegins.{lives_are_reached}
use Rattle.cb_page.specs.Bounds.{Bounds}
use Rattle.cb_protocol.proofs.LifeImage.{back, in_append, in_left, in_right}
use Rattle.cb_protocol.specs.AnyMessages.{IsCommit, Opened, ReachedBy, ReachesDisk, bytes_after}
use Rattle.cb_protocol.specs.AnyMessages.{version_after}
use Rattle.cb_protocol.specs.Basics.{Bytes, IsIn}
use Rattle.cb_protocol.specs.Flush.{Batch}
use Rattle.cb_protocol.specs.LivesWorld.{commits_on_disk, commits_up_to}
use Rattle.cb_protocol.specs.LivesWorld.{server_of_life, store_on_disk}
use Rattle.cb_protocol.specs.Messages.{Done, Message}
use Rattle.cb_protocol.specs.Server.{AppliedCommit, Server}
use Rattle.cb_protocol.specs.Session.{new_bytes, new_version}
use Rattle.cb_protocol.specs.Messages.{write_of_page}
use Rattle.cb_protocol.specs.WaitsFor.{on_cycle}
use Rattle.cb_protocol.specs.World.{Opening}
use Rattle.cb_server.specs.Knowing.{KnowsBelow}
use Rattle.cb_server_state.specs.States.{limits_of, opening_of}
use Rattle.cb_shelf.specs.LifeRows.{LifeState}
use Rattle.cb_shelf.specs.Living as living
use Rattle.cb_shelf.specs.Living.{Follows, life_from}
use Rattle.cb_shelf.specs.Newer.{HoldsNewer}
use Rattle.cb_shelf_laws.proofs.Answering.{answered_rows}
use Rattle.cb_shelf_laws.proofs.Following.{batch_full, lays_zeros, leaves_shelf, zeros_full}
use Rattle.cb_shelf_laws.proofs.Holding.{holds_rows, over_pages}
use Rattle.cb_shelf_laws.proofs.Laying.{full_laid, life_laid}
use Rattle.cb_shelf_laws.proofs.Lives.{batch_keeps, begins, follows, row_set, store_left}
use Rattle.cb_shelf_laws.proofs.Lives.{unlived_begins}
use Rattle.cb_shelf_laws.proofs.Paging.{writes_batch}
use Rattle.cb_shelf_laws.proofs.Unlived.{unlived_kept}
use Rattle.cb_shelf_laws.specs.Rows.{HasFullPages, HasStore, IsLife}
use Rattle.cb_shelf_laws.specs.Stops.{FirstOpen}
use Rattle.cb_shelf_laws.specs.Stops.FirstOpen.{copied, found, made, unlived}
use Rattle.cb_serve.specs.Answering.{after_inputs, inputs_in, said_to}
use Rattle.cb_serve.specs.Serving.{opened}
use Rattle.cb_running_laws.proofs.BatchStore.{batch_on_disk, in_up_to, the_next, up_to_later}
use Rattle.cb_running_laws.proofs.BatchStore.{up_to_more}
use Rattle.cb_running_laws.proofs.ServerCommits.{Fine, Took, facts_of, reached_fine, took_pieces}
use Rattle.cb_running_laws.proofs.ServerCommits.{took_report}
use Rattle.cb_running_laws.specs.ServedFile.{Course, DonesStand, IsLivesOf, MakesStep, MakesSteps}
use Rattle.cb_running_laws.specs.ServedFile.{Restarts, ServicesRestart, Stands, Step, after_step}
use Rattle.cb_running_laws.specs.ServedFile.{after_steps, begun, standing}
use Rattle.cb_running_laws.specs.ServedFile as step

-- What the tables and the services are. The store in the tables is that which the disk has by the
-- last service; the server goes on from what was told; and of what was said every Done stands. The
-- floors are below the number that the tables tell, if that of the first life was positive.
record Good (older : Bool) (least : ℕ) (first : StoreState) (c : Course) (db : Database) : Type 0 where
  store : StoreState
  of : IsOf c.limits store
  full : HasFullPages store
  has : HasStore older db store
  row : IsLife older db c.life
  base : StoreState
  base_of : IsOf c.limits base
  base_is : c.opening ≡ opening_of base
  shows : opening_of store ≡ store_on_disk c.opening c.told c.on_disk
  reached : ReachedBy (limits_of c.limits) on_cycle c.opening (Fine (limits_of c.limits)) c.server
  same : commits_up_to c.on_disk c.server.commits ≡ commits_up_to c.on_disk c.told.commits
  told_flushed : c.told.flushed ≤ c.on_disk
  told_last : c.on_disk ≤ c.told.store.last_commit
  flushed : c.server.flushed ≤ c.on_disk
  last : c.on_disk ≤ c.server.store.last_commit
  known : 1 ≤ least → KnowsBelow c.told c.life.below
  floor : 1 ≤ least → c.floor < c.life.below
  bytes : (page : ℕ) → c.opening.bytes page ≡ bytes_after (bytes_at first) c.former page
  version : (page : ℕ) → c.opening.version page ≡ version_after (version_at first) c.former page
  dones : (k i x n : ℕ)
      → IsIn (record { client = k; incarnation = i; body = Done x n }) (c.said ++ c.unsaid)
      → IsCommit (commits_up_to c.on_disk c.server.commits ++ c.former) k i x n

-- ---- lists

bytes_both : (ob : ℕ → Bytes) (xs ys : List AppliedCommit) (page : ℕ)
    → bytes_after ob (xs ++ ys) page ≡ bytes_after (λ p. bytes_after ob ys p) xs page
bytes_both ob [] ys page = refl
bytes_both ob (x ∷ xs) ys page =
    ap (new_bytes (write_of_page x.writes page)) (bytes_both ob xs ys page)

version_both : (ov : ℕ → ℕ) (xs ys : List AppliedCommit) (page : ℕ)
    → version_after ov (xs ++ ys) page ≡ version_after (λ p. version_after ov ys p) xs page
version_both ov [] ys page = refl
version_both ov (x ∷ xs) ys page =
    ap (new_version (write_of_page x.writes page) x.number) (version_both ov xs ys page)

-- commits that go on to stand
goes_on : (xs ys zs : List AppliedCommit) (k i x n : ℕ)
    → ((y : AppliedCommit) → IsIn y xs → IsIn y ys) → IsCommit (xs ++ zs) k i x n
    → IsCommit (ys ++ zs) k i x n
goes_on xs ys zs k i x n more is = (
  is.0,
  elim (in_append is.0 xs zs is.1) [
    | inl j ↦ in_left is.0 ys zs (more is.0 j)
    | inr j ↦ in_right is.0 ys zs j
  ],
  is.2,
  is.3,
  is.4,
  is.5,
)

-- a list and nothing
pub nothing_more : {A : Type 0} (xs : List A) → xs ++ [] ≡ xs
nothing_more [] = refl
nothing_more (x ∷ xs) = ap (λ l. x ∷ l) (nothing_more xs)

-- of three lists
pub regroup : {A : Type 0} (xs ys zs : List A) → xs ++ (ys ++ zs) ≡ (xs ++ ys) ++ zs
regroup [] ys zs = refl
regroup (x ∷ xs) ys zs = ap (λ l. x ∷ l) (regroup xs ys zs)

more_known : (s : Server) (few many : ℕ) → few ≤ many → KnowsBelow s few → KnowsBelow s many
more_known s few many le known d = let l = known d in omega (arith, l, le)

-- what a load answers is the store in the tables
the_store : (older : Bool) (least : ℕ) (first : StoreState) (c : Course) (db : Database)
    (answered : StoreState) → (h : Good older least first c db) → HasFullPages answered
    → HoldsNewer db answered → answered ≡ h.store
the_store older least first c db answered h full holds =
    answered_rows older h.store answered db h.full full h.has holds

module _ {S : Type 0} (g : Ghosts S) (older : Bool) (least : ℕ) (first : StoreState) where
  -- what is said to inputs, on the tables as they are
  took : (c : Course) (db : Database) → Good older least first c db → (t : Server) (messages : List Message)
      (flushed : ℕ) → flushed ≤ c.on_disk
      → Took (limits_of c.limits) c.opening c.server t flushed messages
      → Good older least first (record c { server = t; unsaid = c.unsaid ++ messages }) db
  took c db h t messages flushed le w = record {
    store = h.store;
    of = h.of;
    full = h.full;
    has = h.has;
    row = h.row;
    base = h.base;
    base_of = h.base_of;
    base_is = h.base_is;
    shows = h.shows;
    reached = w.reached;
    same = up_to ∙ h.same;
    told_flushed = h.told_flushed;
    told_last = h.told_last;
    flushed = (let e = w.flushed_is in omega (arith, e, le));
    last = (let a = w.last in let b = h.last in omega (arith, a, b));
    known = h.known;
    floor = h.floor;
    bytes = h.bytes;
    version = h.version;
    dones = λ k i x n there. elim (in_append (record { client = k; incarnation = i; body = Done x n })
        (c.said ++ c.unsaid) messages (subst (λ (l : List Message).
        IsIn (record { client = k; incarnation = i; body = Done x n }) l)
        (regroup c.said c.unsaid messages) there)) [
          | inl j ↦ subst (λ (l : List AppliedCommit). IsCommit (l ++ c.former) k i x n) (sym up_to)
              (h.dones k i x n j)
          | inr j ↦ (let d = w.dones k i x n j in (
            d.0.0,
            in_left d.0.0 (commits_up_to c.on_disk t.commits) c.former
                (in_up_to c.on_disk t.commits d.0.0 d.0.1
                (let e = d.0.5 in let l = d.1 in omega (arith, e, l, le))),
            d.0.2,
            d.0.3,
            d.0.4,
            d.0.5,
          ))
        ];
  }
    where
      up_to : commits_up_to c.on_disk t.commits ≡ commits_up_to c.on_disk c.server.commits
      up_to = ap (commits_up_to c.on_disk) w.commits
          ∙ up_to_later c.on_disk c.server.store.last_commit w.added c.server.commits w.later h.last

  -- the row of a life is another, and tells no smaller number
  row_kept : (c : Course) (before after : Database) (life : LifeState)
      → (h : Good older least first c before) → c.life.below ≤ life.below
      → HasStore older after h.store → IsLife older after life
      → Good older least first (record c { life = life }) after
  row_kept c before after life h le has row = record {
    store = h.store;
    of = h.of;
    full = h.full;
    has = has;
    row = row;
    base = h.base;
    base_of = h.base_of;
    base_is = h.base_is;
    shows = h.shows;
    reached = h.reached;
    same = h.same;
    told_flushed = h.told_flushed;
    told_last = h.told_last;
    flushed = h.flushed;
    last = h.last;
    known = λ one. more_known c.told c.life.below life.below le (h.known one);
    floor = λ one. (let f = h.floor one in omega (arith, f, le));
    bytes = h.bytes;
    version = h.version;
    dones = h.dones;
  }

  -- the present life is followed by the next one
  followed : (c : Course) (db : Database) (life : LifeState) → Good older least first c db
      → Follows db life → life ≡ life_from c.life.below
  followed c db life h follow = follows older db c.life life h.has.shelf h.row follow

  -- a life begins that doesn't serve
  lived_kept : (c : Course) (life : LifeState) (before after : Database)
      → Good older least first c before → MakesStep g c (step.lived life) before after
      → Good older least first (after_step c (step.lived life)) after
  lived_kept c life before after h m =
      let p = begins g older life before after h.has.shelf m.2 in
      let is = ap (λ (l : LifeState). l.below) (followed c before life h m.1) in
      row_kept c before after life h (omega (arith, is))
      (store_left older h.store life before after h.has p) p.put

  -- a life begins that serves
  served_kept : (c : Course) (own : Bounds) (life : LifeState) (loaded : StoreState)
      (before after : Database) → Good older least first c before
      → MakesStep g c (step.served own life loaded) before after
      → Good older least first (after_step c (step.served own life loaded)) after
  served_kept c own life loaded before after h m =
      let p = begins g older life before after h.has.shelf m.2 in
      let has : HasStore older after h.store = store_left older h.store life before after h.has p in
      let loaded_is : loaded ≡ h.store
      = answered_rows older h.store loaded after h.full m.5 has m.6 in
      let is = followed c before life h m.1 in
      let floor : life.floor ≡ c.life.below = ap (λ (l : LifeState). l.floor) is in
      let below = ap (λ (l : LifeState). l.below) is in
      let shows : opening_of loaded ≡ store_on_disk c.opening c.told c.on_disk
      = ap opening_of loaded_is ∙ h.shows in record {
        store = loaded;
        of = m.4;
        full = m.5;
        has = subst (HasStore older after) (sym loaded_is) has;
        row = p.put;
        base = loaded;
        base_of = m.4;
        base_is = refl;
        shows = refl;
        reached = reached_fine (limits_of own) (opening_of loaded) (opened own loaded life.floor)
            ((lives_are_reached (limits_of own) on_cycle (opening_of loaded) life.floor
            m.3.0).taken m.3);
        same = refl;
        told_flushed = omega arith;
        told_last = omega arith;
        flushed = omega arith;
        last = omega arith;
        known = λ one k. at_floor k (nat_lt k own.clients) (omega (arith, floor, below));
        floor = λ one. omega (arith, floor, below);
        bytes = λ page. ap (λ (x : Opening). x.bytes page) shows
            ∙ (λ i. bytes_after (λ q. h.bytes q i) (commits_on_disk c.told c.on_disk) page)
            ∙ sym (bytes_both (bytes_at first) (commits_on_disk c.told c.on_disk) c.former page);
        version = λ page. ap (λ (x : Opening). x.version page) shows
            ∙ (λ i. version_after (λ q. h.version q i) (commits_on_disk c.told c.on_disk) page)
            ∙ sym (version_both (version_at first) (commits_on_disk c.told c.on_disk) c.former page);
        dones = λ k i x n there. subst (λ (l : List AppliedCommit). IsCommit (l ++ c.former) k i x n)
            h.same (h.dones k i x n (in_left (record { client = k; incarnation = i; body = Done x n })
            c.said c.unsaid (back (record { client = k; incarnation = i; body = Done x n }) c.said there)));
      }
    where
      at_floor : (k : ℕ) (b : Bool) → life.floor < life.below
          → (if b then life.floor else 0) < life.below
      at_floor k true lt = lt
      at_floor k false lt = omega (arith, lt)

  -- what is to be said goes out
  said_kept : (c : Course) (before after : Database) → Good older least first c before
      → MakesStep g c step.says before after → Good older least first (after_step c step.says) after
  said_kept c before after h m = subst (Good older least first (after_step c step.says)) m.2 (record {
    store = h.store;
    of = h.of;
    full = h.full;
    has = h.has;
    row = h.row;
    base = h.base;
    base_of = h.base_of;
    base_is = h.base_is;
    shows = h.shows ∙ (λ i. record {
      bytes = bytes_after c.opening.bytes (sym h.same i);
      version = version_after c.opening.version (sym h.same i);
      number = c.on_disk;
    });
    reached = h.reached;
    same = refl;
    told_flushed = h.flushed;
    told_last = h.last;
    flushed = h.flushed;
    last = h.last;
    known = λ one. m.1;
    floor = h.floor;
    bytes = h.bytes;
    version = h.version;
    dones = λ k i x n there. h.dones k i x n
        (back (record { client = k; incarnation = i; body = Done x n }) (c.said ++ c.unsaid) there);
  })

  -- a batch is written
  written_kept : (c : Course) (batch : BatchState) (before after : Database)
      → Good older least first c before → MakesStep g c (step.writes batch) before after
      → Good older least first (after_step c (step.writes batch)) after
  written_kept c batch before after h m =
      let number : batch.number ≡ c.server.store.last_commit
      = ap (λ (b : Batch). b.number) (the_next c.server batch m.2) in
      let last = h.last in
      let le : c.on_disk ≤ batch.number = omega (arith, number, last) in
      let facts = facts_of (limits_of c.limits) c.opening c.server h.reached in record {
        store = after_batch h.store batch;
        of = record {
          count = over_pages h.store.pages batch.pages ∙ h.of.count;
          page_size = h.of.page_size;
        };
        full = batch_full c.limits h.store batch h.of m.3 h.full;
        has = (writes_batch older g c.limits batch h.store before after h.of m.3 h.has
            m.4).0;
        row = batch_keeps g older c.limits batch h.store c.life before after h.of m.3 h.has
            h.row m.4;
        base = h.base;
        base_of = h.base_of;
        base_is = h.base_is;
        shows = subst (λ (s : Server). opening_of (after_batch h.store batch)
            ≡ store_on_disk c.opening s batch.number) (sym m.1)
            (batch_on_disk c.limits c.opening c.server facts h.base h.store h.base_of h.base_is h.of
            c.on_disk h.flushed (subst (λ (s : Server). opening_of h.store
            ≡ store_on_disk c.opening s c.on_disk) m.1 h.shows) batch m.2);
        reached = h.reached;
        same = ap (λ (s : Server). commits_up_to batch.number s.commits) (sym m.1);
        told_flushed = (let f = h.told_flushed in omega (arith, f, le));
        told_last = subst (λ (s : Server). batch.number ≤ s.store.last_commit) (sym m.1)
            (omega (arith, number));
        flushed = (let f = h.flushed in omega (arith, f, le));
        last = omega (arith, number);
        known = h.known;
        floor = h.floor;
        bytes = h.bytes;
        version = h.version;
        dones = λ k i x n there. goes_on (commits_up_to c.on_disk c.server.commits)
            (commits_up_to batch.number c.server.commits) c.former k i x n
            (λ y j. up_to_more c.on_disk batch.number c.server.commits y le j) (h.dones k i x n there);
      }

  -- each step
  step_kept : (c : Course) (s : Step) (before after : Database) → Good older least first c before
      → MakesStep g c s before after → Good older least first (after_step c s) after
  step_kept c (step.reopened limits) before after h m =
      subst (Good older least first c) (leaves_shelf g older limits before after h.has.shelf m.1) h
  step_kept c (step.lived life) before after h m = lived_kept c life before after h m
  step_kept c (step.served own life loaded) before after h m =
      served_kept c own life loaded before after h m
  step_kept c (step.takes pieces) before after h m =
      subst (Good older least first (after_step c (step.takes pieces))) m.2
      (took c before h (after_inputs c.server (inputs_in pieces)) (said_to c.server (inputs_in pieces))
      c.server.flushed h.flushed (took_pieces c.limits c.opening pieces c.server h.reached m.1))
  step_kept c (step.raised i) before after h m =
      let life : LifeState = living.raised c.life i in
      let p = row_set g older life before after h.has.shelf m.2 in let le = m.1 in
      row_kept c before after life h (omega (arith, le))
      (store_left older h.store life before after h.has p) p.put
  step_kept c step.says before after h m = said_kept c before after h m
  step_kept c (step.writes batch) before after h m = written_kept c batch before after h m
  step_kept c step.reports before after h m =
      subst (Good older least first (after_step c step.reports)) m.1
      (took c before h (after_inputs c.server (ReachesDisk c.on_disk ∷ []))
      (said_to c.server (ReachesDisk c.on_disk ∷ [])) c.on_disk (omega arith)
      (took_report (limits_of c.limits) c.opening c.server h.reached c.on_disk))
  step_kept c step.stops before after h m = record {
    store = h.store;
    of = h.of;
    full = h.full;
    has = subst (λ db. HasStore older db h.store) m.1 h.has;
    row = subst (λ db. IsLife older db c.life) m.1 h.row;
    base = h.base;
    base_of = h.base_of;
    base_is = h.base_is;
    shows = h.shows;
    reached = h.reached;
    same = h.same;
    told_flushed = h.told_flushed;
    told_last = h.told_last;
    flushed = h.flushed;
    last = h.last;
    known = h.known;
    floor = h.floor;
    bytes = h.bytes;
    version = h.version;
    dones = h.dones;
  }

  -- all of them
  steps_kept : (steps : List Step) (c : Course) (before after : Database)
      → Good older least first c before → MakesSteps g c steps before after
      → Good older least first (after_steps c steps) after
  steps_kept [] c before after h m = subst (Good older least first c) m h
  steps_kept (s ∷ steps) c before after h m =
      steps_kept steps (after_step c s) m.0 after (step_kept c s before m.0 h m.1) m.2

-- ---- as it begins

begun_good : (older : Bool) (limits : Bounds) (opening : StoreState) (life : LifeState)
    (first : Database) → IsOf limits opening → HasFullPages opening → HasStore older first opening
    → IsLife older first life → Good older life.below opening (begun limits opening life) first
begun_good older limits opening life first of full has row = record {
  store = opening;
  of = of;
  full = full;
  has = has;
  row = row;
  base = opening;
  base_of = of;
  base_is = refl;
  shows = refl;
  reached = Opened;
  same = refl;
  told_flushed = omega arith;
  told_last = omega arith;
  flushed = omega arith;
  last = omega arith;
  known = λ one k. omega (arith, one);
  floor = λ one. omega (arith, one);
  bytes = λ page. refl;
  version = λ page. refl;
  dones = λ k i x n there. absurd there;
}

-- with the generation of tables that the first open found
record First (limits : Bounds) (opening : StoreState) (life : LifeState) (first : Database) : Type 0 where
  older : Bool
  good : Good older life.below opening (begun limits opening life) first

first_good : {S : Type 0} (g : Ghosts S) (limits : Bounds) (opening : StoreState) (life : LifeState)
    (before first : Database) → FirstOpen g limits opening life before first
    → First limits opening life first
first_good g limits opening life before first (made none lays is served) =
    let there = lays_zeros g limits before first none lays in
    let of : IsOf limits (zeros limits) = record {
      count = length-replicate limits.pages (zero_page limits.page_size);
      page_size = refl;
    } in record {
      older = false;
      good = begun_good false limits opening life first (subst (IsOf limits) (sym is) of)
          (subst HasFullPages (sym is) (zeros_full limits))
          (subst (HasStore false first) (sym is)
          (full_laid g false (zeros limits) before first (zeros_full limits) none there))
          (subst (IsLife false first) (sym served)
          (life_laid g false (zeros limits) before first none there));
    }
first_good g limits opening life before first (copied old there of pages served) = record {
  older = true;
  good = begun_good true limits opening life first of pages
      (full_laid g true opening before first pages old there)
      (subst (IsLife true first) (sym served) (life_laid g true opening before first old there));
}
first_good g limits opening life before first (found older shelf told there lays of pages) =
    let same = leaves_shelf g older limits before first shelf lays in record {
      older = older;
      good = begun_good older limits opening life first of pages
          (subst (λ db. HasStore older db opening) same (holds_rows older before opening shelf there))
          (subst (λ db. IsLife older db life) same told);
    }
first_good g limits opening life before first (unlived older none there follow lives of pages) =
    let p = unlived_begins g older life before first none lives in record {
      older = older;
      good = begun_good older limits opening life first of pages
          (unlived_kept older opening life before first none there p) p.put;
    }

-- ---- the laws

pub services_restart : {S : Type 0} (g : Ghosts S) → ServicesRestart g
services_restart g limits own steps opening loaded life next before first file after opens one m serve lives is =
    let f = first_good g limits opening life before first opens in
    let c = after_steps (begun limits opening life) steps in
    let h = steps_kept g f.older life.below opening steps (begun limits opening life) first file f.good m in
    let floor : next.floor ≡ c.life.below
    = ap (λ (l : LifeState). l.floor)
    (followed g f.older life.below opening c file next h serve.1) in
    let p = begins g f.older next file after h.has.shelf serve.2 in
    let loaded_is : loaded ≡ h.store = answered_rows f.older h.store loaded after h.full
    serve.5 (store_left f.older h.store next file after h.has p) serve.6 in
    let shows : opening_of loaded ≡ store_on_disk c.opening c.told c.on_disk
    = ap opening_of loaded_is ∙ h.shows in
    let opening_is : store_on_disk lives.opening lives.world.server c.on_disk ≡ opening_of loaded
    = (λ i. store_on_disk (is.opening i) (is.server i) c.on_disk) ∙ sym shows in record {
      allowed = (
        record {
          rises = (let e = is.floor in let f = h.floor one in omega (arith, e, f, floor));
          admitted = λ k lt. let known = h.known one k in
              let same = ap (λ (s : Server). (s.session k).current) is.server in
              omega (arith, known, same, floor);
        },
        record {
          reported = (let a = h.told_flushed in let e = ap (λ (s : Server). s.flushed) is.server in
              omega (arith, a, e));
          made = (let a = h.told_last in
              let e = ap (λ (s : Server). s.store.last_commit) is.server in omega (arith, a, e));
        },
      );
      goes_on = record {
        server = ap (λ (o : Opening). server_of_life (limits_of own) o next.floor) opening_is;
        floor = refl;
        opening = opening_is;
        former = (λ i. commits_on_disk (is.server i) c.on_disk ++ is.former i);
      };
    }

pub dones_stand : {S : Type 0} (g : Ghosts S) → DonesStand g
dones_stand g limits steps opening answered life before first file opens m full holds =
    let f = first_good g limits opening life before first opens in
    let c = after_steps (begun limits opening life) steps in
    let h = steps_kept g f.older life.below opening steps (begun limits opening life) first file f.good m in
    let is : opening_of answered ≡ store_on_disk c.opening c.told c.on_disk
    = ap opening_of (the_store f.older life.below opening c file answered h full holds) ∙ h.shows in
    record {
      bytes = λ page. ap (λ (x : Opening). x.bytes page) is
          ∙ (λ i. bytes_after (λ q. h.bytes q i) (commits_on_disk c.told c.on_disk) page)
          ∙ sym (bytes_both (bytes_at opening) (commits_on_disk c.told c.on_disk) c.former page);
      version = λ page. ap (λ (x : Opening). x.version page) is
          ∙ (λ i. version_after (λ q. h.version q i) (commits_on_disk c.told c.on_disk) page)
          ∙ sym (version_both (version_at opening) (commits_on_disk c.told c.on_disk) c.former page);
      number = ap (λ (x : Opening). x.number) is;
      dones = λ k i x n there. subst (λ (l : List AppliedCommit). IsCommit (l ++ c.former) k i x n)
          h.same (h.dones k i x n (in_left (record { client = k; incarnation = i; body = Done x n })
          c.said c.unsaid there));
    }
