-- Whatever threads do, there is a world that it is.
use Rattle.std.proofs.Common.{◌≡◌, ◌<◌, ◌&&◌, ℕ, Bool, true, false, List, [], ◌∷◌, Option, Some}
use Rattle.std.proofs.Common.{None}
use Rattle.std.proofs.Common.{refl, sym, ap, ◌∙◌, subst}
use Rattle.cb_cache.specs.CacheState.{content_at}
use Rattle.cb_client_core.specs.ClientState.{client_of}
use Rattle.cb_commit.specs.Stores.{StoreState}
use Rattle.cb_laws.proofs.RowVersions.{copies_on_their_way}
use Rattle.cb_laws.specs.RowVersions.{GrantedSent, HasRow, IsAsStored}
use Rattle.cb_hands.specs.Hands.{HandState}
use Rattle.cb_page.specs.Bounds.{Bounds}
use Rattle.cb_protocol.proofs.HeadlineProof.{headline}
use Rattle.cb_protocol.specs.AnyMessages.{committed_names}
use Rattle.cb_protocol.specs.Answers as table
use Rattle.cb_protocol.specs.Basics.{Bytes, IsIn}
use Rattle.cb_protocol.specs.Cache.{Committing, Idle, Open, TransactionState, is_open}
use Rattle.cb_protocol.specs.Client.{Client}
use Rattle.cb_protocol.specs.Headline as protocol
use Rattle.cb_protocol.specs.Headline.{Promise, ReadableCopy}
use Rattle.cb_protocol.specs.Messages.{Message}
use Rattle.cb_protocol.specs.Serial.{IsSerial, Operation, committed_operations, store_left}
use Rattle.cb_protocol.specs.Server.{Server}
use Rattle.cb_protocol.specs.StoreLimits.{limits_of}
use Rattle.cb_protocol.specs.WaitsFor.{on_cycle}
use Rattle.cb_protocol.specs.World.{World}
use Rattle.cb_server_state.specs.States.{opening_of}
use Rattle.cb_station.specs.Stations.{server_of}
use Rattle.cb_running_laws.proofs.Calling.{called_kept}
use Rattle.cb_running_laws.proofs.Committing.{committed_kept}
use Rattle.cb_running_laws.proofs.Joining.{joined_kept}
use Rattle.cb_running_laws.proofs.Leaving.{abandoned_kept, left_kept}
use Rattle.cb_running_laws.proofs.Events.{Origin, onwards, opening_world, whole}
use Rattle.cb_running_laws.proofs.Opening.{begun_kept, opening_kept}
use Rattle.cb_running_laws.proofs.Restarting.{restarted_kept}
use Rattle.cb_running_laws.proofs.Standing.{Kept, is_world_of}
use Rattle.cb_running_laws.proofs.Telling.{flushed_kept, forgotten_kept, refused_kept, told_kept}
use Rattle.cb_running_laws.proofs.Turning.{turned_kept}
use Rattle.cb_running_laws.specs.Laws.{HitsAgree, HitsAreTheStores, IsInTheMail, Lends}
use Rattle.cb_running_laws.specs.Laws.{MailIsTheStores, Permits, RunsAreSerial, RunsAreWorlds}
use Rattle.cb_running_laws.specs.Laws.{RunsGoAlong, RunsKeepThePromise, WorkersHaveTheLimits}
use Rattle.cb_running_laws.specs.Laws.{WritersAreAlone, committed_history}
use Rattle.cb_running_laws.specs.Programs.{HasOpened, IsSound, Program}
use Rattle.cb_running_laws.specs.Steps as steps
use Rattle.cb_running_laws.specs.Steps.{Moment, Runs, Step, program_after}
use Rattle.cb_running_laws.specs.Worlds.{GoesAlong, IsReachedWorldOf, IsSentTo, IsWorldClient}
use Rattle.cb_worker.proofs.Reading.{hits}
use Rattle.cb_worker.specs.Workers.{Hit, WorkerState, may_hit, seen_by}

-- one step
step_kept : (limits : Bounds) (origin : Origin (limits_of limits)) (old : Program)
    (step : Step) (new : Program)
    → Kept limits origin old → steps.Does old step new → IsSound new → Kept limits origin new
step_kept limits origin old (steps.Join c) new kept does sound =
    joined_kept limits origin old c new kept does sound does.silent
step_kept limits origin old (steps.Restart c i) new kept does sound =
    restarted_kept limits origin old c i new kept does sound does.silent
step_kept limits origin old (steps.Leave c) new kept does sound =
    left_kept limits origin old c new kept does sound does.silent
step_kept limits origin old (steps.Abandon c) new kept does sound =
    abandoned_kept limits origin old c new kept does sound does.silent
step_kept limits origin old (steps.Turn c) new kept does sound =
    turned_kept limits origin old c new kept does sound does.silent
step_kept limits origin old (steps.Commit c) new kept does sound =
    committed_kept limits origin old c new kept does sound does.silent
step_kept limits origin old (steps.CallClient c call) new kept does sound =
    called_kept limits origin old c call new kept does sound
step_kept limits origin old (steps.Flush n) new kept does sound =
    flushed_kept limits origin old n new kept does sound does.silent
step_kept limits origin old (steps.Forget n) new kept does sound =
    forgotten_kept limits origin old n new kept does sound does.silent
step_kept limits origin old steps.Tell new kept does sound =
    told_kept limits origin old new kept does sound does.silent
step_kept limits origin old steps.Refuse new kept does sound =
    refused_kept limits origin old new kept does sound does.silent

-- all steps
runs_kept : (limits : Bounds) (origin : Origin (limits_of limits)) (program : Program)
    (moments : List Moment)
    → Kept limits origin program → Runs program moments
    → Kept limits origin (program_after program moments)
runs_kept limits origin program [] kept runs = kept
runs_kept limits origin program (m ∷ moments) kept runs =
    runs_kept limits origin m.program moments
    (step_kept limits origin program m.step m.program kept runs.0 runs.1) runs.2

-- a program with a world that it is, with that world as the origin
at_itself : (limits : Bounds) (origin : Origin (limits_of limits)) (program : Program)
    → (kept : Kept limits origin program)
    → Kept limits (onwards (limits_of limits) origin kept.world kept.reached) program
at_itself limits origin program kept = record {
  limits_are = kept.limits_are;
  sound = kept.sound;
  world = kept.world;
  reached = ([], tt, refl);
  opened = kept.opened;
  performed = kept.performed;
  stands = kept.stands;
}

-- events go along with the steps
goes_along : (limits : Bounds) (origin : Origin (limits_of limits)) (program : Program)
    (moments : List Moment) → (kept : Kept limits origin program) → Runs program moments
    → GoesAlong (limits_of limits) kept.world moments
goes_along limits origin program [] kept runs = tt
goes_along limits origin program (m ∷ moments) kept runs =
    let here : Origin (limits_of limits)
    = onwards (limits_of limits) origin kept.world kept.reached in
    let next : Kept limits here m.program = step_kept limits here program m.step m.program
    (at_itself limits origin program kept) runs.0 runs.1 in (
      next.world,
      next.reached,
      is_world_of limits here m.program next,
      goes_along limits here m.program moments next runs.2,
    )

-- A program with a world that it is, and the promise of that world.
record Promised (limits : Bounds) (store : StoreState) (program : Program) : Type 0 where
  pub kept : Kept limits (opening_world (limits_of limits) (opening_of store)) program
  pub promise : Promise (opening_of store) kept.world

-- so after every run
promised : (limits : Bounds) (store : StoreState) (program : Program) (moments : List Moment)
    → HasOpened limits store program → IsSound program → Runs program moments
    → Promised limits store (program_after program moments)
promised limits store program moments opens sound runs =
    let origin : Origin (limits_of limits)
    = opening_world (limits_of limits) (opening_of store) in
    let kept : Kept limits origin (program_after program moments)
    = runs_kept limits origin program moments
    (opening_kept limits store program opens sound) runs in record {
      kept = kept;
      promise = headline (limits_of limits) on_cycle (opening_of store) kept.world kept.opened
          (whole (limits_of limits) origin kept.world kept.reached);
    }

-- and its world is reached
is_reached : (limits : Bounds) (store : StoreState) (program : Program)
    → (after : Promised limits store program)
    → IsReachedWorldOf limits store after.kept.world program
is_reached limits store program after =
    let origin : Origin (limits_of limits)
    = opening_world (limits_of limits) (opening_of store) in (
      whole (limits_of limits) origin after.kept.world after.kept.reached,
      is_world_of limits origin program after.kept,
    )

-- the bytes that are lent are the client's
pub lent : (k : WorkerState) (page : ℕ) (bytes : Bytes) (operations : List Operation)
    → Hit k page bytes → (client_of k.client operations).cache.content page ≡ Some bytes
lent k page bytes operations hit = go (content_at k.client.copies page) refl
  where
    go : (o : Option Bytes) → content_at k.client.copies page ≡ o
        → content_at k.client.copies page ≡ Some bytes
    go None e = absurd (let out : may_hit k page ≡ false = hits k page None hit.may (sym e) in
        let z : true ≡ false = sym hit.may ∙ out in cc)
    go (Some x) e = let h : Hit k page x = hits k page (Some x) hit.may (sym e) in
        let z : table.AnsweredBytes x ≡ table.AnsweredBytes bytes
        = sym (h.answers.word []) ∙ hit.answers.word [] in
        e ∙ ap (λ (b : Bytes). Some b) (let g : x ≡ bytes = cc in g)

both : (a b : Bool) → (a && b) ≡ true → (a ≡ true) × (b ≡ true)
both true b e = (refl, e)
both false b e = absurd (let z : false ≡ true = e in cc)

opened : (s : TransactionState) → is_open s ≡ true → s ≡ Open
opened Idle e = absurd (let z : false ≡ true = e in cc)
opened Open e = refl
opened Committing e = absurd (let z : false ≡ true = e in cc)

module _ (limits : Bounds) (store : StoreState) (program : Program)
    (after : Promised limits store program) where
  -- what is lent is a readable copy of the world's
  readable : (c page : ℕ) (bytes : Bytes) → Lends program c page bytes
      → ReadableCopy after.kept.world c page bytes
  readable c page bytes lends =
      let is : IsWorldClient program after.kept.world c lends.worker
      = after.kept.stands.worker c lends.worker lends.has in
      ap (λ (x : Client). x.cache.content page) is.shows
      ∙ lent lends.worker page bytes is.operations lends.hit

  -- who may write in the program may write in the world
  permitted : (c page : ℕ) → Permits program c page
      → protocol.MayWritePage after.kept.world c page
  permitted c page permits =
      let is : IsWorldClient program after.kept.world c permits.worker
      = after.kept.stands.worker c permits.worker permits.has in
      let seen : Client = client_of permits.worker.client is.operations in
      let can : (is_open seen.cache.status ≡ true) × (seen.cache.may_write page ≡ true)
      = both (is_open seen.cache.status) (seen.cache.may_write page)
      (permits.may is.operations) in (
        ap (λ (x : Client). x.cache.status) is.shows ∙ opened seen.cache.status can.0,
        ap (λ (x : Client). x.cache.may_write page) is.shows ∙ can.1,
      )

  stored : (c page : ℕ) (bytes : Bytes) → (lends : Lends program c page bytes)
      → (seen_by lends.worker).cache.wrote page ≡ false
      → (bytes ≡ (server_of program.station).store.bytes page)
      × (lends.hit.held.version ≡ (server_of program.station).store.version page)
  stored c page bytes lends unwritten =
      let is : IsWorldClient program after.kept.world c lends.worker
      = after.kept.stands.worker c lends.worker lends.has in
      let hand : HandState = lends.worker.hand in (
        after.promise.backed.bytes c page bytes (readable c page bytes lends)
            (ap (λ (x : Client). x.cache.wrote page) is.shows ∙ unwritten)
            ∙ ap (λ (x : Server). x.store.bytes page) after.kept.stands.server,
        sym ((after.kept.sound.station.hand hand.client hand is.held).agrees.rows page
            lends.hit.held lends.hit.in_hand).version,
      )

  serial : IsSerial (opening_of store).bytes (committed_history program)
      × ((page : ℕ) → store_left (opening_of store).bytes (committed_history program) page
      ≡ (server_of program.station).store.bytes page)
  serial = (
    subst (λ (h : List (List Operation)). IsSerial (opening_of store).bytes h) same
        after.promise.serial.legal,
    λ page. ap (λ (h : List (List Operation)). store_left (opening_of store).bytes h page)
        (sym same) ∙ after.promise.serial.leaves page
        ∙ ap (λ (x : Server). x.store.bytes page) after.kept.stands.server,
  )
    where
      same : protocol.committed_history after.kept.world ≡ committed_history program
      same = (λ i. committed_operations
          (committed_names (after.kept.stands.server i).commits) (after.kept.performed i))

  mail : (c page grant version : ℕ) (bytes : Bytes)
      → IsInTheMail program c page grant version bytes
      → HasRow (server_of program.station) c page grant
      × IsAsStored (server_of program.station) page version bytes
  mail c page grant version bytes lies =
      let w : World = after.kept.world in
      let is : IsWorldClient program w c lies.worker
      = after.kept.stands.worker c lies.worker lies.has in
      let sent : IsSentTo w c lies.frame = after.kept.stands.mailbox c lies.frame lies.lies in
      let was : GrantedSent w.packets c (w.incarnation c) page grant version bytes
      = subst (λ (m : Message). IsIn m w.packets) (λ j. record {
        client = sent.2 j;
        incarnation = (lies.incarnation ∙ is.of.incarnation) j;
        body = lies.body j;
      }) sent.0 in
      subst (λ (s : Server). HasRow s c page grant × IsAsStored s page version bytes)
      after.kept.stands.server
      (copies_on_their_way (limits_of limits) on_cycle (opening_of store) w after.kept.opened
      (is_reached limits store program after).0 c page grant version bytes was
      (subst (λ (m : ℕ). m < grant) (ap (λ (x : Client). x.cache.seen page) (sym is.shows))
      lies.unseen))

pub runs_go_along : RunsGoAlong
runs_go_along limits store program moments opens sound runs =
    let origin : Origin (limits_of limits)
    = opening_world (limits_of limits) (opening_of store) in
    let begun = begun_kept limits store program opens.server opens sound in (
      begun.0.world,
      begun.1,
      is_world_of limits origin program begun.0,
      goes_along limits origin program moments begun.0 runs,
    )

pub runs_are_worlds : RunsAreWorlds
runs_are_worlds limits store program moments opens sound runs =
    let after : Promised limits store (program_after program moments)
    = promised limits store program moments opens sound runs in
    (after.kept.world, is_reached limits store (program_after program moments) after)

pub workers_have_the_limits : WorkersHaveTheLimits
workers_have_the_limits limits store program moments opens sound runs c k e =
    let it = runs_are_worlds limits store program moments opens sound runs in
    (it.1.1.worker c k e).limits

pub runs_keep_the_promise : RunsKeepThePromise
runs_keep_the_promise limits store program moments opens sound runs =
    let after : Promised limits store (program_after program moments)
    = promised limits store program moments opens sound runs in (
      after.kept.world,
      is_reached limits store (program_after program moments) after,
      after.promise,
    )

pub runs_are_serial : RunsAreSerial
runs_are_serial limits store program moments opens sound runs =
    serial limits store (program_after program moments)
    (promised limits store program moments opens sound runs)

pub hits_are_the_stores : HitsAreTheStores
hits_are_the_stores limits store program moments opens sound runs =
    stored limits store (program_after program moments)
    (promised limits store program moments opens sound runs)

pub hits_agree : HitsAgree
hits_agree limits store program moments opens sound runs c d page bytes others one two =
    let last : Program = program_after program moments in
    let after : Promised limits store last
    = promised limits store program moments opens sound runs in
    after.promise.agree c d page bytes others (readable limits store last after c page bytes one)
    (readable limits store last after d page others two)

pub writers_are_alone : WritersAreAlone
writers_are_alone limits store program moments opens sound runs c d page bytes may lends =
    let last : Program = program_after program moments in
    let after : Promised limits store last
    = promised limits store program moments opens sound runs in
    after.promise.alone c d page bytes (permitted limits store last after c page may)
    (readable limits store last after d page bytes lends)

pub mail_is_the_stores : MailIsTheStores
mail_is_the_stores limits store program moments opens sound runs =
    mail limits store (program_after program moments)
    (promised limits store program moments opens sound runs)
