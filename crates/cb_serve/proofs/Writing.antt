-- What is committed is written, and its commits are on disk.
use Rattle.std.proofs.Common.{◌≡◌, ◌∙◌, ◌≤◌, inl, inr, ℕ, Bool, true, false, List, [], Option, Some, None, refl, ap, subst, take, arith, if◌then◌else◌, nat_lt}
use Rattle.std.proofs.KnownBytes.{Appends-nil}
use Rattle.std.proofs.lemmas.Bool.Decides.{nat_tests}
use Rattle.std.specs.Io.KnownBytes.{Appends}
use Rattle.std.specs.List.{AllByRecursion, flat_map}
use Rattle.sqlite.specs.Held.{Held, state}
use Rattle.sqlite.specs.State.{HasCleanDisk, Survives}
use Rattle.sqlite.specs.Store.{Ghosts}
use Rattle.sqlite.specs.Tree.{Trees}
use Rattle.cb_commit.specs.Batches.{BatchState}
use Rattle.cb_frame.specs.Grammar.{Fits as FrameFits}
use Rattle.cb_frame.specs.Spelling.{spelling}
use Rattle.cb_frame.specs.declared.frame.Frame.{Frame}
use Rattle.cb_outbox.specs.Messages.{messages_of}
use Rattle.cb_page.specs.Bounds.{Bounds}
use Rattle.cb_protocol.proofs.NoCycles.{sends_dones}
use Rattle.cb_protocol.proofs.SettlingClears.{after_noted}
use Rattle.cb_protocol.specs.AnyMessages.{ReachesDisk}
use Rattle.cb_protocol.specs.Messages.{Message}
use Rattle.cb_protocol.specs.Flush.{Batch, dones_between, next_batch, server_flush}
use Rattle.cb_protocol.specs.Server.{Server, SetFlushed, after_server_step, server_after}
use Rattle.cb_server.specs.ServerValue.{ServerValue, forgot, server_of}
use Rattle.cb_server.specs.Taking.{Does}
use Rattle.cb_server_state.specs.Commits.{batch_of}
use Rattle.cb_shelf.specs.Flushing.{WritesOne}
use Rattle.cb_shelf.specs.Inside.{IsSame, IsSettled}
use Rattle.cb_shelf.specs.Statements.{MakesAll, batch_statements}
use Rattle.cb_shelf.specs.Writing.{Fits, Wrote}
use Rattle.cb_serve.proofs.Faults.{IsOfOutput}
use Rattle.cb_serve.proofs.Inputs.{answers_one}
use Rattle.cb_serve.specs.Parts.{Commits, PutsDones, RefusesBatch, StopsCommit}
use Rattle.cb_serve.specs.declared.fault.RoundFault.{RoundFault}
use Rattle.cb_serve.specs.declared.fault.RoundFault.TheVariants as round

-- after a flush the number of the last commit on disk is another, and nothing else
after_flush : (s : Server) (n : ℕ) → server_after s (server_flush s n) ≡ after_server_step s (SetFlushed n)
after_flush s n = after_noted s (dones_between s.commits s.flushed n) (SetFlushed n) (sends_dones s.commits s.flushed n)

number_is : (t : Bool) (x b : Batch) → (if t then Some x else None) ≡ Some b → b.number ≡ x.number
number_is true x b e = cc
number_is false x b e = absurd cc

none_if : (t : Bool) (x : Batch) → t ≡ false → (if t then Some x else None) ≡ None
none_if true x e = absurd cc
none_if false x e = refl

not_below : (m n : ℕ) → m ≡ n → nat_lt m n ≡ false
not_below m n e = grind (arith, nat_tests)

-- once the next batch is on disk, there is none
none_left : (s : Server) (b : Batch) → next_batch s ≡ Some b → next_batch (server_after s (server_flush s b.number)) ≡ None
none_left s b e = ap next_batch (after_flush s b.number) ∙ none_if (nat_lt b.number s.store.last_commit) _ (not_below b.number s.store.last_commit (number_is (nat_lt s.flushed s.store.last_commit) _ b e))

-- so the commits up to it may be forgotten
pub flushed_to : (old mid : ServerValue) (n : ℕ) (said : List Message) → Does old (ReachesDisk n) said mid → n ≤ (server_of mid).flushed
flushed_to old mid n said does =
    let e : (server_of mid).flushed ≡ n = ap (λ (s : Server). s.flushed) (does.becomes ∙ after_flush (server_of old) n) in omega arith

module _ {S : Type 0} (g : Ghosts S) where
  -- nothing happens to the tables
  pub survives_still : (a : Held S) (P : Trees → Type 0) → Survives (state g a) (state g a) P
  survives_still a P = record {
    clean = omega arith;
    shield = λ s. s;
    counts = omega arith;
    limit = refl;
    closes = λ clean still. inl still;
    crash = λ clean db left. inl left;
  }

  -- one batch was written
  pub wrote_one : (l k : Bounds) (batch : BatchState) (a b : Held S) → k ≡ l → Fits k batch
      → (HasCleanDisk (state g b) → MakesAll g (batch_statements batch) (state g a).now (state g b).committed) → (HasCleanDisk (state g b) → IsSettled (state g b))
      → WritesOne g l batch a b
  wrote_one l k batch a b same fits made settled = record { fits = subst (λ (x : Bounds). Fits x batch) same fits; made = made; settled = settled }

  -- nothing is to be written
  pub commits_nothing : (old : ServerValue) (tables : Held S) (out : Option (List ℕ)) → next_batch (server_of old) ≡ None → Commits g old tables tables old out out
  commits_nothing old tables out none = record {
    batch = None;
    dones = [];
    next = none;
    written = refl;
    says = refl;
    becomes = refl;
    all_on_disk = none;
    limits = refl;
    crash = survives_still tables _;
    puts = Appends-nil out;
  }

  -- a batch is written
  pub commits_batch : (old mid new : ServerValue) (tables after : Held S) (batch : BatchState) (frames : List Frame) (out out2 : Option (List ℕ))
      → next_batch (server_of old) ≡ Some (batch_of batch) → WritesOne g old.limits batch tables after
      → Survives (state g tables) (state g after) (Wrote g batch tables)
      → Does old (ReachesDisk batch.number) (messages_of frames) mid → AllByRecursion (FrameFits old.limits) frames → new ≡ forgot mid batch.number
      → Appends out out2 (flat_map spelling frames) → Commits g old tables after new out out2
  commits_batch old mid new tables after batch frames out out2 next wrote crash does fit forgets puts =
      let becomes : server_of new ≡ server_after (server_of old) (server_flush (server_of old) batch.number) = ap server_of forgets ∙ does.becomes in
      record {
        batch = Some batch;
        dones = flat_map spelling frames;
        next = next;
        written = wrote;
        says = (answers_one old (ReachesDisk batch.number) frames mid does fit).says;
        becomes = becomes;
        all_on_disk = ap next_batch becomes ∙ none_left (server_of old) (batch_of batch) next;
        limits = ap (λ (v : ServerValue). v.limits) forgets ∙ does.limits;
        crash = crash;
        puts = puts;
      }

  -- memory was refused for the batch: nothing was written or put out
  pub stops_before : (old : ServerValue) (tables : Held S) (out : Option (List ℕ)) → StopsCommit g round.Memory old tables tables out out
  stops_before old tables out = record {
    batch = None;
    dones = [];
    put = [];
    next = tt;
    fits = tt;
    written = refl;
    crash = survives_still tables _;
    puts = Appends-nil out;
    told = refl;
  }

  -- a batch that was refused wasn't written
  stays : (f : RoundFault) (a b : Held S) → RefusesBatch g f a b → HasCleanDisk (state g b) → IsSame (state g a) (state g b)
  stays round.Store a b same = same
  stays round.Memory a b same = same
  stays round.Shape a b wrong = absurd wrong
  stays round.Exhausted a b wrong = absurd wrong
  stays (round.Input r) a b wrong = absurd wrong
  stays (round.Output e) a b wrong = absurd wrong

  puts_none : (f : RoundFault) (l : Bounds) (batch : BatchState) (server : Server) (a b : Held S) → RefusesBatch g f a b → PutsDones g f l [] [] (Some batch) server a b
  puts_none round.Store l batch server a b same = (refl, same)
  puts_none round.Memory l batch server a b same = refl
  puts_none round.Shape l batch server a b wrong = absurd wrong
  puts_none round.Exhausted l batch server a b wrong = absurd wrong
  puts_none (round.Input r) l batch server a b wrong = absurd wrong
  puts_none (round.Output e) l batch server a b wrong = absurd wrong

  -- a batch was refused, and nothing was put out
  pub stops_at_batch : (f : RoundFault) (old : ServerValue) (tables after : Held S) (batch : BatchState) (out : Option (List ℕ)) → next_batch (server_of old) ≡ Some (batch_of batch)
      → Fits old.limits batch → RefusesBatch g f tables after → Survives (state g tables) (state g after) (Wrote g batch tables) → StopsCommit g f old tables after out out
  stops_at_batch f old tables after batch out next fits refuses crash = record {
    batch = Some batch;
    dones = [];
    put = [];
    next = next;
    fits = fits;
    written = inr (stays f tables after refuses);
    crash = crash;
    puts = Appends-nil out;
    told = puts_none f old.limits batch (server_of old) tables after refuses;
  }

  -- a batch was written, and memory was refused for its Dones
  pub stops_behind : (old : ServerValue) (tables after : Held S) (batch : BatchState) (out : Option (List ℕ)) → next_batch (server_of old) ≡ Some (batch_of batch)
      → WritesOne g old.limits batch tables after → Survives (state g tables) (state g after) (Wrote g batch tables) → StopsCommit g round.Memory old tables after out out
  stops_behind old tables after batch out next wrote crash = record {
    batch = Some batch;
    dones = [];
    put = [];
    next = next;
    fits = wrote.fits;
    written = inl wrote;
    crash = crash;
    puts = Appends-nil out;
    told = refl;
  }

  -- a batch was written, and a front of the Dones was put out
  pub stops_at_dones : (f : RoundFault) (old mid : ServerValue) (tables after : Held S) (batch : BatchState) (frames : List Frame) (out out2 : Option (List ℕ)) (n : ℕ) → IsOfOutput f
      → next_batch (server_of old) ≡ Some (batch_of batch) → WritesOne g old.limits batch tables after → Survives (state g tables) (state g after) (Wrote g batch tables)
      → Does old (ReachesDisk batch.number) (messages_of frames) mid → AllByRecursion (FrameFits old.limits) frames
      → Appends out out2 (take n (flat_map spelling frames)) → StopsCommit g f old tables after out out2
  stops_at_dones f old mid tables after batch frames out out2 n of_output next wrote crash does fit puts = record {
    batch = Some batch;
    dones = flat_map spelling frames;
    put = take n (flat_map spelling frames);
    next = next;
    fits = wrote.fits;
    written = inl wrote;
    crash = crash;
    puts = puts;
    told = told f of_output;
  }
    where
      told : (k : RoundFault) → IsOfOutput k
          → PutsDones g k old.limits (take n (flat_map spelling frames)) (flat_map spelling frames) (Some batch) (server_of old) tables after
      told (round.Output e) of_output = (n, refl, (answers_one old (ReachesDisk batch.number) frames mid does fit).says, wrote)
      told round.Shape wrong = absurd wrong
      told round.Store wrong = absurd wrong
      told round.Exhausted wrong = absurd wrong
      told (round.Input r) wrong = absurd wrong
      told round.Memory wrong = absurd wrong
