-- Every world that is reached keeps the promise: a run of the world is a list of events of all lives, without a restart of the server.
use Rattle.std.proofs.Common.{List, [], ap, arith, refl, subst, sym, ◌∷◌, ◌≡◌}
use Rattle.std.proofs.lemmas.List.{append-nil}
use Rattle.cb_protocol.proofs.LivesProof.{lives_headline}
use Rattle.cb_protocol.specs.AnyMessages.{IsCommit, Numbered, bytes_after, committed_names, version_after}
use Rattle.cb_protocol.specs.Basics.{Limits}
use Rattle.cb_protocol.specs.Headline.{Headline, Promise}
use Rattle.cb_protocol.specs.Lives.{OneLifeIsPromised, RunsAreOfOneLife, lives_commits}
use Rattle.cb_protocol.specs.LivesWorld.{LeadsTo, in_first_life, run_events}
use Rattle.cb_protocol.specs.Serial.{EachOnce, IsSerial, committed_operations, store_left}
use Rattle.cb_protocol.specs.Server.{AppliedCommit, DeadlockTest}
use Rattle.cb_protocol.specs.Transcript.{transcript_operations}
use Rattle.cb_protocol.specs.World.{Moment, Opening, Plays, StepResult, World, new_world, world_after}

-- a run leads there
leads : (L : Limits) (cycle : DeadlockTest) (o : Opening) (v : World) (ms : List Moment) → Plays L cycle v ms → LeadsTo L cycle (in_first_life o v) (run_events ms) (in_first_life o (world_after v ms))
leads L cycle o v [] p = refl
leads L cycle o v (m ∷ ms) p = (
  p.0.0,
  p.0.1,
  subst (λ (u : World). LeadsTo L cycle (in_first_life o u) (run_events ms) (in_first_life o (world_after m.world ms))) (sym (ap (λ (x : StepResult). x.world) p.0.2)) (leads L cycle o m.world ms p.1),
)

pub runs_are_of_one_life : (L : Limits) (cycle : DeadlockTest) → RunsAreOfOneLife L cycle
runs_are_of_one_life L cycle o ms p = leads L cycle o (new_world L o) ms p

-- of the one life, the promise over all lives is the promise
pub one_life_is_promised : OneLifeIsPromised
one_life_is_promised o v p = record {
  agree = λ c d q x y. p.agree c d q x y (omega arith) (omega arith);
  alone = λ c d q x. p.alone c d q x (omega arith) (omega arith);
  serial = record {
    legal = subst (λ (xs : List AppliedCommit). IsSerial o.bytes (committed_operations (committed_names xs) (transcript_operations v.transcript))) all p.serial.legal;
    leaves = λ q. subst (λ (xs : List AppliedCommit). store_left o.bytes (committed_operations (committed_names xs) (transcript_operations v.transcript)) q ≡ v.server.store.bytes q) all (p.serial.leaves q);
  };
  once = subst (λ (xs : List AppliedCommit). EachOnce (committed_names xs)) all p.once;
  directory = p.directory;
  ledger = record {
    numbered = subst (λ (xs : List AppliedCommit). Numbered o.number xs v.server.store.last_commit) all p.ledger.numbered;
    bytes = λ q. subst (λ (xs : List AppliedCommit). v.server.store.bytes q ≡ bytes_after o.bytes xs q) all (p.ledger.bytes q);
    version = λ q. subst (λ (xs : List AppliedCommit). v.server.store.version q ≡ version_after o.version xs q) all (p.ledger.version q);
    once = subst (λ (xs : List AppliedCommit). EachOnce (committed_names xs)) all p.once;
  };
  dones = λ c i t n x. subst (λ (xs : List AppliedCommit). IsCommit xs c i t n) all (p.dones.committed c i t n x);
  disk = record { committed = p.dones.disk; on_disk = p.dones.on_disk };
  backed = record {
    row = λ c q g. p.backed.row c q g (omega arith);
    never_back = λ c q g. p.backed.never_back c q g (omega arith);
    permission = λ c q. p.backed.permission c q (omega arith);
    version = λ c q g. p.backed.version c q g (omega arith);
    bytes = λ c q x. p.backed.bytes c q x (omega arith);
  };
}
  where
    all : lives_commits (in_first_life o v) ≡ v.server.commits
    all = append-nil v.server.commits

-- what is reached keeps the promise
pub headline : (L : Limits) (cycle : DeadlockTest) → Headline L cycle
headline L cycle o w s r = let v : World = world_after (new_world L o) r.0 in
    subst (λ (v : World). Promise o v) r.2 (one_life_is_promised o v (lives_headline L cycle o (run_events r.0) (in_first_life o v) s (runs_are_of_one_life L cycle o r.0 r.1)))
