-- A worker's commit: the client finishes, or says its commit again, and the server takes it.
use Rattle.std.proofs.Common.{◌≡◌, ◌≢◌, ◌++◌, ℕ, Bool, true, false, not}
use Rattle.std.proofs.Common.{if◌then◌else◌, List, [], ◌∷◌, Option, Some, None, Result, Ok}
use Rattle.std.proofs.Common.{Err, refl, sym, ◌∙◌, ap, subst, arith, inl, inr, ◌⊎◌}
use Rattle.std.specs.Prelude.{⊤}
use Rattle.std.proofs.lemmas.Bool.{cases_eq}
use Rattle.cb_client.specs.CallAnswers.{SaysCommit}
use Rattle.cb_client_core.specs.ClientState.{ClientState, IsClient, client_of}
use Rattle.cb_frame.specs.declared.frame.Frame.{Frame}
use Rattle.cb_outbox.specs.Messages.{message_of}
use Rattle.cb_page.specs.Bounds.{Bounds}
use Rattle.cb_protocol.proofs.Cases.{call_accepted, fault_of_again, said_append}
use Rattle.cb_protocol.proofs.ClientSpeaks.{calls_speak}
use Rattle.cb_protocol.proofs.LifeImage.{in_left, in_right}
use Rattle.cb_protocol.specs.Answers.{AnsweredOk}
use Rattle.cb_protocol.specs.Basics.{IsIn, Limits, update}
use Rattle.cb_protocol.specs.Cache.{Committing, Idle, Open, TransactionState, is_committing}
use Rattle.cb_protocol.specs.Client.{Aborted, Ask, Client, ClientStep, Dropped, LastOutcome, NoAsk}
use Rattle.cb_protocol.specs.Client.{ReadAsk, Say, StatusCommitting, StatusNotWelcome, WriteAsk}
use Rattle.cb_protocol.specs.Client.{bodies_said, client_after, client_status, welcomed_status}
use Rattle.cb_protocol.specs.ClientCalls.{CallAgain, CallFinish, client_call, say_ask}
use Rattle.cb_protocol.specs.ClientCalls.{say_ask_write, say_commit, say_drop, written_pages}
use Rattle.cb_protocol.specs.Messages.{Body, Commit, Message, to_server}
use Rattle.cb_protocol.specs.StoreLimits.{limits_of}
use Rattle.cb_protocol.specs.World.{messages_said}
use Rattle.cb_station.specs.declared.office_fault.OfficeFault.{OfficeFault}
use Rattle.cb_running_laws.proofs.Calling.{at_itself, at_others, by_call, to_the_server}
use Rattle.cb_running_laws.proofs.Events.{Origin, called_world, calls_reach}
use Rattle.cb_running_laws.proofs.Moving.{ClientMoved, moved_by_call}
use Rattle.cb_running_laws.proofs.Standing.{Kept, is_there_by}
use Rattle.cb_running_laws.proofs.Turning.{arrives_kept, client_arrives, nothing_arrives}
use Rattle.cb_running_laws.proofs.Turning.{same_stays, server_arrives, unchanged_stays}
use Rattle.cb_running_laws.specs.Programs.{IsSound, Program}
use Rattle.cb_running_laws.specs.Steps.{Becomes, IsSilent}
use Rattle.cb_running_laws.specs.Steps as steps
use Rattle.cb_running_laws.specs.Worlds.{IsWorldClient}
use Rattle.cb_worker.proofs.Keeping.{as_it_was, fixed_alone}
use Rattle.cb_worker.proofs.Staying.{IsSameOne, commits_same}
use Rattle.cb_station.specs.Calls.{Committed}
use Rattle.cb_worker.specs.Committing.{CommitsAt, FinishesOrAgain, IsCommitting}
use Rattle.cb_worker.specs.Workers.{WorkerState, seen_by}
use Rattle.cb_worker.specs.declared.worker_fault.WorkerFault.{WorkerFault}
use Rattle.cb_worker.specs.declared.worker_fault.WorkerFault.TheVariants as worker

-- what is said again leaves the client as it is
abbrev Says : List ClientStep → Type 0
Says [] = ⊤
Says (Say b ∷ steps) = Says steps
Says (_ ∷ steps) = ⊥

says_append : (xs ys : List ClientStep) → Says xs → Says ys → Says (xs ++ ys)
says_append [] ys a b = b
says_append (Say x ∷ xs) ys a b = says_append xs ys a b
says_append (x ∷ xs) ys a b = absurd a

says_stay : (keep_write : Bool) (k : Client) (steps : List ClientStep) → Says steps
    → client_after keep_write k steps ≡ k
says_stay keep_write k [] a = refl
says_stay keep_write k (Say b ∷ steps) a = says_stay keep_write k steps a
says_stay keep_write k (x ∷ steps) a = absurd a

drop_says : (k : Client) (o : LastOutcome) → Says (say_drop k o)
drop_says k Dropped = tt
drop_says k Aborted = tt
drop_says k _ = tt

write_says : (k : Client) (p : ℕ) (g : Option ℕ) → Says (say_ask_write k p g)
write_says k p None = tt
write_says k p (Some g) = tt

ask_says : (k : Client) (a : Ask) → Says (say_ask k a)
ask_says k NoAsk = tt
ask_says k (ReadAsk p) = tt
ask_says k (WriteAsk p) = write_says k p (k.cache.held p)

in_said : (c i : ℕ) (b : Body) (bodies : List Body) → IsIn b bodies
    → IsIn (record { client = c; incarnation = i; body = b }) (messages_said c i bodies)
in_said c i b [] j = absurd j
in_said c i b (x ∷ bodies) (inl e) = inl (λ j. record { client = c; incarnation = i; body = e j })
in_said c i b (x ∷ bodies) (inr j) = inr (in_said c i b bodies j)

-- a client that says that it is committing is
committing : (k : Client) → client_status k ≡ StatusCommitting → (k.cache.welcomed ≡ true)
    × (is_committing k.cache.status ≡ true)
committing k e = by k.cache.welcomed refl e
  where
    status : (s : TransactionState) → welcomed_status s k.ask ≡ StatusCommitting → is_committing s
        ≡ true
    status Idle f = cc
    status Open f = grind arith
    status Committing f = refl

    by : (b : Bool) → k.cache.welcomed ≡ b
        → (if not b then StatusNotWelcome else welcomed_status k.cache.status k.ask)
        ≡ StatusCommitting → (k.cache.welcomed ≡ true) × (is_committing k.cache.status ≡ true)
    by true f g = (f, status k.cache.status g)
    by false f g = absurd (let z : StatusNotWelcome ≡ StatusCommitting = g in cc)

-- it says its commit again
module _ (L : Limits) (k : Client) (welcomed : k.cache.welcomed ≡ true)
    (busy : is_committing k.cache.status ≡ true) where
  again_is : (client_call L k CallAgain).steps ≡ say_drop k k.last_outcome
      ++ (say_ask k k.ask ++ say_commit L k)
  again_is = ap (λ (r : _). r.steps) (call_accepted L k CallAgain (fault_of_again L k))
      ∙ rw (welcomed, busy) refl

  pub again_stays : (keep_write : Bool)
      → client_after keep_write k (client_call L k CallAgain).steps ≡ k
  again_stays keep_write = ap (λ (x : List ClientStep). client_after keep_write k x) again_is
      ∙ says_stay keep_write k (say_drop k k.last_outcome ++ (say_ask k k.ask ++ say_commit L k))
      (says_append (say_drop k k.last_outcome) (say_ask k k.ask ++ say_commit L k)
      (drop_says k k.last_outcome) (says_append (say_ask k k.ask) (say_commit L k)
      (ask_says k k.ask) tt))

  pub again_says : (c i : ℕ) → IsIn
      (record {
        client = c;
        incarnation = i;
        body =
            Commit k.cache.number (written_pages k L.pages);
      })
      (messages_said c i (bodies_said (client_call L k CallAgain).steps))
  again_says c i = in_said c i (Commit k.cache.number (written_pages k L.pages))
      (bodies_said (client_call L k CallAgain).steps)
      (subst (λ (x : List Body). IsIn (Commit k.cache.number (written_pages k L.pages)) x)
      (sym (ap bodies_said again_is ∙ said_append (say_drop k k.last_outcome)
      (say_ask k k.ask ++ say_commit L k)))
      (in_right _ (bodies_said (say_drop k k.last_outcome))
      (bodies_said (say_ask k k.ask ++ say_commit L k))
      (subst (λ (x : List Body). IsIn (Commit k.cache.number (written_pages k L.pages)) x)
      (sym (said_append (say_ask k k.ask) (say_commit L k)))
      (in_right _ (bodies_said (say_ask k k.ask)) (bodies_said (say_commit L k)) (inl refl)))))

-- what becomes of the client, and the commit is on its way
module _ (limits : Bounds) (origin : Origin (limits_of limits)) (old : Program) (c : ℕ)
    (kept : Kept limits origin old) (k : WorkerState) (is : IsWorldClient old kept.world c k)
    (frame : Frame) (new : ClientState) where
  l : k.client.copies.limits ≡ limits
  l = is.limits ∙ kept.limits_are

  again : IsCommitting k.client → SaysCommit k.client frame → new ≡ k.client
      → ClientMoved (limits_of limits) origin kept.world c new (message_of frame ∷ [])
  again busy says same =
      let at = committing (client_of k.client []) busy in
      let shown : (kept.world.client c).cache.welcomed ≡ true =
      ap (λ (x : Client). x.cache.welcomed) is.shows ∙ at.0 in
      let state : is_committing (kept.world.client c).cache.status ≡ true =
      ap (λ (x : Client). is_committing x.cache.status) is.shows ∙ at.1 in
      record {
        world = called_world (limits_of limits) kept.world c CallAgain;
        reached = calls_reach (limits_of limits) origin kept.world c CallAgain
            (is_there_by limits origin old c k kept is) kept.reached;
        silent = refl;
        server = refl;
        incarnation = λ d. refl;
        others = λ d n. at_others kept.world.client c d
            (client_after limits.keep_write (kept.world.client c)
            (client_call (limits_of limits) (kept.world.client c) CallAgain).steps) n;
        grows = λ m i. in_left m kept.world.packets _ i;
        operations = is.operations;
        shows = at_itself kept.world.client c
            (client_after limits.keep_write (kept.world.client c)
            (client_call (limits_of limits) (kept.world.client c) CallAgain).steps)
            ∙ again_stays (limits_of limits) (kept.world.client c) shown state limits.keep_write
            ∙ is.shows ∙ ap (λ (x : ClientState). client_of x is.operations) (sym same);
        says = λ m i. elim i [
          | inl e ↦ (let j : IsIn (message_of frame)
              (messages_said c (kept.world.incarnation c)
              (bodies_said (client_call (limits_of limits) (kept.world.client c)
              CallAgain).steps)) = subst (λ (x : Message). IsIn x
              (messages_said c (kept.world.incarnation c)
              (bodies_said (client_call (limits_of limits) (kept.world.client c) CallAgain).steps)))
              it (again_says (limits_of limits) (kept.world.client c) shown state c
              (kept.world.incarnation c)) in
              let x = to_the_server c (kept.world.incarnation c)
              (client_call (limits_of limits) (kept.world.client c) CallAgain).steps
              (message_of frame) (calls_speak (limits_of limits) (kept.world.client c)
              CallAgain) j in
              subst (λ (y : Message). IsIn y (called_world (limits_of limits) kept.world c
              CallAgain).packets × (to_server y.body ≡ true) × (y.client ≡ c)) e
              (in_right (message_of frame) kept.world.packets _ j, x.0, x.1))
          | inr j ↦ absurd j
        ];
      }
    where
      -- the commit that the world's client says is the frame's
      it : record {
        client = c;
        incarnation = kept.world.incarnation c;
        body =
            Commit (kept.world.client c).cache.number
            (written_pages (kept.world.client c) limits.pages);
      } ≡ message_of frame
      it = (λ i. record {
        client = sym is.of.no i;
        incarnation = sym is.of.incarnation i;
        body = Commit (is.shows i).cache.number (written_pages (is.shows i) (sym l i).pages);
      }) ∙ first (says is.operations)
        where
          first : {x y : Message} → x ∷ [] ≡ y ∷ [] → x ≡ y
          first e = cc

  pub finishes : FinishesOrAgain k.client frame new
      → ClientMoved (limits_of limits) origin kept.world c new (message_of frame ∷ [])
  finishes (inl calls) = moved_by_call (limits_of limits) origin kept.world c CallFinish
      new (message_of frame ∷ []) (is_there_by limits origin old c k kept is) kept.reached
      (by_call limits old kept.world c k CallFinish AnsweredOk (message_of frame ∷ []) _ new
      kept.limits_are is calls) refl
  finishes (inr x) = again x.0 x.1 x.2

module _ (limits : Bounds) (origin : Origin (limits_of limits)) (old : Program) (c : ℕ)
    (new : Program)
    (kept : Kept limits origin old) (k next : WorkerState) (is : IsWorldClient old kept.world c k)
    (becomes : Becomes old c k next new)
    (sound : IsSound new) (still : IsSameOne k next) (silent : IsSilent old new) (frame : Frame) where
  -- the client has finished, its commit is kept, and nothing was handed in yet
  abbrev halfway : WorkerState
  halfway = record k { client = next.client; said = frame ∷ k.said }

  abbrev between : Program
  between = record old {
    worker =
        update old.worker c (Some (record k { client = next.client; said = frame ∷ k.said }));
  }

  half_sound : IsSound between
  half_sound = record { station = kept.sound.station; client = λ d x e. at d x e (cases_eq d c) }
    where
      at : (d : ℕ) (x : WorkerState) → update old.worker c
          (Some (record k { client = next.client; said = frame ∷ k.said })) d ≡ Some x → (d ≡ c)
          ⊎ (d ≢ c) → IsClient x.client
      at d x e (inl same) = let z : Some (record k { client = next.client; said = frame ∷ k.said })
          ≡ Some x = sym (at_itself old.worker c
          (Some (record k { client = next.client; said = frame ∷ k.said })))
          ∙ ap (update old.worker c (Some
          (record k { client = next.client; said = frame ∷ k.said }))) (sym same) ∙ e in
          let h : next.client ≡ x.client =
          (let g : record k { client = next.client; said = frame ∷ k.said } ≡ x = cc in
          ap (λ (y : WorkerState). y.client) g) in
          subst IsClient h (sound.client c next becomes.becomes)
      at d x e (inr n) = kept.sound.client d x
          (sym (at_others old.worker c d (Some
          (record k { client = next.client; said = frame ∷ k.said })) n) ∙ e)

  half_still : IsSameOne k halfway
  half_still = record {
    no = still.no;
    incarnation = still.incarnation;
    limits = still.limits;
    txn =
        still.txn;
    hand = refl;
    hand_incarnation = refl;
    keeps = still.keeps;
  }

  half_becomes : Becomes old c k halfway between
  half_becomes = record {
    was = becomes.was;
    becomes =
        at_itself old.worker c (Some (record k { client = next.client; said = frame ∷ k.said }));
    others = λ d n. at_others old.worker c d
        (Some (record k { client = next.client; said = frame ∷ k.said })) n;
  }

  half_kept : FinishesOrAgain k.client frame next.client → Kept limits origin between
  half_kept f = arrives_kept limits origin old between c k halfway kept half_becomes half_still
      half_sound refl
      (client_arrives limits origin old c between kept k halfway is (message_of frame ∷ [])
      (same_stays old.station old.station c k.hand k.hand refl is.held refl)
      (finishes limits origin old c kept k is frame next.client f)
      (λ g i. elim i [ inl e ↦ inl (inl (ap message_of e)) | inr j ↦ inr j ])
      (λ g e. is.collected g e))

  then_still : IsSameOne halfway next
  then_still = record {
    no = refl;
    incarnation = refl;
    limits = refl;
    txn = refl;
    hand =
        still.hand;
    hand_incarnation = still.hand_incarnation;
    keeps =
        fixed_alone (seen_by next) (seen_by next) (as_it_was (seen_by next));
  }

  then_becomes : Becomes between c halfway next new
  then_becomes = record {
    was = at_itself old.worker c
        (Some (record k { client = next.client; said = frame ∷ k.said }));
    becomes =
        becomes.becomes;
    others = λ d n. becomes.others d n
        ∙ sym (at_others old.worker c d
        (Some (record k { client = next.client; said = frame ∷ k.said })) n);
  }

  -- and then it was handed in
  handed_in : (reads : List Bool) (number : ℕ) → FinishesOrAgain k.client frame next.client
      → Committed old.station frame reads k.hand (Ok number) new.station next.hand
      → next ≡ record k { client = next.client; hand = next.hand } → Kept limits origin new
  handed_in reads number f done rest =
      let half : Kept limits origin between = half_kept f in
      let half_is : IsWorldClient between half.world c halfway =
      half.stands.worker c halfway half_becomes.becomes in
      arrives_kept limits origin between new c halfway next half then_becomes then_still sound
      silent
      (server_arrives limits origin between c new half halfway next half_is frame done.posts
      done.taken done.stored refl
      (λ g i. inr (subst (λ (x : WorkerState). IsIn g x.said) rest i))
      (ap (λ (x : WorkerState). x.collected) rest) (half_is.said frame (inl refl)))

  -- or refused
  refused : (reads : List Bool) (fault : OfficeFault) → FinishesOrAgain k.client frame next.client
      → Committed old.station frame reads k.hand (Err fault) new.station next.hand → next
      ≡ record k { client = next.client; hand = next.hand } → Kept limits origin new
  refused reads fault f done rest =
      arrives_kept limits origin old new c k next kept becomes still sound silent
      (client_arrives limits origin old c new kept k next is (message_of frame ∷ [])
      (unchanged_stays old.station new.station c k.hand next.hand done.err.0 is.held done.err.1)
      (finishes limits origin old c kept k is frame next.client f)
      (λ g i. inr (subst (λ (x : WorkerState). IsIn g x.said) rest i))
      (λ g e. is.collected g (sym (ap (λ (x : WorkerState). x.collected) rest) ∙ e)))

commit_by : (limits : Bounds) (origin : Origin (limits_of limits)) (old : Program) (c : ℕ)
    (new : Program)
    (kept : Kept limits origin old) (k next : WorkerState) → IsWorldClient old kept.world c k
    → Becomes old c k next new → IsSound new → IsSameOne k next → IsSilent old new
    → (result : Result ℕ WorkerFault) → CommitsAt k old.station result next new.station
    → Kept limits origin new
commit_by limits origin old c new kept k next is becomes sound still silent (Ok number) h =
    handed_in limits origin old c new kept k next is becomes sound still silent h.frame h.reads
    number h.finishes h.committed h.rest
commit_by limits origin old c new kept k next is becomes sound still silent
    (Err (worker.Office fault)) h =
    refused limits origin old c new kept k next is becomes sound still silent h.frame h.reads fault
    h.finishes h.committed h.rest
commit_by limits origin old c new kept k next is becomes sound still silent
    (Err (worker.Client fault)) h =
    arrives_kept limits origin old new c k next kept becomes still sound silent
    (nothing_arrives limits origin old c new kept k next is
    (same_stays old.station new.station c k.hand next.hand h.2 is.held
    (ap (λ (x : WorkerState). x.hand) h.1)) (ap (λ (x : WorkerState). x.client) h.1)
    (λ g i. subst (λ (x : WorkerState). IsIn g x.said) h.1 i)
    (λ g e. is.collected g (sym (ap (λ (x : WorkerState). x.collected) h.1) ∙ e)))
commit_by limits origin old c new kept k next is becomes sound still silent (Err worker.Halted) h =
    absurd h

pub committed_kept : (limits : Bounds) (origin : Origin (limits_of limits)) (old : Program)
    (c : ℕ) (new : Program)
    → Kept limits origin old → steps.Commits old c new → IsSound new → IsSilent old new
    → Kept limits origin new
committed_kept limits origin old c new kept t sound silent =
    commit_by limits origin old c new kept t.worker t.next
    (kept.stands.worker c t.worker t.becomes.was) t.becomes sound
    (commits_same t.worker t.next old.station new.station t.result t.commits) silent t.result
    t.commits
