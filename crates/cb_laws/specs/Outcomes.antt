-- What a client is told of its transactions, and that it is true over all lives of the server. A
-- transaction that wrote nothing is told of as every other: its Commit has no pages, and it gets
-- a number of its own.
use Rattle.std.specs.Prelude.{◌≡◌, ◌≤◌, ◌⊎◌, ℕ, ◌-◌, true, List, if◌then◌else◌}
use Rattle.cb_protocol.specs.AnyMessages.{IsCommit}
use Rattle.cb_protocol.specs.Basics.{IsIn, Limits}
use Rattle.cb_protocol.specs.Cache.{Committing, Idle, Open, is_idle}
use Rattle.cb_protocol.specs.Client.{Aborted, Client, Committed, Dropped, LastOutcome, NoneEnded}
use Rattle.cb_protocol.specs.ClientAlone.{ClientInput, ReceivesCall, ReceivesMessage, after_input}
use Rattle.cb_protocol.specs.ClientCalls.{CallDrop}
use Rattle.cb_protocol.specs.Headline.{SoundOpening}
use Rattle.cb_protocol.specs.Lives.{WelcomeSent, lives_commits}
use Rattle.cb_protocol.specs.LivesWorld.{LivesEvent, Lives, Reaches}
use Rattle.cb_protocol.specs.Messages.{AbortNow, Done}
use Rattle.cb_protocol.specs.Server.{AppliedCommit, DeadlockTest}
use Rattle.cb_protocol.specs.Transcript.{incarnation_at, transaction_at}
use Rattle.cb_protocol.specs.World.{Opening}

-- The client's last transaction that ended, by its number: the last one that began, or the one
-- before it while that one is open or committing. 0: none ended.
abbrev pub last_ended : Client → ℕ
last_ended client =
    if is_idle client.cache.status then client.cache.number else client.cache.number - 1

-- What comes to a welcomed client ends its transaction so: a Done that names the very transaction
-- that is committing, an AbortNow that names the very one that is open, or its own drop of that.
abbrev pub EndsSo : Client → ClientInput → LastOutcome → Type 0
EndsSo client (ReceivesMessage (Done txn number) let_go) (Committed told) =
    (client.cache.welcomed ≡ true) × (client.cache.status ≡ Committing)
    × (txn ≡ client.cache.number) × (told ≡ number)
EndsSo client (ReceivesMessage (AbortNow txn) let_go) Aborted =
    (client.cache.welcomed ≡ true) × (client.cache.status ≡ Open) × (txn ≡ client.cache.number)
EndsSo client (ReceivesCall CallDrop) Dropped =
    (client.cache.welcomed ≡ true) × (client.cache.status ≡ Open)
EndsSo client _ _ = ⊥

-- What comes to a client makes of its last outcome ..
pub record OutcomeAfter (before after : Client) (input : ClientInput) : Type 0 where
  -- .. where it ends the transaction: that outcome, of that very transaction; and none is open
  pub ends : (outcome : LastOutcome) → EndsSo before input outcome
      → (after.last_outcome ≡ outcome) × (last_ended after ≡ before.cache.number)
      × (after.cache.status ≡ Idle)
  -- .. and else nothing: it is as it was, and speaks of the transaction that it spoke of
  pub stays : ((outcome : LastOutcome) → EndsSo before input outcome → ⊥)
      → (after.last_outcome ≡ before.last_outcome) × (last_ended after ≡ last_ended before)

-- So of any client, whatever comes to it: its last outcome is how its last transaction that ended
-- did, which is named by its number.
abbrev pub OutcomesNameTransactions : Limits → Type 0
OutcomesNameTransactions limits = (client : Client) (input : ClientInput)
    → OutcomeAfter client (after_input limits client input) input

-- The client's present incarnation was told last that its transaction committed, by that number.
abbrev pub ToldCommitted : Lives → (client number : ℕ) → Type 0
ToldCommitted lives client number = (lives.world.client client).last_outcome ≡ Committed number

-- It was told last that its transaction ended without a commit.
abbrev pub ToldGone : Lives → (client : ℕ) → Type 0
ToldGone lives client = ((lives.world.client client).last_outcome ≡ Dropped)
    ⊎ ((lives.world.client client).last_outcome ≡ Aborted)

-- What clients were told last is true, of whichever life they are, and whether pages were written
-- or not.
pub record OutcomesAreTrue (lives : Lives) : Type 0 where
  -- Who was told that it committed has that very transaction among the commits that count, by the
  -- number that it was told ..
  pub committed : (client number : ℕ) → ToldCommitted lives client number
      → IsCommit (lives_commits lives) client (lives.world.incarnation client)
      (last_ended (lives.world.client client)) number
  -- .. and that commit was reported to the server as on disk
  pub on_disk : (client number : ℕ) → ToldCommitted lives client number
      → number ≤ lives.world.server.flushed
  -- And the other way round: where the commit of its last transaction that ended is among them, it
  -- was told so. Who was told Dropped or Aborted has none.
  pub told : (commit : AppliedCommit) → IsIn commit (lives_commits lives)
      → commit.incarnation ≡ lives.world.incarnation commit.client
      → commit.txn ≡ last_ended (lives.world.client commit.client)
      → ToldCommitted lives commit.client commit.number
  -- who was told nothing yet is one of whose transactions none ended
  pub nothing : (client : ℕ)
      → ((lives.world.client client).last_outcome ≡ NoneEnded
      → last_ended (lives.world.client client) ≡ 0)
      × (last_ended (lives.world.client client) ≡ 0
      → (lives.world.client client).last_outcome ≡ NoneEnded)
  -- Its incarnation and its transaction have the numbers by which the transcript counts them. So it
  -- is told of those operations that the history has of that transaction.
  pub counted : (client : ℕ)
      → (lives.world.incarnation client ≡ incarnation_at lives.world.transcript client)
      × ((lives.world.client client).cache.number ≡ transaction_at lives.world.transcript client)
  -- who takes itself for welcomed was welcomed
  pub welcomed : (client : ℕ) → (lives.world.client client).cache.welcomed ≡ true
      → WelcomeSent lives.world client (lives.world.incarnation client)

-- So at each moment over all lives.
abbrev pub ClientsAreToldTheTruth : Limits → DeadlockTest → Type 0
ClientsAreToldTheTruth limits cycle = (opening : Opening) (events : List LivesEvent)
    (lives : Lives) → SoundOpening opening → Reaches limits cycle opening events lives
    → OutcomesAreTrue lives
