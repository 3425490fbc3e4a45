-- The laws, each as a statement of its own: of every world that is reached, along every list of
-- events, with or without kept write permission, and whoever is doomed (`cycle` is any test).
use Rattle.cb_protocol.specs.AnyMessages.{DirectoryRule, RulesAlwaysHold, committed_names}
use Rattle.cb_protocol.specs.Basics.{Limits}
use Rattle.cb_protocol.specs.Headline.{BackedByServer, CommittedIsSerial, CopiesAgree}
use Rattle.cb_protocol.specs.Headline.{DonesNameCommits, DonesOnDisk, Headline, SoundOpening}
use Rattle.cb_protocol.specs.Headline.{WriterAlone}
use Rattle.cb_protocol.specs.Serial.{EachOnce}
use Rattle.cb_protocol.specs.Server.{DeadlockTest}
use Rattle.cb_protocol.specs.World.{Opening, ReachedWorld, World}

-- this holds of every world that is reached, over every sound opening store
abbrev pub Always : (Opening → World → Type 0) → Type 0
Always Claim = (limits : Limits) (cycle : DeadlockTest) (opening : Opening) (world : World)
    → SoundOpening opening → ReachedWorld limits cycle opening world → Claim opening world

-- two readable copies of a page have the same bytes
abbrev pub CopiesAlwaysAgree : Type 0
CopiesAlwaysAgree = Always (λ opening world. CopiesAgree world)

-- while a client may write a page, no other has a readable copy of it
abbrev pub WriterAlwaysAlone : Type 0
WriterAlwaysAlone = Always (λ opening world. WriterAlone world)

-- the committed transactions are a serial history in commit order, which leaves the server's store
abbrev pub CommittedAlwaysSerial : Type 0
CommittedAlwaysSerial = Always (λ opening world. CommittedIsSerial opening.bytes world)

-- each transaction commits at most once
abbrev pub EachCommitsOnce : Type 0
EachCommitsOnce = Always (λ opening world. EachOnce (committed_names world.server.commits))

-- each Done names a commit and its number
abbrev pub DonesAlwaysNameCommits : Type 0
DonesAlwaysNameCommits = Always (λ opening world. DonesNameCommits world)

-- each Done is of a commit that is on disk
abbrev pub DonesAlwaysOnDisk : Type 0
DonesAlwaysOnDisk = Always (λ opening world. DonesOnDisk world)

-- who may write a page is alone with it in the directory, and grants are distinct
abbrev pub DirectoryAlwaysKept : Type 0
DirectoryAlwaysKept = Always (λ opening world. DirectoryRule world.server)

-- what a client holds, the server has in its rows
abbrev pub CopiesAlwaysBacked : Type 0
CopiesAlwaysBacked = Always (λ opening world. BackedByServer world)

-- all of these at once
abbrev pub WholePromise : Type 0
WholePromise = (limits : Limits) (cycle : DeadlockTest) → Headline limits cycle

-- directory rule and ledger, whatever messages come
abbrev pub RulesHoldUnderAnyMessages : Type 0
RulesHoldUnderAnyMessages = (limits : Limits) (cycle : DeadlockTest) → RulesAlwaysHold limits cycle
