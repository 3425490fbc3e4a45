-- What a line of docs/PROOF.md rests on, lemma by lemma. A file that is named stands in `proofs`.
--
-- The invariant
--
-- `SessionFacts c s t k`: store, session and client
--
-- Each line in words, then the lemma that keeps it where it could break. Between asterisks stands
-- what the promise comes from.
--
-- - `ended_by`, `begun`, `dropped_by`, `going`, `settled`, `rested`: the numbers of a client's
--   transactions are in order. The last one that ended, at the server, and the last one dropped, at
--   the client, aren't later than the last one begun there; the server knows none that the client
--   didn't begin; the current one is later than the last one dropped; each between these two has
--   ended at the server, and so has the last one where the client has none, unless it was dropped.
--   `good_meet` ends the one before; `good_begin`, `good_done`, `good_give_up`
-- - `lives`: the client's open transaction hasn't ended at the server. `good_end`: its Drop was
--   said when it was open no more
-- - `live`: the session's transaction, while it lives and the client has a permission, is the
--   client's. `good_meet`
-- - `over`: a transaction of this incarnation with a commit number has ended. `good_apply`
-- - `shut`: before the Welcome the client is as new. Every change but `TakeWelcome` needs the
--   Welcome
-- - `calm`, `resting`, `lost`: without a transaction no page is written, there are no operations
--   and, without kept permission, no permissions. `good_done`, `good_give_up`
-- - `sole`: where the client has a row, nobody else is write holder. `good_grant` and `good_permit`
--   by their conditions; `good_other_permit`: the others have no row
-- - **`held`: each grant held has its row.** `good_row_gone`: a GiveBack's grant isn't held;
--   `good_install`: the row stands, or the grant was seen
-- - `seen`: the grant held is at most the greatest one seen. `good_install`; `good_refuse`: it
--   never falls
-- - `kept`, `locked_held`, `may_held`: what has bytes, is locked or may be written is held.
--   `good_let_go`: not of a locked page, and the permission goes with the grant
-- - **`may_write`: while the transaction hasn't ended at the server, or where permissions are kept,
--   who has permission is the write holder, with the same tag.** `good_take_down`, `good_end`,
--   `good_meet`, `good_apply`
-- - `tagged_by`: a permission's tag is later than the last transaction dropped, and has begun at
--   the server. `good_permission`; `good_give_up` takes all permissions
-- - `wrote_may`, `wrote_locked`, `wrote_some`: a page written has its permission, is locked, and
--   has its bytes in the pool. `good_put` by its condition; `good_yield`, `good_bare`,
--   `good_let_go`: not of a written page
-- - **`version`, `bytes`: a copy that wasn't written has the store's version and bytes.**
--   `good_other_apply`: a page of which another client is write holder has no row of this one;
--   `good_fill`
-- - `applied`, `numbered`: a written page, once the commit is applied, has the store's bytes, and
--   its version there is the commit's number. `good_apply`; `good_done` uses `numbered`
-- - `untouched`, `legal`, `clean`, `dirty`: of a page that isn't locked the transaction has no
--   operation. While it hasn't ended at the server, its operations so far are legal on the store's
--   bytes, page by page; on a page that it didn't write they leave these bytes, on one that it
--   wrote the client's. `good_read`, `good_put`, `good_other_apply`
--
-- Each change keeps all lines at once, so there is one lemma for each: of a client's change in
-- `proofs/CacheChanges`, of the server's in `proofs/SessionChanges`, where `good_NAME` is of the
-- client that the change is about and `good_other_NAME` of every other. Names that can't be
-- guessed: `WriteBytes` is `good_put`, `Abandon` `good_give_up`, `TakePermission`
-- `good_permission`, `MakeBare` `good_bare`, `BeginTransaction` `good_meet` and `good_other_clear`,
-- `DropTransaction` `good_end` and `good_other_admit`, `RemoveRow` `good_row_gone` and
-- `good_other_gone`, `EndPermission` `good_take_down` and `good_other_down`.
--
-- `MessageFact c s t k body`: each message of the current incarnation
--
-- A fact is of one message against the state, never of two messages. Every change of the client
-- (`now_NAME` of `proofs/MessageFacts`) and of the server (`now_NAME`, `now_other_NAME` of
-- `proofs/SessionChanges`) keeps it, and it holds of a message as it is sent (`client_said`,
-- `server_said`).
--
-- - AskRead, InUse: its transaction has begun
-- - AskWrite: its transaction has begun. If it is the client's last: while it is open, a permission
--   for the page has its tag; when it is open no more, it was dropped, or such a permission has its
--   tag, or it has ended at the server
-- - GiveBack: its grant isn't held, and is at most `seen`
-- - Commit: its transaction has ended at the server; or it is the committing one, and the commit
--   lists exactly what it wrote (`ListsWrites`)
-- - Drop: its transaction has begun, and is neither open nor committing
-- - Granted: its version is at most the last commit's number; at the store's version it has the
--   store's bytes; its row stands at this version, or its grant is at most `seen`
-- - MayWrite: its transaction has begun at the server. While that one lives, its client is the
--   write holder with this tag and row, or the grant isn't held and is at most `seen`
-- - Done: the commit was made, with this number
-- - Downgraded: the client has no permission for the page with its tag, whose transaction has ended
-- - Downgrade: the tag's transaction has ended
-- - Hello, Welcome, Callback, AbortNow: nothing
--
-- `MessageHolds`: a Hello may be ahead of the server but not of its client. Every other message is
-- of the server's current incarnation, with its fact, or of an earlier one.
--
-- `Invariant`: the whole machine
--
-- - `behind`: the server's incarnation of a client is at most its present one
-- - `ahead`: a client at an incarnation that the server doesn't know yet is as new
-- - `commit_number`: commits are of incarnations that the server knew
-- - `versions`: no page is newer than the last commit
-- - `good`, `fine`: `SessionFacts` of each client, and `MessageFact` of each packet
--
-- `safe_client_moves`, `safe_client_says`, `safe_server_moves`, `safe_server_says` and
-- `safe_restart` keep it, one for each kind of step; `safe_happens` is all of them, `safe_start`
-- the opening.
--
-- What stands beside it
--
-- Each record: what it says, then what keeps it.
--
-- - `Kept` (`proofs/HistoryKept`): the committed transactions' operations are a serial history on
--   the opening store and leave the store. `kept_happens`, by `applied_legal` and `applied_leaves`
--   of `proofs/SerialHistories`
-- - `Recorded` (`proofs/HistoryKept`): the transcript's filter has the operations of each client's
--   transaction and of each committed one, and none commits twice. `told_happens`
-- - `Ready` (`proofs/ClientReady`): an ask is out only while the transaction is open, a write ask
--   only without the permission; what is written is a page that there is; a due Downgrade came.
--   `ready_all`, `calls_fit`, `takes_fit`
-- - `Orderly` (`proofs/ServerOrder`), of the server alone: rows only of clients that there are;
--   ended ≤ begun ≤ ended + 1; tags begun; a write holder alone with its row; a waiting ask is of a
--   live transaction, and a write ask came; the outcome is the commit's number. `orderly_NAME`, one
--   a step
-- - `Books` (`proofs/LedgerKept`): the ledger; grants below the next one and distinct; commit
--   numbers and list agree. `books_NAME`, one a change; `books_all`
-- - `Image` (`proofs/LifeImage`): the world is the image of a machine with all of these.
--   `client_acts`, `stale_acts`, `server_acts`, `only_answered`; `client_restarts` and
--   `stale_restarts` of `proofs/LifeRestarts`
--
-- For the passes by name, in files of `proofs`:
--
-- - `ReadFacts` (`ReadVersions`): until a transaction has ended at the server, each held copy,
--   written or not, has the store's version; a committing transaction that has ended at the server
--   was applied. `read_kept`
-- - `Awaits`, `Locks` (`Committing`): an incarnation, also one that ended, goes on committing with
--   the same pages locked until its transaction has a commit number. `goes_on`, `still_committing`
-- - `AllSent` (`LockedPages`): each transaction whose Commit was sent has a commit number or is
--   committing. `sent_kept`
-- - `kept_along`, `image_of_reached` (`Followed`): what each allowed step keeps of machines
--   (`Keeps`) holds along each run of the world. So a new invariant needs no change of
--   `cb_protocol`
--
-- `event_follows` (`proofs/LifeEvents`) takes all events together, `lives_headline` a list of them,
-- `headline` a run of one life. `holds_always` is the law of the server alone: it needs `Orderly`
-- and `Books`, and nothing of any client.
--
-- Where each case stands
--
-- Every case of a table is a line of a definition. Each line here has the case, then the
-- definitions, then their files of `specs`.
--
-- - a call: when it is refused (causes by rising number), what an accepted one does, what it
--   answers. `client_call`, `causes`, `call_fault`; `accept_call`, `read_page`, `say_commit`; what
--   is said again, `client_again`. `ClientCalls`, `Answers`
-- - the end of a client's transaction, page by page. `drop_transaction`, `end_pages`, `end_page`.
--   `ClientEnd`
-- - a message that a client takes. `client_take`, `take_welcomed`; `take_granted`, `take_callback`,
--   `take_downgrade`. `ClientMessages`
-- - a message that the server takes. `server_take`, `take_current`, `direct_answer`;
--   `take_ask_read`, `take_ask_write`, `commit_allowed`, `begin_transaction`; refused by the world,
--   `is_exhausted`. `ServerMessages`
-- - an ask enters its queue; a page is settled. `enter_queue`, `settle_pages`, `decide`,
--   `decide_read`, `decide_write`, `wait_or_doom`. `Settling`
-- - who waits for whom. `waits_for`, `on_cycle`; as a relation `WaitsFor`, `LiesOnCycle`.
--   `WaitsFor`
-- - the server resends; a flush; the next batch. `again_page`, `again_doomed`; `server_flush`,
--   `can_flush`, `next_batch`. `Resend`, `Flush`
-- - an event and its answer. `step`, `deliver`, `restart_client`, `flush_up_to`. `World`
--
-- Citing the tables from other crates
--
-- `client_call`, `call_fault`, `client_take`, `server_take` and `step` are `unfoldable`: a proof
-- sees their names and not their bodies unless it says `unfolding`. `proofs/Cases` has what to cite
-- instead: of a call `call_accepted`, `call_refused` and `fault_of_CALL`; of a message at a client
-- `takes_NAME`, at the server `serves_NAME`; of an event `step_NAME`; of two lists of steps, one
-- after another, the four lemmas that end in `_append`. Each case of `take_welcomed` is then one
-- line, and `take_current` is three lists. `reached_opening` and `reached_step` (`proofs/Laws`)
-- make "this world is reached" the invariant of a type.
--
-- Which protocol's `Client`, `Server` or `World` a value of the code is, `client_of`
-- (`cb_client_core`), `server_of` (`cb_server_state`) and `Represents` (`cb_schedule`) say. Where a
-- number is out of range it has what `new_client` and `new_server` have.
--
-- Of room and numbers the server's code may cite:
--
-- - before a step: `StepSendsAtMost`, or `SettlingSendsAtMost.all_pages` with the asks at hand, is
--   the room for messages; `all_copies` is the room for copies of pages, one more for the direct
--   answer
-- - before a decision about a page whose first ask is to read: `first_free_grant server ≤
--   max_number + 1` gives `next_grant ≤ max_number`, and holds after the decision as well
--   (`GrantsNeverRunOut`, `SettlingTakesKeptGrants.decision`)
-- - `MarksLive`, `KeptHoldersHaveRows`: a mark or, with kept permission, a holder always has a row
--   to look at
--
-- Several lives
--
-- **Each life is a machine of one life.** By `Image` the world over all lives is the image of a
-- machine that opened at the present life's floor (`start_at`). A client below the floor has done
-- nothing there, and stands at the floor as new (`waits`). One that is above it as the life begins
-- stands there as new from the start, and its Hellos are there, too. What was sent below the floor
-- was never sent there (`packets` asks for the floor), and the machine has no packet that the world
-- hasn't (`sent`). So, by each event:
--
-- - what a client of the life does, the machine does (`client_acts`); what one below the floor does
--   is nothing (`stale_acts`): it says no Done (`proofs/ClientSpeaks`), and what it performs is
--   below the floor (`of_life`, `proofs/LifeOperations`)
-- - a message from below the floor makes the server do nothing (`stale_message`), since each
--   current incarnation is at or above it (`Above.current`); any other is the machine's
--   (`server_acts`)
-- - a client's restart is the machine's, or nothing; one that reaches the floor by it stands there
--   as new (`stale_restarts`)
--
-- The invariant is that of one life, since it looks at each client at the server's current
-- incarnation. What rests on opening incarnations is its start alone (`safe_at`, `orderly_at`,
-- `books_at`).
--
-- **The end of a life** (`ends`, `proofs/LivesProof`). Everything that was performed or committed
-- is below the new floor, and all that was sent but Hellos. The server's current incarnations are
-- below it; the machine's messages that are ahead of these are Hellos, its caches new ones (`fine`,
-- `ahead` of the invariant). Who performed an operation was welcomed (`Above.performed`). The
-- transactions that committed perform nothing more (`IsPast`), so their operations stay what they
-- were. The store on disk is what the surviving transactions leave, whichever commit is the last of
-- them: the machine has it after *every* commit (`EachLeaves`, `leaves_all`), and not only after
-- the last. So the number on disk may be any from the last commit reported to the last one made,
-- and what is above it is cut off (`cut`, `loses` in `proofs/LivesStand`).
--
-- **All lives.** What former lives left (`Left`) is a serial history on the first store that leaves
-- the present life's opening store; the present life's history stands behind it (`joined`). A
-- restart adds the survivors to it (`left_restarts`) and opens a new machine (`image_restarts`).
--
-- Wrong tables of one life
--
-- Some wrong tables of `scripts/wrong_bodies/cb_protocol.edits`. Each line says which condition of
-- the protocol the table breaks, then which lemmas need that condition.
--
-- - `bare_page_filled_from_any_grant`: the version that came is the one held. `granted_may`, by
--   `fill_may`
-- - `greatest_grant_forgotten`: the grant held is at most `seen`, and so is the grant of a GiveBack
--   under way. `good_refuse`, `now_refuse`, `now_let_go`
-- - `doomed_permission_freed_at_once`: the client's Drop came. `right_dooms`, `books_all`
-- - `write_permitted_before_callbacks_are_answered`: no other client has a row of the page.
--   `right_decide`
-- - `locked_page_given_back_at_callback`: the page is not locked. `called_back_may`
-- - `older_incarnation_accepted`: the message is of the current incarnation. `right_message`
-- - `repeated_commit_applied_again`: the transaction has not ended. `right_answers`
-- - `downgraded_obeyed_by_page_and_grant_alone`: the tag is the one that the message names.
--   `right_answers`
-- - `only_cycles_of_two_found`: a path through client n is two paths through earlier clients, not
--   two edges. `way_join`, `way_is`
-- - `done_before_flush`: the number is at most that of the last commit on disk. `serves_again`
-- - `doomed_commit_applied`: the transaction is not doomed. `applies_none`
-- - `marks_kept_at_a_greater_hello`: no mark of the client is left, and no doom. `greeted_first`
-- - `reader_waits_for_readers`: a first read ask waits only where another client is write holder.
--   `granted`
-- - `read_ask_overtakes`: the ask is the first for its page. `serves_ask_read`
--
-- Wrong tables of lives
--
-- These tables of lives stand in `scripts/wrong_bodies/cb_protocol.edits`. Each line says what is
-- broken, then which worked schedules of `cb_laws` (`proofs/WorkedLives`) show it. `RestartLeaves`
-- and `SendsInLife` are of `cb_laws`; `lives_headline` needs the rest.
--
-- - `former_floor_taken` (the server opens with the former life's floor), `former_hello_welcomed`
--   (it knows no incarnation, as at first): no current incarnation is below the new floor
--   (`current` of `WelcomedAlone`); `late_hello`, `two_restarts`
-- - `former_client_stays_welcome` (it keeps the current incarnations): the same; also
--   `old_client_commits_nothing`, `welcome_repeated`
-- - `commit_not_on_disk_survives`: commits are numbered up to the one on disk (`numbered` of
--   `LivesLedger`); `commit_before_its_flush`, `read_from_a_lost_commit`, `first_alone_survives`
-- - `reported_commit_lost`, `commit_on_disk_that_was_not_made` (the number lacks one of its two
--   bounds): the same `numbered`; the first also `on_disk` of `DonesStand`
-- - `rows_survive_a_restart`, `marks_survive_a_restart`, `asks_survive_a_restart`,
--   `permissions_survive_a_restart`: the server has nothing of a client below the floor (`nothing`
--   of `WelcomedAlone`); `no_row_survives`, `nothing_waits`, `all_anew`, `kept_permission_ends`. No
--   schedule shows a mark, since a client's first message of a transaction takes its older marks
-- - `floor_that_only_rises`, `floor_that_was_admitted` (a floor may be below an incarnation that
--   the server admitted, or be one): no current incarnation is at the floor or above (`below` of
--   `Ends`); `floor_that_was_admitted` of `WorkedLives`
-- - `restart_forgets_packets`, `restart_renews_clients`, `restart_forgets_the_transcript`:
--   `packets`, `client` and `transcript` of `RestartLeaves`
-- - `older_hello_welcomed`: `older` of `SendsInLife`; `late_hello`, `two_restarts`
pub mod AskOrder
pub mod AsksAnswered
pub mod Backed
pub mod BackedCopies
pub mod CacheChanges
pub mod Cases
pub mod ClientCalls
pub mod ClientInvariant
pub mod ClientRanges
pub mod ClientReady
pub mod ClientSpeaks
pub mod ClientSteps
pub mod ClientTakes
pub mod CommitWrites
pub mod CommitsApplied
pub mod Committing
pub mod CyclePaths
pub mod CycleTest
pub mod DoneOnDisk
pub mod DoomedAsks
pub mod DowngradesSent
pub mod DuePages
pub mod FirstAsks
pub mod Followed
pub mod GoingOn
pub mod GrantNumbers
pub mod HeadlineProof
pub mod HelloStarts
pub mod HistoryKept
pub mod Invariant
pub mod InvariantKept
pub mod Laws
pub mod LedgerKept
pub mod LifeEvents
pub mod LifeImage
pub mod LifeMachine
pub mod LifeOperations
pub mod LifeRestarts
pub mod LifeSends
pub mod LivePermissions
pub mod LivesHistory
pub mod LivesProof
pub mod LockedPages
pub mod Machine
pub mod MachineSteps
pub mod MarksKept
pub mod MessageFacts
pub mod MessagesSent
pub mod NoCycles
pub mod NoneWaits
pub mod OthersKeep
pub mod OthersSpokenTo
pub mod PageComes
pub mod PagesStay
pub mod Permissions
pub mod PoolRoom
pub mod ReadAsksWaiting
pub mod ReadVersions
pub mod ScheduleText
pub mod SerialHistories
pub mod ServedSteps
pub mod ServerOrder
pub mod ServerRanges
pub mod ServerRangesKept
pub mod ServerSteps
pub mod ServerTakes
pub mod ServerWalks
pub mod SessionChanges
pub mod SettlingAgain
pub mod SettlingClears
pub mod SettlingRight
pub mod StepsAlone
pub mod TransactionEnds
pub mod TranscriptKept
pub mod TranscriptStill
pub mod WorkedSchedules
pub mod WorkedServers
pub mod WorkedSides
