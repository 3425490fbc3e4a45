-- LifeBegins: a life begins as a server does.
-- EventTurns: an event by what it does.
-- LimitsHold: the limits of all lives, and the range of incarnations.
-- HellosAnswered, CommitsAdded: who is welcomed, and what an event adds to the commits.
-- TransactionRests, OutcomesNamed, OutcomesStand, AccountsKept, NeverCommitted: what a client is
-- told of its transactions.
-- LivesStand: what a restart leaves, what an event keeps and sends, and that what is on disk
-- stands.
-- LivesGoOn, PoolSteps: that an event can happen.
-- LivesText, WorkedLives: computed schedules over several lives.
-- WrittenMarks: what a transaction wrote, in its client's cache.
-- PresentClients: what holds of each client of the present life, in the world's own words.
-- LastWrites: a commit's write stands until a later one.
-- WrittenPages: the laws of written pages.
-- RowFacts, RowsSent: what each step of the server keeps of rows and of copies that were sent.
-- NewRows: a new row is sent in the step that makes it.
-- WorldServed: a world's server is one that takes inputs.
-- RowVersions: the laws of the versions of rows.
-- WorkedWrites: computed schedules, with a written page in each phase.
--
-- What carries the laws
--
-- The laws over all lives rest on these (in `proofs` here unless another crate is named):
--
-- - **What is sent** (`event_sends`, `LifeSends` of `cb_protocol`) is the walk of `event_follows`
--   once more, for the messages of each event. That a Welcome is for a Hello is a rule of single
--   steps (`SaidAt`). By the machine's steps anyone without a row may get a row, so the machine
--   can't say who is sent nothing. A walk of its own over the tables shows that the server says
--   nothing to a client of which it has nothing, and leaves it so (`Passes` in `OthersSpokenTo` of
--   `cb_protocol`). Clients below the floor are such. Packets only grow and commits on disk stay
--   (`Keeps`): `disk_stands`.
-- - **What an event does** (`by_turns`, `EventTurns`): it only answers; or a client is called,
--   takes a message of its incarnation, or restarts; or the server takes a message, resends or
--   flushes. Each law about single events gives one line to each (`LimitsHold`, `CommitsAdded`,
--   `HellosAnswered`). What is added to the commits is what the server's steps apply, each allowed
--   by a Commit that had come (`steps_add`).
-- - **What a client is told.** A call or message makes of the client's transaction one of four
--   things: it goes on, begins, commits, or ends by an outcome that names it (`Turned`,
--   `OutcomesNamed`, over `TransactionRests`). Beside it goes an account of the client (`Account`,
--   `OutcomesStand`). Where it was told Committed, that Done was sent to it (`told`). Of each
--   Commit that it sent the transaction is committing still, or ended before the last one that
--   ended, or is that one, and then its client was told Committed (`Asked`). Who has begun a
--   transaction was welcomed (`busy`, `welcomed`). Each commit that counts was asked for (`Tells`,
--   `AccountsKept`), so the account says what is true of the commits, of clients below the floor
--   too. Of a transaction told as dropped no Commit was sent, and none can be, since its client
--   only goes on to later numbers (`Gone`, `NeverCommitted`).
-- - **That an event can happen** (`lives_go_on`, `LivesGoOn`). There are finitely many clients, so
--   there is a floor above all that the server admitted. What a pool lets go is the one choice, and
--   there is one (`may_choose`, `PoolRoom` of `cb_protocol`): who asks to read a page has no
--   content of it, and room, or a page that isn't fixed (`Roomy`); while the ask is out no step
--   fixes a page, and one that takes a page out makes room (`still_room`, `one_less`). `Roomy` is
--   an invariant of each client by itself, below the floor too, for any messages (`PoolSteps`).
--
-- Wrong tables
--
-- Those of `cb_laws.edits` break laws over all lives. Most are tables of `cb_protocol` that no
-- clause of that crate refuses, though its machine may ask for what they break.
--
-- - `life_without_pages` (the server of a new life has none), `life_without_clients`,
--   `life_forgets_the_setting`: `ServersHaveLimits`, `fits` of `RestartLeaves`, `LivesAreReached`
-- - `later_lives_stand_still` (no event changes the world in any life but the first): `world` of
--   `KeepsInLife`, `answered` of `SendsInLife`. The whole `LivesPromise` holds under it
-- - `hello_of_the_current_incarnation_unanswered`, `hello_refused_where_no_grant_is_left`:
--   `answered` of `SendsInLife`
-- - `drop_answered_by_welcome`: `welcome` of `SendsInLife`: a Welcome answers a Hello
-- - `abort_of_another_transaction_taken`: `OutcomesNameTransactions`: the number is the
--   transaction's
-- - `done_of_another_transaction_taken` (a transaction that wrote nothing takes any Done): the
--   same, and `OutcomesAreTrue`. The machine asks for the Done of that number too (`hears_may`)
-- - `new_client_was_told` (a client begins as one that was told that a commit counts): `committed`
--   and `nothing` of `OutcomesAreTrue`
-- - `committing_transaction_dropped` (a drop is accepted while the Commit is out): `told` of
--   `OutcomesAreTrue`: its client is told Dropped though its commit may count. The machine drops an
--   open transaction alone (`ClientMayChange`)
-- - `floor_skips_one` (a floor is to be two above the present one): `restarts` of `CanGoOn`
-- - `restart_loses_nothing`, `restart_loses_what_was_not_reported` (the last commit made, or
--   reported, in place of the number on disk): `commits`, `last` and `flushed` of `RestartLeaves`,
--   while the promise holds; `commit_before_its_flush`, `written_and_not_reported`
-- - `ranges_of_twice_the_width`: `within` of `FloorsInRange` (life 2^29 has a floor of 2^62)
--
-- Written pages and rows
--
-- **Written pages.** What a transaction wrote is read off the transcript (`operations_so_far`), so
-- the law doesn't rest on the client's own flag, `wrote`. In the cache that flag is exact, and a
-- page with it has the bytes written last (`MarksExact` in `proofs/WrittenMarks`): each change of a
-- cache keeps that, since such a page is locked, permitted and in the pool. What the machine has of
-- each client from a floor on is said once in the world's words (`Present` in
-- `proofs/PresentClients`). The phases are then lines of `SessionFacts`: `may_write` before the
-- commit is applied, with `ReadFacts.version`; `applied` and `numbered` after it. Where a
-- committing transaction has ended at the server its commit was applied (`ReadFacts.applied`), so
-- there is no third case. That nobody else has the page is the directory rule at its write holder;
-- of a commit on its way the holder is `CommitsFindTheirRows`.
--
-- **Rows.** The law is of the server alone, and each step keeps `RowFacts`. A grant that was sent
-- is below the next one, so of a new row's grant nothing was sent. A Granted is sent as the store
-- has the page. A commit writes only where its client is write holder: where another client has a
-- row it writes nothing (`sole`), and where its client has one it names that row's grant. That each
-- row was sent (`proofs/RowsSent`) follows from `GrantsInOrder`. The steps are those that are right
-- for any messages (`right_server_take`, with a Came that is always true). A world's server takes
-- such inputs, and all that a world sends to clients its server sent (`event_served` in
-- `proofs/WorldServed`), so a world has the law of its server.
pub mod AccountsKept
pub mod CommitsAdded
pub mod EventTurns
pub mod HellosAnswered
pub mod LifeBegins
pub mod LimitsHold
pub mod LivesGoOn
pub mod LivesStand
pub mod LivesText
pub mod NeverCommitted
pub mod OutcomesNamed
pub mod OutcomesStand
pub mod PoolSteps
pub mod TransactionRests
pub mod WorkedLives
pub mod LastWrites
pub mod NewRows
pub mod PresentClients
pub mod RowFacts
pub mod RowVersions
pub mod RowsSent
pub mod WorldServed
pub mod WorkedWrites
pub mod WrittenMarks
pub mod WrittenPages
