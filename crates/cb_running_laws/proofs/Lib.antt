-- What is proved where.
-- Events: what the protocol's world becomes at an event, and that it is reached.
-- Standing: a world that stands for a program goes on standing for it.
-- Opening: a program that has just opened is a world that is reached.
-- Calling: a worker's client is called.
-- Moving: a client or the server of a world moves.
-- Turning: a worker's turn.
-- Committing: a worker's commit.
-- Greeting: a client of the world begins an incarnation, and the server takes its Hello.
-- Resuming: a world whose clients have greeted the server at a floor.
-- Joining, Restarting, Leaving: a client joins, begins another incarnation, leaves.
-- Telling: commits reach the disk or are forgotten, and threads tell each other.
-- Worlds: whatever threads do, there is a world that it is.
-- ByContracts: which calls are steps, by what their contracts say.
-- Moves: so is each move by which a worker comes.
-- Lending: what a fetch lends.
-- Keeping: what rounds leave in the tables.
-- Taking: the server of a world takes what a round took.
-- Clients: a client process is called, or takes a frame.
-- ProcessesStand: whatever a service and its clients do, there is a world that they are.
-- ServerCommits: what a server that frames reach has committed and says of it.
-- BatchStore: a batch that is written makes the store on disk that of its server.
-- Services: what a file and its services are after any steps.
-- RoundSteps: rounds of a life are steps of what happens to a file.
--
-- The steps
--
-- What is worth knowing of the steps, by the file of `proofs`:
--
-- - `Calling`: the world's client makes the worker's call, and the transcript has what was
--   performed, since it counts incarnations and transactions as the client does (`counted`)
-- - `Committing` goes by a program halfway, whose client has finished and keeps its Commit. A
--   commit that is handed in once more is said once more (`CallAgain`), so nothing need be known of
--   old ones
-- - `Greeting`: as many restarts as the incarnation needs, Hello, and the server takes it.
--   `Joining`, `Restarting` and `Leaving` use it; `Leaving` needs that the server then knows the
--   incarnation (`greater_hello` of `cb_protocol`)
-- - `Moves`: a move is told by the record that its step has, so it is that step at the station that
--   it names. A page that is read at hand is the call of `hit`, by what the pool has
--   (`read_at_hand`). A call is a run by putting others' runs and its moves one behind the other
--   (`goes_on`)
-- - `Worlds`: all steps, and the clauses. `promise` is `headline` of that world; `serial`,
--   `stores`, `agree` and `alone` are its parts, said of the program; the versions are `agrees` of
--   `IsStored`; `mail` is `copies_on_their_way` of `cb_laws`
--
-- Of `IsSound` it uses that the station's server arose (`arisen`), that each stored hand is its
-- client's and as the server has it (`hand`), that there is a place for each (`clients`); and that
-- a worker's client is one that there is, in an incarnation that is a number. It doesn't use
-- `legal`, `replays` and `plain`.
--
-- Each wrong step of `cb_running_laws.edits` makes a definition of `specs` wrong, and the law
-- false. By the lemma that refuses it:
--
-- - `opening_kept` (`Opening`): `program_opens_with_workers`; `begun_kept`:
--   `program_opens_with_mail`, `program_opens_with_operations`, `program_opens_over_any_store`
-- - `performs_so` (`Calling`): `read_is_not_noted`, `read_is_noted_without_its_bytes`,
--   `write_is_noted_as_a_read`, `operation_is_of_the_next_transaction`,
--   `operation_is_of_the_first_client`, `operation_is_of_the_first_incarnation`; `own` and `said`:
--   `call_changes_the_hand`, `frame_kept_that_was_not_said`, `call_of_the_first_client`
-- - `turned_kept` (`Turning`): `turn_of_another_worker`; `committed_kept` (`Committing`):
--   `commit_of_another_worker`
-- - `fresh` (`Greeting`): `joined_client_is_of_the_next_incarnation`; `name` (`Joining`):
--   `joins_as_the_first_client`; `joined_kept`: `joined_client_has_any_limits` (so the law needs
--   that a worker has the station's)
-- - `restarted_kept` (`Restarting`): `restart_keeps_the_worker`; `name`:
--   `restarts_with_the_first_clients_hand`; `left_kept` (`Leaving`): `leaves_with_another_hand`
-- - `flushed_kept` (`Telling`): `flush_of_any_number`, `flush_sends_what_was_for_the_first`,
--   `flush_changes_stored_hands`; `forgotten_kept`: `forget_changes_stored_hands`; `told_kept`:
--   `tell_changes_the_server`; `refused_kept`: `refused_call_changes_the_station`
-- - `others` (`Calling`), `arrives_kept` (`Turning`) and more: `step_changes_other_workers`,
--   `silent_step_notes_operations`; `still` (`Telling`): `step_without_a_client_changes_workers`
-- - `hits_are_the_stores` (`Worlds`): `written_bytes_are_the_stores`
-- - `move_is_step` (`Moves`): `move_is_made_at_any_station`, `turn_leaves_the_station`,
--   `read_at_hand_is_not_noted`, `move_is_a_step_of_the_first_client`
--
-- Processes and services
--
-- `processes_are_worlds` (docs/PROMISES.md) goes as `runs_are_worlds` of `cb_running_laws` does.
-- `Kept` (`proofs/ProcessesStand`) has a world that is the processes, and that the server knows the
-- floor or a greater incarnation of each client. It begins with the world of `floor_told`
-- (`cb_running_laws`). By the file of `proofs`:
--
-- - `Taking`: the pieces of a round one after another (`serves_pieces`). A frame that was said is a
--   packet, which the server takes; one of below the floor does nothing (`stale`), since no current
--   incarnation falls (`floor_kept`). A batch that is the next may be reported (`can_reach`)
-- - `Clients`: a call and a frame, as `Calling` and `Moving` of `cb_running_laws` have them
--
-- Wrong steps of `cb_running_laws.edits`, by the lemma that refuses each: `among`
-- (`frame_comes_that_nobody_said`, `frame_of_the_floor_comes`: to the server an incarnation at the
-- floor is current), `serves_here` (`frame_without_a_number`), `round_kept`
-- (`frames_that_a_round_puts_out_were_not_said`), `went_out` (`stopped_service_puts_anything_out`),
-- `telling` (`stopped_service_reports_any_batch`), `take_kept` (`taken_frame_changes_nothing`),
-- `lower` (`incarnation_comes_again`), `begin_kept` (`client_has_any_limits`), `says`
-- (`read_in_another_incarnation`), `run_served` (`round_begins_behind_a_whole_piece`).
--
-- `services_are_lives` has the steps of a round between those of the tables.
-- What stands after each step is `Good` (`proofs/ServicesFollow`): the tables have the rows of
-- `store_on_disk` by the server that was told; the present server has the same commits up to the
-- number on disk; whom the told one knows is below the row; and each Done that was said, or is to
-- be, is of a commit up to that number. By the file of `proofs`:
--
-- - `ServerCommits`: what inputs make of a server that frames reach (`Took`). It adds commits above
--   its last, which write pages that there are, and each Done that it says names one of its commits
--   (`told_done` of `cb_protocol`) up to what was reported
-- - `BatchStore`: the store in the tables with the next batch written over it is the server's
--   (`batch_on_disk`). A page that isn't in the batch has a version up to the last report; so the
--   commits since left it (`unchanged`)
-- - `RoundSteps`: a round of a life on a clean disk is such steps (`round_steps`), and so is the
--   begin of a life (`begins_so`); `follow` is `restart` behind both
--
-- Wrong steps of `cb_running_laws.edits`, by the lemma that refuses each: `written_kept`
-- (`batch_isnt_the_next`, `batch_written_before_the_answers`), `said_kept`
-- (`goes_out_before_there_is_room`), `served_kept` (`life_begins_with_another_store`,
-- `former_commits_are_all_that_were_made`), `step_kept` (`dones_go_out_unwritten`,
-- `row_isnt_raised`, `row_raised_too_low`, `told_is_what_was_taken`), `begins_so`
-- (`row_of_another_life_is_put`).
pub mod Events
pub mod Standing
pub mod Calling
pub mod Moving
pub mod Turning
pub mod Committing
pub mod Greeting
pub mod Resuming
pub mod Opening
pub mod Joining
pub mod Restarting
pub mod Leaving
pub mod Telling
pub mod Worlds
pub mod ByContracts
pub mod Moves
pub mod Lending
pub mod Keeping
pub mod Taking
pub mod Clients
pub mod ProcessesStand
pub mod ServerCommits
pub mod BatchStore
pub mod ServicesFollow
pub mod RoundSteps
