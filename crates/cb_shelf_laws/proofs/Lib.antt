-- What is proved where.
-- Lists: rows of a table that are picked by a test, as one row is put in and others are taken out.
-- Texts: what each text is to the schema of the tables.
-- Schemas: what the two schemas have in common.
-- Replacing: what INSERT OR REPLACE of one row makes of a table.
-- Equal: SQL's equality of a value and a number.
-- Putting: what the statements that put a page in make of the tables.
-- Living: what the statement that puts the row of life makes of the tables.
-- Selecting: what a question by a key answers, by the rows that have the key.
-- Setting: what the statements of a page whose rows are there make of the tables.
-- Marking: what the statement of a batch's number makes of the tables.
-- Counting: what a question for a count answers.
-- Paging: what the statements of a batch make of the tables, one page after another.
-- Holding: the rows of the tables are a store's where what the tables answer is that store.
-- Creating: the statements that create the tables.
-- Laying: the statements that put a store into tables that were just made.
-- Lives: how a life begins, and which one follows.
-- Unlived: what tables without lives hold stays when their first life begins.
-- Answering: the store that tables answer is the one that their rows are.
-- Following: what the tables answer after the open that made them, and the steps since.
-- Stopping: what a file holds after any steps.
-- LivesAfterStops: which lives the tables tell of after any steps.
--
-- The rows on disk
--
-- - the statements that make the tables and a store: `older_tables_are_made`, `tables_are_made`,
--   `stores_are_laid`
-- - one statement: `versions_are_put`, `parts_are_put`, `versions_are_set`, `parts_are_set`,
--   `numbers_are_set`. Which rowid a row has that is put isn't said
-- - a batch: `batches_are_written` of the rows, `batches_are_held` of the answers. With `both` and
--   `settled` of `Shelf::write` the second says what the tables hold after a write, and what the
--   next call begins with
-- - from rows to answers: `answers_are_the_rows`. Its premise is that each page of both stores has
--   its store's size (`HasFullPages`), as the invariant of `Store` says of each
-- - from an open on: `first_loads_are_zeros`, `loads_follow_batches`, `loads_follow_copies`,
--   `loads_follow_finds`. A batch is as `fits` and `both` of `Shelf::write` give it, an open as
--   `laid_out`. The premises are full pages; where a store was copied, that the older tables were
--   the only ones, as their statements make them; and of a file that was found, `IsShelf`
--
-- `older_tables_are_made`, `first_loads_are_zeros`, `loads_follow_batches` and
-- `loads_follow_copies` begin with one certain schema. Each other law is of both: that of the four
-- tables, and that in which the two older ones stand before them (`schema older`).
--
-- A row is of a page or a place as SQL compares numbers (`is_of_page`, `is_at`). What each text is
-- to the schemas is by `refl` (`Texts`, `Schemas`). What stands above one statement goes by
-- induction over the parts of a page, the pages of a batch, and the batches and opens after a first
-- open (`Paging`, `Following`). The lemmas that carry most:
--
-- - `inserts` (`Replacing`): INSERT OR REPLACE of one row takes out the rows that conflict with it
--   and no other (`taken_out`), and puts it in at a free rowid (`IsPut`)
-- - `set_there` (`Setting`): UPDATE of the one row that passes a test takes out that row and no
--   other, and puts the new one in at its rowid; a key that equals a number still does once it is
--   cast (`cast_equal` of `Equal`)
-- - `told_row`, `tells_row` (`Selecting`): an answer of one row is of the one row that passes the
--   test, and back
-- - `tells_count` (`Counting`): a count is told by the length alone
pub mod Lists
pub mod Texts
pub mod Schemas
pub mod Replacing
pub mod Equal
pub mod Putting
pub mod Living
pub mod Selecting
pub mod Setting
pub mod Marking
pub mod Counting
pub mod Paging
pub mod Holding
pub mod Creating
pub mod Laying
pub mod Lives
pub mod Unlived
pub mod Answering
pub mod Following
pub mod Stopping
pub mod LivesAfterStops
