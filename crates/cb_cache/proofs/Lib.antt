-- What is proved where.
-- Changing: what is known of the pages once one of them is changed.
-- Ends: what the end of a transaction makes of its client.
-- Keeping: what holds of copies holds once a new copy came.
-- Known: the flags of the pages of which anything is known.
-- PageSteps: what the table does of one page at the end.
-- PoolRoom: the pool's room, and what it lets go, by the pool's words and by the protocol's.
-- Room: how many frames the end of a transaction may say of its pages.
-- Steps: what the protocol's steps make of copies.
-- Walk: the walk over the locked pages at the end.
pub mod Changing
pub mod Ends
pub mod Keeping
pub mod Known
pub mod PageSteps
pub mod PoolRoom
pub mod Room
pub mod Steps
pub mod Walk
