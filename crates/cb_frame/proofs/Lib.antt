-- What is proved where.
-- ReadAgain: a number that is read is the number that was written, and what was written is read again.
-- Entries: one entry of a commit after another, as a loop counts them.
-- Found: what is read fits and is spelled so.
-- Again: what is spelled so is read.
-- Sizes: how long the bytes of a frame that fits are.
pub mod ReadAgain
pub mod Entries
pub mod Found
pub mod Again
pub mod Sizes
