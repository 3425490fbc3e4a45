-- What is proved where.
-- Counted: the counts of the pages that are here, and of those that are fixed.
-- Cleared: what a walk over a set of pages leaves that clears what it meets.
-- Agreeing: what the chooser did, done to the pages.
pub mod Counted
pub mod Cleared
pub mod Agreeing
