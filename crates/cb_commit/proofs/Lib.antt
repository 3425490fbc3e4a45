-- What is proved where.
-- Rewriting: what a commit's pages make of a store.
-- Changed: the pages whose last commit isn't on disk.
-- Folding: the store is the fold of the commits, and the batch brings the tables up to it.
-- Remembering: the commits that reach the disk are in memory.
-- Fitting: a commit frame that fits may be applied.
pub mod Rewriting
pub mod Changed
pub mod Folding
pub mod Remembering
pub mod Fitting
