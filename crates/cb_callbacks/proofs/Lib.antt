-- What is proved where.
-- Anew: the view built anew.
-- Bounds: what a step sends at most.
-- Deciding: a first ask is decided, and the room that each decision leaves.
-- Ending: a transaction or an incarnation ends.
-- Entering: an ask enters at the end of a queue.
-- Flushing: commits reach the disk.
-- Kept: the invariant is kept.
-- Left: an ask leaves its page's queue.
-- Noted: what was sent for a first ask is noted there.
-- Opening: a server that nobody has greeted.
-- Page: a page changes, and no ask leaves.
-- Queues: asks in queues as they change.
-- Settling: a page is settled decision by decision, and all pages one after another.
-- Standing: a message's transaction begins, and how it stands then.
-- Lacking: whether a number is lacking for a message once its transaction has begun.
pub mod Anew
pub mod Bounds
pub mod Deciding
pub mod Ending
pub mod Entering
pub mod Flushing
pub mod Kept
pub mod Left
pub mod Noted
pub mod Opening
pub mod Page
pub mod Queues
pub mod Settling
pub mod Standing
pub mod Lacking
