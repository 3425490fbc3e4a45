-- What is proved where.
-- PageLists: pages on lists.
-- Counts: how often a page is on a list.
-- Chosen: what keeps the law of a chooser, counted by how often a page is on a list.
-- Entered: what a page that comes into the queues keeps.
-- Referred: a reference keeps the law of a chooser, and the queues.
-- Forgotten: taking a page out keeps the law of a chooser, and the queues.
-- InOrder: members kept on one list, newest first.
-- Orders: lists that are kept oldest first, or with values beside the pages.
-- Placed: a page that is placed before another is let go.
-- Indexing: a reference to queues that are kept by a cache and two sets.
-- Running: many references in turn keep the law of a chooser.
-- Placing: the list that has a page, as the queues change.
-- Called: histories of calls, one call longer, and what they make of 2Q.
pub mod PageLists
pub mod Counts
pub mod Chosen
pub mod Entered
pub mod Referred
pub mod Forgotten
pub mod InOrder
pub mod Orders
pub mod Placed
pub mod Indexing
pub mod Running
pub mod Placing
pub mod Called
