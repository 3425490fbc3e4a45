-- What is proved where.
-- Paths: paths of waits, and sets that are closed under them.
-- Rows: a client waits for others only by its ask, so at that ask's page alone.
-- Cycles: the view's cycles are the server's.
-- Following: a queue is followed place by place.
pub mod Paths
pub mod Rows
pub mod Cycles
pub mod Following
