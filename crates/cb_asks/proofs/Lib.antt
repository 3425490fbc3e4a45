-- What is proved where.
-- Queues: what a step makes of a queue's counts.
-- Entries: the entries of a queue's map as asks.
-- Sums: sums over numbered things.
-- Steps: one step keeps what the places say of the queues.
-- Marking: marks that are new, and a client's marks taken off one by one.
-- Calls: what each call makes of the queues and of what is kept beside them.
-- Others: the asks of other clients than one.
-- Maps: the maps of queues, and how many are spare.
pub mod Queues
pub mod Entries
pub mod Sums
pub mod Steps
pub mod Marking
pub mod Calls
pub mod Others
pub mod Maps
