pub mod Queues
pub mod Entries
pub mod Sums
pub mod Places
pub mod Asks
pub mod Marks
pub mod Maps
