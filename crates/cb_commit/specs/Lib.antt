pub mod Past
pub mod Stores
pub mod Batches
pub mod History
pub mod Changes
pub mod Memory
