pub mod Heads
pub mod Limits
pub mod Slot
