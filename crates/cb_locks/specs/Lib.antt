pub mod Dues
pub mod Locks
pub mod Frames
