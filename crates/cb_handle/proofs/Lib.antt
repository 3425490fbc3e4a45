pub mod Deciding
pub mod Kept
pub mod Left
pub mod Reading
pub mod Shown
pub mod Taking
