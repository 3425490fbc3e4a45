pub mod Deciding
pub mod Leaving
pub mod Following
pub mod Callbacks
pub mod Numbers
