pub mod States
pub mod Commits
pub mod Questions
pub mod Waits
pub mod Asking
pub mod Granting
