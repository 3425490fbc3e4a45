pub mod Messages
pub mod Saying
pub mod Laws
