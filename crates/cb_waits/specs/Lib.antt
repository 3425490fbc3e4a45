pub mod Graph
pub mod Follows
