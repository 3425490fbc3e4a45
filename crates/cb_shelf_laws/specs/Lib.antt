pub mod Tables
pub mod Rows
pub mod Laws
pub mod LifeLaws
pub mod Stops
