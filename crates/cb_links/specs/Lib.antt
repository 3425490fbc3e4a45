pub mod Changes
pub mod Admissions
