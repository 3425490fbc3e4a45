pub mod Endings
pub mod Requests
pub mod Services
pub mod StoreFiles
pub mod StoreRuns
