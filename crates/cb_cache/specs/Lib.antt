pub use Rattle.cb_pool.specs.PoolState
pub mod ByTable
pub mod CacheState
pub mod Ending
pub mod Owing
pub mod Room
pub mod Rows
