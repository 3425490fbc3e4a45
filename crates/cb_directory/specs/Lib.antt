pub mod Rows
pub mod RowTables
pub mod Directories
