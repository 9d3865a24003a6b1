pub mod Columns
pub mod Sound
pub mod ByColumns
