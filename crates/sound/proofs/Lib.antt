pub mod Questions
pub mod ByColumns
