pub mod Sessions
pub mod Reporting
pub mod Saving
