pub mod Fresh
pub mod Calling
pub mod Needed
pub mod Found
pub mod Ruling
mod Told
