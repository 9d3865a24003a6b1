pub mod Readying
pub mod Marking
pub mod Unnamed
pub mod Asking
