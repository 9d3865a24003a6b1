pub mod Splicing
pub mod Places
pub mod Forms
pub mod Words
pub mod Locking
pub mod Records
pub mod Idle
pub mod Turns
