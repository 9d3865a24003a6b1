pub mod Digits
pub mod Widening
pub mod Ranges
pub mod Accepting
pub mod Devices
